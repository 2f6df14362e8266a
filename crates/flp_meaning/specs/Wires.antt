-- The wire polynomials of a gadget: one for each of its inputs, through the seed and then that input of each call. They are a function of the calls,
-- since through given values on a domain runs one polynomial of as many coefficients. From one wire up to those of a gadget.
use Rattle.std.specs.Prelude.{ℕ, List, ◌∷◌, map, slice_index}
use Rattle.std.specs.List.{range_with_len}
use Rattle.flp_poly.specs.Interpolation.{interpolated}
use Rattle.flp_syntax.specs.Tree.{Program}
use Rattle.flp_meaning.specs.Meaning.{Call}
use Rattle.flp_meaning.specs.Gadgets.{arity_of, size_of, calls_to}

-- so many words: those of the list, and 0 past its end
abbrev pub with_zeros : ℕ → List ℕ → List ℕ
with_zeros size words = map (λ k. slice_index words k) (range_with_len 0 size)

-- an input of each call
abbrev pub inputs_at : ℕ → List Call → List ℕ
inputs_at input calls = map (λ (call : Call). slice_index call.inputs input) calls

-- the values of a wire of a gadget on its domain: the seed, the input of each call, and 0 at the points that are left
abbrev pub wire_values : Program → List Call → List ℕ → ℕ → ℕ → List ℕ
wire_values body calls seeds gadget input =
    with_zeros (size_of body gadget) (slice_index seeds input ∷ inputs_at input (calls_to gadget calls))

-- the wires of a gadget with these seeds, where these calls were made
abbrev pub wires_of : Program → List Call → List ℕ → ℕ → List (List ℕ)
wires_of body calls seeds gadget =
    map (λ input. interpolated (wire_values body calls seeds gadget input)) (range_with_len 0 (arity_of body gadget))
