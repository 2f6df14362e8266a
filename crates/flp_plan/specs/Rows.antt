-- What the wires of a gadget run through, row by row. From a column up to all rows.
use Rattle.std.specs.Prelude.{ℕ, ◌≡◌, ◌+◌, ◌*◌, ◌<◌, List, ◌∷◌, map, slice_index}
use Rattle.std.specs.List.{range_with_len}
use Rattle.flp_syntax.specs.Tree.{Program}
use Rattle.flp_meaning.specs.Meaning.{Call}
use Rattle.flp_meaning.specs.Gadgets.{arity_of, size_of, calls_to}
use Rattle.flp_meaning.specs.Wires.{inputs_at}

-- a column of so many rows, each of which has so many words
abbrev pub column : (count width : ℕ) → List ℕ → ℕ → List ℕ
column count width rows input = map (λ row. slice_index rows (row * width + input)) (range_with_len 0 count)

-- the rows have what the wires of a gadget run through: the seeds, the inputs of its calls, and zeros
abbrev pub HasRows : Program → List Call → List ℕ → ℕ → List ℕ → Type 0
HasRows body calls seeds gadget rows =
    (point input : ℕ) → point < size_of body gadget → input < arity_of body gadget
    → slice_index rows (point * arity_of body gadget + input)
    ≡ slice_index (slice_index seeds input ∷ inputs_at input (calls_to gadget calls)) point
