-- Proofs: for each gadget, in the order of the declarations, the seeds of its wires and then the coefficients of its polynomial, lowest first.
-- From the parts of a proof to the honest proof, and to what a proof answers.
use Rattle.std.specs.Prelude.{ℕ, ◌≡◌, ◌+◌, List, ◌++◌, map, take, drop}
use Rattle.std.specs.List.{range_with_len, flat_map}
use Rattle.flp_field.specs.Word.{word_power}
use Rattle.flp_field.specs.Domain.{alpha}
use Rattle.flp_poly.specs.Polynomial.{value_at}
use Rattle.flp_gadget.specs.KindTree.{formula_of}
use Rattle.flp_syntax.specs.Tree.{Program}
use Rattle.flp_meaning.specs.Meaning.{Reading}
use Rattle.flp_meaning.specs.Circuit.{kind_of, calls_of, direct, with_answers}
use Rattle.flp_meaning.specs.Gadgets.{gadgets_of, arity_of, size_of, call_count, call_gadget, call_number}
use Rattle.flp_meaning.specs.Lengths.{start_of, coefficient_count, proof_part}
use Rattle.flp_meaning.specs.Wires.{wires_of}

-- so many words from a place on
abbrev pub words_at : ℕ → ℕ → List ℕ → List ℕ
words_at start count words = take count (drop start words)

-- the seeds and the coefficients that a proof has for a gadget
abbrev pub seeds_in : Program → List ℕ → ℕ → List ℕ
seeds_in body proof gadget = words_at (start_of (proof_part body) gadget) (arity_of body gadget) proof

abbrev pub polynomial_in : Program → List ℕ → ℕ → List ℕ
polynomial_in body proof gadget =
    words_at (start_of (proof_part body) gadget + arity_of body gadget) (coefficient_count body gadget) proof

-- ---- the honest proof

-- the seeds of a gadget among those for a whole proof
abbrev pub seeds_for : Program → List ℕ → ℕ → List ℕ
seeds_for body seeds gadget = words_at (start_of (arity_of body) gadget) (arity_of body gadget) seeds

-- for a gadget: its seeds, and its formula at the wires of the calls that the circuit makes
abbrev pub honest_part : Program → (x joint seeds : List ℕ) → ℕ → List ℕ
honest_part body x joint seeds gadget =
    seeds_for body seeds gadget
    ++ formula_of
    (kind_of body gadget)
    (wires_of body (calls_of body (direct body x joint)) (seeds_for body seeds gadget) gadget)

abbrev pub honest_proof : Program → (x joint seeds : List ℕ) → List ℕ
honest_proof body x joint seeds = flat_map (honest_part body x joint seeds) (gadgets_of body)

-- ---- what a proof answers

-- call i of a gadget, from 1, is answered by the value of the gadget's polynomial at point i of its domain
abbrev pub answer_in : Program → List ℕ → ℕ → ℕ
answer_in body proof number =
    value_at
    (polynomial_in body proof (call_gadget body number))
    (word_power (alpha (size_of body (call_gadget body number))) (call_number body number))

abbrev pub answers_in : Program → List ℕ → List ℕ
answers_in body proof = map (answer_in body proof) (range_with_len 0 (call_count body))

-- the circuit, read with the answers of a proof
abbrev pub with_proof : Program → (x joint proof : List ℕ) → (unit : ℕ) → Reading
with_proof body x joint proof unit = with_answers x joint unit (answers_in body proof)

-- the wires of a gadget, where a proof answers the calls and has the seeds
abbrev pub wires_in : Program → (x joint proof : List ℕ) → (unit gadget : ℕ) → List (List ℕ)
wires_in body x joint proof unit gadget =
    wires_of body (calls_of body (with_proof body x joint proof unit)) (seeds_in body proof gadget) gadget

-- the gadget's formula at these wires
abbrev pub formula_in : Program → (x joint proof : List ℕ) → (unit gadget : ℕ) → List ℕ
formula_in body x joint proof unit gadget = formula_of (kind_of body gadget) (wires_in body x joint proof unit gadget)

-- a proof is true of a gadget where its polynomial is this formula; else the gadget lies
abbrev pub IsTrueOf : Program → (x joint proof : List ℕ) → ℕ → Type 0
IsTrueOf body x joint proof gadget = polynomial_in body proof gadget ≡ formula_in body x joint proof 1 gadget
