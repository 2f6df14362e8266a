-- Encodings and honest proofs: how long they are, and that they are words of the field.
use Rattle.std.proofs.Common.{ℕ, suc, ◌≡◌, ◌+◌, ◌-◌, ◌<◌, List, [], ◌∷◌, length, replicate, Option, None, Some, true, refl, ap, sym, ◌∙◌, lit<, arith, drop}
use Rattle.std.specs.Prelude.{is_none, sum}
use Rattle.std.specs.List.{All}
use Rattle.std.proofs.lemmas.List.Elements.{All-nil, All-cons, All-append, All-replicate, All-get_or, All-weaker, All-take, All-drop}
use Rattle.flp_field.specs.Word.{IsWord, AreWords}
use Rattle.flp_syntax.specs.declared.syntax.Params.{Params}
use Rattle.flp_syntax.specs.declared.syntax.Params.TheVariants.{Count, Sum, SumVec, Histogram, Multihot}
use Rattle.flp_syntax.specs.Tree.{Program}
use Rattle.flp_gadget.specs.KindTree.{formula_of}
use Rattle.flp_gadget.proofs.FormulaLemmas.{words-formula}
use Rattle.flp_meaning.specs.Circuit.{kind_of, calls_of, direct}
use Rattle.flp_meaning.specs.Gadgets.{arity_of}
use Rattle.flp_meaning.specs.Lengths.{start_of}
use Rattle.flp_meaning.specs.Wires.{wires_of}
use Rattle.flp_meaning.specs.Proof.{seeds_for, honest_part, honest_proof}
use Rattle.flp_meaning.specs.ProofLaws.{IsBounded}
use Rattle.flp_circuits.specs.Bits.{bit_length, headroom, bits_of}
use Rattle.flp_circuits.specs.Encoding.{the_number, encoding_of, range_of}
use Rattle.flp_circuits.proofs.EncodingLemmas.{IsTaken, taken}
use Rattle.flp_circuits.proofs.WordLemmas.{bits_of-bits, flat_map-bits}
use Rattle.flp_circuits.proofs.Encodings.{encodings_have_length}
use Rattle.flp_batch.specs.JobSetting.{input_count}
use Rattle.flp_jobs.specs.Setting.{IsCircuitOf}
use Rattle.flp_jobs.specs.Encoding.{encoding_for}
use Rattle.flp_jobs.specs.Place.{input_fault}
use Rattle.flp_jobs.proofs.SettingLemmas.{meas-standard}
use Rattle.flp_jobs.proofs.LawPartLemmas.{All-flat}

-- ---- encodings

-- each word of an encoding is a bit
bits-encoding : (params : Params) (input : List ℕ) → IsTaken params input → All (λ n. n < 2) (encoding_of params input)
bits-encoding Count input taken =
    All-cons (λ n. n < 2) (the_number input) [] (All-get_or (λ n. n < range_of Count) input 0 0 (omega (arith, taken.count)) taken.in_range) (All-nil (λ n. n < 2))
bits-encoding (Sum max) input taken =
    All-append (λ n. n < 2) (bits_of (bit_length max) (the_number input)) (bits_of (bit_length max) (the_number input + headroom max))
    (bits_of-bits (bit_length max) (the_number input)) (bits_of-bits (bit_length max) (the_number input + headroom max))
bits-encoding (SumVec count bits chunk) input taken = flat_map-bits bits input
bits-encoding (Histogram count chunk) input taken =
    let place = the_number input in
    All-append (λ n. n < 2) (replicate place 0) (1 ∷ replicate (count - suc place) 0) (All-replicate (λ n. n < 2) place 0 (lit< tt))
    (All-cons (λ n. n < 2) 1 (replicate (count - suc place) 0) (lit< tt) (All-replicate (λ n. n < 2) (count - suc place) 0 (lit< tt)))
bits-encoding (Multihot count weight chunk) input taken =
    All-append (λ n. n < 2) input (bits_of (bit_length weight) (sum input + headroom weight)) taken.in_range
    (bits_of-bits (bit_length weight) (sum input + headroom weight))

-- the encoding of an input that is not refused: as many words as the circuit reads
pub length-encoding : (params : Option Params) (circuit : Program) (input : List ℕ) → IsCircuitOf params circuit → length input ≡ input_count params circuit
    → input_fault params input ≡ None → length (encoding_for params input) ≡ circuit.meas
length-encoding (Some params) circuit input is size none =
    encodings_have_length params input none ∙ sym (meas-standard params) ∙ ap (λ (c : Program). c.meas) (sym is.1)
length-encoding None circuit input is size none = size

-- all of the field, where those are that a circuit of the text's own is given
pub words-encoding : (params : Option Params) (input : List ℕ) → input_fault params input ≡ None → (is_none params ≡ true → AreWords input)
    → AreWords (encoding_for params input)
words-encoding (Some params) input none given =
    All-weaker (λ n. n < 2) IsWord (λ (n : ℕ) (bit : n < 2). omega arith) (encoding_of params input) (bits-encoding params input (taken params input none))
words-encoding None input none given = given refl

-- ---- honest proofs

pub words-honest : (circuit : Program) (x joint seeds : List ℕ) → IsBounded circuit → AreWords seeds → AreWords (honest_proof circuit x joint seeds)
words-honest circuit x joint seeds bounded are =
    All-flat IsWord (honest_part circuit x joint seeds) 0 (length circuit.gadgets)
    (λ (gadget : ℕ) (below : gadget < 0 + length circuit.gadgets).
    let wires = wires_of circuit (calls_of circuit (direct circuit x joint)) (seeds_for circuit seeds gadget) gadget in
    All-append IsWord (seeds_for circuit seeds gadget) (formula_of (kind_of circuit gadget) wires)
    (All-take IsWord (arity_of circuit gadget) (drop (start_of (arity_of circuit) gadget) seeds) (All-drop IsWord (start_of (arity_of circuit) gadget) seeds are))
    (words-formula (kind_of circuit gadget) wires (bounded.kinds gadget (omega arith))))
