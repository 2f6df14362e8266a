-- The laws of proofs, from the numbers of calls and the sizes of domains up to the honest proof, which is accepted.
use Rattle.std.specs.Prelude.{ℕ, ◌≡◌, ◌+◌, ◌^◌, ◌<◌, ◌≤◌, ◌↔◌, Bool, true, false, List, ◌∷◌, length, slice_index, Option, None, Some}
use Rattle.flp_field.specs.Word.{AreWords, word_power}
use Rattle.flp_field.specs.Domain.{alpha}
use Rattle.flp_poly.specs.Polynomial.{value_at}
use Rattle.flp_poly.specs.Interpolation.{interpolated}
use Rattle.flp_gadget.specs.KindTree.{formula_of, IsKind}
use Rattle.flp_syntax.specs.Tree.{Program}
use Rattle.flp_meaning.specs.Meaning.{Reading}
use Rattle.flp_meaning.specs.Circuit.{circuit_of, checks_of, calls_of, kind_of, direct, IsValid}
use Rattle.flp_meaning.specs.Gadgets.{first_where, ceil_log, calls_made, calls_to, log_of, size_of}
use Rattle.flp_meaning.specs.Lengths.{lengths_of}
use Rattle.flp_meaning.specs.MeaningLaws.{call_values}
use Rattle.flp_meaning.specs.Wires.{inputs_at, wire_values, wires_of}
use Rattle.flp_meaning.specs.Proof.{seeds_in, polynomial_in, seeds_for, honest_proof, answers_in, with_proof, formula_in, IsTrueOf}
use Rattle.flp_meaning.specs.Verifier.{gadget_in_domain, accepts, point_of, check_of, verifier_words, decides}

-- the first of so many numbers from `start` on that passes a test, or that none does
abbrev pub IsFirst : (ℕ → Bool) → (start count : ℕ) → Option ℕ → Type 0
IsFirst test start count None = (k : ℕ) → start ≤ k → k < start + count → test k ≡ false
IsFirst test start count (Some j) =
    (start ≤ j) × (j < start + count) × (test j ≡ true) × ((k : ℕ) → start ≤ k → k < j → test k ≡ false)

abbrev pub FirstIsFound : Type 0
FirstIsFound = (test : ℕ → Bool) (start count : ℕ) → IsFirst test start count (first_where test start count)

-- the power of two is at least the number, and no smaller one is
abbrev pub LeastPower : Type 0
LeastPower = (n : ℕ) → (n ≤ 2 ^ ceil_log n) × ((log : ℕ) → n ≤ 2 ^ log → ceil_log n ≤ log)

-- ---- circuits within the limits

-- a circuit has gadgets, each of them a kind that a program has, and calls each of them at most 4,095 times
pub record IsBounded (body : Program) : Type 0 where
  pub some_gadget : 1 ≤ length body.gadgets
  pub kinds : (gadget : ℕ) → gadget < length body.gadgets → IsKind (kind_of body gadget)
  pub few_calls : (gadget : ℕ) → gadget < length body.gadgets → calls_made body gadget ≤ 4095

-- then each domain has at most 4,096 points, and more points than calls
abbrev pub DomainsHold : Type 0
DomainsHold =
    (body : Program) (gadget : ℕ) → IsBounded body → gadget < length body.gadgets
    → (log_of body gadget ≤ 12) × (calls_made body gadget < size_of body gadget)

-- a wire takes, on the domain, its seed and then the inputs of the calls
abbrev pub WiresRunThrough : Type 0
WiresRunThrough =
    (body : Program) (reading : Reading) (seeds : List ℕ) (gadget input point : ℕ) → IsBounded body
    → gadget < length body.gadgets → AreWords seeds → point < size_of body gadget
    → value_at
    (interpolated (wire_values body (calls_of body reading) seeds gadget input))
    (word_power (alpha (size_of body gadget)) point)
    ≡ slice_index (slice_index seeds input ∷ inputs_at input (calls_to gadget (calls_of body reading))) point

-- ---- the honest proof

-- seeds for a whole proof
pub record AreSeeds (body : Program) (seeds : List ℕ) : Type 0 where
  pub words : AreWords seeds
  pub size : length seeds ≡ (lengths_of body).prove

abbrev pub HonestProofHasLength : Type 0
HonestProofHasLength =
    (body : Program) (x joint seeds : List ℕ) → IsBounded body → AreSeeds body seeds
    → length (honest_proof body x joint seeds) ≡ (lengths_of body).proof

-- its parts are the seeds that it was made from, and the gadget's formula at the wires
abbrev pub HonestProofHasParts : Type 0
HonestProofHasParts =
    (body : Program) (x joint seeds : List ℕ) (gadget : ℕ) → IsBounded body → AreSeeds body seeds
    → gadget < length body.gadgets
    → (seeds_in body (honest_proof body x joint seeds) gadget ≡ seeds_for body seeds gadget)
    × (polynomial_in body (honest_proof body x joint seeds) gadget
    ≡ formula_of
    (kind_of body gadget)
    (wires_of body (calls_of body (direct body x joint)) (seeds_for body seeds gadget) gadget))

-- it answers each call by the call's own value
abbrev pub HonestProofAnswers : Type 0
HonestProofAnswers =
    (body : Program) (x joint seeds : List ℕ) → IsBounded body → AreSeeds body seeds
    → answers_in body (honest_proof body x joint seeds) ≡ call_values body x joint

-- and so the circuit, read with its answers, is the circuit in the direct reading
abbrev pub HonestProofProves : Type 0
HonestProofProves =
    (body : Program) (x joint seeds : List ℕ) → IsBounded body → AreSeeds body seeds
    → circuit_of body (with_proof body x joint (honest_proof body x joint seeds) 1) ≡ circuit_of body (direct body x joint)

-- the honest proof of a valid encoding is accepted by each query with no point in a domain
abbrev pub HonestProofIsAccepted : Type 0
HonestProofIsAccepted =
    (body : Program) (x joint seeds query : List ℕ) → IsBounded body → AreSeeds body seeds → IsValid body x joint
    → gadget_in_domain body query ≡ None → accepts body x joint (honest_proof body x joint seeds) query ≡ true

-- ---- any proof

-- the verifier of a proof is taken where its check is 0 and, at the point of each gadget, the formula at the wires has the value of the proof's polynomial
pub record Holds (body : Program) (x joint proof query : List ℕ) (unit : ℕ) : Type 0 where
  pub check : check_of body (checks_of body (with_proof body x joint proof unit)) query ≡ 0
  pub gadgets :
      (gadget : ℕ) → gadget < length body.gadgets
      → value_at (formula_in body x joint proof unit gadget) (point_of body query gadget)
      ≡ value_at (polynomial_in body proof gadget) (point_of body query gadget)

abbrev pub DecisionsMean : Type 0
DecisionsMean =
    (body : Program) (x joint proof query : List ℕ) (unit : ℕ)
    → (decides body (verifier_words body x joint proof query unit) ≡ true) ↔ Holds body x joint proof query unit

-- a proof that is true of each gadget answers each call by the gadget's value, so that the circuit, read with its answers, is the circuit in
-- the direct reading
abbrev pub TrueProofsAreDirect : Type 0
TrueProofsAreDirect =
    (body : Program) (x joint proof : List ℕ) → IsBounded body → AreWords proof
    → ((gadget : ℕ) → gadget < length body.gadgets → IsTrueOf body x joint proof gadget)
    → circuit_of body (with_proof body x joint proof 1) ≡ circuit_of body (direct body x joint)
