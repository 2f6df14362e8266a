-- The laws of seeds, where no query point lies in the domain of its gadget. From one encoding up to the verifiers of two.
use Rattle.std.specs.Prelude.{ℕ, ◌≡◌, List, None}
use Rattle.flp_syntax.specs.Tree.{Program}
use Rattle.flp_meaning.specs.Circuit.{IsValid}
use Rattle.flp_meaning.specs.Proof.{honest_proof}
use Rattle.flp_meaning.specs.Verifier.{gadget_in_domain, verifier_words}
use Rattle.flp_meaning.specs.ProofLaws.{AreSeeds}
use Rattle.flp_hide.specs.Wires.{all_wires_at, seeds_giving, reseeded}

-- no point lies in a domain
abbrev pub IsOutside : Program → List ℕ → Type 0
IsOutside body query = gadget_in_domain body query ≡ None

-- each list of as many words as there are seeds is the values of the wires for some seeds
abbrev pub SeedsExist : Program → Type 0
SeedsExist body =
    (x joint query values : List ℕ) → IsOutside body query → AreSeeds body values
    → AreSeeds body (seeds_giving body x joint query values)
    × (all_wires_at body x joint (seeds_giving body x joint query values) query ≡ values)

-- and for no others
abbrev pub SeedsAreUnique : Program → Type 0
SeedsAreUnique body =
    (x joint query seeds others : List ℕ) → IsOutside body query → AreSeeds body seeds → AreSeeds body others
    → all_wires_at body x joint seeds query ≡ all_wires_at body x joint others query → seeds ≡ others

-- the wires of the other encoding have the same values with the reseeded seeds
abbrev pub ReseededHasSameWires : Program → Type 0
ReseededHasSameWires body =
    (from to joint query seeds : List ℕ) → IsOutside body query → AreSeeds body seeds
    → AreSeeds body (reseeded body from to joint query seeds)
    × (all_wires_at body to joint (reseeded body from to joint query seeds) query ≡ all_wires_at body from joint seeds query)

-- reseeding them back gives the seeds from which they came
abbrev pub ReseedingGoesBack : Program → Type 0
ReseedingGoesBack body =
    (from to joint query seeds : List ℕ) → IsOutside body query → AreSeeds body seeds
    → reseeded body to from joint query (reseeded body from to joint query seeds) ≡ seeds

-- the verifier of the honest proof of an encoding with these seeds
abbrev pub honest_verifier : Program → (x joint seeds query : List ℕ) → List ℕ
honest_verifier body x joint seeds query = verifier_words body x joint (honest_proof body x joint seeds) query 1

-- the whole verifiers of two valid encodings are equal where the one is reseeded from the other
abbrev pub VerifiersAreSame : Program → Type 0
VerifiersAreSame body =
    (from to joint query seeds : List ℕ) → IsOutside body query → AreSeeds body seeds
    → IsValid body from joint → IsValid body to joint
    → honest_verifier body from joint seeds query
    ≡ honest_verifier body to joint (reseeded body from to joint query seeds) query

-- the seeds of two encodings match: what they have in common, and that no other seeds have it
pub record Match (body : Program) (from to joint query seeds others : List ℕ) : Type 0 where
  -- the wires have the same values
  pub wires : all_wires_at body to joint others query ≡ all_wires_at body from joint seeds query
  -- with no other seeds they have
  pub only :
      (more : List ℕ) → AreSeeds body more
      → all_wires_at body to joint more query ≡ all_wires_at body from joint seeds query → more ≡ others
  -- reseeding back gives the given seeds
  pub back : reseeded body to from joint query others ≡ seeds
  -- the whole verifiers of valid encodings are equal
  pub verifiers :
      IsValid body from joint → IsValid body to joint
      → honest_verifier body from joint seeds query ≡ honest_verifier body to joint others query

-- so they do where the one are reseeded from the other
abbrev pub ReseededMatch : Program → Type 0
ReseededMatch body =
    (from to joint query seeds : List ℕ) → IsOutside body query → AreSeeds body seeds
    → Match body from to joint query seeds (reseeded body from to joint query seeds)
