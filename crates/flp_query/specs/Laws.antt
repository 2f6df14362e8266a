-- The laws of queries: the verifiers of shares, and the honest proof. From a report up to the decision on its shares.
use Rattle.std.specs.Prelude.{ℕ, ◌≡◌, ◌≤◌, true, List, length, map, None}
use Rattle.std.specs.List.{All}
use Rattle.flp_field.specs.Word.{IsWord}
use Rattle.flp_field.specs.Sums.{sum_of_lists}
use Rattle.flp_syntax.specs.Tree.{Program}
use Rattle.flp_meaning.specs.Circuit.{IsValid}
use Rattle.flp_meaning.specs.Lengths.{lengths_of}
use Rattle.flp_meaning.specs.Proof.{honest_proof}
use Rattle.flp_meaning.specs.Verifier.{gadget_in_domain, verifier_words, query_of, in_domain, decides}
use Rattle.flp_meaning.specs.ProofLaws.{AreSeeds}
use Rattle.flp_query.specs.Unit.{share_unit}

-- a report, or a share of one: an encoding and a proof
pub record Report : Type 0 where
  pub x : List ℕ
  pub proof : List ℕ

-- as many words as the circuit says
pub record HasLengths (body : Program) (report : Report) : Type 0 where
  pub words : length report.x ≡ body.meas
  pub proof : length report.proof ≡ (lengths_of body).proof

-- the report of which these are the shares: their sum, word by word
abbrev pub sum_of_reports : Program → List Report → Report
sum_of_reports body shares =
    record {
      x = sum_of_lists body.meas (map (λ (share : Report). share.x) shares);
      proof = sum_of_lists (lengths_of body).proof (map (λ (share : Report). share.proof) shares);
    }

-- the verifier of a report, on which the constant 1 counts as `unit`
abbrev pub verifier_with : Program → (joint query : List ℕ) → (unit : ℕ) → Report → List ℕ
verifier_with body joint query unit report = verifier_words body report.x joint report.proof query unit

-- the sum, word by word, of the verifiers of shares
abbrev pub sum_of_verifiers : Program → (joint query : List ℕ) → List Report → List ℕ
sum_of_verifiers body joint query shares =
    sum_of_lists (lengths_of body).verifier (map (verifier_with body joint query (share_unit (length shares))) shares)

-- some shares, of as many words as the circuit says
pub record AreShares (body : Program) (shares : List Report) : Type 0 where
  pub some : 1 ≤ length shares
  pub few : IsWord (length shares)
  pub lengths : All (HasLengths body) shares

-- their verifiers sum up to that of the summed report, on which 1 counts as itself
abbrev pub VerifiersSumUp : Program → Type 0
VerifiersSumUp body =
    (joint query : List ℕ) (shares : List Report) → AreShares body shares
    → sum_of_verifiers body joint query shares ≡ verifier_with body joint query 1 (sum_of_reports body shares)

-- a query that is refused on one report is refused on every other for the same gadget, so on each share and on their sum
abbrev pub RefusalsAreAlike : Program → Type 0
RefusalsAreAlike body =
    (joint query : List ℕ) (one other : Report) (unit other_unit gadget : ℕ)
    → query_of body one.x joint one.proof query unit ≡ in_domain gadget
    → query_of body other.x joint other.proof query other_unit ≡ in_domain gadget

-- ---- honest proofs

-- with its honest proof a valid encoding is taken, where no point lies in a domain
abbrev pub HonestIsTaken : Program → Type 0
HonestIsTaken body =
    (x joint seeds query : List ℕ) → AreSeeds body seeds → IsValid body x joint → gadget_in_domain body query ≡ None
    → decides body (verifier_words body x joint (honest_proof body x joint seeds) query 1) ≡ true

-- so is the sum of the verifiers of its shares, in whatever shares
abbrev pub SharedHonestIsTaken : Program → Type 0
SharedHonestIsTaken body =
    (x joint seeds query : List ℕ) (shares : List Report) → AreSeeds body seeds → IsValid body x joint
    → gadget_in_domain body query ≡ None → AreShares body shares
    → sum_of_reports body shares ≡ record { x = x; proof = honest_proof body x joint seeds }
    → decides body (sum_of_verifiers body joint query shares) ≡ true
