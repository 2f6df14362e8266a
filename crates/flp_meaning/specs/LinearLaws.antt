-- What a linear circuit gives: its outs read the encoding alone, and the verifiers of shares add up to the verifier of the summed shares.
use Rattle.std.specs.Prelude.{ℕ, ◌≡◌, ◌%◌, List, length, map}
use Rattle.std.specs.List.{All, sum_by}
use Rattle.flp_field.specs.Word.{modulus}
use Rattle.flp_field.specs.Sums.{sum_of_lists}
use Rattle.flp_syntax.specs.Tree.{Program}
use Rattle.flp_syntax.specs.Linear.{IsLinear}
use Rattle.flp_meaning.specs.Meaning.{Reading}
use Rattle.flp_meaning.specs.Circuit.{circuit_of}
use Rattle.flp_meaning.specs.Lengths.{lengths_of}
use Rattle.flp_meaning.specs.Verifier.{verifier_words}

-- under readings of one encoding the outs are the same, whatever the joint words, the unit and the answers
abbrev pub OutsReadWordsAlone : Type 0
OutsReadWordsAlone =
    (body : Program) (first second : Reading) → IsLinear body → first.meas ≡ second.meas
    → (circuit_of body first).value.outs ≡ (circuit_of body second).value.outs

-- a share of a report: of its encoding and of a proof, and what the constant 1 counts as on it
pub record ReportShare : Type 0 where
  pub x : List ℕ
  pub proof : List ℕ
  pub unit : ℕ

-- the verifier that a query makes of a share
abbrev pub verifier_on : Program → (joint query : List ℕ) → ReportShare → List ℕ
verifier_on body joint query share = verifier_words body share.x joint share.proof query share.unit

-- a verifier has as many words as the circuit says
abbrev pub VerifiersHaveLength : Type 0
VerifiersHaveLength =
    (body : Program) (joint query : List ℕ) (share : ReportShare)
    → length (verifier_on body joint query share) ≡ (lengths_of body).verifier

-- shares with encodings of n words and proofs of m, summed up word by word
abbrev pub sum_of_shares : (n m : ℕ) → List ReportShare → ReportShare
sum_of_shares n m shares =
    record {
      x = sum_of_lists n (map (λ (share : ReportShare). share.x) shares);
      proof = sum_of_lists m (map (λ (share : ReportShare). share.proof) shares);
      unit = sum_by (λ (share : ReportShare). share.unit) shares % modulus;
    }

pub record HasSize (n m : ℕ) (share : ReportShare) : Type 0 where
  pub words : length share.x ≡ n
  pub proofs : length share.proof ≡ m

-- the verifiers of any number of shares sum up, word by word, to the verifier of the summed shares
abbrev pub VerifiersSumUp : Type 0
VerifiersSumUp =
    (body : Program) (joint query : List ℕ) (n m : ℕ) (shares : List ReportShare) → IsLinear body
    → All (HasSize n m) shares
    → verifier_on body joint query (sum_of_shares n m shares)
    ≡ sum_of_lists (lengths_of body).verifier (map (verifier_on body joint query) shares)
