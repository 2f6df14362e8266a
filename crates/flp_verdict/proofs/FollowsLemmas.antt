-- What a `Judging` keeps, one record more, and the verdict on a record by what is known.
use Rattle.std.proofs.Common.{◌≡◌, List, ℕ, [], ◌∷◌, ◌++◌, map, Bool, true, false, not, sym, ap, ◌∙◌}
use Rattle.std.specs.Prelude.{if◌then◌else◌}
use Rattle.std.proofs.lemmas.List.{map-append}
use Rattle.std.proofs.lemmas.List.Sums.{fold-append}
use Rattle.flp_syntax.specs.Tree.{Program}
use Rattle.flp_report.specs.declared.shape.Shape.{Shape}
use Rattle.flp_report.specs.Record.{nonce_in}
use Rattle.flp_policy.specs.declared.verdict.Verdict.TheVariants.{Replayed}
use Rattle.flp_worker.specs.Verdict.{verdict_of}
use Rattle.flp_known.specs.Among.{is_among}
use Rattle.flp_known.specs.Order.{with_nonce, with_nonces}
use Rattle.flp_known.specs.Met.{met_in}
use Rattle.flp_verdict.specs.declared.judging.Judging.{Judging}
use Rattle.flp_verdict.specs.Verdicts.{known_behind, verdict_after}
use Rattle.flp_verdict.specs.Judging.{old_claims_of, Follows}

-- the nonces of some records and of one more
with_nonces-more : (claims earlier : List (List ℕ)) (report : List ℕ)
    → with_nonces claims (map nonce_in (earlier ++ report ∷ [])) ≡ with_nonce (with_nonces claims (map nonce_in earlier)) (nonce_in report)
with_nonces-more claims earlier report =
    ap (with_nonces claims) (map-append nonce_in earlier (report ∷ []))
    ∙ fold-append with_nonce claims (map nonce_in earlier) (nonce_in report ∷ [])

-- what is kept follows one record more
pub Follows-more : (old new : Judging) (earlier : List (List ℕ)) (report : List ℕ) → old_claims_of new ≡ old_claims_of old → Follows old earlier
    → with_nonces (old_claims_of old) (met_in new.met) ≡ with_nonce (with_nonces (old_claims_of old) (met_in old.met)) (nonce_in report)
    → Follows new (earlier ++ report ∷ [])
Follows-more old new earlier report same follows added = record {
  known =
      ap (λ (claims : List (List ℕ)). with_nonces claims (met_in new.met)) same
      ∙ (added
      ∙ (ap (λ (l : List (List ℕ)). with_nonce l (nonce_in report)) follows.known
      ∙ (sym (with_nonces-more (old_claims_of old) earlier report)
      ∙ ap (λ (claims : List (List ℕ)). with_nonces claims (map nonce_in (earlier ++ report ∷ []))) (sym same))));
}

-- the verdict on a record, where it was looked up whether its nonce is new
pub verdict-new : (program : Program) (shape : Shape) (claims earlier : List (List ℕ)) (report : List ℕ) (known : Bool) → known ≡ is_among (known_behind claims earlier) (nonce_in report)
    → true ≡ not known → verdict_of program shape report ≡ verdict_after program shape claims earlier report
verdict-new program shape claims earlier report true is new = cc
verdict-new program shape claims earlier report false is new = ap (λ (b : Bool). if b then Replayed else verdict_of program shape report) is

pub verdict-known : (program : Program) (shape : Shape) (claims earlier : List (List ℕ)) (report : List ℕ) (known : Bool) → known ≡ is_among (known_behind claims earlier) (nonce_in report)
    → false ≡ not known → Replayed ≡ verdict_after program shape claims earlier report
verdict-known program shape claims earlier report true is known = ap (λ (b : Bool). if b then Replayed else verdict_of program shape report) is
verdict-known program shape claims earlier report false is known = cc
