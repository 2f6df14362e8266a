-- What is printed of a batch that was counted is what follows its lines.
use Rattle.std.proofs.Common.{◌≡◌, ℕ, ◌+◌, List, [], ◌∷◌, map, Bool, true, false, refl, ap, subst, ◌∙◌, arith}
use Rattle.std.specs.Prelude.{if◌then◌else◌}
use Rattle.std.proofs.lemmas.List.FromFn.{length-map-range_with_len}
use Rattle.flp_tally.specs.declared.view.Entry.{Entry}
use Rattle.flp_tally.specs.Rows.{AreSums, total_of}
use Rattle.flp_pool.specs.Laws.{RowSums}
use Rattle.flp_policy.specs.declared.verdict.Verdict.{Verdict}
use Rattle.flp_policy.specs.declared.verdict.Verdict.TheVariants.{Accepted, Rejected, InDomain, Malformed, Replayed}
use Rattle.flp_policy.specs.Verdicts.{is_accepted}
use Rattle.flp_policy.specs.Counts.{VerdictCounts, one_more, counts_of}
use Rattle.flp_verdict.specs.Verdicts.{Judged}
use Rattle.flp_verdict.specs.Totals.{count_of, aggregate_of}
use Rattle.flp_verdict.specs.Release.{ending_by}
use Rattle.flp_verify.specs.Text.{judged_by}
use Rattle.flp_verify.specs.Counted.{totals_in}
use Rattle.flp_verify.specs.Laws.{EndingIsReleased}
use Rattle.flp_verify.proofs.TotalLemmas.{totals_are_aggregate}

-- how one verdict more changes how many are accepted
one-accepted : (v : Verdict) (n : VerdictCounts) → (one_more v n).accepted ≡ (if is_accepted v then n.accepted + 1 else n.accepted)
one-accepted Accepted n = refl
one-accepted Rejected n = refl
one-accepted (InDomain proof gadget) n = refl
one-accepted (Malformed word) n = refl
one-accepted Replayed n = refl

count-one : (j : Judged) (js : List Judged) (b : Bool) → is_accepted j.verdict ≡ b → (if is_accepted j.verdict then count_of js + 1 else count_of js) ≡ count_of (j ∷ js)
count-one j js true is = rw is (omega arith)
count-one j js false is = rw is refl

-- as many are accepted as there are accepted records
counts-accepted : (js : List Judged) → (counts_of (map (λ (j : Judged). j.verdict) js)).accepted ≡ count_of js
counts-accepted [] = refl
counts-accepted (j ∷ js) =
    one-accepted j.verdict (counts_of (map (λ (k : Judged). k.verdict) js))
    ∙ (ap (λ (n : ℕ). if is_accepted j.verdict then n + 1 else n) (counts-accepted js) ∙ count-one j js (is_accepted j.verdict) refl)

pub ending_is_released : RowSums → EndingIsReleased
ending_is_released sums by least would reports counted claims is are =
    let js : List Judged = judged_by by reports in
    let number : counted.numbers.accepted ≡ count_of js = ap (λ (n : VerdictCounts). n.accepted) is.numbers ∙ counts-accepted js in
    let size = length-map-range_with_len (λ (e : ℕ). total_of e counted.seat.view.added) 0 counted.outs ∙ is.outs in
    let totals : totals_in counted ≡ aggregate_of by.circuit by.shape js =
    totals_are_aggregate sums by reports counted.seat.view.claimed (totals_in counted) is.once (subst (λ (es : List Entry). AreSums es (totals_in counted)) is.rows are) size in
    λ i. ending_by (number i) (is.end i) (totals i) claims (is.known i)
