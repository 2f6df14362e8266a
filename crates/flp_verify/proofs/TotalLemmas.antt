-- The totals of a tally: as a list, and what the rows of the places of a batch come to.
use Rattle.std.proofs.Common.{◌≡◌, ℕ, zero, suc, ◌+◌, ◌-◌, ◌%◌, ◌<◌, List, [], ◌∷◌, ◌++◌, length, map, get_or, take, Bool, true, false, refl, sym, ap, ap₂, ◌∙◌, arith, sum_by, length-append}
use Rattle.std.specs.List.{range_with_len}
use Rattle.std.proofs.lemmas.List.{length-map, take-append-le, get_or_append_left}
use Rattle.std.proofs.lemmas.List.Sums.{sum_by-cons}
use Rattle.std.proofs.lemmas.List.FromFn.{fill_by_all}
use Rattle.std.proofs.Math.Nat.{zero-add}
use Rattle.flp_field.specs.Word.{modulus}
use Rattle.flp_field.specs.Sums.{total_at}
use Rattle.flp_field.proofs.ListSums.{total_at-cons, sum_of_lists_from}
use Rattle.flp_meaning.specs.Gadgets.{out_count}
use Rattle.flp_tally.specs.declared.view.Entry.{Entry}
use Rattle.flp_tally.specs.Rows.{total_of, AreTotals}
use Rattle.flp_pool.specs.Work.{rows_of}
use Rattle.flp_pool.specs.Laws.{word_of, RowSums}
use Rattle.flp_syntax.specs.Tree.{Program}
use Rattle.flp_report.specs.declared.shape.Shape.{Shape}
use Rattle.flp_policy.specs.declared.verdict.Verdict.{Verdict}
use Rattle.flp_policy.specs.declared.verdict.Verdict.TheVariants.{Replayed}
use Rattle.flp_policy.specs.Verdicts.{is_accepted}
use Rattle.flp_worker.specs.Verdict.{outs_in}
use Rattle.flp_verdict.specs.Verdicts.{Judged, judged_from, accepted_in, verdict_after}
use Rattle.flp_verdict.specs.Laws.{report_at, verdict_at}
use Rattle.flp_verdict.proofs.PlaceLemmas.{at-place}
use Rattle.flp_verify.specs.Text.{judged_by}
use Rattle.flp_verify.specs.Rows.{row_for, row_in}
use Rattle.flp_verify.specs.Counted.{totals_of}
use Rattle.flp_verify.specs.Laws.{TotalsAreAggregate, RowsStay}

-- words that are the totals of entries, as many as there are elements
pub totals-listed : (elements : ℕ) (added : List Entry) (totals : List ℕ) → AreTotals added totals → length totals ≡ elements → totals ≡ totals_of elements added
totals-listed elements added totals are size = fill_by_all (λ (e : ℕ). total_of e added) totals elements 0 size (λ k h. are k (omega arith))

-- a sum over numbers from one on
sum-later : (f : ℕ → ℕ) (start n : ℕ) → sum_by f (range_with_len (start + 1) n) ≡ sum_by (λ i. f (suc i)) (range_with_len start n)
sum-later f start zero = refl
sum-later f start (suc n) =
    let one : start + 1 ≡ suc start = omega arith in
    let here = ap f one in
    let rest = sum-later f (start + 1) n in
    omega (arith, sum_by-cons f (start + 1) (range_with_len (start + 1 + 1) n), sum_by-cons (λ (i : ℕ). f (suc i)) start (range_with_len (start + 1) n))

module _ (outs : List ℕ → List ℕ) (e : ℕ) where
  one-more : (j : Judged) (js : List Judged) (b : Bool) → is_accepted j.verdict ≡ b → word_of (row_for j.verdict (outs j.report)) e + total_at (map outs (accepted_in js)) e ≡ total_at (map outs (accepted_in (j ∷ js))) e
  one-more j js true is = rw is (sym (total_at-cons (outs j.report) (map outs (accepted_in js)) e))
  one-more j js false is = rw is (zero-add (total_at (map outs (accepted_in js)) e))

  -- the words of all places sum up to those of the accepted records
  pub places-sum : (js : List Judged) → sum_by (λ i. word_of (row_for (get_or (map (λ (j : Judged). j.verdict) js) i Replayed) (outs (get_or (map (λ (j : Judged). j.report) js) i []))) e) (range_with_len 0 (length js)) ≡ total_at (map outs (accepted_in js)) e
  places-sum [] = refl
  places-sum (j ∷ js) =
      let word : ℕ → ℕ = λ i. word_of (row_for (get_or (map (λ (k : Judged). k.verdict) (j ∷ js)) i Replayed) (outs (get_or (map (λ (k : Judged). k.report) (j ∷ js)) i []))) e in
      sum_by-cons word 0 (range_with_len 1 (length js))
      ∙ (ap (λ (n : ℕ). word 0 + n) (sum-later word 0 (length js) ∙ places-sum js)
      ∙ one-more j js (is_accepted j.verdict) refl)

-- the records that are judged are the records
pub reports-judged : (program : Program) (shape : Shape) (claims earlier reports : List (List ℕ)) → map (λ (j : Judged). j.report) (judged_from program shape claims earlier reports) ≡ reports
reports-judged program shape claims earlier [] = refl
reports-judged program shape claims earlier (r ∷ reports) = ap (λ (l : List (List ℕ)). r ∷ l) (reports-judged program shape claims (earlier ++ r ∷ []) reports)

pub totals_are_aggregate : RowSums → TotalsAreAggregate
totals_are_aggregate sums by reports places totals once are size =
    let outs : List ℕ → List ℕ = outs_in by.circuit by.shape in
    let js : List Judged = judged_by by reports in
    let same : map (λ (j : Judged). j.report) js ≡ reports = reports-judged by.circuit by.shape by.claims [] reports in
    let long : length reports - 0 ≡ length js = omega (arith, ap (λ (l : List (List ℕ)). length l) same, length-map js (λ (j : Judged). j.report)) in
    sum_of_lists_from (out_count by.circuit) totals (map outs (accepted_in js)) size
    (λ (e : ℕ) (below : e < out_count by.circuit).
    let word : List (List ℕ) → ℕ → ℕ = λ l i. word_of (row_for (get_or (map (λ (j : Judged). j.verdict) js) i Replayed) (outs (get_or l i []))) e in
    are (rows_of (row_in by reports) places) refl e (omega arith)
    ∙ ap (λ (n : ℕ). n % modulus)
    (sums (row_in by reports) 0 (length reports) places e once
    ∙ (ap (λ (n : ℕ). sum_by (word reports) (range_with_len 0 n)) long
    ∙ (ap (λ (l : List (List ℕ)). sum_by (word l) (range_with_len 0 (length js))) (sym same) ∙ places-sum outs e js))))

pub rows_stay : RowsStay
rows_stay by reports more place below =
    let inside : place < length (reports ++ more) = omega (arith, length-append reports more) in
    let report : report_at (reports ++ more) place ≡ report_at reports place = get_or_append_left reports more [] place below in
    let earlier : take place (reports ++ more) ≡ take place reports = take-append-le place reports more (omega arith) in
    let verdict : verdict_at by.circuit by.shape by.claims (reports ++ more) place ≡ verdict_at by.circuit by.shape by.claims reports place =
    at-place by.circuit by.shape by.claims (reports ++ more) place inside
    ∙ (ap₂ (λ (l : List (List ℕ)) (r : List ℕ). verdict_after by.circuit by.shape by.claims l r) earlier report
    ∙ sym (at-place by.circuit by.shape by.claims reports place below)) in
    ap₂ (λ (v : Verdict) (r : List ℕ). row_for v (outs_in by.circuit by.shape r)) verdict report
