-- The verdicts place by place: a replay exactly where the nonce is known.
use Rattle.std.proofs.Common.{◌≡◌, ◌≢◌, ℕ, zero, suc, ◌<◌, ◌≤◌, List, [], ◌∷◌, ◌++◌, length, map, get_or, take, Bool, true, false, Option, Some, None, refl, sym, ap, ◌∙◌, arith, inl, inr, ⊎_elim, append_assoc, append-nil}
use Rattle.std.specs.Prelude.{if◌then◌else◌, Contains}
use Rattle.std.proofs.lemmas.Bool.{cases_Bool}
use Rattle.flp_syntax.specs.Tree.{Program}
use Rattle.flp_report.specs.declared.shape.Shape.{Shape}
use Rattle.flp_report.specs.Record.{nonce_in, words_in}
use Rattle.flp_report.specs.Words.{bad_word_in}
use Rattle.flp_policy.specs.declared.verdict.Verdict.{Verdict}
use Rattle.flp_policy.specs.declared.verdict.Verdict.TheVariants.{Replayed}
use Rattle.flp_worker.specs.Verdict.{verdict_of, verdict_by, verdict_if, first_inside, all_hold}
use Rattle.flp_known.specs.Among.{is_among}
use Rattle.flp_known.proofs.AmongLemmas.{found-among, among-found}
use Rattle.flp_verdict.specs.Verdicts.{judged_from, known_behind, verdict_after}
use Rattle.flp_verdict.specs.Laws.{report_at, verdict_at, IsKnown, JudgesOnce}
use Rattle.flp_verdict.proofs.KnownLemmas.{found-before, before-found, known-cases, known-old, known-earlier}

-- no record is a replay by itself
verdict_if-new : (hold : Bool) → verdict_if hold ≢ Replayed
verdict_if-new true is = cc
verdict_if-new false is = cc

verdict_by-new : (bad : Option ℕ) (inside : Option (ℕ × ℕ)) (hold : Bool) → verdict_by bad inside hold ≢ Replayed
verdict_by-new (Some word) inside hold is = cc
verdict_by-new None (Some named) hold is = cc
verdict_by-new None None hold is = verdict_if-new hold is

pub verdict_of-new : (program : Program) (shape : Shape) (report : List ℕ) → verdict_of program shape report ≢ Replayed
unfolding verdict_of
verdict_of-new program shape report is =
    verdict_by-new (bad_word_in (words_in shape report)) (first_inside program shape (words_in shape report)) (all_hold program shape (words_in shape report)) is

-- the verdict at a place
judged_from-at : (program : Program) (shape : Shape) (claims earlier reports : List (List ℕ)) (i : ℕ) → i < length reports
    → get_or (map (λ j. j.verdict) (judged_from program shape claims earlier reports)) i Replayed
    ≡ verdict_after program shape claims (earlier ++ take i reports) (get_or reports i [])
judged_from-at program shape claims earlier [] i below = absurd (omega arith)
judged_from-at program shape claims earlier (r ∷ reports) zero below =
    ap (λ (e : List (List ℕ)). verdict_after program shape claims e r) (sym (append-nil earlier))
judged_from-at program shape claims earlier (r ∷ reports) (suc i) below =
    let less : i < length reports = omega arith in
    judged_from-at program shape claims (earlier ++ r ∷ []) reports i less
    ∙ ap (λ (e : List (List ℕ)). verdict_after program shape claims e (get_or reports i [])) (append_assoc earlier (r ∷ []) (take i reports))

length-judged_from : (program : Program) (shape : Shape) (claims earlier reports : List (List ℕ))
    → length (map (λ j. j.verdict) (judged_from program shape claims earlier reports)) ≡ length reports
length-judged_from program shape claims earlier [] = refl
length-judged_from program shape claims earlier (r ∷ reports) =
    ap (λ (n : ℕ). suc n) (length-judged_from program shape claims (earlier ++ r ∷ []) reports)

-- from the nonces that are known behind the records before it
pub at-place : (program : Program) (shape : Shape) (claims reports : List (List ℕ)) (i : ℕ) → i < length reports
    → verdict_at program shape claims reports i ≡ verdict_after program shape claims (take i reports) (report_at reports i)
at-place program shape claims reports i below = judged_from-at program shape claims [] reports i below

known-at : (claims reports : List (List ℕ)) (i : ℕ) → i < length reports
    → is_among (known_behind claims (take i reports)) (nonce_in (report_at reports i)) ≡ true → IsKnown claims reports i
known-at claims reports i below known =
    let nonce = nonce_in (report_at reports i) in
    let few : i ≤ length reports = omega arith in
    ⊎_elim
    (λ (old : is_among claims nonce ≡ true). inl (found-among claims nonce old))
    (λ (earlier : is_among (map nonce_in (take i reports)) nonce ≡ true). inr (found-before reports i nonce few earlier))
    (known-cases claims (take i reports) nonce known)

at-known : (claims reports : List (List ℕ)) (i : ℕ) → i < length reports → IsKnown claims reports i
    → is_among (known_behind claims (take i reports)) (nonce_in (report_at reports i)) ≡ true
at-known claims reports i below known =
    let nonce = nonce_in (report_at reports i) in
    let few : i ≤ length reports = omega arith in
    ⊎_elim
    (λ (old : Contains claims nonce). known-old claims (take i reports) nonce (among-found claims nonce old))
    (λ (earlier : (j : ℕ) × (j < i) × (nonce_in (report_at reports j) ≡ nonce)).
    known-earlier claims (take i reports) nonce (before-found reports i earlier.0 nonce few earlier.1 earlier.2))
    known

pub judges_once : (program : Program) (shape : Shape) (claims reports : List (List ℕ)) → JudgesOnce program shape claims reports
judges_once program shape claims reports = record {
  each = length-judged_from program shape claims [] reports;
  first = λ i below.
      let report = report_at reports i in
      let known = is_among (known_behind claims (take i reports)) (nonce_in report) in
      let place = at-place program shape claims reports i below in (
        λ replayed.
            ⊎_elim
            (λ (yes : known ≡ true). known-at claims reports i below yes)
            (λ (new : known ≡ false).
            let is : verdict_of program shape report ≡ Replayed = sym (ap (λ (b : Bool). if b then Replayed else verdict_of program shape report) new) ∙ (sym place ∙ replayed) in
            absurd (verdict_of-new program shape report is))
            (cases_Bool known),
        λ is. place ∙ ap (λ (b : Bool). if b then Replayed else verdict_of program shape report) (at-known claims reports i below is),
      );
  alone = λ i below other.
      let report = report_at reports i in
      let known = is_among (known_behind claims (take i reports)) (nonce_in report) in
      let place = at-place program shape claims reports i below in
      let by : Bool → Verdict = λ b. if b then Replayed else verdict_of program shape report in
      ⊎_elim
      (λ (yes : known ≡ true). absurd (other (place ∙ ap by yes)))
      (λ (new : known ≡ false). place ∙ ap by new)
      (cases_Bool known);
}
