-- What one record more adds to the verdicts, the accepted records, the count and the lines.
use Rattle.std.proofs.Common.{◌≡◌, ℕ, List, [], ◌∷◌, ◌++◌, map, Bool, true, false, refl, sym, ap, ◌∙◌, append_assoc, append-nil}
use Rattle.std.specs.Prelude.{if◌then◌else◌, filter}
use Rattle.std.proofs.lemmas.List.Concat.{flat_map-append}
use Rattle.std.proofs.lemmas.List.Elements.{filter-append}
use Rattle.std.proofs.lemmas.List.{map-append}
use Rattle.flp_syntax.specs.Tree.{Program}
use Rattle.flp_report.specs.declared.shape.Shape.{Shape}
use Rattle.flp_policy.specs.Verdicts.{is_accepted}
use Rattle.flp_verdict.specs.Verdicts.{Judged, judged_after, judged_from, judged, accepted_in}
use Rattle.flp_verdict.specs.Text.{line_of, judged_lines}

-- one record more is judged behind all others
judged_from-append : (program : Program) (shape : Shape) (claims earlier reports : List (List ℕ)) (report : List ℕ)
    → judged_from program shape claims earlier (reports ++ report ∷ [])
    ≡ judged_from program shape claims earlier reports ++ judged_after program shape claims (earlier ++ reports) report ∷ []
judged_from-append program shape claims earlier [] report =
    ap (λ (e : List (List ℕ)). judged_after program shape claims e report ∷ []) (sym (append-nil earlier))
judged_from-append program shape claims earlier (first ∷ reports) report =
    let joined : (earlier ++ first ∷ []) ++ reports ≡ earlier ++ first ∷ reports = append_assoc earlier (first ∷ []) reports in
    ap (λ (js : List Judged). judged_after program shape claims earlier first ∷ js)
    (judged_from-append program shape claims (earlier ++ first ∷ []) reports report
    ∙ ap
    (λ (e : List (List ℕ)). judged_from program shape claims (earlier ++ first ∷ []) reports ++ judged_after program shape claims e report ∷ [])
    joined)

pub judged_more : (program : Program) (shape : Shape) (claims reports : List (List ℕ)) (report : List ℕ)
    → judged program shape claims (reports ++ report ∷ []) ≡ judged program shape claims reports ++ judged_after program shape claims reports report ∷ []
judged_more program shape claims reports report = judged_from-append program shape claims [] reports report

-- the record that is accepted, or none
pub accepted_one : Judged → List (List ℕ)
accepted_one j = if is_accepted j.verdict then j.report ∷ [] else []

accepted_one-by : (j : Judged) (b : Bool) → is_accepted j.verdict ≡ b → accepted_in (j ∷ []) ≡ (if b then j.report ∷ [] else [])
accepted_one-by j true is = rw is refl
accepted_one-by j false is = rw is refl

pub accepted_in_more : (js : List Judged) (j : Judged) → accepted_in (js ++ j ∷ []) ≡ accepted_in js ++ (if is_accepted j.verdict then j.report ∷ [] else [])
accepted_in_more js j =
    let test : Judged → Bool = λ k. is_accepted k.verdict in
    let report : Judged → List ℕ = λ k. k.report in
    ap (map report) (filter-append test js (j ∷ []))
    ∙ (map-append report (filter test js) (filter test (j ∷ []))
    ∙ ap (λ (l : List (List ℕ)). accepted_in js ++ l) (accepted_one-by j (is_accepted j.verdict) refl))

pub lines_of_more : (js : List Judged) (j : Judged) → judged_lines (js ++ j ∷ []) ≡ judged_lines js ++ line_of j
lines_of_more js j = flat_map-append line_of js (j ∷ []) ∙ ap (λ (l : List ℕ). judged_lines js ++ l) (append-nil (line_of j))
