-- The lines of a walk are those of the verdicts.
use Rattle.std.proofs.Common.{◌≡◌, ℕ, List, [], ◌∷◌, ◌++◌, refl, ap}
use Rattle.flp_batch.specs.Setting.{Setting}
use Rattle.flp_batch.specs.Lines.{lines_from}
use Rattle.flp_batch.specs.Lines as batch
use Rattle.flp_verdict.specs.Verdicts.{judged_from}
use Rattle.flp_verdict.specs.Text.{judged_lines}
use Rattle.flp_verify.specs.Text.{verdict_line, verdict_lines}

pub lines_from-judged : (by : Setting) (earlier reports : List (List ℕ))
    → lines_from (verdict_line by) earlier reports ≡ judged_lines (judged_from by.circuit by.shape by.claims earlier reports)
lines_from-judged by earlier [] = refl
lines_from-judged by earlier (report ∷ reports) =
    ap (λ (l : List ℕ). verdict_line by earlier report ++ l) (lines_from-judged by (earlier ++ report ∷ []) reports)

pub lines-judged : (by : Setting) (reports : List (List ℕ)) → batch.lines_of (verdict_line by) reports ≡ verdict_lines by reports
lines-judged by reports = lines_from-judged by [] reports
