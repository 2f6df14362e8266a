-- Records beside their verdicts, and the lines of these.
use Rattle.std.proofs.Common.{◌≡◌, ℕ, zero, suc, ◌≤◌, List, [], ◌∷◌, ◌++◌, length, map, Option, Some, refl, sym, ap, ap₂, ◌∙◌, subst, arith}
use Rattle.std.specs.Prelude.{slice_get, Result, Ok, Err, OnOk}
use Rattle.std.specs.Io.KnownBytes.{Appends}
use Rattle.flp_io.specs.Block.{Passes}
use Rattle.flp_io.specs.Writes.{TakesPrefix}
use Rattle.flp_io.proofs.BlockLemmas.{Passes-flushed}
use Rattle.flp_io.proofs.WriteLemmas.{TakesPrefix-after}
use Rattle.flp_syntax.specs.Tree.{Program}
use Rattle.flp_report.specs.declared.shape.Shape.{Shape}
use Rattle.flp_policy.specs.declared.verdict.Verdict.{Verdict}
use Rattle.flp_verdict.specs.Verdicts.{Judged, judged_after, judged_from}
use Rattle.flp_verify.specs.Told.{beside}

-- judged records are their records beside their verdicts
pub beside-judged : (js : List Judged) → beside (map (λ (j : Judged). j.report) js) (map (λ (j : Judged). j.verdict) js) ≡ js
beside-judged [] = refl
beside-judged (j ∷ js) = ap (λ (l : List Judged). j ∷ l) (beside-judged js)

-- records and verdicts that are those of judged records, beside each other
pub beside-is : (js : List Judged) (reports : List (List ℕ)) (verdicts : List Verdict) → map (λ (j : Judged). j.report) js ≡ reports → map (λ (j : Judged). j.verdict) js ≡ verdicts → beside reports verdicts ≡ js
beside-is js reports verdicts rs vs = ap₂ beside (sym rs) (sym vs) ∙ beside-judged js

-- and the verdicts of a batch are, behind earlier records, beside its records
pub beside-from : (program : Program) (shape : Shape) (claims earlier reports : List (List ℕ))
    → beside reports (map (λ (j : Judged). j.verdict) (judged_from program shape claims earlier reports)) ≡ judged_from program shape claims earlier reports
beside-from program shape claims earlier [] = refl
beside-from program shape claims earlier (report ∷ reports) =
    ap (λ (l : List Judged). judged_after program shape claims earlier report ∷ l) (beside-from program shape claims (earlier ++ report ∷ []) reports)

-- there are at most as many as there are verdicts
pub length-beside : (reports : List (List ℕ)) (verdicts : List Verdict) → length (beside reports verdicts) ≤ length verdicts
length-beside [] verdicts = omega arith
length-beside (report ∷ reports) [] = omega arith
length-beside (report ∷ reports) (verdict ∷ verdicts) = let rest = length-beside reports verdicts in omega arith

-- the one at a place
pub beside-at : (reports : List (List ℕ)) (verdicts : List Verdict) (i : ℕ) (report : List ℕ) (verdict : Verdict) → slice_get reports i ≡ Some report → slice_get verdicts i ≡ Some verdict
    → slice_get (beside reports verdicts) i ≡ Some (record { report = report; verdict = verdict })
beside-at [] verdicts i report verdict r v = let no : ⊥ = cc in absurd no
beside-at (x ∷ reports) [] i report verdict r v = let no : ⊥ = cc in absurd no
beside-at (x ∷ reports) (y ∷ verdicts) zero report verdict r v = cc
beside-at (x ∷ reports) (y ∷ verdicts) (suc i) report verdict r v = beside-at reports verdicts i report verdict r v

-- ---- a block that was given a text, and what it holds then written

-- all that was held and the text, where the writing did not fail
pub whole-written : {T E : Type 0} (r : Result T E) (a b c : Option (List ℕ)) (held held' text : List ℕ) → Passes a held text b held' → OnOk r (Appends b c held') → OnOk r (Appends a c (held ++ text))
whole-written (Ok x) a b c held held' text p q = Passes-flushed a b c held held' text p q
whole-written (Err x) a b c held held' text p q = tt

-- and else a prefix of both
pub front-written : (a b c : Option (List ℕ)) (held held' text : List ℕ) → Passes a held text b held' → TakesPrefix b c held' → TakesPrefix a c (held ++ text)
front-written a b c held held' text p q = subst (TakesPrefix a c) (sym p.split) (TakesPrefix-after a b c p.out held' p.written q)
