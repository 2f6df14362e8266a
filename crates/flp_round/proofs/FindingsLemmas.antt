-- What is found of the record with an index.
use Rattle.std.proofs.Common.{◌≡◌, ℕ, zero, suc, ◌<◌, Bool, true, Some, None, List, [], ◌∷◌, length, get_or, ap, refl, sym, ◌∙◌, arith}
use Rattle.std.specs.Prelude.{if◌then◌else◌}
use Rattle.std.proofs.lemmas.List.{get_or-map, length-map}
use Rattle.std.proofs.lemmas.Bool.{false≢true}
use Rattle.std.proofs.lemmas.Option.{none-some}
use Rattle.flp_syntax.specs.Tree.{Program}
use Rattle.flp_report.specs.declared.shape.Shape.{Shape}
use Rattle.flp_policy.specs.declared.verdict.Verdict.{Verdict}
use Rattle.flp_policy.specs.declared.verdict.Verdict.TheVariants.{Accepted, Rejected, InDomain, Malformed, Replayed}
use Rattle.flp_policy.specs.Verdicts.{is_accepted}
use Rattle.flp_round.specs.Findings.{Marked, marked, verdict_on, row_on, verdicts_by, rows_by}

pub length-marked : (marks : List Bool) (reports : List (List ℕ)) → length marks ≡ length reports → length (marked marks reports) ≡ length reports
length-marked [] [] e = refl
length-marked [] (r ∷ rs) e = absurd (omega arith)
length-marked (m ∷ ms) [] e = absurd (omega arith)
length-marked (m ∷ ms) (r ∷ rs) e = ap suc (length-marked ms rs (omega arith))

marked_at : (marks : List Bool) (reports : List (List ℕ)) (i : ℕ) (m : Bool) (r : List ℕ) (d : Marked) → i < length marks → i < length reports → get_or marks i m ≡ m → get_or reports i r ≡ r
    → get_or (marked marks reports) i d ≡ record { replayed = m; report = r }
marked_at [] reports i m r d a b p q = absurd (omega arith)
marked_at (x ∷ ms) [] i m r d a b p q = absurd (omega arith)
marked_at (x ∷ ms) (y ∷ rs) zero m r d a b p q = λ k. record { replayed = p k; report = q k }
marked_at (x ∷ ms) (y ∷ rs) (suc i) m r d a b p q = marked_at ms rs i m r d (omega arith) (omega arith) p q

module _ (program : Program) (shape : Shape) (marks : List Bool) (reports : List (List ℕ)) (same : length marks ≡ length reports) where
  pub length-verdicts_by : length (verdicts_by program shape marks reports) ≡ length reports
  length-verdicts_by = length-map (marked marks reports) (verdict_on program shape) ∙ length-marked marks reports same

  module _ (i : ℕ) (m : Bool) (r : List ℕ) (below : i < length marks) (mark : get_or marks i m ≡ m) (report : get_or reports i r ≡ r) where
    within : i < length (marked marks reports)
    within = let e = length-marked marks reports same in omega arith

    at : get_or (marked marks reports) i (record { replayed = m; report = r }) ≡ record { replayed = m; report = r }
    at = marked_at marks reports i m r (record { replayed = m; report = r }) below (omega arith) mark report

    pub verdict_at : get_or (verdicts_by program shape marks reports) i Replayed ≡ verdict_on program shape (record { replayed = m; report = r })
    verdict_at = get_or-map (verdict_on program shape) (marked marks reports) i (record { replayed = m; report = r }) Replayed within ∙ ap (verdict_on program shape) at

    pub row_at : get_or (rows_by program shape marks reports) i None ≡ row_on program shape (record { replayed = m; report = r })
    row_at = get_or-map (row_on program shape) (marked marks reports) i (record { replayed = m; report = r }) None within ∙ ap (row_on program shape) at

-- a row that is there where a verdict is Accepted
pub same_row : (v : Verdict) (row held : List ℕ) → (v ≡ Accepted → held ≡ row) → (if is_accepted v then Some row else None) ≡ (if is_accepted v then Some held else None)
same_row Accepted row held is = ap Some (sym (is refl))
same_row Rejected row held is = refl
same_row (InDomain proof gadget) row held is = refl
same_row (Malformed word) row held is = refl
same_row Replayed row held is = refl

-- and that the row is what it is
pub the_row : (v : Verdict) (row held : List ℕ) → (if is_accepted v then Some row else None) ≡ Some held → held ≡ row
the_row Accepted row held e = cc
the_row Rejected row held e = absurd (none-some held e)
the_row (InDomain proof gadget) row held e = absurd (none-some held e)
the_row (Malformed word) row held e = absurd (none-some held e)
the_row Replayed row held e = absurd (none-some held e)

pub accepted_is : (v : Verdict) → is_accepted v ≡ true → v ≡ Accepted
accepted_is Accepted e = refl
accepted_is Rejected e = absurd (false≢true e)
accepted_is (InDomain proof gadget) e = absurd (false≢true e)
accepted_is (Malformed word) e = absurd (false≢true e)
accepted_is Replayed e = absurd (false≢true e)
