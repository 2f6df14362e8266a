use Rattle.std.proofs.Common.{◌∙◌, refl, sym, ap}
use Rattle.flp_lang.specs.Ahead as ahead
use Rattle.flp_lang.specs.Ahead.{Ahead, done, next, fixed, range}
use Rattle.flp_syntax.specs.Tree.{mul_kind, poly_kind, psum_kind}
use Rattle.flp_syntax.specs.View.{kind_of, kind_of_Mul, kind_of_Poly, kind_of_Psum}
use Rattle.flp_lang.proofs.Moves as moves
use Rattle.flp_lang.proofs.Moves.{fails, level_closed, value_read, more_read, all_read, one_read, list_read, along}
use Rattle.flp_lang.proofs.parser.Parser.+kind.Goals as goal

pub returns-in_err-expect-clause-runs : goal.returns-in_err-expect-clause-runs
returns-in_err-expect-clause-runs t c = λ K. fails _ _ _ _ _ _ _ _ _ _ c.from_residual.ensures _ (moves.kind_mul _ _ K _ (sym c.is_next.ensures ∙ c.if-is_next.true)) (c.in_err-expect.ensures.runs (0, c.args.level) (K mul_kind) refl)

pub returns-then-is_next-clause-runs : goal.returns-then-is_next-clause-runs
returns-then-is_next-clause-runs t c = λ K. moves.kind_mul _ _ K _ (sym c.is_next.ensures ∙ c.if-is_next.true) ∙ c.in_ok-expect.ensures.runs (0, c.args.level) (K mul_kind) refl ∙ moves.kind_flat _ _ K _ _ _ kind_of_Mul refl

pub returns-in_err-coefs-clause-runs : goal.returns-in_err-coefs-clause-runs
returns-in_err-coefs-clause-runs t c = λ K. fails _ _ _ _ _ _ _ _ _ _ c.from_residual-in_err-coefs.ensures _ (moves.kind_poly _ _ K _ (sym c.is_next-2.ensures ∙ c.if-is_next-2.true)) (c.in_err-coefs.ensures.runs K)

pub returns-then-is_next-2-clause-runs : goal.returns-then-is_next-2-clause-runs
returns-then-is_next-2-clause-runs t c = λ K. moves.kind_poly _ _ K _ (sym c.is_next-2.ensures ∙ c.if-is_next-2.true) ∙ c.in_ok-coefs.ensures.runs K ∙ moves.kind_flat _ _ K _ _ _ (kind_of_Poly _ ∙ ap poly_kind c.from_vec.ensures) refl

pub returns-in_err-inner-clause-runs : goal.returns-in_err-inner-clause-runs
returns-in_err-inner-clause-runs t c = λ K. fails _ _ _ _ _ _ _ _ _ _ c.from_residual-in_err-inner.ensures _ (moves.kind_psum _ _ K _ (sym c.is_next.ensures ∙ c.if-is_next.false) (sym c.is_next-2.ensures ∙ c.if-is_next-2.false)) (c.in_err-inner.ensures.runs (next ahead.a_numeral (λ n. next ahead.kind (λ v. K (psum_kind n v)))))

pub returns-in_err-count-clause-runs : goal.returns-in_err-count-clause-runs
returns-in_err-count-clause-runs t c = λ K. fails _ _ _ _ _ _ _ _ _ _ c.from_residual-in_err-count.ensures _ (moves.kind_psum _ _ K _ (sym c.is_next.ensures ∙ c.if-is_next.false) (sym c.is_next-2.ensures ∙ c.if-is_next-2.false) ∙ c.in_ok-inner.ensures.runs (next ahead.a_numeral (λ n. next ahead.kind (λ v. K (psum_kind n v))))) (c.in_err-count.ensures.runs (0, c.in_ok-inner.inner) (λ n. next ahead.kind (λ v. K (psum_kind n v))))

pub returns-in_err-kind-clause-runs : goal.returns-in_err-kind-clause-runs
returns-in_err-kind-clause-runs t c = λ K. fails _ _ _ _ _ _ _ _ _ _ c.from_residual-in_err-kind.ensures _ (moves.kind_psum _ _ K _ (sym c.is_next.ensures ∙ c.if-is_next.false) (sym c.is_next-2.ensures ∙ c.if-is_next-2.false) ∙ c.in_ok-inner.ensures.runs (next ahead.a_numeral (λ n. next ahead.kind (λ v. K (psum_kind n v)))) ∙ c.in_ok-count.ensures.runs (0, c.in_ok-inner.inner) (λ n. next ahead.kind (λ v. K (psum_kind n v)))) (c.in_err-kind.ensures.runs (λ v. K (psum_kind c.in_ok-count.count v)))

pub returns-clause-runs : goal.returns-clause-runs
returns-clause-runs t c = λ K.
    moves.kind_psum _ _ K _ (sym c.is_next.ensures ∙ c.if-is_next.false) (sym c.is_next-2.ensures ∙ c.if-is_next-2.false) ∙ c.in_ok-inner.ensures.runs (next ahead.a_numeral (λ n. next ahead.kind (λ v. K (psum_kind n v)))) ∙ c.in_ok-count.ensures.runs (0, c.in_ok-inner.inner) (λ n. next ahead.kind (λ v. K (psum_kind n v))) ∙ c.in_ok-kind.ensures.runs (λ v. K (psum_kind c.in_ok-count.count v))
    ∙ moves.level_psums _ _ _ _ _ _ c.in_ok-inner.ensures.inner.0
    ∙ moves.kind_read _ _ K (psum_kind c.in_ok-count.count (kind_of c.in_ok-kind.kind)) _ _ (kind_of_Psum _ _ ∙ rw (c.value.ensures.same, c.in_ok-boxed.ensures.ok) refl)
