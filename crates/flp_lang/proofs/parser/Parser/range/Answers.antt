use Rattle.std.proofs.Common.{◌∙◌, refl}
use Rattle.flp_lang.specs.Ahead as ahead
use Rattle.flp_lang.specs.Ahead.{Ahead, next, fixed}
use Rattle.flp_syntax.specs.View.{index_of}
use Rattle.flp_syntax.specs.declared.token.Mark.TheVariants.{Open, DotDot, In}
use Rattle.flp_lang.proofs.Moves.{fails}
use Rattle.flp_lang.proofs.parser.Parser.range.Goals as goal

pub returns-in_err-name-clause-runs : goal.returns-in_err-name-clause-runs
returns-in_err-name-clause-runs c = λ K. fails _ _ _ _ _ _ _ _ _ _ c.from_residual.ensures _ (refl) (c.in_err-name.ensures.runs (c.args.level, 0) (λ n. fixed In (next ahead.index (λ from. fixed DotDot (next ahead.index (λ to. fixed Open (K n from to)))))))

pub returns-in_err-expect-clause-runs : goal.returns-in_err-expect-clause-runs
returns-in_err-expect-clause-runs c = λ K. fails _ _ _ _ _ _ _ _ _ _ c.from_residual-in_err-expect.ensures _ (c.in_ok-name.ensures.runs (c.args.level, 0) (λ n. fixed In (next ahead.index (λ from. fixed DotDot (next ahead.index (λ to. fixed Open (K n from to))))))) (c.in_err-expect.ensures.runs (c.args.level, 0) (next ahead.index (λ from. fixed DotDot (next ahead.index (λ to. fixed Open (K c.in_ok-name.name from to))))) refl)

pub returns-in_err-from-clause-runs : goal.returns-in_err-from-clause-runs
returns-in_err-from-clause-runs c = λ K. fails _ _ _ _ _ _ _ _ _ _ c.from_residual-in_err-from.ensures _ (c.in_ok-name.ensures.runs (c.args.level, 0) (λ n. fixed In (next ahead.index (λ from. fixed DotDot (next ahead.index (λ to. fixed Open (K n from to)))))) ∙ c.in_ok-expect.ensures.runs (c.args.level, 0) (next ahead.index (λ from. fixed DotDot (next ahead.index (λ to. fixed Open (K c.in_ok-name.name from to))))) refl) (c.in_err-from.ensures.runs (λ from. fixed DotDot (next ahead.index (λ to. fixed Open (K c.in_ok-name.name from to)))))

pub returns-in_err-expect-2-clause-runs : goal.returns-in_err-expect-2-clause-runs
returns-in_err-expect-2-clause-runs c = λ K. fails _ _ _ _ _ _ _ _ _ _ c.from_residual-in_err-expect-2.ensures _ (c.in_ok-name.ensures.runs (c.args.level, 0) (λ n. fixed In (next ahead.index (λ from. fixed DotDot (next ahead.index (λ to. fixed Open (K n from to)))))) ∙ c.in_ok-expect.ensures.runs (c.args.level, 0) (next ahead.index (λ from. fixed DotDot (next ahead.index (λ to. fixed Open (K c.in_ok-name.name from to))))) refl ∙ c.in_ok-from.ensures.runs (λ from. fixed DotDot (next ahead.index (λ to. fixed Open (K c.in_ok-name.name from to))))) (c.in_err-expect-2.ensures.runs (c.args.level, 0) (next ahead.index (λ to. fixed Open (K c.in_ok-name.name (index_of c.in_ok-from.from) to))) refl)

pub returns-in_err-to-clause-runs : goal.returns-in_err-to-clause-runs
returns-in_err-to-clause-runs c = λ K. fails _ _ _ _ _ _ _ _ _ _ c.from_residual-in_err-to.ensures _ (c.in_ok-name.ensures.runs (c.args.level, 0) (λ n. fixed In (next ahead.index (λ from. fixed DotDot (next ahead.index (λ to. fixed Open (K n from to)))))) ∙ c.in_ok-expect.ensures.runs (c.args.level, 0) (next ahead.index (λ from. fixed DotDot (next ahead.index (λ to. fixed Open (K c.in_ok-name.name from to))))) refl ∙ c.in_ok-from.ensures.runs (λ from. fixed DotDot (next ahead.index (λ to. fixed Open (K c.in_ok-name.name from to)))) ∙ c.in_ok-expect-2.ensures.runs (c.args.level, 0) (next ahead.index (λ to. fixed Open (K c.in_ok-name.name (index_of c.in_ok-from.from) to))) refl) (c.in_err-to.ensures.runs (λ to. fixed Open (K c.in_ok-name.name (index_of c.in_ok-from.from) to)))

pub returns-in_err-inner-clause-runs : goal.returns-in_err-inner-clause-runs
returns-in_err-inner-clause-runs c = λ K. fails _ _ _ _ _ _ _ _ _ _ c.from_residual-in_err-inner.ensures _ (c.in_ok-name.ensures.runs (c.args.level, 0) (λ n. fixed In (next ahead.index (λ from. fixed DotDot (next ahead.index (λ to. fixed Open (K n from to)))))) ∙ c.in_ok-expect.ensures.runs (c.args.level, 0) (next ahead.index (λ from. fixed DotDot (next ahead.index (λ to. fixed Open (K c.in_ok-name.name from to))))) refl ∙ c.in_ok-from.ensures.runs (λ from. fixed DotDot (next ahead.index (λ to. fixed Open (K c.in_ok-name.name from to)))) ∙ c.in_ok-expect-2.ensures.runs (c.args.level, 0) (next ahead.index (λ to. fixed Open (K c.in_ok-name.name (index_of c.in_ok-from.from) to))) refl ∙ c.in_ok-to.ensures.runs (λ to. fixed Open (K c.in_ok-name.name (index_of c.in_ok-from.from) to))) (c.in_err-inner.ensures.runs (K c.in_ok-name.name (index_of c.in_ok-from.from) (index_of c.in_ok-to.to)))

pub returns-clause-runs : goal.returns-clause-runs
returns-clause-runs c = λ K. c.in_ok-name.ensures.runs (c.args.level, 0) (λ n. fixed In (next ahead.index (λ from. fixed DotDot (next ahead.index (λ to. fixed Open (K n from to)))))) ∙ c.in_ok-expect.ensures.runs (c.args.level, 0) (next ahead.index (λ from. fixed DotDot (next ahead.index (λ to. fixed Open (K c.in_ok-name.name from to))))) refl ∙ c.in_ok-from.ensures.runs (λ from. fixed DotDot (next ahead.index (λ to. fixed Open (K c.in_ok-name.name from to)))) ∙ c.in_ok-expect-2.ensures.runs (c.args.level, 0) (next ahead.index (λ to. fixed Open (K c.in_ok-name.name (index_of c.in_ok-from.from) to))) refl ∙ c.in_ok-to.ensures.runs (λ to. fixed Open (K c.in_ok-name.name (index_of c.in_ok-from.from) to)) ∙ c.in_ok-inner.ensures.runs (K c.in_ok-name.name (index_of c.in_ok-from.from) (index_of c.in_ok-to.to))
