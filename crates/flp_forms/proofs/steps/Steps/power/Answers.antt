use Rattle.flp_forms.proofs.LineLemmas.{stands_first}
use Rattle.flp_forms.proofs.steps.Steps.power.Goals as goal

pub returns-then-exponent-eq1-clause-value : goal.returns-then-exponent-eq1-clause-value
returns-then-exponent-eq1-clause-value c =
    stands_first c.args.self.now c.args.base c.args.exponent c.requires c.if-exponent-eq1.true
