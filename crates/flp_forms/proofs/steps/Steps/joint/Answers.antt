use Rattle.std.proofs.Common.{subst}
use Rattle.flp_forms.specs.StraightLine.{StraightLine, IsStraightLine}
use Rattle.flp_forms.proofs.LineLemmas.{stands_joint}
use Rattle.flp_forms.proofs.steps.Steps.joint.Goals as goal

pub returns : goal.returns
returns c =
    stands_joint c.args.self.now c.args.word
    (subst (λ (line : StraightLine). IsStraightLine line.joint line.steps) c.self.view_is c.self.invariant) c.requires
