use Rattle.std.proofs.Common.{sym, subst}
use Rattle.flp_syntax.specs.Tree.{Program}
use Rattle.flp_verdict.specs.Laws.{SumsMeasurements}
use Rattle.flp_verify.proofs.laws.sums.Goals as goal

pub returns : goal.returns
returns c = λ text params program loaded shape claims reports.
    let read = loaded.read in
    subst (λ (p : Program). SumsMeasurements p params shape claims reports) (sym read.2) (c.sums.ensures params read.1 shape claims reports)
