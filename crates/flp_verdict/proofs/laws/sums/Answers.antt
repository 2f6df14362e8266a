use Rattle.flp_verdict.proofs.MeasuredLemmas.{sums_measurements}
use Rattle.flp_verdict.proofs.laws.sums.Goals as goal

pub returns : goal.returns
returns c = λ params fits shape claims reports. sums_measurements params fits shape claims reports c.encodings.ensures.vectors
