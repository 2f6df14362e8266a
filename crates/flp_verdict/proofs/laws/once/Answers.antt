use Rattle.flp_verdict.proofs.PlaceLemmas.{judges_once}
use Rattle.flp_verdict.proofs.laws.once.Goals as goal

pub returns : goal.returns
returns c = judges_once
