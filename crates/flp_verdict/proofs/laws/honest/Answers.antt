use Rattle.flp_verdict.proofs.HonestLemmas.{accepts_honest}
use Rattle.flp_verdict.proofs.laws.honest.Goals as goal

pub returns : goal.returns
returns c = λ program bounded shape claims reports. accepts_honest program shape claims reports c.honest_is_accepted.ensures bounded
