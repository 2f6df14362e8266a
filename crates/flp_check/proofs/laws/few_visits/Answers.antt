use Rattle.flp_check.proofs.LimitLemmas.{walk_counted}
use Rattle.flp_check.proofs.laws.few_visits.Goals as goal

pub returns : goal.returns
returns c = λ body events counts reaches. (walk_counted body events counts reaches.is).visits
