use Rattle.flp_plan.proofs.SizeLemmas as lemmas
use Rattle.flp_plan.proofs.laws.ask_alike.Goals as goal

pub returns : goal.returns
returns c = lemmas.ask_alike
