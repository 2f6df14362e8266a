use Rattle.flp_hide.proofs.ExampleLemmas.{count_example}
use Rattle.flp_hide.proofs.laws.example.Goals as goal

pub returns : goal.returns
returns c = count_example
