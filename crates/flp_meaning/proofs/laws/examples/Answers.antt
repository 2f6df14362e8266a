use Rattle.flp_meaning.proofs.Examples as examples
use Rattle.flp_meaning.proofs.laws.examples.Goals as goal

pub returns-clause-count : goal.returns-clause-count
returns-clause-count c = examples.count_example

pub returns-clause-cube : goal.returns-clause-cube
returns-clause-cube c = examples.cube_example

pub returns-clause-half : goal.returns-clause-half
returns-clause-half c = examples.half_example

pub returns-clause-histogram : goal.returns-clause-histogram
returns-clause-histogram c = examples.histogram_example
