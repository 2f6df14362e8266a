use Rattle.flp_field.proofs.RootsOfUnity.{sum-of_root, sum-of_ones}
use Rattle.flp_field.proofs.laws.sums_of_powers.Goals as goal

pub returns-clause-zero : goal.returns-clause-zero
returns-clause-zero c = sum-of_root

pub returns-clause-count : goal.returns-clause-count
returns-clause-count c = sum-of_ones
