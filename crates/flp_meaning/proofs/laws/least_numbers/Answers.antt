use Rattle.flp_meaning.proofs.PowerLemmas as powerlemmas
use Rattle.flp_meaning.proofs.laws.least_numbers.Goals as goal

pub returns-clause-first : goal.returns-clause-first
returns-clause-first c = powerlemmas.first_is_found

pub returns-clause-power : goal.returns-clause-power
returns-clause-power c = powerlemmas.least_power
