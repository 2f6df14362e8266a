use Rattle.flp_meaning.proofs.WireLemmas as wires
use Rattle.flp_meaning.proofs.laws.wires.Goals as goal

pub returns-clause-domains : goal.returns-clause-domains
returns-clause-domains c = wires.domains_hold

pub returns-clause-values : goal.returns-clause-values
returns-clause-values c = wires.wires_run_through
