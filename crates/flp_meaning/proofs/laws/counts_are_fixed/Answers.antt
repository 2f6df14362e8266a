use Rattle.flp_meaning.proofs.Fixed as fixed
use Rattle.flp_meaning.proofs.laws.counts_are_fixed.Goals as goal

pub returns-clause-gadgets : goal.returns-clause-gadgets
returns-clause-gadgets c = fixed.gadgets_are_fixed

pub returns-clause-calls : goal.returns-clause-calls
returns-clause-calls c = fixed.calls_are_fixed

pub returns-clause-checks : goal.returns-clause-checks
returns-clause-checks c = fixed.checks_are_fixed

pub returns-clause-outs : goal.returns-clause-outs
returns-clause-outs c = fixed.outs_are_fixed
