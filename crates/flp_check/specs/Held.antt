-- The counts as the program keeps them.
use Rattle.flp_check.specs.Counts.{Counts}
use Rattle.flp_check.specs.declared.counter.Counter.{Counter}

abbrev pub counts_of : Counter → Counts
counts_of counter = record { visits = counter.visits; calls = counter.calls.items; checks = counter.checks; outs = counter.outs }
