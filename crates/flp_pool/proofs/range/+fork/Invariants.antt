use Rattle.std.proofs.Common.{◌+◌, ◌-◌, ◌*◌, length}
use Rattle.flp_pool.proofs.range.+fork.Given as goal

abbrev pub decreases-run_from : goal.decreases-run_from
decreases-run_from g l = 4 * length l.states.now

abbrev pub decreases-run_both : goal.decreases-run_both
decreases-run_both g l = 4 * (length l.a.now + length l.b.now) - 1

abbrev pub decreases-run_both-left : goal.decreases-run_both-left
decreases-run_both-left g l = 4 * length l.a.now + 1

abbrev pub decreases-run_both-right : goal.decreases-run_both-right
decreases-run_both-right g l = 4 * length l.b.now + 1
