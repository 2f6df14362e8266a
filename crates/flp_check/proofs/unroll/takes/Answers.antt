use Rattle.std.proofs.Common.{arith}
use Rattle.flp_check.proofs.Turns.{named_is}
use Rattle.flp_check.proofs.unroll.takes.Goals as goal

pub returns : goal.returns
returns c = rw c.arity_at.ensures (named_is _ c.args.count (omega arith))
