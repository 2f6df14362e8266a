use Rattle.std.proofs.Common.{arith}
use Rattle.flp_round.proofs.RowLemmas.{written_row}
use Rattle.flp_round.proofs.row.write_row.Goals as goal

pub returns : goal.returns
returns c = written_row c.args.buckets c.args.bucket _ c.args.outs.now c.args.row.now c.clear.new.sum c.copy_from_slice.new.self c.requires.bucket c.requires.room (omega arith) c.clear.ensures c.copy_from_slice.ensures.after
