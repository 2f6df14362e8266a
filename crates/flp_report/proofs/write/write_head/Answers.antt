use Rattle.std.proofs.Common.{◌++◌, ℕ, List, refl, subst}
use Rattle.std.specs.List.{flat_map}
use Rattle.byteorder.specs.Endian.{little_bytes}
use Rattle.flp_io.specs.Writes.{WritesTo}
use Rattle.flp_io.proofs.WriteLemmas.{WritesTo-after, WritesTo-short}
use Rattle.flp_report.specs.Batch.{batch_letters}
use Rattle.flp_report.specs.Layout.{head_numbers}
use Rattle.flp_report.proofs.write.write_head.Goals as goal

pub returns-in-Err : goal.returns-in-Err
returns-in-Err g c = WritesTo-short (batch_letters ++ flat_map (little_bytes 4) (head_numbers c.args.header.now)) c.args.header.now.text c.in-Err.ensures refl refl

pub returns : goal.returns
returns g c =
    let start = batch_letters ++ flat_map (little_bytes 4) (head_numbers c.args.header.now) in
    WritesTo-after start c.args.header.now.text c.in-Ok.ensures refl
    (subst (λ (l : List ℕ). WritesTo g.K.Sink.taken g.K.Sink.faults g.K.Sink.spare g.K.Sink.ready c.put_start.new.sink c.put.new.sink l c.put.result) c.as_slice.ensures c.put.ensures.sink)
