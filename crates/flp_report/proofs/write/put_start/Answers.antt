use Rattle.std.proofs.Common.{◌++◌, ℕ, List, length, ap, subst}
use Rattle.std.specs.List.{flat_map}
use Rattle.byteorder.specs.Endian.{little_bytes}
use Rattle.flp_io.specs.Writes.{WritesTo}
use Rattle.flp_report.specs.Batch.{batch_letters}
use Rattle.flp_report.proofs.WriteLemmas.{head_numbers-cut}
use Rattle.flp_report.proofs.write.put_start.Goals as goal

pub returns : goal.returns
returns g c =
    let same = head_numbers-cut c.args.header.now (length c.as_slice-text.result.now) c.head_count-count.result (ap (λ (l : List ℕ). length l) c.as_slice-text.ensures) c.head_count-count.ensures.count in
    subst (λ (l : List ℕ). WritesTo g.K.Sink.taken g.K.Sink.faults g.K.Sink.spare g.K.Sink.ready c.args.sink.now c.put_both.new.sink (batch_letters ++ flat_map (little_bytes 4) l) c.put_both.result) same c.put_both.ensures
