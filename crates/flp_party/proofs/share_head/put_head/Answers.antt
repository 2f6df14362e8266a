use Rattle.std.proofs.Common.{◌++◌, ℕ, List, refl, subst}
use Rattle.std.specs.List.{flat_map}
use Rattle.byteorder.specs.Endian.{little_bytes}
use Rattle.flp_io.specs.Writes.{WritesTo}
use Rattle.flp_io.proofs.WriteLemmas.{WritesTo-after, WritesTo-short}
use Rattle.flp_party.specs.Share.{share_letters, share_numbers}
use Rattle.flp_party.proofs.share_head.put_head.Goals as goal

pub returns-in-Err : goal.returns-in-Err
returns-in-Err g c = WritesTo-short (share_letters ++ flat_map (little_bytes 4) (share_numbers c.args.party c.args.header.now)) c.args.header.now.text c.in-Err.ensures refl refl

pub returns : goal.returns
returns g c =
    WritesTo-after (share_letters ++ flat_map (little_bytes 4) (share_numbers c.args.party c.args.header.now)) c.args.header.now.text c.in-Ok.ensures refl
    (subst (λ (l : List ℕ). WritesTo g.K.Sink.taken g.K.Sink.faults g.K.Sink.spare g.K.Sink.ready c.put_start.new.sink c.put.new.sink l c.put.result) c.as_slice.ensures c.put.ensures.sink)
