use Rattle.std.proofs.Common.{ℕ, List, [], ◌∷◌, length, refl, subst}
use Rattle.std.specs.List.{flat_map}
use Rattle.byteorder.specs.Endian.{little_bytes}
use Rattle.flp_io.specs.Writes.{WritesTo}
use Rattle.flp_io.proofs.WriteLemmas.{WritesTo-after, WritesTo-short}
use Rattle.flp_party.specs.Share.{share_letters, share_numbers}
use Rattle.flp_party.proofs.share_head.put_start.Goals as goal

pub returns-in-Err : goal.returns-in-Err
returns-in-Err g c = WritesTo-short share_letters (flat_map (little_bytes 4) (share_numbers c.args.party c.args.header.now)) c.in-Err.ensures.sink refl refl

pub returns : goal.returns
returns g c =
    let h = c.args.header.now in
    WritesTo-after share_letters (flat_map (little_bytes 4) (share_numbers c.args.party h)) c.in-Ok.ensures.sink refl
    (subst (λ (text : List ℕ). WritesTo g.K.Sink.taken g.K.Sink.faults g.K.Sink.spare g.K.Sink.ready c.put.new.sink c.put_numbers.new.sink
    (flat_map (little_bytes 4) (h.version ∷ h.shares ∷ h.proofs ∷ length text ∷ h.claims ∷ h.reports ∷ c.args.party ∷ [])) c.put_numbers.result)
    c.as_slice.ensures c.put_numbers.ensures)
