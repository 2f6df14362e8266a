use Rattle.std.proofs.Common.{ℕ, List, refl, sym, subst}
use Rattle.std.specs.List.{concat}
use Rattle.flp_io.specs.Writes.{WritesTo}
use Rattle.flp_io.proofs.WriteLemmas.{WritesTo-after, WritesTo-short}
use Rattle.flp_report.specs.Nonces.{nonces_in}
use Rattle.flp_party.specs.Share.{share_head}
use Rattle.flp_party.proofs.share_head.put_front.Goals as goal

pub returns-in-Err : goal.returns-in-Err
returns-in-Err g c = WritesTo-short (share_head c.args.party c.args.header.now) (concat (nonces_in c.args.claims.now)) c.in-Err.ensures refl refl

pub returns : goal.returns
returns g c =
    WritesTo-after (share_head c.args.party c.args.header.now) (concat (nonces_in c.args.claims.now)) c.in-Ok.ensures refl
    (subst (λ (l : List ℕ). WritesTo g.K.Sink.taken g.K.Sink.faults g.K.Sink.spare g.K.Sink.ready c.put_head.new.sink c.write_claims.new.sink l c.write_claims.result)
    (sym (c.held_parts.ensures.nonces c.args.claims.now).joined) c.write_claims.ensures)
