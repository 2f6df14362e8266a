use Rattle.flp_report.proofs.PiecesLemmas.{slice_get-pieces}
use Rattle.flp_report.proofs.nonces.Nonces.at.Goals as goal

pub returns-clause-numbered : goal.returns-clause-numbered
returns-clause-numbered c =
    let nonces = c.args.self.now in
    rw (c.nonce_at.ensures, c.as_slice.ensures.value) (slice_get-pieces 16 nonces.count c.args.index nonces.bytes.items c.requires)
