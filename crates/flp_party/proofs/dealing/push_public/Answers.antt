use Rattle.flp_report.specs.Record.{record_of, shape_of}
use Rattle.flp_verdict.proofs.BehindLemmas.{more-behind}
use Rattle.flp_party.specs.Share.{own_in}
use Rattle.flp_party.proofs.dealing.push_public.Goals as goal

pub loop-proof-preserved : goal.loop-proof-preserved
loop-proof-preserved c =
    more-behind (own_in (shape_of c.args.given.now) (record_of c.args.given.now)) c.loop-proof.proof _ _ _ c.loop-proof.invariant c.in_ok-push_own.ensures
