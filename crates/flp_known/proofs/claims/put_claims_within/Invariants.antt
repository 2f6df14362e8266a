use Rattle.std.proofs.Common.{slice_range}
use Rattle.flp_report.specs.Nonces.{nonces_in}
use Rattle.flp_known.specs.Claims.{claim_lines}
use Rattle.flp_known.proofs.PutsLemmas.{PutsUpTo}
use Rattle.flp_known.proofs.claims.put_claims_within.Given as goal

abbrev pub invariant-loop-number : goal.invariant-loop-number
invariant-loop-number g l = PutsUpTo g.K.Sink.taken g.K.Sink.faults g.K.Sink.ready l.initial.sink l.sink l.initial.block l.block
    (claim_lines (slice_range (nonces_in l.claims) l.from l.to)) (claim_lines (slice_range (nonces_in l.claims) l.number l.to))
