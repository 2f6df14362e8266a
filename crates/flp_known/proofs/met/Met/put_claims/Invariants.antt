use Rattle.std.proofs.Common.{◌≡◌, ◌≤◌, false, drop}
use Rattle.std.specs.List.Sorted.{IsStrictlySortedBy}
use Rattle.flp_report.specs.Nonces.{nonce_count, nonces_in}
use Rattle.flp_known.specs.Among.{any_among}
use Rattle.flp_known.specs.Order.{with_nonces}
use Rattle.flp_known.specs.Met.{met_in}
use Rattle.flp_known.specs.Claims.{claim_lines}
use Rattle.flp_known.proofs.MergeLemmas.{compare}
use Rattle.flp_known.proofs.PutsLemmas.{PutsUpTo}
use Rattle.flp_known.proofs.met.Met.put_claims.Given as goal

abbrev pub invariant-loop-nonce : goal.invariant-loop-nonce
invariant-loop-nonce g l =
    (l.next ≤ nonce_count l.claims) × IsStrictlySortedBy compare l.nonce-iterator × (any_among (nonces_in l.claims) l.nonce-iterator ≡ false)
    × PutsUpTo g.K.Sink.taken g.K.Sink.faults g.K.Sink.ready l.initial.sink l.sink l.initial.block l.block
    (claim_lines (with_nonces (nonces_in l.claims) (met_in l.self))) (claim_lines (with_nonces (drop l.next (nonces_in l.claims)) l.nonce-iterator))
