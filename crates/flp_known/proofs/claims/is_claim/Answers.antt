use Rattle.std.proofs.Common.{◌+◌, ◌-◌, ◌/◌, ◌≤◌, sym, arith}
use Rattle.flp_report.specs.Nonces.{nonce_count, nonces_in}
use Rattle.flp_known.proofs.BisectLemmas.{between-less, between-greater, between-found, between-none}
use Rattle.flp_known.proofs.claims.is_claim.Goals as goal

pub loop-low-preserved-in-Less : goal.loop-low-preserved-in-Less
loop-low-preserved-in-Less c =
    let low = c.loop-low.low in
    let high = c.loop-low.high in (
      c.loop-low.invariant.0,
      between-less (nonces_in c.args.claims.now) c.args.nonce.now c.at.result.now low (low + (high - low) / 2) high
          (c.held_parts.ensures.rising c.args.claims.now) c.at.ensures.numbered (sym c.in-Less.ensures) c.loop-low.invariant.1,
    )

pub returns-in-Equal : goal.returns-in-Equal
returns-in-Equal c =
    let low = c.loop-low.low in
    let high = c.loop-low.high in
    sym (between-found (nonces_in c.args.claims.now) c.args.nonce.now c.at.result.now (low + (high - low) / 2) c.at.ensures.numbered (sym c.in-Equal.ensures))

pub loop-low-preserved : goal.loop-low-preserved
loop-low-preserved c =
    let low = c.loop-low.low in
    let high = c.loop-low.high in
    let within : low + (high - low) / 2 ≤ nonce_count c.args.claims.now = omega (arith, c.loop-low.invariant.0, c.loop-low-test.true) in (
      within,
      between-greater (nonces_in c.args.claims.now) c.args.nonce.now c.at.result.now low (low + (high - low) / 2) high
          (c.held_parts.ensures.rising c.args.claims.now) c.at.ensures.numbered (sym c.in-Greater.ensures) c.loop-low.invariant.1,
    )

pub returns : goal.returns
returns c =
    sym (between-none (nonces_in c.args.claims.now) c.args.nonce.now c.loop-low.low c.loop-low.high (omega (arith, c.loop-low-test.false)) c.loop-low.invariant.1)
