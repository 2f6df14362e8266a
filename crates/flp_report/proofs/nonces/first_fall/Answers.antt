use Rattle.std.proofs.Common.{◌<◌, ◌∙◌, sym, arith}
use Rattle.flp_report.proofs.PiecesLemmas.{fall_from-above, fall_from-other}
use Rattle.flp_report.proofs.nonces.first_fall.Goals as goal

pub returns-then-not-is_lt-clause-first : goal.returns-then-not-is_lt-clause-first
returns-then-not-is_lt-clause-first c =
    let count = c.args.count in
    let some : 0 < count = omega (arith, c.loop-index-test.true) in
    let test = rw (c.cmp.ensures, c.nonce_at.ensures, c.nonce_at-in-loop-index.ensures) at c.is_lt.ensures in
    sym (c.loop-index.invariant some ∙ fall_from-other c.loop-index.index count c.args.bytes.now c.loop-index-test.true (sym test ∙ c.if-not-is_lt.true))

pub loop-index-preserved : goal.loop-index-preserved
loop-index-preserved c =
    let count = c.args.count in
    let test = rw (c.cmp.ensures, c.nonce_at.ensures, c.nonce_at-in-loop-index.ensures) at c.is_lt.ensures in
    λ some. c.loop-index.invariant some ∙ fall_from-above c.loop-index.index count c.args.bytes.now c.loop-index-test.true (sym test ∙ c.if-not-is_lt.false)
