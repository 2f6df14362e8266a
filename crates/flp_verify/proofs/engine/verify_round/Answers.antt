use Rattle.std.proofs.Common.{◌+◌, ℕ, subst}
use Rattle.flp_pool.specs.Range.{LacksRange}
use Rattle.flp_verify.proofs.engine.verify_round.Goals as goal

pub returns-clause-free : goal.returns-clause-free
returns-clause-free g c =
    subst (λ (n : ℕ). LacksRange (c.args.first + n) c.args.front.now.header.reports c.verify_segment-seat.result.view.claimed) c.requires.round.used
    (c.verify_segment-seat.ensures.still_free c.args.front.now.header.reports c.requires.free)
