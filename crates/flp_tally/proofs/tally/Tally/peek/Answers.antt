use Rattle.std.proofs.Common.{◌≡◌, sym, ◌∙◌, refl}
use Rattle.flp_tally.specs.declared.view.View.{View}
use Rattle.flp_tally.specs.Views.{Owns, with_seen, with_missed}
use Rattle.flp_tally.specs.Rule.{claim_word}
use Rattle.flp_tally.proofs.Allowed.{either_way}
use Rattle.flp_tally.proofs.tally.Tally.peek.Goals as goal

pub invariant_of-seat : goal.invariant_of-seat
invariant_of-seat c = let v = c.seat.inside.place.me.0 in let x = c.args.number in
    let kept = either_way (λ (u : View). (u.weight ≡ v.weight) × Owns u) x (claim_word x) c.look-word.result v (with_missed v x) (with_seen v x) c.look-word.new.place.me.0 c.look-word.ensures.peeked (refl, c.seat.invariant.3) (refl, c.seat.invariant.3) in
    (c.seat.invariant.0 ∙ sym kept.0, c.seat.invariant.1, c.look-word.ensures.slots ∙ c.seat.invariant.2, kept.1)
