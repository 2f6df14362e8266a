use Rattle.std.proofs.Common.{◌≡◌, sym, ◌∙◌, refl, subst}
use Rattle.flp_tally.specs.declared.view.View.{View}
use Rattle.flp_tally.specs.Held.{Held}
use Rattle.flp_tally.specs.Views.{Owns, with_claimed, with_seen}
use Rattle.flp_tally.specs.Rule.{claim_word}
use Rattle.flp_tally.proofs.Allowed.{either_way}
use Rattle.flp_tally.proofs.Lists.{owns-with_claimed}
use Rattle.flp_tally.proofs.tally.Tally.claim.Goals as goal

pub invariant_of-seat : goal.invariant_of-seat
invariant_of-seat c = let v = c.seat.inside.place.me.0 in let x = c.args.number in
    let kept = either_way (λ (u : View). (u.weight ≡ v.weight) × Owns u) x (claim_word x) c.take-found.result v (with_claimed v x) (with_seen v x) c.take-found.new.place.me.0 c.take-found.ensures.claimed (refl, owns-with_claimed v x c.seat.invariant.3) (refl, c.seat.invariant.3) in
    (c.seat.invariant.0 ∙ sym kept.0, c.seat.invariant.1, c.take-found.ensures.slots ∙ c.seat.invariant.2, kept.1)

pub returns-clause-owns : goal.returns-clause-owns
returns-clause-owns c = subst (λ (h : Held). Owns h.view) c.seat.view_is c.seat.invariant.3
