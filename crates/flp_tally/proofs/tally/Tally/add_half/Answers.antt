use Rattle.std.proofs.Common.{◌≡◌, ℕ, ◌∙◌, ap, sym, subst}
use Rattle.flp_tally.specs.declared.view.View.{View}
use Rattle.flp_tally.specs.declared.view.Entry.{Entry}
use Rattle.flp_tally.specs.Held.{Held}
use Rattle.flp_tally.specs.Views.{Owns, MayAdd, with_entry}
use Rattle.flp_tally.proofs.Lists.{owns-with_entry}
use Rattle.flp_tally.proofs.tally.Tally.add_half.Goals as goal

-- a view that may add an entry, and has added it
owns_after : (m : ℕ) (v w : View) (e : Entry) → MayAdd m v e → Owns v → w ≡ with_entry v e → Owns w
owns_after m v w e may owns is = subst Owns (sym is) (owns-with_entry v e may.claimed may.free owns)

pub invariant_of-seat : goal.invariant_of-seat
invariant_of-seat c = let v = c.seat.inside.place.me.0 in let e = c.args.entry in let is = c.note.ensures.added in (
  c.seat.invariant.0 ∙ sym (ap (λ (u : View). u.weight) is),
  c.seat.invariant.1,
  c.note.ensures.slots ∙ c.seat.invariant.2,
  owns_after c.args.self.now.elements v c.note.new.place.me.0 e (subst (λ (h : Held). MayAdd c.args.self.now.elements h.view e) (sym c.seat.view_is) c.requires.may_add) c.seat.invariant.3 is,
)

pub invariant_of-seat-2 : goal.invariant_of-seat-2
invariant_of-seat-2 c = let v = c.seat.inside.place.me.0 in let e = c.args.entry in let is = c.put.ensures.added in (
  c.seat.invariant.0 ∙ sym (ap (λ (u : View). u.weight) is),
  c.seat.invariant.1,
  c.put.ensures.slots ∙ c.seat.invariant.2,
  owns_after c.args.self.now.elements v c.put.new.place.me.0 e (subst (λ (h : Held). MayAdd c.args.self.now.elements h.view e) (sym c.seat.view_is) c.requires.may_add) c.seat.invariant.3 is,
)
