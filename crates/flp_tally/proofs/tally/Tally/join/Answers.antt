use Rattle.std.proofs.Common.{rules, arith, ap, sym, ◌∙◌, subst, ℕ, ◌≡◌, List}
use Rattle.flp_tally.specs.declared.view.View.{View}
use Rattle.flp_tally.specs.Views.{Owns, NoneTwice, SeenIsClaimed, joined_view}
use Rattle.flp_tally.proofs.Allowed.{join_allowed, learn_allowed}
use Rattle.flp_tally.proofs.Lists.{owns-joined_view}
use Rattle.flp_tally.proofs.tally.Tally.join.Goals as goal

pub join_seat-requires : goal.join_seat-requires
join_seat-requires c = (
  search rules,
  search rules,
  search rules,
  omega (arith, c.self.invariant.0),
  join_allowed c.self.inside.table.shared.key c.first.inside.place.id c.second.inside.place.id c.first.inside.place.me.0 c.second.inside.place.me.0 (omega (arith, c.first.invariant.0, c.first.invariant.1)),
)

pub load-requires : goal.load-requires
load-requires c = let w = ap (λ (v : View × List (ℕ × ℕ)). v.0.weight) c.join_seat.ensures.2 in
    (search rules, omega (arith, c.self.invariant.0), learn_allowed c.self.inside.table.shared.key c.self.inside.table.shared.table_id.slots c.join_seat.new.seat.id c.join_seat.new.seat.me (omega (arith, c.first.invariant.0, c.first.invariant.1)))

pub invariant_of-result : goal.invariant_of-result
invariant_of-result c = let v = c.first.inside.place.me.0 in let w = c.second.inside.place.me.0 in
    let is : c.load.new.seat.me.0 ≡ joined_view v w = c.load.ensures.2.0.same ∙ ap (λ (p : View × List (ℕ × ℕ)). p.0) c.join_seat.ensures.2 in
    let weight = ap (λ (u : View). u.weight) is in (
      omega (arith, c.first.invariant.0, c.second.invariant.0),
      omega (arith, c.first.invariant.1),
      c.load.ensures.2.1 ∙ (ap (λ (p : View × List (ℕ × ℕ)). p.1) c.join_seat.ensures.2 ∙ c.first.invariant.2),
      subst Owns (sym is) (owns-joined_view v w c.first.invariant.3 c.second.invariant.3),
    )

pub returns-clause-once : goal.returns-clause-once
returns-clause-once c = subst (λ (u : View). NoneTwice u.claimed) (sym c.load.ensures.2.0.same) c.load.ensures.2.0.once

pub returns-clause-all : goal.returns-clause-all
returns-clause-all c = subst (λ (u : View). u.weight ≡ u.full → SeenIsClaimed u) (sym c.load.ensures.2.0.same) c.load.ensures.2.0.whole
