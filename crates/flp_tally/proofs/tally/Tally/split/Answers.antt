use Rattle.std.proofs.Common.{rules, arith, ap, sym, ◌∙◌, subst, ℕ, List}
use Rattle.flp_tally.specs.declared.view.View.{View}
use Rattle.flp_tally.specs.Views.{Owns}
use Rattle.flp_tally.specs.Held.{Held}
use Rattle.flp_tally.proofs.Allowed.{split_allowed}
use Rattle.flp_tally.proofs.tally.Tally.split.Goals as goal

pub split_seat-other-requires : goal.split_seat-other-requires
split_seat-other-requires c = let w = ap (λ (h : Held). h.view.weight) c.seat.view_is in
    (search rules, omega (arith, c.self.invariant.0), split_allowed c.self.inside.table.shared.key c.seat.inside.place.id c.seat.inside.place.me.0 (omega (arith, c.requires.weight)))

pub invariant_of-result : goal.invariant_of-result
invariant_of-result c = let w = ap (λ (h : Held). h.view.weight) c.seat.view_is in let is = ap (λ (v : View × List (ℕ × ℕ)). v.0.weight) c.split_seat-other.ensures.2 in (
  omega (arith, c.seat.invariant.0),
  omega (arith, c.requires.weight),
  ap (λ (v : View × List (ℕ × ℕ)). v.1) c.split_seat-other.ensures.2 ∙ c.seat.invariant.2,
  subst (λ (v : View × List (ℕ × ℕ)). Owns v.0) (sym c.split_seat-other.ensures.2) c.seat.invariant.3,
)
