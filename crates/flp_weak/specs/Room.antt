-- The room in which lies are looked for, for the sizes that it was made for.
use Rattle.std.specs.Prelude.{ℕ, ◌≡◌}
use Rattle.flp_plan.specs.declared.sizes.Sizes.{Sizes}
use Rattle.flp_plan.specs.Sizes.{calls_in}
use Rattle.flp_query.specs.Room.{most_points}

-- the coefficients that a gadget has at most
abbrev pub most_coefficients : ℕ
most_coefficients = 32761

-- so many words hold the public values, what a proof answers to all calls, the values of any gadget on its domain, and its coefficients
pub record HoldsLies (sizes : Sizes) (publics answers points formula : ℕ) : Type 0 where
  pub for_publics : publics ≡ sizes.publics
  pub for_answers : answers ≡ calls_in sizes.gadgets
  pub for_points : points ≡ most_points
  pub for_formula : formula ≡ most_coefficients
