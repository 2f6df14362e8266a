-- The room that a challenge has for the sizes that it was made for.
use Rattle.std.specs.Prelude.{ℕ, ◌≡◌, List}
use Rattle.std.specs.List.{sum_by}
use Rattle.flp_plan.specs.declared.sizes.GadgetSize.{GadgetSize}
use Rattle.flp_plan.specs.declared.sizes.Sizes.{Sizes}
use Rattle.flp_plan.specs.Sizes.{calls_in, domain_points}

-- the points of all domains
abbrev pub points_in : List GadgetSize → ℕ
points_in gadgets = sum_by domain_points gadgets

-- the points that a domain has at most, and the wires that a gadget has at most
abbrev pub most_points : ℕ
most_points = 4096

abbrev pub most_wires : ℕ
most_wires = 1024

-- for what the shares have in common
pub record HoldsCommon (sizes : Sizes) (publics words weights : ℕ) : Type 0 where
  pub for_publics : publics ≡ sizes.publics
  pub for_words : words ≡ sizes.lengths.query
  pub for_weights : weights ≡ points_in sizes.gadgets

-- for what stands between a share and its verifier
pub record HoldsShare (sizes : Sizes) (answers points row sums : ℕ) : Type 0 where
  pub for_answers : answers ≡ calls_in sizes.gadgets
  pub for_points : points ≡ most_points
  pub for_row : row ≡ most_wires
  pub for_sums : sums ≡ most_wires
