-- The working room of provers, for the sizes that it was made for. From a gadget up.
use Rattle.std.specs.Prelude.{ℕ, ◌≡◌, ◌+◌, ◌-◌, ◌*◌, ◌^◌}
use Rattle.flp_syntax.specs.Tree.{Program}
use Rattle.flp_meaning.specs.Gadgets.{ceil_log}
use Rattle.flp_meaning.specs.Lengths.{coefficient_count}
use Rattle.flp_plan.specs.declared.sizes.GadgetSize.{GadgetSize}
use Rattle.flp_plan.specs.declared.sizes.Sizes.{Sizes}
use Rattle.flp_plan.specs.Sizes.{AreEnough, calls_in, domain_points, words_of_rows}

-- the points on which a gadget is evaluated: the least power of two with a point for each coefficient
abbrev pub points_of : Program → ℕ → ℕ
points_of circuit gadget = 2 ^ ceil_log (coefficient_count circuit gadget)

-- these points, and a word for each input at each of them
abbrev pub larger_points : GadgetSize → ℕ
larger_points gadget = 2 ^ ceil_log (gadget.degree * (domain_points gadget - 1) + 1)

abbrev pub words_of_wires : GadgetSize → ℕ
words_of_wires gadget = gadget.arity * larger_points gadget

-- so many words hold the public values, the inputs of any call, and the values of all calls
pub record HoldsCalls (sizes : Sizes) (publics inputs values : ℕ) : Type 0 where
  pub for_publics : publics ≡ sizes.publics
  pub for_inputs : inputs ≡ 1024
  pub for_values : values ≡ calls_in sizes.gadgets

-- so many words hold the rows of any gadget, its wires and their values at a point, and the values of the gadget
pub record HoldsWires (sizes : Sizes) (rows wires inputs values : ℕ) : Type 0 where
  pub for_rows : AreEnough words_of_rows sizes.gadgets rows
  pub for_wires : AreEnough words_of_wires sizes.gadgets wires
  pub for_inputs : inputs ≡ 1024
  pub for_values : values ≡ 32768
