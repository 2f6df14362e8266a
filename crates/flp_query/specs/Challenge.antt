-- What the shares of a proof have in common. From the weights of one gadget up to what a challenge holds.
use Rattle.std.specs.Prelude.{ℕ, ◌≡◌, List}
use Rattle.std.specs.List.{flat_map}
use Rattle.flp_poly.specs.Weights.{weights}
use Rattle.flp_syntax.specs.Tree.{Program}
use Rattle.flp_meaning.specs.Gadgets.{gadgets_of, size_of}
use Rattle.flp_meaning.specs.Verifier.{point_of}
use Rattle.flp_plan.specs.View.{Compiled, publics_of}
use Rattle.flp_plan.specs.declared.sizes.Sizes.{Sizes}
use Rattle.flp_query.specs.Unit.{share_unit}

-- the weights of the points of a gadget's domain at its query point, and those of all gadgets, one after another
abbrev pub weights_of : Program → List ℕ → ℕ → List ℕ
weights_of body query gadget = weights (size_of body gadget) (point_of body query gadget)

abbrev pub all_weights : Program → List ℕ → List ℕ
all_weights body query = flat_map (weights_of body query) (gadgets_of body)

-- a challenge: the sizes that it was made for, and of what was posed last the public values, the query words, the
-- weights, and what 1 counts as on a share
pub record Posed : Type 0 where
  pub sizes : Sizes
  pub publics : List ℕ
  pub words : List ℕ
  pub weights : List ℕ
  pub unit : ℕ

-- under these joint words and query words, to so many shares
pub record IsPosed (plan : Compiled) (joint query : List ℕ) (shares : ℕ) (challenge : Posed) : Type 0 where
  pub publics : challenge.publics ≡ publics_of plan joint
  pub words : challenge.words ≡ query
  pub weights : challenge.weights ≡ all_weights plan.circuit query
  pub unit : challenge.unit ≡ share_unit shares
