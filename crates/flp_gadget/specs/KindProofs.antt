-- Why each kind obeys the laws of a gadget.
use Rattle.std.proofs.Common.{◌≤◌, arith}
use Rattle.flp_gadget.specs.declared.leaf.Leaf.{Leaf}
use Rattle.flp_gadget.specs.declared.leaf.Leaf.TheVariants.{Product, Polynomial}
use Rattle.flp_gadget.specs.GadgetLaws.{GadgetLaw, IsWithinLimits}
use Rattle.flp_gadget.specs.LawProofs.{law_of_product, limits_of_product, law_of_poly, limits_of_poly, law_over_groups, positive_product}
use Rattle.flp_gadget.specs.KindTree.{KindTree, Mul, Poly, Psum, kind_arity, kind_degree, value_of, formula_of, HasParts, IsKind}
use Rattle.flp_gadget.specs.FlatKind.{leaf_tree}

pub law_of_kind : (tree : KindTree) → GadgetLaw (kind_arity tree) (kind_degree tree) (value_of tree) (formula_of tree)
law_of_kind Mul = law_of_product
law_of_kind (Poly coeffs) = law_of_poly coeffs
law_of_kind (Psum sub count) =
    law_over_groups (kind_arity sub) (value_of sub) (formula_of sub) (kind_degree sub) (law_of_kind sub) count

pub some_input : (tree : KindTree) → HasParts tree → 1 ≤ kind_arity tree
some_input Mul parts = omega arith
some_input (Poly coeffs) parts = omega arith
some_input (Psum sub count) parts = positive_product count (kind_arity sub) parts.0 (some_input sub parts.1)

some_degree : (tree : KindTree) → HasParts tree → 1 ≤ kind_degree tree
some_degree Mul parts = omega arith
some_degree (Poly coeffs) parts = (limits_of_poly coeffs parts.0 parts.1).some_degree
some_degree (Psum sub count) parts = some_degree sub parts.1

low_degree : (tree : KindTree) → HasParts tree → kind_degree tree ≤ 8
low_degree Mul parts = omega arith
low_degree (Poly coeffs) parts = (limits_of_poly coeffs parts.0 parts.1).low_degree
low_degree (Psum sub count) parts = low_degree sub parts.1

pub limits_of_kind : (tree : KindTree) → IsKind tree → IsWithinLimits (kind_arity tree) (kind_degree tree)
limits_of_kind tree kind = record {
  some_input = some_input tree kind.parts;
  few_inputs = kind.few_inputs;
  some_degree = some_degree tree kind.parts;
  low_degree = low_degree tree kind.parts;
}

pub limits_of_leaf : (leaf : Leaf) → IsWithinLimits (kind_arity (leaf_tree leaf)) (kind_degree (leaf_tree leaf))
limits_of_leaf Product = limits_of_product
limits_of_leaf (Polynomial poly) = limits_of_poly poly.coeffs poly.some poly.few
