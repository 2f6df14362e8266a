-- A kind in its flat form: a leaf over as many consecutive groups as the product of the counts.
use Rattle.std.specs.Prelude.{ℕ, ◌≡◌, ◌*◌, List, [], ◌∷◌}
use Rattle.flp_gadget.specs.declared.leaf.Leaf.{Leaf}
use Rattle.flp_gadget.specs.declared.leaf.Leaf.TheVariants.{Product, Polynomial}
use Rattle.flp_gadget.specs.KindTree.{KindTree, Mul, Poly, tree_over, IsKind}

-- the tree of a leaf
abbrev pub leaf_tree : Leaf → KindTree
leaf_tree Product = Mul
leaf_tree (Polynomial poly) = Poly poly.coeffs

-- the product of the counts
abbrev pub product_of : List ℕ → ℕ
product_of [] = 1
product_of (count ∷ counts) = count * product_of counts

-- so many groups stand for these counts over this leaf
pub record IsFlat (counts : List ℕ) (groups : ℕ) (leaf : KindTree) : Type 0 where
  pub product : groups ≡ product_of counts
  pub kind : IsKind (tree_over counts leaf)
