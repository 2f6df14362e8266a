-- The text of steps by which a kind is made, from the outermost step inward.
use Rattle.std.specs.Prelude.{List, [], ◌∷◌, Option, Some, None}
use Rattle.std.specs.Option.{option_map}
use Rattle.flp_gadget.specs.declared.kind_step.KindStep.{KindStep}
use Rattle.flp_gadget.specs.declared.kind_step.KindStep.TheVariants.{Mul as MulStep, Poly as PolyStep, Psum as PsumStep}
use Rattle.flp_gadget.specs.KindTree.{KindTree, Mul, Poly, Psum}

-- a leaf with nothing after it
abbrev pub last_leaf : KindTree → List KindStep → Option KindTree
last_leaf leaf [] = Some leaf
last_leaf leaf (step ∷ steps) = None

-- the tree that the steps make, if they are sums first, then one leaf and nothing after it
abbrev pub tree_of : List KindStep → Option KindTree
tree_of [] = None
tree_of (MulStep ∷ steps) = last_leaf Mul steps
tree_of (PolyStep poly ∷ steps) = last_leaf (Poly poly.coeffs) steps
tree_of (PsumStep count ∷ steps) = option_map (λ sub. Psum sub count) (tree_of steps)
