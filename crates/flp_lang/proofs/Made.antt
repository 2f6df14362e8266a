-- What the makers of sums and products make.
use Rattle.std.proofs.Common.{ℕ, ◌<◌, Bool, true, false, List, [], ◌∷◌, length, map, ◌≡◌, refl, ◌∙◌, arith, ◌==◌}
use Rattle.std.proofs.lemmas.Bool.Decides.{nat_tests}
use Rattle.flp_syntax.specs.declared.syntax.Expr.{Expr}
use Rattle.flp_syntax.specs.declared.syntax.Expr.TheVariants as expr
use Rattle.flp_syntax.specs.declared.syntax.Item.{Item, roll-Item}
use Rattle.flp_syntax.specs.View.{tree_of, item_of, tree_of_Add, tree_of_Mul, item_of_roll}
use Rattle.flp_syntax.specs.Tree.{tree_at, sum_of, product_of, index_sum, index_product, index_at}
use Rattle.flp_syntax.specs.View.{index_of, index_item_of, index_of_Add, index_of_Mul, index_item_of_roll}
use Rattle.flp_syntax.specs.declared.syntax.Idx.{Idx}
use Rattle.flp_syntax.specs.declared.syntax.Idx.TheVariants as idx
use Rattle.flp_syntax.specs.declared.syntax.IdxItem.{IdxItem, roll-IdxItem}

-- a length that is not 0
pub nonzero : (n m : ℕ) → n ≡ m → (n == 0) ≡ false → 0 < m
nonzero n m e h = grind (arith, nat_tests)

pub index_sum_made : (at : ℕ) (first : Idx) (more xs : List IdxItem) → 0 < length more → at ≡ index_at (index_of first) → xs ≡ roll-IdxItem (record { minus = false; idx = first }) ∷ more → index_of (idx.Add at xs) ≡ index_sum (index_of first) (map index_item_of more)
index_sum_made at first [] xs h i e = absurd (omega arith)
index_sum_made at first (x ∷ more) xs h i e = index_of_Add at xs ∙ rw (e, i, index_item_of_roll false first) refl

pub index_product_made : (at : ℕ) (first : Idx) (more xs : List Idx) → 0 < length more → at ≡ index_at (index_of first) → xs ≡ first ∷ more → index_of (idx.Mul at xs) ≡ index_product (index_of first) (map index_of more)
index_product_made at first [] xs h i e = absurd (omega arith)
index_product_made at first (x ∷ more) xs h i e = index_of_Mul at xs ∙ rw (e, i) refl

pub sum_made : (at : ℕ) (minus : Bool) (first : Expr) (more xs : List Item) → (minus ≡ false → 0 < length more) → at ≡ tree_at (tree_of first) → xs ≡ roll-Item (record { minus = minus; expr = first }) ∷ more → tree_of (expr.Add at xs) ≡ sum_of minus (tree_of first) (map item_of more)
sum_made at true first more xs h i e = tree_of_Add at xs ∙ rw (e, i, item_of_roll true first) refl
sum_made at false first [] xs h i e = let g : 0 < 0 = h refl in absurd (omega arith)
sum_made at false first (x ∷ more) xs h i e = tree_of_Add at xs ∙ rw (e, i, item_of_roll false first) refl

pub product_made : (at : ℕ) (first : Expr) (more xs : List Expr) → 0 < length more → at ≡ tree_at (tree_of first) → xs ≡ first ∷ more → tree_of (expr.Mul at xs) ≡ product_of (tree_of first) (map tree_of more)
product_made at first [] xs h i e = absurd (omega arith)
product_made at first (x ∷ more) xs h i e = tree_of_Mul at xs ∙ rw (e, i) refl
