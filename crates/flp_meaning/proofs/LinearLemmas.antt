-- Linear expressions: nothing behind a shared factor is shared, and what is linear in an out is linear anywhere.
use Rattle.std.proofs.Common.{◌≡◌, Bool, true, false, ◌&&◌, ◌||◌, refl, sym}
use Rattle.std.proofs.lemmas.Bool.{false≢true, or_left}
use Rattle.flp_syntax.specs.Tree.{Tree, number, var, joint, meas, meas_or_zero, sum, call, add, mul, pow, Items, no_items, item_on, Trees, no_trees, tree_on}
use Rattle.flp_syntax.specs.Sorts.{is_shared, has_shared}
use Rattle.flp_syntax.specs.Linear.{TreeIsLinear, ItemsAreLinear, FactorsAreLinear}

not_right : (a b : Bool) → a ≡ true → (a && b) ≡ false → b ≡ false
not_right true b h e = e
not_right false b h e = absurd (false≢true h)

both_false : (a b : Bool) → a ≡ false → b ≡ false → (a || b) ≡ false
both_false true b h e = h
both_false false b h e = e

pub behind_public : (in_out behind : Bool) (factors : Trees) → behind ≡ true → FactorsAreLinear in_out behind factors → has_shared factors ≡ false
behind_public in_out behind no_trees h linear = refl
behind_public in_out behind (tree_on expr more) h linear =
    both_false (is_shared expr) (has_shared more) (not_right behind (is_shared expr) h linear.0)
    (behind_public in_out (behind || is_shared expr) more (or_left behind (is_shared expr) h) linear.2)

mutual
  pub linear_weaker : (tree : Tree) → TreeIsLinear true tree → TreeIsLinear false tree
  linear_weaker (number at value) h = tt
  linear_weaker (var at name) h = tt
  linear_weaker (joint at index) h = refl
  linear_weaker (meas at index) h = tt
  linear_weaker (meas_or_zero at index) h = tt
  linear_weaker (sum at name from to inner) h = linear_weaker inner h
  linear_weaker (call at name args) h = absurd (false≢true (sym h.0))
  linear_weaker (add at items) h = items_weaker _ items h
  linear_weaker (mul at factors) h = factors_weaker false factors h
  linear_weaker (pow at base exponent) h = (h.0, linear_weaker base h.1)

  items_weaker : (all_shared : Bool) (items : Items) → ItemsAreLinear true all_shared items → ItemsAreLinear false false items
  items_weaker all_shared no_items h = tt
  items_weaker all_shared (item_on minus expr more) h = (refl, linear_weaker expr h.1, items_weaker all_shared more h.2)

  factors_weaker : (behind : Bool) (factors : Trees) → FactorsAreLinear true behind factors → FactorsAreLinear false behind factors
  factors_weaker behind no_trees h = tt
  factors_weaker behind (tree_on expr more) h = (h.0, linear_weaker expr h.1, factors_weaker _ more h.2)
