-- Which expressions are shared: those that read words of the encoding or answers of gadgets. All others are public.
use Rattle.std.specs.Prelude.{Bool, true, false, ◌||◌}
use Rattle.flp_syntax.specs.Tree.{Tree, number, var, joint, meas, meas_or_zero, sum, call, add, mul, pow, Items, no_items, item_on, Trees, no_trees, tree_on}

abbrev mutual
  pub is_shared : Tree → Bool
  is_shared (number at value) = false
  is_shared (var at name) = false
  is_shared (joint at index) = false
  is_shared (meas at index) = true
  is_shared (meas_or_zero at index) = true
  is_shared (sum at name from to inner) = is_shared inner
  is_shared (call at name args) = true
  is_shared (add at items) = has_shared_item items
  is_shared (mul at factors) = has_shared factors
  is_shared (pow at base exponent) = is_shared base

  -- some item is shared
  pub has_shared_item : Items → Bool
  has_shared_item no_items = false
  has_shared_item (item_on minus expr more) = is_shared expr || has_shared_item more

  -- some factor is shared
  pub has_shared : Trees → Bool
  has_shared no_trees = false
  has_shared (tree_on expr more) = is_shared expr || has_shared more
