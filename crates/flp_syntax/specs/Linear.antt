-- Circuits that are linear in what is shared: no two shared values are multiplied but in a gadget, and an out is linear in the encoding alone.
-- From expressions up to the whole circuit.
use Rattle.std.specs.Prelude.{◌≡◌, Bool, true, false, ◌&&◌, ◌||◌, not}
use Rattle.flp_syntax.specs.Tree.{Tree, number, var, joint, meas, meas_or_zero, sum, call, add, mul, pow, Items, no_items, item_on, Trees, no_trees, tree_on, Argument, one, each_arg, Arguments, no_args, arg_on, Statement, check, out, each, Statements, no_stmts, stmt_on, Program}
use Rattle.flp_syntax.specs.Sorts.{is_shared, has_shared_item}

-- a product has at most one shared factor, and a power no shared base; in an out there is no joint word and no call, and no public item in a sum
-- that has a shared one
abbrev mutual
  pub TreeIsLinear : (in_out : Bool) → Tree → Type 0
  TreeIsLinear in_out (number at value) = Unit {0}
  TreeIsLinear in_out (var at name) = Unit {0}
  TreeIsLinear in_out (joint at index) = in_out ≡ false
  TreeIsLinear in_out (meas at index) = Unit {0}
  TreeIsLinear in_out (meas_or_zero at index) = Unit {0}
  TreeIsLinear in_out (sum at name from to inner) = TreeIsLinear in_out inner
  TreeIsLinear in_out (call at name args) = (in_out ≡ false) × ArgumentsAreLinear in_out args
  TreeIsLinear in_out (add at items) = ItemsAreLinear in_out (in_out && has_shared_item items) items
  TreeIsLinear in_out (mul at factors) = FactorsAreLinear in_out false factors
  TreeIsLinear in_out (pow at base exponent) = (is_shared base ≡ false) × TreeIsLinear in_out base

  -- the items of a sum, which are all shared where one must be
  pub ItemsAreLinear : (in_out all_shared : Bool) → Items → Type 0
  ItemsAreLinear in_out all_shared no_items = Unit {0}
  ItemsAreLinear in_out all_shared (item_on minus expr more) =
      ((all_shared && not (is_shared expr)) ≡ false) × TreeIsLinear in_out expr × ItemsAreLinear in_out all_shared more

  -- the factors of a product, behind a shared one or not
  pub FactorsAreLinear : (in_out behind : Bool) → Trees → Type 0
  FactorsAreLinear in_out behind no_trees = Unit {0}
  FactorsAreLinear in_out behind (tree_on expr more) =
      ((behind && is_shared expr) ≡ false)
      × TreeIsLinear in_out expr
      × FactorsAreLinear in_out (behind || is_shared expr) more

  pub ArgumentIsLinear : (in_out : Bool) → Argument → Type 0
  ArgumentIsLinear in_out (one expr) = TreeIsLinear in_out expr
  ArgumentIsLinear in_out (each_arg at name from to inner) = ArgumentsAreLinear in_out inner

  pub ArgumentsAreLinear : (in_out : Bool) → Arguments → Type 0
  ArgumentsAreLinear in_out no_args = Unit {0}
  ArgumentsAreLinear in_out (arg_on arg more) = ArgumentIsLinear in_out arg × ArgumentsAreLinear in_out more

-- the whole expression of an out is shared
abbrev mutual
  pub StatementIsLinear : Statement → Type 0
  StatementIsLinear (check at expr) = TreeIsLinear false expr
  StatementIsLinear (out at expr) = (is_shared expr ≡ true) × TreeIsLinear true expr
  StatementIsLinear (each at name from to inner) = StatementsAreLinear inner

  pub StatementsAreLinear : Statements → Type 0
  StatementsAreLinear no_stmts = Unit {0}
  StatementsAreLinear (stmt_on stmt more) = StatementIsLinear stmt × StatementsAreLinear more

abbrev pub IsLinear : Program → Type 0
IsLinear body = StatementsAreLinear body.stmts
