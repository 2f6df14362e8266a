-- Where no sort is at fault, a body is linear.
use Rattle.std.proofs.Common.{◌≡◌, Bool, true, false, ◌&&◌, ◌||◌, List, [], ◌∷◌, ◌++◌}
use Rattle.std.specs.Prelude.{not}
use Rattle.flp_syntax.specs.Tree.{Tree, number, var, joint, meas, meas_or_zero, sum, call, add, mul, pow, Items, no_items, item_on, Trees, no_trees, tree_on, Argument, one, each_arg, Arguments, no_args, arg_on, Statement, check, out, each, Statements, no_stmts, stmt_on, Declaration, tree_at}
use Rattle.flp_syntax.specs.Sorts.{is_shared, has_shared_item}
use Rattle.flp_check.specs.declared.flaw.Rule.TheVariants.{Name, NotLinear}
use Rattle.flp_check.specs.Flaws.{is_gadget, flaw_if, index_flaws, range_flaws, tree_flaws, items_flaws, factors_flaws, arg_flaws, args_flaws, stmt_flaws, stmts_flaws}
use Rattle.flp_syntax.specs.Scope.{Names}
use Rattle.flp_syntax.specs.Linear.{TreeIsLinear, ItemsAreLinear, FactorsAreLinear, ArgumentIsLinear, ArgumentsAreLinear, StatementIsLinear, StatementsAreLinear}
use Rattle.flp_check.proofs.Clean.{append-none, no_flaw, is_bound}

mutual
  tree_linear : (g : List Declaration) (ns : Names) (o : Bool) (x : Tree) → tree_flaws g ns o x ≡ [] → TreeIsLinear o x
  tree_linear g ns o (number at value) k = tt
  tree_linear g ns o (var at name) k = tt
  tree_linear g ns o (joint at index) k = no_flaw o at NotLinear (append-none (flaw_if o at NotLinear) (index_flaws ns index) k).0
  tree_linear g ns o (meas at index) k = tt
  tree_linear g ns o (meas_or_zero at index) k = tt
  tree_linear g ns o (sum at name from to inner) k = tree_linear g (ns ++ name ∷ []) o inner (append-none (range_flaws g ns at name from to) (tree_flaws g (ns ++ name ∷ []) o inner) k).1
  tree_linear g ns o (call at name args) k =
      let more = (append-none (flaw_if (not (is_gadget g name)) at Name) (flaw_if o at NotLinear ++ args_flaws g ns o args) k).1 in
      let nils = append-none (flaw_if o at NotLinear) (args_flaws g ns o args) more in
      (no_flaw o at NotLinear nils.0, args_linear g ns o args nils.1)
  tree_linear g ns o (add at items) k = items_linear g ns o (o && has_shared_item items) items k
  tree_linear g ns o (mul at factors) k = factors_linear g ns o false factors k
  tree_linear g ns o (pow at base exponent) k =
      let nils = append-none (flaw_if (is_shared base) at NotLinear) (tree_flaws g ns o base ++ index_flaws ns exponent) k in
      (no_flaw (is_shared base) at NotLinear nils.0, tree_linear g ns o base (append-none (tree_flaws g ns o base) (index_flaws ns exponent) nils.1).0)

  items_linear : (g : List Declaration) (ns : Names) (o m : Bool) (x : Items) → items_flaws g ns o m x ≡ [] → ItemsAreLinear o m x
  items_linear g ns o m no_items k = tt
  items_linear g ns o m (item_on minus expr rest) k =
      let nils = append-none (flaw_if (m && not (is_shared expr)) (tree_at expr) NotLinear) (tree_flaws g ns o expr ++ items_flaws g ns o m rest) k in
      let more = append-none (tree_flaws g ns o expr) (items_flaws g ns o m rest) nils.1 in
      (no_flaw (m && not (is_shared expr)) (tree_at expr) NotLinear nils.0, tree_linear g ns o expr more.0, items_linear g ns o m rest more.1)

  factors_linear : (g : List Declaration) (ns : Names) (o b : Bool) (x : Trees) → factors_flaws g ns o b x ≡ [] → FactorsAreLinear o b x
  factors_linear g ns o b no_trees k = tt
  factors_linear g ns o b (tree_on expr rest) k =
      let nils = append-none (flaw_if (b && is_shared expr) (tree_at expr) NotLinear) (tree_flaws g ns o expr ++ factors_flaws g ns o (b || is_shared expr) rest) k in
      let more = append-none (tree_flaws g ns o expr) (factors_flaws g ns o (b || is_shared expr) rest) nils.1 in
      (no_flaw (b && is_shared expr) (tree_at expr) NotLinear nils.0, tree_linear g ns o expr more.0, factors_linear g ns o (b || is_shared expr) rest more.1)

  arg_linear : (g : List Declaration) (ns : Names) (o : Bool) (x : Argument) → arg_flaws g ns o x ≡ [] → ArgumentIsLinear o x
  arg_linear g ns o (one expr) k = tree_linear g ns o expr k
  arg_linear g ns o (each_arg at name from to inner) k = args_linear g (ns ++ name ∷ []) o inner (append-none (range_flaws g ns at name from to) (args_flaws g (ns ++ name ∷ []) o inner) k).1

  args_linear : (g : List Declaration) (ns : Names) (o : Bool) (x : Arguments) → args_flaws g ns o x ≡ [] → ArgumentsAreLinear o x
  args_linear g ns o no_args k = tt
  args_linear g ns o (arg_on arg more) k =
      let nils = append-none (arg_flaws g ns o arg) (args_flaws g ns o more) k in
      (arg_linear g ns o arg nils.0, args_linear g ns o more nils.1)

mutual
  stmt_linear : (g : List Declaration) (ns : Names) (x : Statement) → stmt_flaws g ns x ≡ [] → StatementIsLinear x
  stmt_linear g ns (check at expr) k = tree_linear g ns false expr k
  stmt_linear g ns (out at expr) k =
      let nils = append-none (flaw_if (not (is_shared expr)) (tree_at expr) NotLinear) (tree_flaws g ns true expr) k in
      (is_bound (is_shared expr) (tree_at expr) NotLinear nils.0, tree_linear g ns true expr nils.1)
  stmt_linear g ns (each at name from to inner) k = stmts_linear g (ns ++ name ∷ []) inner (append-none (range_flaws g ns at name from to) (stmts_flaws g (ns ++ name ∷ []) inner) k).1

  pub stmts_linear : (g : List Declaration) (ns : Names) (x : Statements) → stmts_flaws g ns x ≡ [] → StatementsAreLinear x
  stmts_linear g ns no_stmts k = tt
  stmts_linear g ns (stmt_on stmt more) k =
      let nils = append-none (stmt_flaws g ns stmt) (stmts_flaws g ns more) k in
      (stmt_linear g ns stmt nils.0, stmts_linear g ns more nils.1)
