-- In a well-formed body every flaw is at a token whose number fits 32 bits.
use Rattle.std.proofs.Common.{◌≡◌, ℕ, suc, ◌<◌, ◌^◌, Bool, true, false, cond, ◌&&◌, ◌||◌, List, [], ◌∷◌, ◌++◌, Option, None, Some, subst, arith}
use Rattle.std.specs.Prelude.{IfSome}
use Rattle.flp_syntax.specs.Tree.{Index, index_number, index_var, index_add, index_mul, IndexItems, no_index_items, index_item_on, Indices, no_indices, index_on, Tree, number, var, joint, meas, meas_or_zero, sum, call, add, mul, pow, Items, no_items, item_on, Trees, no_trees, tree_on, Argument, one, each_arg, Arguments, no_args, arg_on, Statement, check, out, each, Statements, no_stmts, stmt_on, Declaration, Program, tree_at}
use Rattle.flp_syntax.specs.Sorts.{is_shared, has_shared_item}
use Rattle.flp_syntax.specs.WellFormed.{IndexIsWell, IndexItemsAreWell, IndicesAreWell, TreeIsWell, ItemsAreWell, TreesAreWell, ArgumentIsWell, ArgumentsAreWell, StatementIsWell, StatementsAreWell, DeclarationsAreWell, ProgramIsWell}
use Rattle.flp_check.specs.declared.flaw.Flaw.{Flaw}
use Rattle.flp_check.specs.declared.flaw.Rule.{Rule}
use Rattle.flp_check.specs.Flaws.{flaw_if, earlier_of, first_flaw, index_flaws, index_items_flaws, indices_flaws, range_flaws, tree_flaws, items_flaws, factors_flaws, arg_flaws, args_flaws, stmt_flaws, stmts_flaws, declarations_flaws, text_flaws}
use Rattle.flp_syntax.specs.Scope.{Names}

abbrev pub FlawFits : Flaw → Type 0
FlawFits flaw = flaw.at < 2 ^ 32

abbrev pub AllFit : List Flaw → Type 0
AllFit [] = Unit {0}
AllFit (flaw ∷ more) = FlawFits flaw × AllFit more

if_fits : (b : Bool) (at : ℕ) (rule : Rule) → at < 2 ^ 32 → AllFit (flaw_if b at rule)
if_fits true at rule h = (h, tt)
if_fits false at rule h = tt

both_fit : (xs ys : List Flaw) → AllFit xs → AllFit ys → AllFit (xs ++ ys)
both_fit [] ys h k = k
both_fit (x ∷ xs) ys h k = (h.0, both_fit xs ys h.1 k)

mutual
  index_fits : (ns : Names) (x : Index) → IndexIsWell x → AllFit (index_flaws ns x)
  index_fits ns (index_number at value) w = tt
  index_fits ns (index_var at name) w = if_fits _ at _ (omega arith)
  index_fits ns (index_add at items) w = index_items_fit ns items w.2
  index_fits ns (index_mul at factors) w = indices_fit ns factors w.2

  index_items_fit : (ns : Names) (x : IndexItems) → IndexItemsAreWell x → AllFit (index_items_flaws ns x)
  index_items_fit ns no_index_items w = tt
  index_items_fit ns (index_item_on minus index more) w = both_fit _ _ (index_fits ns index w.0) (index_items_fit ns more w.1)

  indices_fit : (ns : Names) (x : Indices) → IndicesAreWell x → AllFit (indices_flaws ns x)
  indices_fit ns no_indices w = tt
  indices_fit ns (index_on index more) w = both_fit _ _ (index_fits ns index w.0) (indices_fit ns more w.1)

range_fits : (g : List Declaration) (ns : Names) (at : ℕ) (name : List ℕ) (from to : Index) → at < 4294967295 → IndexIsWell from → IndexIsWell to → AllFit (range_flaws g ns at name from to)
range_fits g ns at name from to h f t = both_fit _ _ (if_fits _ (suc at) _ (omega arith)) (both_fit _ _ (index_fits ns from f) (index_fits ns to t))

at_fits : (x : Tree) → TreeIsWell x → tree_at x < 2 ^ 32
at_fits (number at value) w = omega arith
at_fits (var at name) w = omega arith
at_fits (joint at index) w = omega arith
at_fits (meas at index) w = omega arith
at_fits (meas_or_zero at index) w = omega arith
at_fits (sum at name from to inner) w = omega arith
at_fits (call at name args) w = omega arith
at_fits (add at items) w = omega arith
at_fits (mul at factors) w = omega arith
at_fits (pow at base exponent) w = omega arith

mutual
  tree_fits : (g : List Declaration) (ns : Names) (o : Bool) (x : Tree) → TreeIsWell x → AllFit (tree_flaws g ns o x)
  tree_fits g ns o (number at value) w = tt
  tree_fits g ns o (var at name) w = if_fits _ at _ (omega arith)
  tree_fits g ns o (joint at index) w = both_fit _ _ (if_fits o at _ (omega arith)) (index_fits ns index w.1)
  tree_fits g ns o (meas at index) w = index_fits ns index w.1
  tree_fits g ns o (meas_or_zero at index) w = index_fits ns index w.1
  tree_fits g ns o (sum at name from to inner) w = both_fit _ _ (range_fits g ns at name from to w.0 w.2 w.3) (tree_fits g (ns ++ name ∷ []) o inner w.4)
  tree_fits g ns o (call at name args) w = both_fit _ _ (if_fits _ at _ (omega arith)) (both_fit _ _ (if_fits o at _ (omega arith)) (args_fit g ns o args w.3))
  tree_fits g ns o (add at items) w = items_fit g ns o (o && has_shared_item items) items w.2
  tree_fits g ns o (mul at factors) w = factors_fit g ns o false factors w.2
  tree_fits g ns o (pow at base exponent) w = both_fit _ _ (if_fits _ at _ (omega arith)) (both_fit _ _ (tree_fits g ns o base w.1) (index_fits ns exponent w.2))

  items_fit : (g : List Declaration) (ns : Names) (o m : Bool) (x : Items) → ItemsAreWell x → AllFit (items_flaws g ns o m x)
  items_fit g ns o m no_items w = tt
  items_fit g ns o m (item_on minus expr more) w = both_fit _ _ (if_fits _ (tree_at expr) _ (at_fits expr w.0)) (both_fit _ _ (tree_fits g ns o expr w.0) (items_fit g ns o m more w.1))

  factors_fit : (g : List Declaration) (ns : Names) (o b : Bool) (x : Trees) → TreesAreWell x → AllFit (factors_flaws g ns o b x)
  factors_fit g ns o b no_trees w = tt
  factors_fit g ns o b (tree_on expr more) w = both_fit _ _ (if_fits _ (tree_at expr) _ (at_fits expr w.0)) (both_fit _ _ (tree_fits g ns o expr w.0) (factors_fit g ns o (b || is_shared expr) more w.1))

  arg_fits : (g : List Declaration) (ns : Names) (o : Bool) (x : Argument) → ArgumentIsWell x → AllFit (arg_flaws g ns o x)
  arg_fits g ns o (one expr) w = tree_fits g ns o expr w
  arg_fits g ns o (each_arg at name from to inner) w = both_fit _ _ (range_fits g ns at name from to w.0 w.2 w.3) (args_fit g (ns ++ name ∷ []) o inner w.5)

  args_fit : (g : List Declaration) (ns : Names) (o : Bool) (x : Arguments) → ArgumentsAreWell x → AllFit (args_flaws g ns o x)
  args_fit g ns o no_args w = tt
  args_fit g ns o (arg_on arg more) w = both_fit _ _ (arg_fits g ns o arg w.0) (args_fit g ns o more w.1)

mutual
  stmt_fits : (g : List Declaration) (ns : Names) (x : Statement) → StatementIsWell x → AllFit (stmt_flaws g ns x)
  stmt_fits g ns (check at expr) w = tree_fits g ns false expr w.1
  stmt_fits g ns (out at expr) w = both_fit _ _ (if_fits _ (tree_at expr) _ (at_fits expr w.1)) (tree_fits g ns true expr w.1)
  stmt_fits g ns (each at name from to inner) w = both_fit _ _ (range_fits g ns at name from to w.0 w.2 w.3) (stmts_fit g (ns ++ name ∷ []) inner w.5)

  stmts_fit : (g : List Declaration) (ns : Names) (x : Statements) → StatementsAreWell x → AllFit (stmts_flaws g ns x)
  stmts_fit g ns no_stmts w = tt
  stmts_fit g ns (stmt_on stmt more) w = both_fit _ _ (stmt_fits g ns stmt w.0) (stmts_fit g ns more w.1)

declarations_fit : (earlier ds : List Declaration) → DeclarationsAreWell ds → AllFit (declarations_flaws earlier ds)
declarations_fit earlier [] w = tt
declarations_fit earlier (d ∷ ds) w = both_fit _ _ (if_fits _ (suc d.at) _ (omega arith)) (declarations_fit (earlier ++ d ∷ []) ds w.3)

text_fits : (p : Program) → ProgramIsWell p → AllFit (text_flaws p)
text_fits p w = both_fit _ _ (declarations_fit [] p.gadgets w.1) (stmts_fit p.gadgets [] p.stmts w.3)

one_of : (t : Bool) (x y : Flaw) → FlawFits x → FlawFits y → IfSome (cond t (Some y) (Some x)) FlawFits
one_of true x y h k = k
one_of false x y h k = h

earlier_fits : (x : Flaw) (b : Option Flaw) → FlawFits x → IfSome b FlawFits → IfSome (earlier_of (Some x) b) FlawFits
earlier_fits x None h k = h
earlier_fits x (Some y) h k = one_of _ x y h k

first_fits : (xs : List Flaw) → AllFit xs → IfSome (first_flaw xs) FlawFits
first_fits [] h = tt
first_fits (x ∷ xs) h = earlier_fits x (first_flaw xs) h.0 (first_fits xs h.1)

-- so it is with the first one
pub first_flaw_fits : (p : Program) → ProgramIsWell p → IfSome (first_flaw (text_flaws p)) FlawFits
first_flaw_fits p w = first_fits (text_flaws p) (text_fits p w)

pub flaw_fits : (p : Program) → ProgramIsWell p → (flaw : Flaw) → first_flaw (text_flaws p) ≡ Some flaw → flaw.at < 2 ^ 32
flaw_fits p w flaw e = let P : Option Flaw → Type 0 = λ o. IfSome o FlawFits in subst P e (first_flaw_fits p w)
