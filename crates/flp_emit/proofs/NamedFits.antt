-- A circuit whose loops are named by their depth has code where it had. From indices up to statements.
use Rattle.std.proofs.Common.{ℕ, ◌*◌, ◌<◌, ◌≤◌, ◌^◌, Bool, true, false, ◌&&◌, ◌||◌, not, [], ◌∷◌, ◌++◌, length, sym, ap, subst, ◌∙◌}
use Rattle.flp_syntax.specs.Tree.{Index, index_number, index_var, index_add, index_mul, IndexItems, no_index_items, index_item_on, Indices, no_indices, index_on, Tree, number, var, joint, meas, meas_or_zero, sum, call, add, mul, pow, Items, no_items, item_on, Trees, no_trees, tree_on, Argument, one, each_arg, Arguments, no_args, arg_on, Statement, check, out, each, Statements, no_stmts, stmt_on, Program}
use Rattle.flp_syntax.specs.Sorts.{is_shared, has_shared_item}
use Rattle.flp_syntax.specs.Scope.{Scope, Names, scope_names, inside, next_front, index_value}
use Rattle.flp_syntax.specs.Fits.{CanMove, IndexFits, SumFits, ProductFits, LoopFits, CallFits, TreeFits, ItemsFit, FactorsFit, ArgumentFits, ArgumentsFit, StatementFits, StatementsFit}
use Rattle.flp_syntax.specs.Linear.{TreeIsLinear, ItemsAreLinear, FactorsAreLinear, ArgumentIsLinear, ArgumentsAreLinear, StatementIsLinear, StatementsAreLinear}
use Rattle.flp_rename.specs.Renamed.{depth_name, renamed_index, renamed_index_items, renamed_indices, renamed_tree, renamed_items, renamed_trees, renamed_argument, renamed_arguments, renamed_statement, renamed_statements, renamed_scope}
use Rattle.flp_rename.proofs.Meaning.{value_same, args_count_same}
use Rattle.flp_emit.proofs.Naming.{has_named, bound_named, at_turn, shared_named, shared_items}

-- ---- nothing is out of range

mutual
  index_fits : (scope : Scope) (index : Index) → IndexFits scope index → IndexFits (renamed_scope scope) (renamed_index (scope_names scope) index)
  index_fits scope (index_number at value) h = h
  index_fits scope (index_var at name) h = (has_named scope name ∙ h.0, subst (λ (n : ℕ). n < 2 ^ 32) (sym (bound_named scope name)) h.1)
  index_fits scope (index_add at items) h = sum_fits scope 0 items h
  index_fits scope (index_mul at factors) h = product_fits scope 1 factors h

  sum_fits : (scope : Scope) (front : ℕ) (items : IndexItems) → SumFits scope front items → SumFits (renamed_scope scope) front (renamed_index_items (scope_names scope) items)
  sum_fits scope front no_index_items h = tt
  sum_fits scope front (index_item_on minus index more) h = (
    index_fits scope index h.0,
    subst (λ (n : ℕ). CanMove minus front n) (sym (value_same scope index)) h.1,
    subst (λ (n : ℕ). SumFits (renamed_scope scope) (next_front minus front n) (renamed_index_items (scope_names scope) more)) (sym (value_same scope index))
        (sum_fits scope (next_front minus front (index_value scope index)) more h.2),
  )

  product_fits : (scope : Scope) (front : ℕ) (factors : Indices) → ProductFits scope front factors → ProductFits (renamed_scope scope) front (renamed_indices (scope_names scope) factors)
  product_fits scope front no_indices h = tt
  product_fits scope front (index_on index more) h = (
    index_fits scope index h.0,
    subst (λ (n : ℕ). front * n < 2 ^ 32) (sym (value_same scope index)) h.1,
    subst (λ (n : ℕ). ProductFits (renamed_scope scope) (front * n) (renamed_indices (scope_names scope) more)) (sym (value_same scope index))
        (product_fits scope (front * index_value scope index) more h.2),
  )

-- a loop each of whose turns fits
loop_fits : (scope : Scope) (from to : Index) (P Q : ℕ → Type 0) → ((turn : ℕ) → P turn → Q turn) → LoopFits scope from to P
    → LoopFits (renamed_scope scope) (renamed_index (scope_names scope) from) (renamed_index (scope_names scope) to) Q
loop_fits scope from to P Q each_turn h = record {
  from = index_fits scope from h.from;
  to = index_fits scope to h.to;
  turns =
      λ turn low high.
      each_turn turn (h.turns turn
      (subst (λ (n : ℕ). n ≤ turn) (value_same scope from) low)
      (subst (λ (n : ℕ). turn < n) (value_same scope to) high));
}

module _ (body : Program) where
  mutual
    tree_fits : (scope : Scope) (tree : Tree) → TreeFits body scope tree → TreeFits body (renamed_scope scope) (renamed_tree (scope_names scope) tree)
    tree_fits scope (number at value) h = tt
    tree_fits scope (var at name) h = has_named scope name ∙ h
    tree_fits scope (joint at index) h = (index_fits scope index h.0, subst (λ (n : ℕ). n < body.joint) (sym (value_same scope index)) h.1)
    tree_fits scope (meas at index) h = (index_fits scope index h.0, subst (λ (n : ℕ). n < body.meas) (sym (value_same scope index)) h.1)
    tree_fits scope (meas_or_zero at index) h = index_fits scope index h
    tree_fits scope (sum at name from to inner) h =
        loop_fits scope from to (λ turn. TreeFits body (inside scope name turn) inner)
        (λ turn. TreeFits body (inside (renamed_scope scope) (depth_name (length (scope_names scope))) turn) (renamed_tree (scope_names scope ++ name ∷ []) inner))
        (λ turn fits. at_turn (λ other names. TreeFits body other (renamed_tree names inner)) scope name turn (tree_fits (inside scope name turn) inner fits)) h
    tree_fits scope (call at name args) h =
        (args_fit scope args h.0, subst (λ (n : ℕ). CallFits body.gadgets name n) (sym (args_count_same scope args)) h.1)
    tree_fits scope (add at items) h = items_fit scope items h
    tree_fits scope (mul at factors) h = factors_fit scope factors h
    tree_fits scope (pow at base exponent) h = (tree_fits scope base h.0, index_fits scope exponent h.1)

    items_fit : (scope : Scope) (items : Items) → ItemsFit body scope items → ItemsFit body (renamed_scope scope) (renamed_items (scope_names scope) items)
    items_fit scope no_items h = tt
    items_fit scope (item_on minus expr more) h = (tree_fits scope expr h.0, items_fit scope more h.1)

    factors_fit : (scope : Scope) (factors : Trees) → FactorsFit body scope factors → FactorsFit body (renamed_scope scope) (renamed_trees (scope_names scope) factors)
    factors_fit scope no_trees h = tt
    factors_fit scope (tree_on expr more) h = (tree_fits scope expr h.0, factors_fit scope more h.1)

    arg_fits : (scope : Scope) (arg : Argument) → ArgumentFits body scope arg → ArgumentFits body (renamed_scope scope) (renamed_argument (scope_names scope) arg)
    arg_fits scope (one expr) h = tree_fits scope expr h
    arg_fits scope (each_arg at name from to inner) h =
        loop_fits scope from to (λ turn. ArgumentsFit body (inside scope name turn) inner)
        (λ turn. ArgumentsFit body (inside (renamed_scope scope) (depth_name (length (scope_names scope))) turn) (renamed_arguments (scope_names scope ++ name ∷ []) inner))
        (λ turn fits. at_turn (λ other names. ArgumentsFit body other (renamed_arguments names inner)) scope name turn (args_fit (inside scope name turn) inner fits)) h

    args_fit : (scope : Scope) (args : Arguments) → ArgumentsFit body scope args → ArgumentsFit body (renamed_scope scope) (renamed_arguments (scope_names scope) args)
    args_fit scope no_args h = tt
    args_fit scope (arg_on arg more) h = (arg_fits scope arg h.0, args_fit scope more h.1)

  mutual
    stmt_fits : (scope : Scope) (stmt : Statement) → StatementFits body scope stmt → StatementFits body (renamed_scope scope) (renamed_statement (scope_names scope) stmt)
    stmt_fits scope (check at expr) h = tree_fits scope expr h
    stmt_fits scope (out at expr) h = tree_fits scope expr h
    stmt_fits scope (each at name from to inner) h =
        loop_fits scope from to (λ turn. StatementsFit body (inside scope name turn) inner)
        (λ turn. StatementsFit body (inside (renamed_scope scope) (depth_name (length (scope_names scope))) turn) (renamed_statements (scope_names scope ++ name ∷ []) inner))
        (λ turn fits. at_turn (λ other names. StatementsFit body other (renamed_statements names inner)) scope name turn (stmts_fit (inside scope name turn) inner fits)) h

    pub stmts_fit : (scope : Scope) (stmts : Statements) → StatementsFit body scope stmts → StatementsFit body (renamed_scope scope) (renamed_statements (scope_names scope) stmts)
    stmts_fit scope no_stmts h = tt
    stmts_fit scope (stmt_on stmt more) h = (stmt_fits scope stmt h.0, stmts_fit scope more h.1)

-- ---- every form is linear

mutual
  tree_linear : (names : Names) (in_out : Bool) (tree : Tree) → TreeIsLinear in_out tree → TreeIsLinear in_out (renamed_tree names tree)
  tree_linear names in_out (number at value) h = tt
  tree_linear names in_out (var at name) h = tt
  tree_linear names in_out (joint at index) h = h
  tree_linear names in_out (meas at index) h = tt
  tree_linear names in_out (meas_or_zero at index) h = tt
  tree_linear names in_out (sum at name from to inner) h = tree_linear (names ++ name ∷ []) in_out inner h
  tree_linear names in_out (call at name args) h = (h.0, args_linear names in_out args h.1)
  tree_linear names in_out (add at items) h =
      subst (λ (b : Bool). ItemsAreLinear in_out (in_out && b) (renamed_items names items)) (sym (shared_items names items))
      (items_linear names in_out (in_out && has_shared_item items) items h)
  tree_linear names in_out (mul at factors) h = factors_linear names in_out false factors h
  tree_linear names in_out (pow at base exponent) h = (shared_named names base ∙ h.0, tree_linear names in_out base h.1)

  items_linear : (names : Names) (in_out all : Bool) (items : Items) → ItemsAreLinear in_out all items → ItemsAreLinear in_out all (renamed_items names items)
  items_linear names in_out all no_items h = tt
  items_linear names in_out all (item_on minus expr more) h =
      (ap (λ (b : Bool). all && not b) (shared_named names expr) ∙ h.0, tree_linear names in_out expr h.1, items_linear names in_out all more h.2)

  factors_linear : (names : Names) (in_out behind : Bool) (factors : Trees) → FactorsAreLinear in_out behind factors → FactorsAreLinear in_out behind (renamed_trees names factors)
  factors_linear names in_out behind no_trees h = tt
  factors_linear names in_out behind (tree_on expr more) h = (
    ap (λ (b : Bool). behind && b) (shared_named names expr) ∙ h.0,
    tree_linear names in_out expr h.1,
    subst (λ (b : Bool). FactorsAreLinear in_out (behind || b) (renamed_trees names more)) (sym (shared_named names expr))
        (factors_linear names in_out (behind || is_shared expr) more h.2),
  )

  arg_linear : (names : Names) (in_out : Bool) (arg : Argument) → ArgumentIsLinear in_out arg → ArgumentIsLinear in_out (renamed_argument names arg)
  arg_linear names in_out (one expr) h = tree_linear names in_out expr h
  arg_linear names in_out (each_arg at name from to inner) h = args_linear (names ++ name ∷ []) in_out inner h

  args_linear : (names : Names) (in_out : Bool) (args : Arguments) → ArgumentsAreLinear in_out args → ArgumentsAreLinear in_out (renamed_arguments names args)
  args_linear names in_out no_args h = tt
  args_linear names in_out (arg_on arg more) h = (arg_linear names in_out arg h.0, args_linear names in_out more h.1)

mutual
  stmt_linear : (names : Names) (stmt : Statement) → StatementIsLinear stmt → StatementIsLinear (renamed_statement names stmt)
  stmt_linear names (check at expr) h = tree_linear names false expr h
  stmt_linear names (out at expr) h = (shared_named names expr ∙ h.0, tree_linear names true expr h.1)
  stmt_linear names (each at name from to inner) h = stmts_linear (names ++ name ∷ []) inner h

  pub stmts_linear : (names : Names) (stmts : Statements) → StatementsAreLinear stmts → StatementsAreLinear (renamed_statements names stmts)
  stmts_linear names no_stmts h = tt
  stmts_linear names (stmt_on stmt more) h = (stmt_linear names stmt h.0, stmts_linear names more h.1)
