-- A circuit whose loops are named by their depth has as many terms. From expressions up to statements.
use Rattle.std.proofs.Common.{ℕ, ◌≡◌, ◌+◌, Bool, List, [], ◌∷◌, ◌++◌, length, refl, sym, ap, ap₂, ◌∙◌, nat_lt, if◌then◌else◌}
use Rattle.std.specs.List.{sum_by}
use Rattle.std.proofs.lemmas.List.Sums.{sum_by-cons}
use Rattle.flp_syntax.specs.Tree.{Index, Tree, number, var, joint, meas, meas_or_zero, sum, call, add, mul, pow, Items, no_items, item_on, Trees, no_trees, tree_on, Argument, one, each_arg, Arguments, no_args, arg_on, Statement, check, out, each, Statements, no_stmts, stmt_on}
use Rattle.flp_syntax.specs.Sorts.{is_shared}
use Rattle.flp_syntax.specs.Scope.{Scope, scope_names, inside, index_value, turns}
use Rattle.flp_meaning.specs.Terms.{form_terms, item_terms, shared_factor_terms, input_terms, input_terms_of_items, input_terms_of_factors, terms_of_argument, terms_of_arguments, statement_terms, terms_of_statements}
use Rattle.flp_rename.specs.Renamed.{depth_name, renamed_index, renamed_tree, renamed_items, renamed_trees, renamed_argument, renamed_arguments, renamed_statement, renamed_statements, renamed_scope}
use Rattle.flp_rename.proofs.Meaning.{value_same, turns_same}
use Rattle.flp_emit.proofs.Naming.{at_turn, shared_named, shared_items, shared_factors}

sums_alike : (f g : ℕ → ℕ) → ((n : ℕ) → f n ≡ g n) → (ns : List ℕ) → sum_by f ns ≡ sum_by g ns
sums_alike f g same [] = refl
sums_alike f g same (n ∷ ns) = sum_by-cons f n ns ∙ ap₂ (λ (a b : ℕ). a + b) (same n) (sums_alike f g same ns) ∙ sym (sum_by-cons g n ns)

-- the turns of a loop whose counts are alike
pub counts_alike : (scope : Scope) (from to : Index) (f g : ℕ → ℕ) → ((turn : ℕ) → f turn ≡ g turn)
    → sum_by f (turns (index_value (renamed_scope scope) (renamed_index (scope_names scope) from)) (index_value (renamed_scope scope) (renamed_index (scope_names scope) to)))
    ≡ sum_by g (turns (index_value scope from) (index_value scope to))
counts_alike scope from to f g same =
    ap (λ (ns : List ℕ). sum_by f ns) (turns_same scope from to)
    ∙ sums_alike f g same (turns (index_value scope from) (index_value scope to))

module _ (words : ℕ) where
  mutual
    pub form_named : (scope : Scope) (tree : Tree) → form_terms words (renamed_scope scope) (renamed_tree (scope_names scope) tree) ≡ form_terms words scope tree
    form_named scope (number at value) = refl
    form_named scope (var at name) = refl
    form_named scope (joint at index) = refl
    form_named scope (meas at index) = refl
    form_named scope (meas_or_zero at index) = ap (λ (n : ℕ). if nat_lt n words then 1 else 0) (value_same scope index)
    form_named scope (sum at name from to inner) =
        ap₂ (λ (shared : Bool) (n : ℕ). if shared then n else 1) (shared_named (scope_names scope ++ name ∷ []) inner)
        (counts_alike scope from to
        (λ turn. form_terms words (inside (renamed_scope scope) (depth_name (length (scope_names scope))) turn) (renamed_tree (scope_names scope ++ name ∷ []) inner))
        (λ turn. form_terms words (inside scope name turn) inner)
        (λ turn. at_turn (λ other names. form_terms words other (renamed_tree names inner) ≡ form_terms words (inside scope name turn) inner) scope name turn
        (form_named (inside scope name turn) inner)))
    form_named scope (call at name args) = refl
    form_named scope (add at items) = ap₂ (λ (shared : Bool) (n : ℕ). if shared then n else 1) (shared_items (scope_names scope) items) (items_named scope items)
    form_named scope (mul at factors) = ap₂ (λ (shared : Bool) (n : ℕ). if shared then n else 1) (shared_factors (scope_names scope) factors) (factor_named scope factors)
    form_named scope (pow at base exponent) = refl

    pub items_named : (scope : Scope) (items : Items) → item_terms words (renamed_scope scope) (renamed_items (scope_names scope) items) ≡ item_terms words scope items
    items_named scope no_items = refl
    items_named scope (item_on minus expr more) = ap₂ (λ (a b : ℕ). a + b) (form_named scope expr) (items_named scope more)

    pub factor_named : (scope : Scope) (factors : Trees) → shared_factor_terms words (renamed_scope scope) (renamed_trees (scope_names scope) factors) ≡ shared_factor_terms words scope factors
    factor_named scope no_trees = refl
    factor_named scope (tree_on expr more) =
        ap (λ (shared : Bool). if shared then form_terms words (renamed_scope scope) (renamed_tree (scope_names scope) expr) else shared_factor_terms words (renamed_scope scope) (renamed_trees (scope_names scope) more)) (shared_named (scope_names scope) expr)
        ∙ ap₂ (λ (a b : ℕ). if is_shared expr then a else b) (form_named scope expr) (factor_named scope more)

  mutual
    pub inputs_named : (scope : Scope) (tree : Tree) → input_terms words (renamed_scope scope) (renamed_tree (scope_names scope) tree) ≡ input_terms words scope tree
    inputs_named scope (number at value) = refl
    inputs_named scope (var at name) = refl
    inputs_named scope (joint at index) = refl
    inputs_named scope (meas at index) = refl
    inputs_named scope (meas_or_zero at index) = refl
    inputs_named scope (sum at name from to inner) =
        counts_alike scope from to
        (λ turn. input_terms words (inside (renamed_scope scope) (depth_name (length (scope_names scope))) turn) (renamed_tree (scope_names scope ++ name ∷ []) inner))
        (λ turn. input_terms words (inside scope name turn) inner)
        (λ turn. at_turn (λ other names. input_terms words other (renamed_tree names inner) ≡ input_terms words (inside scope name turn) inner) scope name turn
        (inputs_named (inside scope name turn) inner))
    inputs_named scope (call at name args) = arguments_named scope args
    inputs_named scope (add at items) = inputs_of_items scope items
    inputs_named scope (mul at factors) = inputs_of_factors scope factors
    inputs_named scope (pow at base exponent) = inputs_named scope base

    inputs_of_items : (scope : Scope) (items : Items) → input_terms_of_items words (renamed_scope scope) (renamed_items (scope_names scope) items) ≡ input_terms_of_items words scope items
    inputs_of_items scope no_items = refl
    inputs_of_items scope (item_on minus expr more) = ap₂ (λ (a b : ℕ). a + b) (inputs_named scope expr) (inputs_of_items scope more)

    inputs_of_factors : (scope : Scope) (factors : Trees) → input_terms_of_factors words (renamed_scope scope) (renamed_trees (scope_names scope) factors) ≡ input_terms_of_factors words scope factors
    inputs_of_factors scope no_trees = refl
    inputs_of_factors scope (tree_on expr more) = ap₂ (λ (a b : ℕ). a + b) (inputs_named scope expr) (inputs_of_factors scope more)

    argument_named : (scope : Scope) (arg : Argument) → terms_of_argument words (renamed_scope scope) (renamed_argument (scope_names scope) arg) ≡ terms_of_argument words scope arg
    argument_named scope (one expr) = ap₂ (λ (a b : ℕ). a + b) (form_named scope expr) (inputs_named scope expr)
    argument_named scope (each_arg at name from to inner) =
        counts_alike scope from to
        (λ turn. terms_of_arguments words (inside (renamed_scope scope) (depth_name (length (scope_names scope))) turn) (renamed_arguments (scope_names scope ++ name ∷ []) inner))
        (λ turn. terms_of_arguments words (inside scope name turn) inner)
        (λ turn. at_turn (λ other names. terms_of_arguments words other (renamed_arguments names inner) ≡ terms_of_arguments words (inside scope name turn) inner) scope name turn
        (arguments_named (inside scope name turn) inner))

    arguments_named : (scope : Scope) (args : Arguments) → terms_of_arguments words (renamed_scope scope) (renamed_arguments (scope_names scope) args) ≡ terms_of_arguments words scope args
    arguments_named scope no_args = refl
    arguments_named scope (arg_on arg more) = ap₂ (λ (a b : ℕ). a + b) (argument_named scope arg) (arguments_named scope more)

  mutual
    statement_named : (scope : Scope) (stmt : Statement) → statement_terms words (renamed_scope scope) (renamed_statement (scope_names scope) stmt) ≡ statement_terms words scope stmt
    statement_named scope (check at expr) = ap₂ (λ (a b : ℕ). a + b) (form_named scope expr) (inputs_named scope expr)
    statement_named scope (out at expr) = ap₂ (λ (a b : ℕ). a + b) (form_named scope expr) (inputs_named scope expr)
    statement_named scope (each at name from to inner) =
        counts_alike scope from to
        (λ turn. terms_of_statements words (inside (renamed_scope scope) (depth_name (length (scope_names scope))) turn) (renamed_statements (scope_names scope ++ name ∷ []) inner))
        (λ turn. terms_of_statements words (inside scope name turn) inner)
        (λ turn. at_turn (λ other names. terms_of_statements words other (renamed_statements names inner) ≡ terms_of_statements words (inside scope name turn) inner) scope name turn
        (statements_named (inside scope name turn) inner))

    pub statements_named : (scope : Scope) (stmts : Statements) → terms_of_statements words (renamed_scope scope) (renamed_statements (scope_names scope) stmts) ≡ terms_of_statements words scope stmts
    statements_named scope no_stmts = refl
    statements_named scope (stmt_on stmt more) = ap₂ (λ (a b : ℕ). a + b) (statement_named scope stmt) (statements_named scope more)
