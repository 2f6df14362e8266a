-- A circuit whose loops are named by their depth means what it meant. From expressions up to the circuit.
use Rattle.std.proofs.Common.{ℕ, ◌≡◌, ◌%◌, ◌^◌, Bool, List, [], ◌∷◌, ◌++◌, length, map, refl, ap, ap₂, ◌∙◌, slice_index, if◌then◌else◌}
use Rattle.std.specs.Option.{unwrap_or}
use Rattle.flp_field.specs.Word.{modulus}
use Rattle.flp_syntax.specs.Tree.{Index, Tree, number, var, joint, meas, meas_or_zero, sum, call, add, mul, pow, Items, no_items, item_on, Trees, no_trees, tree_on, Argument, one, each_arg, Arguments, no_args, arg_on, Statement, check, out, each, Statements, no_stmts, stmt_on, Declaration}
use Rattle.flp_syntax.specs.Sorts.{has_shared_item}
use Rattle.flp_syntax.specs.Scope.{Scope, scope_names, inside, index_value, turns, gadget_number}
use Rattle.flp_meaning.specs.Meaning.{Run, Reading, Results, plain, map_run, total, product, concatenation, in_units, call_run, value_with_sign, meaning, items_of, factors_of, argument_of, arguments_of, one_check, one_out, all_results, statement_of, statements_of}
use Rattle.flp_rename.specs.Renamed.{depth_name, renamed_index, renamed_tree, renamed_items, renamed_trees, renamed_argument, renamed_arguments, renamed_statement, renamed_statements, renamed_scope}
use Rattle.flp_rename.proofs.Meaning.{value_same, turns_same}
use Rattle.flp_emit.proofs.Naming.{bound_named, at_turn, shared_named, shared_items}

-- lists that are made alike
pub each_alike : {A : Type 0} (f g : ℕ → A) → ((n : ℕ) → f n ≡ g n) → (ns : List ℕ) → map f ns ≡ map g ns
each_alike f g same [] = refl
each_alike f g same (n ∷ ns) = ap₂ (λ x xs. x ∷ xs) (same n) (each_alike f g same ns)

-- the turns of a loop whose parts are alike
pub turns_alike : {A : Type 0} (scope : Scope) (from to : Index) (f g : ℕ → A) → ((turn : ℕ) → f turn ≡ g turn)
    → map f (turns (index_value (renamed_scope scope) (renamed_index (scope_names scope) from)) (index_value (renamed_scope scope) (renamed_index (scope_names scope) to)))
    ≡ map g (turns (index_value scope from) (index_value scope to))
turns_alike scope from to f g same =
    ap (λ (ns : List ℕ). map f ns) (turns_same scope from to)
    ∙ each_alike f g same (turns (index_value scope from) (index_value scope to))

module _ (gadgets : List Declaration) (reading : Reading) where
  mutual
    pub meaning_named : (scope : Scope) (tree : Tree)
        → meaning gadgets reading (renamed_scope scope) (renamed_tree (scope_names scope) tree) ≡ meaning gadgets reading scope tree
    meaning_named scope (number at value) = refl
    meaning_named scope (var at name) = ap (λ (n : ℕ). plain n) (bound_named scope name)
    meaning_named scope (joint at index) = ap (λ (n : ℕ). plain (slice_index reading.joint n)) (value_same scope index)
    meaning_named scope (meas at index) = ap (λ (n : ℕ). plain (slice_index reading.meas n)) (value_same scope index)
    meaning_named scope (meas_or_zero at index) = ap (λ (n : ℕ). plain (slice_index reading.meas n)) (value_same scope index)
    meaning_named scope (sum at name from to inner) =
        ap total
        (turns_alike scope from to
        (λ turn. meaning gadgets reading (inside (renamed_scope scope) (depth_name (length (scope_names scope))) turn) (renamed_tree (scope_names scope ++ name ∷ []) inner))
        (λ turn. meaning gadgets reading (inside scope name turn) inner)
        (λ turn. at_turn (λ other names. meaning gadgets reading other (renamed_tree names inner) ≡ meaning gadgets reading (inside scope name turn) inner) scope name turn
        (meaning_named (inside scope name turn) inner)))
    meaning_named scope (call at name args) =
        ap (λ (runs : List (Run (List ℕ))). call_run reading (unwrap_or (gadget_number gadgets name) 0) (concatenation runs)) (arguments_named scope args)
    meaning_named scope (add at items) =
        ap (λ (mixed : Bool). total (items_of gadgets reading (renamed_scope scope) mixed (renamed_items (scope_names scope) items))) (shared_items (scope_names scope) items)
        ∙ ap total (items_named scope (has_shared_item items) items)
    meaning_named scope (mul at factors) = ap product (factors_named scope factors)
    meaning_named scope (pow at base exponent) =
        ap₂ (λ (n : ℕ) (run : Run ℕ). map_run (λ value. value ^ n) run) (value_same scope exponent) (meaning_named scope base)

    pub items_named : (scope : Scope) (mixed : Bool) (items : Items)
        → items_of gadgets reading (renamed_scope scope) mixed (renamed_items (scope_names scope) items) ≡ items_of gadgets reading scope mixed items
    items_named scope mixed no_items = refl
    items_named scope mixed (item_on minus expr more) =
        ap₂ (λ (run : Run ℕ) (runs : List (Run ℕ)). map_run (value_with_sign minus) run ∷ runs)
        (ap₂ (λ (shared : Bool) (run : Run ℕ). if mixed then in_units reading shared run else run) (shared_named (scope_names scope) expr) (meaning_named scope expr))
        (items_named scope mixed more)

    pub factors_named : (scope : Scope) (factors : Trees)
        → factors_of gadgets reading (renamed_scope scope) (renamed_trees (scope_names scope) factors) ≡ factors_of gadgets reading scope factors
    factors_named scope no_trees = refl
    factors_named scope (tree_on expr more) =
        ap₂ (λ (run : Run ℕ) (runs : List (Run ℕ)). run ∷ runs) (meaning_named scope expr) (factors_named scope more)

    pub argument_named : (scope : Scope) (arg : Argument)
        → argument_of gadgets reading (renamed_scope scope) (renamed_argument (scope_names scope) arg) ≡ argument_of gadgets reading scope arg
    argument_named scope (one expr) =
        ap₂ (λ (shared : Bool) (run : Run ℕ). map_run (λ value. value % modulus ∷ []) (in_units reading shared run)) (shared_named (scope_names scope) expr) (meaning_named scope expr)
    argument_named scope (each_arg at name from to inner) =
        ap concatenation
        (turns_alike scope from to
        (λ turn. concatenation (arguments_of gadgets reading (inside (renamed_scope scope) (depth_name (length (scope_names scope))) turn) (renamed_arguments (scope_names scope ++ name ∷ []) inner)))
        (λ turn. concatenation (arguments_of gadgets reading (inside scope name turn) inner))
        (λ turn. at_turn (λ other names. concatenation (arguments_of gadgets reading other (renamed_arguments names inner)) ≡ concatenation (arguments_of gadgets reading (inside scope name turn) inner)) scope name turn
        (ap concatenation (arguments_named (inside scope name turn) inner))))

    pub arguments_named : (scope : Scope) (args : Arguments)
        → arguments_of gadgets reading (renamed_scope scope) (renamed_arguments (scope_names scope) args) ≡ arguments_of gadgets reading scope args
    arguments_named scope no_args = refl
    arguments_named scope (arg_on arg more) =
        ap₂ (λ (run : Run (List ℕ)) (runs : List (Run (List ℕ))). run ∷ runs) (argument_named scope arg) (arguments_named scope more)

  mutual
    pub statement_named : (scope : Scope) (stmt : Statement)
        → statement_of gadgets reading (renamed_scope scope) (renamed_statement (scope_names scope) stmt) ≡ statement_of gadgets reading scope stmt
    statement_named scope (check at expr) =
        ap₂ (λ (shared : Bool) (run : Run ℕ). map_run one_check (in_units reading shared run)) (shared_named (scope_names scope) expr) (meaning_named scope expr)
    statement_named scope (out at expr) = ap (λ (run : Run ℕ). map_run one_out run) (meaning_named scope expr)
    statement_named scope (each at name from to inner) =
        ap all_results
        (turns_alike scope from to
        (λ turn. all_results (statements_of gadgets reading (inside (renamed_scope scope) (depth_name (length (scope_names scope))) turn) (renamed_statements (scope_names scope ++ name ∷ []) inner)))
        (λ turn. all_results (statements_of gadgets reading (inside scope name turn) inner))
        (λ turn. at_turn (λ other names. all_results (statements_of gadgets reading other (renamed_statements names inner)) ≡ all_results (statements_of gadgets reading (inside scope name turn) inner)) scope name turn
        (ap all_results (statements_named (inside scope name turn) inner))))

    pub statements_named : (scope : Scope) (stmts : Statements)
        → statements_of gadgets reading (renamed_scope scope) (renamed_statements (scope_names scope) stmts) ≡ statements_of gadgets reading scope stmts
    statements_named scope no_stmts = refl
    statements_named scope (stmt_on stmt more) =
        ap₂ (λ (run : Run Results) (runs : List (Run Results)). run ∷ runs) (statement_named scope stmt) (statements_named scope more)
