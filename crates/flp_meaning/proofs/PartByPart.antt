-- One circuit under two readings. A relation between runs that holds of the leaves and passes from parts to wholes holds of the whole circuit.
use Rattle.std.proofs.Common.{ℕ, ◌*◌, ◌%◌, ◌^◌, Bool, true, false, List, [], ◌∷◌, ◌++◌, map, cond}
use Rattle.std.specs.Prelude.{slice_index, ◌+◌}
use Rattle.std.specs.Option.{unwrap_or}
use Rattle.flp_field.specs.Word.{modulus}
use Rattle.flp_syntax.specs.Tree.{Tree, number, var, joint, meas, meas_or_zero, sum, call, add, mul, pow, Items, no_items, item_on, Trees, no_trees, tree_on, Argument, one, each_arg, Arguments, no_args, arg_on, Statement, check, out, each, Statements, no_stmts, stmt_on, Declaration}
use Rattle.flp_syntax.specs.Sorts.{is_shared, has_shared_item}
use Rattle.flp_syntax.specs.Scope.{Scope, inside, bound_value, index_value, turns, gadget_number}
use Rattle.flp_meaning.specs.Meaning.{Run, Reading, Results, plain, map_run, then_run, in_turn, concatenation, all_results, call_run, in_units, value_with_sign, meaning, items_of, factors_of, argument_of, arguments_of, statement_of, statements_of, one_check, one_out, join_results, no_results}

-- holds of the leaves, and passes from the parts to the whole; of the inputs of a call something more may be known
pub record Passes (w v : Reading) (R : (A : Type 0) → Run A → Run A → Type 0) (K : ℕ → Run (List ℕ) → Run (List ℕ) → Type 0) : Type 1 where
  pub alike : (A : Type 0) (value : A) → R A (plain value) (plain value)
  pub joint_word : (k : ℕ) → R ℕ (plain (slice_index w.joint k)) (plain (slice_index v.joint k))
  pub meas_word : (k : ℕ) → R ℕ (plain (slice_index w.meas k)) (plain (slice_index v.meas k))
  pub after_change : (A B : Type 0) (change : A → B) (f g : Run A) → R A f g → R B (map_run change f) (map_run change g)
  pub after_unit : (f g : Run ℕ) → R ℕ f g → R ℕ (map_run (λ value. w.unit * value) f) (map_run (λ value. v.unit * value) g)
  pub in_order :
      (A B C : Type 0) (join : A → B → C) (f f' : Run A) (g g' : Run B) → R A f f' → R B g g'
      → R C (then_run join f g) (then_run join f' g')
  pub after_call : (gadget : ℕ) (f g : Run (List ℕ)) → K gadget f g → R (List ℕ) f g → R ℕ (call_run w gadget f) (call_run v gadget g)

module _
    (gadgets : List Declaration) (w v : Reading) (R : (A : Type 0) → Run A → Run A → Type 0)
    (K : ℕ → Run (List ℕ) → Run (List ℕ) → Type 0) (p : Passes w v R K)
    (known :
    (scope : Scope) (name : List ℕ) (args : Arguments)
    → K (unwrap_or (gadget_number gadgets name) 0) (concatenation (arguments_of gadgets w scope args)) (concatenation (arguments_of gadgets v scope args))) where
  -- two lists of runs, related one by one
  Each : (A : Type 0) → List (Run A) → List (Run A) → Type 0
  Each A [] [] = Unit {0}
  Each A (f ∷ fs) (g ∷ gs) = R A f g × Each A fs gs
  Each A _ _ = ⊥

  in_turn_passes : (A B : Type 0) (join : A → B → B) (none : B) (fs gs : List (Run A)) → Each A fs gs → R B (in_turn join none fs) (in_turn join none gs)
  unfolding Each
  in_turn_passes A B join none [] [] related = p.alike B none
  in_turn_passes A B join none [] (g ∷ gs) related = elim related [ ]
  in_turn_passes A B join none (f ∷ fs) [] related = elim related [ ]
  in_turn_passes A B join none (f ∷ fs) (g ∷ gs) related =
      p.in_order A B B join f g (in_turn join none fs) (in_turn join none gs) related.0 (in_turn_passes A B join none fs gs related.1)

  each_turn : (A : Type 0) (f g : ℕ → Run A) (values : List ℕ) → ((turn : ℕ) → R A (f turn) (g turn)) → Each A (map f values) (map g values)
  unfolding Each
  each_turn A f g [] h = tt
  each_turn A f g (value ∷ values) h = (h value, each_turn A f g values h)

  counted_passes : (shared : Bool) (f g : Run ℕ) → R ℕ f g → R ℕ (in_units w shared f) (in_units v shared g)
  counted_passes true f g h = h
  counted_passes false f g h = p.after_unit f g h

  item_passes : (mixed shared : Bool) (f g : Run ℕ) → R ℕ f g → R ℕ (cond mixed (in_units w shared f) f) (cond mixed (in_units v shared g) g)
  item_passes true shared f g h = counted_passes shared f g h
  item_passes false shared f g h = h

  mutual
    unfolding Each

    tree_passes : (scope : Scope) (tree : Tree) → R ℕ (meaning gadgets w scope tree) (meaning gadgets v scope tree)
    tree_passes scope (number at value) = p.alike ℕ value
    tree_passes scope (var at name) = p.alike ℕ (bound_value scope name)
    tree_passes scope (joint at index) = p.joint_word (index_value scope index)
    tree_passes scope (meas at index) = p.meas_word (index_value scope index)
    tree_passes scope (meas_or_zero at index) = p.meas_word (index_value scope index)
    tree_passes scope (sum at name from to inner) =
        in_turn_passes ℕ ℕ (λ a b. a + b) 0 _ _
        (each_turn ℕ
        (λ turn. meaning gadgets w (inside scope name turn) inner)
        (λ turn. meaning gadgets v (inside scope name turn) inner)
        (turns (index_value scope from) (index_value scope to))
        (λ turn. tree_passes (inside scope name turn) inner))
    tree_passes scope (call at name args) =
        p.after_call (unwrap_or (gadget_number gadgets name) 0) _ _ (known scope name args)
        (in_turn_passes (List ℕ) (List ℕ) (λ xs ys. xs ++ ys) [] _ _ (arguments_pass scope args))
    tree_passes scope (add at items) =
        in_turn_passes ℕ ℕ (λ a b. a + b) 0 _ _ (items_pass scope (has_shared_item items) items)
    tree_passes scope (mul at factors) =
        in_turn_passes ℕ ℕ (λ a b. a * b) 1 _ _ (factors_pass scope factors)
    tree_passes scope (pow at base exponent) =
        p.after_change ℕ ℕ (λ value. value ^ index_value scope exponent) _ _ (tree_passes scope base)

    items_pass : (scope : Scope) (mixed : Bool) (items : Items) → Each ℕ (items_of gadgets w scope mixed items) (items_of gadgets v scope mixed items)
    items_pass scope mixed no_items = tt
    items_pass scope mixed (item_on minus expr more) = (
      p.after_change ℕ ℕ (value_with_sign minus) _ _
          (item_passes mixed (is_shared expr) (meaning gadgets w scope expr) (meaning gadgets v scope expr) (tree_passes scope expr)),
      items_pass scope mixed more,
    )

    factors_pass : (scope : Scope) (factors : Trees) → Each ℕ (factors_of gadgets w scope factors) (factors_of gadgets v scope factors)
    factors_pass scope no_trees = tt
    factors_pass scope (tree_on expr more) = (tree_passes scope expr, factors_pass scope more)

    argument_passes : (scope : Scope) (arg : Argument) → R (List ℕ) (argument_of gadgets w scope arg) (argument_of gadgets v scope arg)
    argument_passes scope (one expr) =
        p.after_change ℕ (List ℕ) (λ value. value % modulus ∷ []) _ _
        (counted_passes (is_shared expr) (meaning gadgets w scope expr) (meaning gadgets v scope expr) (tree_passes scope expr))
    argument_passes scope (each_arg at name from to inner) =
        in_turn_passes (List ℕ) (List ℕ) (λ xs ys. xs ++ ys) [] _ _
        (each_turn (List ℕ)
        (λ turn. concatenation (arguments_of gadgets w (inside scope name turn) inner))
        (λ turn. concatenation (arguments_of gadgets v (inside scope name turn) inner))
        (turns (index_value scope from) (index_value scope to))
        (λ turn. in_turn_passes (List ℕ) (List ℕ) (λ xs ys. xs ++ ys) [] _ _ (arguments_pass (inside scope name turn) inner)))

    arguments_pass : (scope : Scope) (args : Arguments) → Each (List ℕ) (arguments_of gadgets w scope args) (arguments_of gadgets v scope args)
    arguments_pass scope no_args = tt
    arguments_pass scope (arg_on arg more) = (argument_passes scope arg, arguments_pass scope more)

  mutual
    unfolding Each

    statement_passes : (scope : Scope) (stmt : Statement) → R Results (statement_of gadgets w scope stmt) (statement_of gadgets v scope stmt)
    statement_passes scope (check at expr) =
        p.after_change ℕ Results one_check _ _
        (counted_passes (is_shared expr) (meaning gadgets w scope expr) (meaning gadgets v scope expr) (tree_passes scope expr))
    statement_passes scope (out at expr) = p.after_change ℕ Results one_out _ _ (tree_passes scope expr)
    statement_passes scope (each at name from to inner) =
        in_turn_passes Results Results join_results no_results _ _
        (each_turn Results
        (λ turn. all_results (statements_of gadgets w (inside scope name turn) inner))
        (λ turn. all_results (statements_of gadgets v (inside scope name turn) inner))
        (turns (index_value scope from) (index_value scope to))
        (λ turn. in_turn_passes Results Results join_results no_results _ _ (statements_pass (inside scope name turn) inner)))

    statements_pass : (scope : Scope) (stmts : Statements) → Each Results (statements_of gadgets w scope stmts) (statements_of gadgets v scope stmts)
    statements_pass scope no_stmts = tt
    statements_pass scope (stmt_on stmt more) = (statement_passes scope stmt, statements_pass scope more)

  pub circuit_passes : (stmts : Statements) → R Results (all_results (statements_of gadgets w [] stmts)) (all_results (statements_of gadgets v [] stmts))
  circuit_passes stmts = in_turn_passes Results Results join_results no_results _ _ (statements_pass [] stmts)

-- ---- the inputs of a call alone

-- holds of lists of inputs: of none, of one, and of one list after another
pub record HoldsOfInputs (Q : Run (List ℕ) → Run (List ℕ) → Type 0) : Type 0 where
  pub no_input : Q (plain []) (plain [])
  pub one_input : (f g : Run ℕ) → Q (map_run (λ value. value % modulus ∷ []) f) (map_run (λ value. value % modulus ∷ []) g)
  pub more_inputs :
      (f f' g g' : Run (List ℕ)) → Q f f' → Q g g' → Q (then_run (λ xs ys. xs ++ ys) f g) (then_run (λ xs ys. xs ++ ys) f' g')

module _ (gadgets : List Declaration) (w v : Reading) (Q : Run (List ℕ) → Run (List ℕ) → Type 0) (p : HoldsOfInputs Q) where
  turns_hold : (f g : ℕ → Run (List ℕ)) (values : List ℕ) → ((turn : ℕ) → Q (f turn) (g turn)) → Q (concatenation (map f values)) (concatenation (map g values))
  turns_hold f g [] h = p.no_input
  turns_hold f g (value ∷ values) h = p.more_inputs _ _ _ _ (h value) (turns_hold f g values h)

  mutual
    pub inputs_hold : (scope : Scope) (args : Arguments) → Q (concatenation (arguments_of gadgets w scope args)) (concatenation (arguments_of gadgets v scope args))
    inputs_hold scope no_args = p.no_input
    inputs_hold scope (arg_on arg more) = p.more_inputs _ _ _ _ (argument_holds scope arg) (inputs_hold scope more)

    argument_holds : (scope : Scope) (arg : Argument) → Q (argument_of gadgets w scope arg) (argument_of gadgets v scope arg)
    argument_holds scope (one expr) = p.one_input _ _
    argument_holds scope (each_arg at name from to inner) =
        turns_hold
        (λ turn. concatenation (arguments_of gadgets w (inside scope name turn) inner))
        (λ turn. concatenation (arguments_of gadgets v (inside scope name turn) inner))
        (turns (index_value scope from) (index_value scope to))
        (λ turn. inputs_hold (inside scope name turn) inner)
