-- The terms of a circuit are at most the nodes that are met while unrolling it. From expressions up to statements.
use Rattle.std.proofs.Common.{◌≡◌, ℕ, suc, ◌+◌, ◌≤◌, Bool, true, false, List, [], ◌∷◌, ◌++◌, nat_lt, arith, if◌then◌else◌}
use Rattle.std.specs.List.{flat_map, sum_by}
use Rattle.flp_syntax.specs.Tree.{Tree, number, var, joint, meas, meas_or_zero, sum, call, add, mul, pow, Items, no_items, item_on, Trees, no_trees, tree_on, Argument, one, each_arg, Arguments, no_args, arg_on, Statement, check, out, each, Statements, no_stmts, stmt_on, Program}
use Rattle.flp_syntax.specs.Sorts.{is_shared, has_shared_item, has_shared}
use Rattle.flp_syntax.specs.Scope.{Scope, inside, index_value, turns, gadget_number, args_count}
use Rattle.flp_check.specs.Events.{Event, index_events, range_events, call_events, tree_events, items_events, factors_events, arg_events, args_events, stmt_events, stmts_events}
use Rattle.std.proofs.lemmas.List.Sums.{sum_by-cons}
use Rattle.flp_meaning.specs.Terms.{form_terms, item_terms, shared_factor_terms, input_terms, input_terms_of_items, input_terms_of_factors, terms_of_argument, terms_of_arguments, statement_terms, terms_of_statements}
use Rattle.flp_plan.proofs.WalkLemmas.{visits_in, visits_joined}

-- what is at most the visits of each turn is at most those of the loop
turns_within : (count : ℕ → ℕ) (events : ℕ → List Event) → ((turn : ℕ) → count turn ≤ visits_in (events turn))
    → (ts : List ℕ) → sum_by count ts ≤ visits_in (flat_map events ts)
turns_within count events each_turn [] = omega arith
turns_within count events each_turn (t ∷ ts) =
    let all : sum_by count (t ∷ ts) ≡ count t + sum_by count ts = sum_by-cons count t ts in
    let seen : visits_in (events t ++ flat_map events ts) ≡ visits_in (events t) + visits_in (flat_map events ts) = visits_joined (events t) (flat_map events ts) in
    let here : count t ≤ visits_in (events t) = each_turn t in
    let rest : sum_by count ts ≤ visits_in (flat_map events ts) = turns_within count events each_turn ts in
    omega arith

-- the same for two counts
both_within : (first second : ℕ → ℕ) (events : ℕ → List Event) → ((turn : ℕ) → first turn + second turn ≤ visits_in (events turn))
    → (ts : List ℕ) → sum_by first ts + sum_by second ts ≤ visits_in (flat_map events ts)
both_within first second events each_turn [] = omega arith
both_within first second events each_turn (t ∷ ts) =
    let one_sum : sum_by first (t ∷ ts) ≡ first t + sum_by first ts = sum_by-cons first t ts in
    let two_sum : sum_by second (t ∷ ts) ≡ second t + sum_by second ts = sum_by-cons second t ts in
    let seen : visits_in (events t ++ flat_map events ts) ≡ visits_in (events t) + visits_in (flat_map events ts) = visits_joined (events t) (flat_map events ts) in
    let here : first t + second t ≤ visits_in (events t) = each_turn t in
    let rest : sum_by first ts + sum_by second ts ≤ visits_in (flat_map events ts) = both_within first second events each_turn ts in
    omega arith

-- one of two counts that a test picks
picked_with : (test : Bool) (first second more most : ℕ) → first + more ≤ most → second + more ≤ most → (if test then first else second) + more ≤ most
picked_with true first second more most a b = a
picked_with false first second more most a b = b

mutual
  pub tree_within : (body : Program) (words : ℕ) (scope : Scope) (tree : Tree)
      → form_terms words scope tree + input_terms words scope tree ≤ visits_in (tree_events body scope tree)
  tree_within body words scope (number at value) = omega arith
  tree_within body words scope (var at name) = omega arith
  tree_within body words scope (joint at index) = omega arith
  tree_within body words scope (meas at index) = omega arith
  tree_within body words scope (meas_or_zero at index) =
      picked_with (nat_lt (index_value scope index) words) 1 0 0 (suc (visits_in (index_events scope index))) (omega arith) (omega arith)
  tree_within body words scope (sum at name from to inner) =
      let loop = turns (index_value scope from) (index_value scope to) in
      let events = λ (turn : ℕ). tree_events body (inside scope name turn) inner in
      let forms = λ (turn : ℕ). form_terms words (inside scope name turn) inner in
      let inputs = λ (turn : ℕ). input_terms words (inside scope name turn) inner in
      let seen : visits_in (range_events scope from to ++ flat_map events loop) ≡ visits_in (range_events scope from to) + visits_in (flat_map events loop) =
      visits_joined (range_events scope from to) (flat_map events loop) in
      let two : sum_by forms loop + sum_by inputs loop ≤ visits_in (flat_map events loop) =
      both_within forms inputs events (λ turn. tree_within body words (inside scope name turn) inner) loop in
      picked_with (is_shared inner) (sum_by forms loop) 1 (sum_by inputs loop) (suc (visits_in (range_events scope from to ++ flat_map events loop)))
      (omega arith) (omega arith)
  tree_within body words scope (call at name args) =
      let own = args_events body scope args in
      let last = call_events body.gadgets at (gadget_number body.gadgets name) (args_count scope args) in
      let seen : visits_in (own ++ last) ≡ visits_in own + visits_in last = visits_joined own last in
      let inner : terms_of_arguments words scope args ≤ visits_in own = args_within body words scope args in
      omega arith
  tree_within body words scope (add at items) =
      let inner : item_terms words scope items + input_terms_of_items words scope items ≤ visits_in (items_events body scope items) = items_within body words scope items in
      picked_with (has_shared_item items) (item_terms words scope items) 1 (input_terms_of_items words scope items) (suc (visits_in (items_events body scope items))) (omega arith) (omega arith)
  tree_within body words scope (mul at factors) =
      let inner : shared_factor_terms words scope factors + input_terms_of_factors words scope factors ≤ visits_in (factors_events body scope factors) = factors_within body words scope factors in
      picked_with (has_shared factors) (shared_factor_terms words scope factors) 1 (input_terms_of_factors words scope factors) (suc (visits_in (factors_events body scope factors))) (omega arith) (omega arith)
  tree_within body words scope (pow at base exponent) =
      let seen : visits_in (tree_events body scope base ++ index_events scope exponent) ≡ visits_in (tree_events body scope base) + visits_in (index_events scope exponent) =
      visits_joined (tree_events body scope base) (index_events scope exponent) in
      let inner : form_terms words scope base + input_terms words scope base ≤ visits_in (tree_events body scope base) = tree_within body words scope base in
      omega arith

  items_within : (body : Program) (words : ℕ) (scope : Scope) (items : Items)
      → item_terms words scope items + input_terms_of_items words scope items ≤ visits_in (items_events body scope items)
  items_within body words scope no_items = omega arith
  items_within body words scope (item_on minus expr more) =
      let seen : visits_in (tree_events body scope expr ++ items_events body scope more) ≡ visits_in (tree_events body scope expr) + visits_in (items_events body scope more) =
      visits_joined (tree_events body scope expr) (items_events body scope more) in
      let here : form_terms words scope expr + input_terms words scope expr ≤ visits_in (tree_events body scope expr) = tree_within body words scope expr in
      let rest : item_terms words scope more + input_terms_of_items words scope more ≤ visits_in (items_events body scope more) = items_within body words scope more in
      omega arith

  factors_within : (body : Program) (words : ℕ) (scope : Scope) (factors : Trees)
      → shared_factor_terms words scope factors + input_terms_of_factors words scope factors ≤ visits_in (factors_events body scope factors)
  factors_within body words scope no_trees = omega arith
  factors_within body words scope (tree_on expr more) =
      let seen : visits_in (tree_events body scope expr ++ factors_events body scope more) ≡ visits_in (tree_events body scope expr) + visits_in (factors_events body scope more) =
      visits_joined (tree_events body scope expr) (factors_events body scope more) in
      let here : form_terms words scope expr + input_terms words scope expr ≤ visits_in (tree_events body scope expr) = tree_within body words scope expr in
      let rest : shared_factor_terms words scope more + input_terms_of_factors words scope more ≤ visits_in (factors_events body scope more) = factors_within body words scope more in
      picked_with (is_shared expr) (form_terms words scope expr) (shared_factor_terms words scope more)
      (input_terms words scope expr + input_terms_of_factors words scope more)
      (visits_in (tree_events body scope expr ++ factors_events body scope more)) (omega arith) (omega arith)

  arg_within : (body : Program) (words : ℕ) (scope : Scope) (arg : Argument)
      → terms_of_argument words scope arg ≤ visits_in (arg_events body scope arg)
  arg_within body words scope (one expr) = tree_within body words scope expr
  arg_within body words scope (each_arg at name from to inner) =
      let loop = turns (index_value scope from) (index_value scope to) in
      let events = λ (turn : ℕ). args_events body (inside scope name turn) inner in
      let seen : visits_in (range_events scope from to ++ flat_map events loop) ≡ visits_in (range_events scope from to) + visits_in (flat_map events loop) =
      visits_joined (range_events scope from to) (flat_map events loop) in
      let all : sum_by (λ turn. terms_of_arguments words (inside scope name turn) inner) loop ≤ visits_in (flat_map events loop) =
      turns_within (λ turn. terms_of_arguments words (inside scope name turn) inner) events (λ turn. args_within body words (inside scope name turn) inner) loop in
      omega arith

  args_within : (body : Program) (words : ℕ) (scope : Scope) (args : Arguments)
      → terms_of_arguments words scope args ≤ visits_in (args_events body scope args)
  args_within body words scope no_args = omega arith
  args_within body words scope (arg_on arg more) =
      let seen : visits_in (arg_events body scope arg ++ args_events body scope more) ≡ visits_in (arg_events body scope arg) + visits_in (args_events body scope more) =
      visits_joined (arg_events body scope arg) (args_events body scope more) in
      let here : terms_of_argument words scope arg ≤ visits_in (arg_events body scope arg) = arg_within body words scope arg in
      let rest : terms_of_arguments words scope more ≤ visits_in (args_events body scope more) = args_within body words scope more in
      omega arith

mutual
  stmt_within : (body : Program) (words : ℕ) (scope : Scope) (stmt : Statement)
      → statement_terms words scope stmt ≤ visits_in (stmt_events body scope stmt)
  stmt_within body words scope (check at expr) =
      let inner : form_terms words scope expr + input_terms words scope expr ≤ visits_in (tree_events body scope expr) = tree_within body words scope expr in omega arith
  stmt_within body words scope (out at expr) =
      let inner : form_terms words scope expr + input_terms words scope expr ≤ visits_in (tree_events body scope expr) = tree_within body words scope expr in omega arith
  stmt_within body words scope (each at name from to inner) =
      let loop = turns (index_value scope from) (index_value scope to) in
      let events = λ (turn : ℕ). stmts_events body (inside scope name turn) inner in
      let seen : visits_in (range_events scope from to ++ flat_map events loop) ≡ visits_in (range_events scope from to) + visits_in (flat_map events loop) =
      visits_joined (range_events scope from to) (flat_map events loop) in
      let all : sum_by (λ turn. terms_of_statements words (inside scope name turn) inner) loop ≤ visits_in (flat_map events loop) =
      turns_within (λ turn. terms_of_statements words (inside scope name turn) inner) events (λ turn. stmts_within body words (inside scope name turn) inner) loop in
      omega arith

  pub stmts_within : (body : Program) (words : ℕ) (scope : Scope) (stmts : Statements)
      → terms_of_statements words scope stmts ≤ visits_in (stmts_events body scope stmts)
  stmts_within body words scope no_stmts = omega arith
  stmts_within body words scope (stmt_on stmt more) =
      let seen : visits_in (stmt_events body scope stmt ++ stmts_events body scope more) ≡ visits_in (stmt_events body scope stmt) + visits_in (stmts_events body scope more) =
      visits_joined (stmt_events body scope stmt) (stmts_events body scope more) in
      let here : statement_terms words scope stmt ≤ visits_in (stmt_events body scope stmt) = stmt_within body words scope stmt in
      let rest : terms_of_statements words scope more ≤ visits_in (stmts_events body scope more) = stmts_within body words scope more in
      omega arith
