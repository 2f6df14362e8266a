-- The checks and outs of a circuit are as many as its events say, under every reading. From expressions up to statements.
use Rattle.std.proofs.Common.{◌≡◌, ℕ, suc, ◌+◌, true, false, List, [], ◌∷◌, ◌++◌, length, map, Option, Some, None, refl, sym, ◌∙◌, ap, ap₂, arith, if◌then◌else◌, ◌==◌}
use Rattle.std.specs.List.{flat_map}
use Rattle.flp_syntax.specs.Tree.{Index, Tree, number, var, joint, meas, meas_or_zero, sum, call, add, mul, pow, Items, no_items, item_on, Trees, no_trees, tree_on, Argument, one, each_arg, Arguments, no_args, arg_on, Statement, check, out, each, Statements, no_stmts, stmt_on, Declaration, Program}
use Rattle.flp_syntax.specs.Scope.{Scope, inside, index_value, turns, gadget_number, args_count, arity_at}
use Rattle.flp_check.specs.Events.{Event, bad_arity, gadget_call, in_words, index_events, range_events, call_events, tree_events, items_events, factors_events, arg_events, args_events, stmt_events, stmts_events}
use Rattle.std.proofs.lemmas.List.{length-append}
use Rattle.flp_meaning.specs.Meaning.{Run, Reading, Results, all_results, statement_of, statements_of}
use Rattle.flp_plan.proofs.WalkLemmas.{IsQuiet, checks_in, outs_in, quiet_joined, silent_quiet, quiet_checks, quiet_outs, checks_joined, outs_joined}
use Rattle.flp_plan.proofs.CallLemmas.{silent_index, silent_range_events, silent_words}

-- ---- expressions are no checks and no outs

quiet_call : (declared : List Declaration) (at : ℕ) (found : Option ℕ) (count : ℕ) → IsQuiet (call_events declared at found count)
quiet_call declared at None count = tt
quiet_call declared at (Some g) count =
    elim (arity_at declared g == count) as (λ b. IsQuiet (if b then gadget_call g ∷ [] else bad_arity at ∷ [])) [ true ↦ tt | false ↦ tt ]

quiet_turns : (events : ℕ → List Event) → ((turn : ℕ) → IsQuiet (events turn)) → (ts : List ℕ) → IsQuiet (flat_map events ts)
quiet_turns events each_turn [] = tt
quiet_turns events each_turn (t ∷ ts) = quiet_joined (events t) (flat_map events ts) (each_turn t) (quiet_turns events each_turn ts)

quiet_range : (scope : Scope) (from to : Index) → IsQuiet (range_events scope from to)
quiet_range scope from to = silent_quiet (range_events scope from to) (silent_range_events scope from to)

quiet_index : (scope : Scope) (index : Index) → IsQuiet (index_events scope index)
quiet_index scope index = silent_quiet (index_events scope index) (silent_index scope index)

quiet_words : (at value words : ℕ) → IsQuiet (in_words at value words)
quiet_words at value words = silent_quiet (in_words at value words) (silent_words at value words)

mutual
  pub quiet_tree : (body : Program) (scope : Scope) (tree : Tree) → IsQuiet (tree_events body scope tree)
  quiet_tree body scope (number at value) = tt
  quiet_tree body scope (var at name) = tt
  quiet_tree body scope (joint at index) =
      quiet_joined (index_events scope index) (in_words at (index_value scope index) body.joint) (quiet_index scope index) (quiet_words at (index_value scope index) body.joint)
  quiet_tree body scope (meas at index) =
      quiet_joined (index_events scope index) (in_words at (index_value scope index) body.meas) (quiet_index scope index) (quiet_words at (index_value scope index) body.meas)
  quiet_tree body scope (meas_or_zero at index) = quiet_index scope index
  quiet_tree body scope (sum at name from to inner) =
      quiet_joined (range_events scope from to) (flat_map (λ turn. tree_events body (inside scope name turn) inner) (turns (index_value scope from) (index_value scope to)))
      (quiet_range scope from to)
      (quiet_turns (λ turn. tree_events body (inside scope name turn) inner) (λ turn. quiet_tree body (inside scope name turn) inner) (turns (index_value scope from) (index_value scope to)))
  quiet_tree body scope (call at name args) =
      quiet_joined (args_events body scope args) (call_events body.gadgets at (gadget_number body.gadgets name) (args_count scope args))
      (quiet_args body scope args) (quiet_call body.gadgets at (gadget_number body.gadgets name) (args_count scope args))
  quiet_tree body scope (add at items) = quiet_items body scope items
  quiet_tree body scope (mul at factors) = quiet_factors body scope factors
  quiet_tree body scope (pow at base exponent) =
      quiet_joined (tree_events body scope base) (index_events scope exponent) (quiet_tree body scope base) (quiet_index scope exponent)

  quiet_items : (body : Program) (scope : Scope) (items : Items) → IsQuiet (items_events body scope items)
  quiet_items body scope no_items = tt
  quiet_items body scope (item_on minus expr more) =
      quiet_joined (tree_events body scope expr) (items_events body scope more) (quiet_tree body scope expr) (quiet_items body scope more)

  quiet_factors : (body : Program) (scope : Scope) (factors : Trees) → IsQuiet (factors_events body scope factors)
  quiet_factors body scope no_trees = tt
  quiet_factors body scope (tree_on expr more) =
      quiet_joined (tree_events body scope expr) (factors_events body scope more) (quiet_tree body scope expr) (quiet_factors body scope more)

  quiet_arg : (body : Program) (scope : Scope) (arg : Argument) → IsQuiet (arg_events body scope arg)
  quiet_arg body scope (one expr) = quiet_tree body scope expr
  quiet_arg body scope (each_arg at name from to inner) =
      quiet_joined (range_events scope from to) (flat_map (λ turn. args_events body (inside scope name turn) inner) (turns (index_value scope from) (index_value scope to)))
      (quiet_range scope from to)
      (quiet_turns (λ turn. args_events body (inside scope name turn) inner) (λ turn. quiet_args body (inside scope name turn) inner) (turns (index_value scope from) (index_value scope to)))

  quiet_args : (body : Program) (scope : Scope) (args : Arguments) → IsQuiet (args_events body scope args)
  quiet_args body scope no_args = tt
  quiet_args body scope (arg_on arg more) =
      quiet_joined (arg_events body scope arg) (args_events body scope more) (quiet_arg body scope arg) (quiet_args body scope more)

-- ---- statements

-- a part gives as many checks and outs as its events say
pub record Gives (part : Run Results) (events : List Event) : Type 0 where
  pub checks : (n : ℕ) → length (part n).value.checks ≡ checks_in events
  pub outs : (n : ℕ) → length (part n).value.outs ≡ outs_in events

gives_then : (first : Run Results) (more : List (Run Results)) (xs ys : List Event) → Gives first xs → Gives (all_results more) ys
    → Gives (all_results (first ∷ more)) (xs ++ ys)
gives_then first more xs ys a b = record {
  checks = λ n.
      length-append (first n).value.checks (all_results more (n + length (first n).calls)).value.checks
      ∙ ap₂ (λ (s t : ℕ). s + t) (a.checks n) (b.checks (n + length (first n).calls)) ∙ sym (checks_joined xs ys);
  outs = λ n.
      length-append (first n).value.outs (all_results more (n + length (first n).calls)).value.outs
      ∙ ap₂ (λ (s t : ℕ). s + t) (a.outs n) (b.outs (n + length (first n).calls)) ∙ sym (outs_joined xs ys);
}

gives_turns : (part : ℕ → Run Results) (events : ℕ → List Event) → ((turn : ℕ) → Gives (part turn) (events turn))
    → (ts : List ℕ) → Gives (all_results (map part ts)) (flat_map events ts)
gives_turns part events each_turn [] = record { checks = λ n. refl; outs = λ n. refl }
gives_turns part events each_turn (t ∷ ts) =
    gives_then (part t) (map part ts) (events t) (flat_map events ts) (each_turn t) (gives_turns part events each_turn ts)

gives_loop : (part : Run Results) (scope : Scope) (from to : Index) (events : List Event) → Gives part events
    → Gives part (range_events scope from to ++ events)
gives_loop part scope from to events g = record {
  checks = λ n.
      let joined : checks_in (range_events scope from to ++ events) ≡ checks_in (range_events scope from to) + checks_in events = checks_joined (range_events scope from to) events in
      let none : checks_in (range_events scope from to) ≡ 0 = quiet_checks (range_events scope from to) (quiet_range scope from to) in
      g.checks n ∙ (omega arith);
  outs = λ n.
      let joined : outs_in (range_events scope from to ++ events) ≡ outs_in (range_events scope from to) + outs_in events = outs_joined (range_events scope from to) events in
      let none : outs_in (range_events scope from to) ≡ 0 = quiet_outs (range_events scope from to) (quiet_range scope from to) in
      g.outs n ∙ (omega arith);
}

mutual
  pub gives_stmt : (body : Program) (reading : Reading) (scope : Scope) (stmt : Statement)
      → Gives (statement_of body.gadgets reading scope stmt) (stmt_events body scope stmt)
  gives_stmt body reading scope (check at expr) = record {
    checks = λ n. ap suc (sym (quiet_checks (tree_events body scope expr) (quiet_tree body scope expr)));
    outs = λ n. sym (quiet_outs (tree_events body scope expr) (quiet_tree body scope expr));
  }
  gives_stmt body reading scope (out at expr) = record {
    checks = λ n. sym (quiet_checks (tree_events body scope expr) (quiet_tree body scope expr));
    outs = λ n. ap suc (sym (quiet_outs (tree_events body scope expr) (quiet_tree body scope expr)));
  }
  gives_stmt body reading scope (each at name from to inner) =
      let part = λ (turn : ℕ). all_results (statements_of body.gadgets reading (inside scope name turn) inner) in
      let loop = turns (index_value scope from) (index_value scope to) in
      let all = gives_loop (all_results (map part loop)) scope from to (flat_map (λ turn. stmts_events body (inside scope name turn) inner) loop)
      (gives_turns part (λ turn. stmts_events body (inside scope name turn) inner) (λ turn. gives_stmts body reading (inside scope name turn) inner) loop) in
      record { checks = all.checks; outs = all.outs }

  pub gives_stmts : (body : Program) (reading : Reading) (scope : Scope) (stmts : Statements)
      → Gives (all_results (statements_of body.gadgets reading scope stmts)) (stmts_events body scope stmts)
  gives_stmts body reading scope no_stmts = record { checks = λ n. refl; outs = λ n. refl }
  gives_stmts body reading scope (stmt_on stmt more) =
      gives_then (statement_of body.gadgets reading scope stmt) (statements_of body.gadgets reading scope more) (stmt_events body scope stmt)
      (stmts_events body scope more) (gives_stmt body reading scope stmt) (gives_stmts body reading scope more)
