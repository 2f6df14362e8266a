use Rattle.std.proofs.Common.{◌≡◌, ◌+◌, ◌-◌, ◌≤◌, map, drop}
use Rattle.std.specs.Prelude.{sum_by}
use Rattle.std.specs.List.{flat_map}
use Rattle.flp_syntax.specs.Tree.{items, trees, arguments}
use Rattle.flp_syntax.specs.Scope.{inside, numbers_from, turns}
use Rattle.flp_syntax.specs.View.{tree_of, item_of, arg_of, program_of}
use Rattle.flp_check.specs.Events.{tree_events, items_events, factors_events, args_events}
use Rattle.flp_syntax.specs.Scope.{args_count}
use Rattle.flp_check.specs.Held.{counts_of}
use Rattle.flp_syntax.specs.View.{scope_of}
use Rattle.flp_check.proofs.Walking.{Leads}
use Rattle.flp_check.proofs.unroll.Unroller.+expr.Given as goal

abbrev pub invariant-items-loop-item : goal.invariant-items-loop-item
invariant-items-loop-item l = Leads (counts_of l.counter) (items_events (program_of l.self.body.now) (scope_of l.scope) (items (map item_of (drop l.item-index l.items)))) (counts_of l.fn.counter) (items_events (program_of l.self.body.now) (scope_of l.scope) (items (map item_of l.items)))

abbrev pub invariant-factors-loop-factor : goal.invariant-factors-loop-factor
invariant-factors-loop-factor l = Leads (counts_of l.counter) (factors_events (program_of l.self.body.now) (scope_of l.scope) (trees (map tree_of (drop l.factor-index l.factors)))) (counts_of l.fn.counter) (factors_events (program_of l.self.body.now) (scope_of l.scope) (trees (map tree_of l.factors)))

-- the arguments so far were counted; each of them met a node
abbrev pub invariant-args-loop-arg : goal.invariant-args-loop-arg
invariant-args-loop-arg l = record {
  walked : Leads (counts_of l.counter) (args_events (program_of l.self.body.now) (scope_of l.scope) (arguments (map arg_of (drop l.arg-index l.args)))) (counts_of l.fn.counter) (args_events (program_of l.self.body.now) (scope_of l.scope) (arguments (map arg_of l.args)));
  count : l.count + args_count (scope_of l.scope) (arguments (map arg_of (drop l.arg-index l.args))) ≡ args_count (scope_of l.scope) (arguments (map arg_of l.args));
  met : l.count + l.fn.counter.visits ≤ l.counter.visits;
}

abbrev pub invariant-sum_turns-loop-value : goal.invariant-sum_turns-loop-value
invariant-sum_turns-loop-value l = record {
  within : l.within.items ≡ l.scope;
  walked : Leads (counts_of l.counter) (flat_map (λ value. tree_events (program_of l.self.body.now) (inside (scope_of l.scope) l.fn.name value) (tree_of l.inner)) (numbers_from l.value (l.to - l.value))) (counts_of l.fn.counter) (flat_map (λ value. tree_events (program_of l.self.body.now) (inside (scope_of l.scope) l.fn.name value) (tree_of l.inner)) (turns l.from l.to));
}

abbrev pub invariant-arg_turns-loop-value : goal.invariant-arg_turns-loop-value
invariant-arg_turns-loop-value l = record {
  within : l.within.items ≡ l.scope;
  walked : Leads (counts_of l.counter) (flat_map (λ value. args_events (program_of l.self.body.now) (inside (scope_of l.scope) l.fn.name value) (arguments (map arg_of l.inner))) (numbers_from l.value (l.to - l.value))) (counts_of l.fn.counter) (flat_map (λ value. args_events (program_of l.self.body.now) (inside (scope_of l.scope) l.fn.name value) (arguments (map arg_of l.inner))) (turns l.from l.to));
  count : l.count + sum_by (λ value. args_count (inside (scope_of l.scope) l.fn.name value) (arguments (map arg_of l.inner))) (numbers_from l.value (l.to - l.value)) ≡ sum_by (λ value. args_count (inside (scope_of l.scope) l.fn.name value) (arguments (map arg_of l.inner))) (turns l.from l.to);
  met : l.count + l.fn.counter.visits ≤ l.counter.visits;
}
