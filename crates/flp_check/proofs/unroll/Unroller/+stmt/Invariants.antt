use Rattle.std.proofs.Common.{◌≡◌, ◌-◌, map, drop}
use Rattle.std.specs.List.{flat_map}
use Rattle.flp_syntax.specs.Tree.{statements}
use Rattle.flp_syntax.specs.Scope.{inside, numbers_from, turns}
use Rattle.flp_syntax.specs.View.{statement_of, program_of}
use Rattle.flp_check.specs.Events.{stmts_events}
use Rattle.flp_check.specs.Held.{counts_of}
use Rattle.flp_syntax.specs.View.{scope_of}
use Rattle.flp_check.proofs.Walking.{Leads}
use Rattle.flp_check.proofs.unroll.Unroller.+stmt.Given as goal

abbrev pub invariant-stmts-loop-stmt : goal.invariant-stmts-loop-stmt
invariant-stmts-loop-stmt l = Leads (counts_of l.counter) (stmts_events (program_of l.self.body.now) (scope_of l.scope) (statements (map statement_of (drop l.stmt-index l.stmts)))) (counts_of l.fn.counter) (stmts_events (program_of l.self.body.now) (scope_of l.scope) (statements (map statement_of l.stmts)))

abbrev pub invariant-stmt_turns-loop-value : goal.invariant-stmt_turns-loop-value
invariant-stmt_turns-loop-value l = record {
  within : l.within.items ≡ l.scope;
  walked : Leads (counts_of l.counter) (flat_map (λ value. stmts_events (program_of l.self.body.now) (inside (scope_of l.scope) l.fn.name value) (statements (map statement_of l.inner))) (numbers_from l.value (l.to - l.value))) (counts_of l.fn.counter) (flat_map (λ value. stmts_events (program_of l.self.body.now) (inside (scope_of l.scope) l.fn.name value) (statements (map statement_of l.inner))) (turns l.from l.to));
}
