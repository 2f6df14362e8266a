use Rattle.std.proofs.Common.{drop, map}
use Rattle.flp_syntax.specs.Tree.{statements}
use Rattle.flp_syntax.specs.Scope.{inside, turns}
use Rattle.flp_syntax.specs.View.{statement_of, program_of}
use Rattle.flp_meaning.specs.Meaning.{statements_of, all_results}
use Rattle.flp_emit.specs.declared.made.Made.{Made}
use Rattle.flp_emit.specs.declared.made.Done.{Done}
use Rattle.flp_syntax.specs.View.{scope_of}
use Rattle.flp_emit.specs.Walking.{StatementsHaveCode}
use Rattle.flp_emit.specs.Code.{read_by}
use Rattle.flp_emit.specs.Emitting.{Extends, Performed}
use Rattle.flp_emit.proofs.stmt.+stmts.Given as goal

-- what is appended from here on is appended in all
abbrev pub invariant-perform-loop-stmt : goal.invariant-perform-loop-stmt
invariant-perform-loop-stmt l = record {
  code : StatementsHaveCode (program_of l.place.body.now) (scope_of l.place.scope.now) l.marks (statements (map statement_of (drop l.stmt-index l.stmts)));
  extends : Extends l.fn.made l.made;
  leads :
      (after : Made) (done : Done)
      → Performed l.place.body.now.meas l.made after l.done done
      (λ joint share. all_results (statements_of (program_of l.place.body.now).gadgets (read_by joint share) (scope_of l.place.scope.now) (statements (map statement_of (drop l.stmt-index l.stmts)))))
      → Performed l.place.body.now.meas l.fn.made after l.fn.done done
      (λ joint share. all_results (statements_of (program_of l.place.body.now).gadgets (read_by joint share) (scope_of l.place.scope.now) (statements (map statement_of l.stmts))));
}

abbrev pub invariant-perform_turns-loop-turn : goal.invariant-perform_turns-loop-turn
invariant-perform_turns-loop-turn l = record {
  extends : Extends l.fn.made l.made;
  leads :
      (after : Made) (done : Done)
      → Performed l.place.body.now.meas l.made after l.done done
      (λ joint share. all_results
      (map (λ turn. all_results (statements_of (program_of l.place.body.now).gadgets (read_by joint share) (inside (scope_of l.place.scope.now) l.over.name.now turn) (statements (map statement_of l.inner)))) (turns l.turn l.over.to)))
      → Performed l.place.body.now.meas l.fn.made after l.fn.done done
      (λ joint share. all_results
      (map (λ turn. all_results (statements_of (program_of l.place.body.now).gadgets (read_by joint share) (inside (scope_of l.place.scope.now) l.over.name.now turn) (statements (map statement_of l.inner)))) (turns l.over.from l.over.to)));
}
