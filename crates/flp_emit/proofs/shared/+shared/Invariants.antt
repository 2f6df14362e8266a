use Rattle.std.proofs.Common.{List, true, drop, map}
use Rattle.flp_syntax.specs.Tree.{items, arguments}
use Rattle.flp_syntax.specs.Scope.{inside, turns}
use Rattle.flp_syntax.specs.View.{tree_of, item_of, arg_of, program_of}
use Rattle.flp_meaning.specs.Meaning.{meaning, items_of, arguments_of, total, concatenation}
use Rattle.flp_forms.specs.declared.term.Term.{Term}
use Rattle.flp_emit.specs.declared.made.Made.{Made}
use Rattle.flp_syntax.specs.View.{scope_of}
use Rattle.flp_emit.specs.Walking.{ItemsHaveCode, ArgumentsHaveCode}
use Rattle.flp_emit.specs.Code.{read_by}
use Rattle.flp_emit.specs.Emitting.{Extends, Emitted, Listed}
use Rattle.flp_emit.proofs.shared.+shared.Given as goal

-- what is emitted from here on is emitted in all
abbrev pub invariant-shared_turns-loop-turn : goal.invariant-shared_turns-loop-turn
invariant-shared_turns-loop-turn l = record {
  extends : Extends l.fn.made l.made;
  leads :
      (after : Made) (form : List Term)
      → Emitted l.place.body.now.meas l.scale l.made after l.form.items form
      (λ joint share. total
      (map (λ turn. meaning (program_of l.place.body.now).gadgets (read_by joint share) (inside (scope_of l.place.scope.now) l.over.name.now turn) (tree_of l.inner)) (turns l.turn l.over.to)))
      → Emitted l.place.body.now.meas l.scale l.fn.made after l.fn.form.items form
      (λ joint share. total
      (map (λ turn. meaning (program_of l.place.body.now).gadgets (read_by joint share) (inside (scope_of l.place.scope.now) l.over.name.now turn) (tree_of l.inner)) (turns l.over.from l.over.to)));
}

abbrev pub invariant-shared_sum-loop-item : goal.invariant-shared_sum-loop-item
invariant-shared_sum-loop-item l = record {
  code : ItemsHaveCode (program_of l.place.body.now) (scope_of l.place.scope.now) l.marks (items (map item_of (drop l.item-index l.list)));
  extends : Extends l.fn.made l.made;
  leads :
      (after : Made) (form : List Term)
      → Emitted l.place.body.now.meas l.scale l.made after l.form.items form
      (λ joint share. total (items_of (program_of l.place.body.now).gadgets (read_by joint share) (scope_of l.place.scope.now) true (items (map item_of (drop l.item-index l.list)))))
      → Emitted l.place.body.now.meas l.scale l.fn.made after l.fn.form.items form
      (λ joint share. total (items_of (program_of l.place.body.now).gadgets (read_by joint share) (scope_of l.place.scope.now) true (items (map item_of l.list))));
}

abbrev pub invariant-list_arguments-loop-arg : goal.invariant-list_arguments-loop-arg
invariant-list_arguments-loop-arg l = record {
  code : ArgumentsHaveCode (program_of l.place.body.now) (scope_of l.place.scope.now) l.marks (arguments (map arg_of (drop l.arg-index l.args)));
  extends : Extends l.fn.made l.made;
  leads :
      (after : Made) (forms : List (List Term))
      → Listed l.place.body.now.meas l.made after l.inputs forms
      (λ joint share. concatenation (arguments_of (program_of l.place.body.now).gadgets (read_by joint share) (scope_of l.place.scope.now) (arguments (map arg_of (drop l.arg-index l.args)))))
      → Listed l.place.body.now.meas l.fn.made after l.fn.inputs forms
      (λ joint share. concatenation (arguments_of (program_of l.place.body.now).gadgets (read_by joint share) (scope_of l.place.scope.now) (arguments (map arg_of l.args))));
}

abbrev pub invariant-list_turns-loop-turn : goal.invariant-list_turns-loop-turn
invariant-list_turns-loop-turn l = record {
  extends : Extends l.fn.made l.made;
  leads :
      (after : Made) (forms : List (List Term))
      → Listed l.place.body.now.meas l.made after l.inputs forms
      (λ joint share. concatenation
      (map (λ turn. concatenation (arguments_of (program_of l.place.body.now).gadgets (read_by joint share) (inside (scope_of l.place.scope.now) l.over.name.now turn) (arguments (map arg_of l.inner)))) (turns l.turn l.over.to)))
      → Listed l.place.body.now.meas l.fn.made after l.fn.inputs forms
      (λ joint share. concatenation
      (map (λ turn. concatenation (arguments_of (program_of l.place.body.now).gadgets (read_by joint share) (inside (scope_of l.place.scope.now) l.over.name.now turn) (arguments (map arg_of l.inner)))) (turns l.over.from l.over.to)));
}
