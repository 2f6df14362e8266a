use Rattle.std.proofs.Common.{drop, map}
use Rattle.std.specs.List.{sum_by}
use Rattle.flp_syntax.specs.Tree.{items, arguments}
use Rattle.flp_syntax.specs.Scope.{inside, turns}
use Rattle.flp_syntax.specs.View.{tree_of, item_of, arg_of, program_of, scope_of}
use Rattle.flp_meaning.specs.Terms.{form_terms, item_terms, input_terms, input_terms_of_items, terms_of_arguments}
use Rattle.flp_emit.specs.Walking.{ItemsHaveCode, ArgumentsHaveCode}
use Rattle.flp_emit.proofs.Counting.{CountLeft}
use Rattle.flp_emit.proofs.terms.+terms.Given as goal

-- what was counted and what is left are all
abbrev pub invariant-terms_of_turns-loop-turn : goal.invariant-terms_of_turns-loop-turn
invariant-terms_of_turns-loop-turn l = record {
  form :
      CountLeft l.all.form
      (sum_by (λ turn. form_terms l.place.body.now.meas (inside (scope_of l.place.scope.now) l.over.name.now turn) (tree_of l.inner)) (turns l.turn l.over.to))
      (sum_by (λ turn. form_terms l.place.body.now.meas (inside (scope_of l.place.scope.now) l.over.name.now turn) (tree_of l.inner)) (turns l.over.from l.over.to));
  inputs :
      CountLeft l.all.inputs
      (sum_by (λ turn. input_terms l.place.body.now.meas (inside (scope_of l.place.scope.now) l.over.name.now turn) (tree_of l.inner)) (turns l.turn l.over.to))
      (sum_by (λ turn. input_terms l.place.body.now.meas (inside (scope_of l.place.scope.now) l.over.name.now turn) (tree_of l.inner)) (turns l.over.from l.over.to));
}

abbrev pub invariant-terms_of_items-loop-item : goal.invariant-terms_of_items-loop-item
invariant-terms_of_items-loop-item l = record {
  code : ItemsHaveCode (program_of l.place.body.now) (scope_of l.place.scope.now) l.marks (items (map item_of (drop l.item-index l.list)));
  form :
      CountLeft l.all.form (item_terms l.place.body.now.meas (scope_of l.place.scope.now) (items (map item_of (drop l.item-index l.list))))
      (item_terms l.place.body.now.meas (scope_of l.place.scope.now) (items (map item_of l.list)));
  inputs :
      CountLeft l.all.inputs (input_terms_of_items l.place.body.now.meas (scope_of l.place.scope.now) (items (map item_of (drop l.item-index l.list))))
      (input_terms_of_items l.place.body.now.meas (scope_of l.place.scope.now) (items (map item_of l.list)));
}

abbrev pub invariant-terms_of_arguments-loop-arg : goal.invariant-terms_of_arguments-loop-arg
invariant-terms_of_arguments-loop-arg l = record {
  code : ArgumentsHaveCode (program_of l.place.body.now) (scope_of l.place.scope.now) l.marks (arguments (map arg_of (drop l.arg-index l.args)));
  count :
      CountLeft l.count (terms_of_arguments l.place.body.now.meas (scope_of l.place.scope.now) (arguments (map arg_of (drop l.arg-index l.args))))
      (terms_of_arguments l.place.body.now.meas (scope_of l.place.scope.now) (arguments (map arg_of l.args)));
}

abbrev pub invariant-arguments_in_turns-loop-turn : goal.invariant-arguments_in_turns-loop-turn
invariant-arguments_in_turns-loop-turn l =
    CountLeft l.count
    (sum_by (λ turn. terms_of_arguments l.place.body.now.meas (inside (scope_of l.place.scope.now) l.over.name.now turn) (arguments (map arg_of l.inner))) (turns l.turn l.over.to))
    (sum_by (λ turn. terms_of_arguments l.place.body.now.meas (inside (scope_of l.place.scope.now) l.over.name.now turn) (arguments (map arg_of l.inner))) (turns l.over.from l.over.to))
