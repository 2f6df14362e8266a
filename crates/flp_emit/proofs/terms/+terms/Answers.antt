use Rattle.std.proofs.Common.{true, false, ◌≡◌, ◌∙◌, map, refl, rules}
use Rattle.flp_syntax.specs.declared.syntax.Item.{the_lemmas}
use Rattle.flp_syntax.specs.Tree.{trees, arguments}
use Rattle.flp_syntax.specs.Sorts.{is_shared}
use Rattle.flp_syntax.specs.Scope.{inside}
use Rattle.flp_syntax.specs.View.{tree_of, arg_of, program_of, scope_of, tree_of_Sum, tree_of_Call, tree_of_Add, tree_of_Mul, arg_of_One, arg_of_Each}
use Rattle.flp_syntax.proofs.Rests.{rest_items, rest_args}
use Rattle.flp_meaning.specs.Terms.{form_terms, input_terms, terms_of_argument, terms_of_arguments}
use Rattle.flp_emit.specs.Emitting.{IsOneShared}
use Rattle.flp_emit.proofs.Marking.{first_sort, inside_tree}
use Rattle.flp_emit.proofs.Walking.{item_has_code, argument_has_code, items_behind, arguments_behind}
use Rattle.flp_emit.proofs.PlainRuns.{one_shared_fits, one_shared_linear}
use Rattle.flp_emit.proofs.Counting.{count_next, turn_next, public_form, public_inputs, one_shared_form, one_shared_inputs}
use Rattle.flp_emit.proofs.terms.+terms.Goals as goal

-- ---- an expression

pub terms_of-terms_of_shared-requires : goal.terms_of-terms_of_shared-requires
terms_of-terms_of_shared-requires t c =
    let shared : is_shared (tree_of c.args.expr.now) ≡ true =
    first_sort (tree_of c.args.expr.now) c.first_is_shared.ensures c.requires.marks ∙ c.if-first_is_shared.true in (
      search (rules, the_lemmas),
      (shared, (c.requires.fits, (c.requires.linear, inside_tree (tree_of c.args.expr.now) c.inside_first-marks.ensures c.requires.marks))),
    )

pub terms_of-returns-else-first_is_shared : goal.terms_of-returns-else-first_is_shared
terms_of-returns-else-first_is_shared t c =
    let public : is_shared (tree_of c.args.expr.now) ≡ false =
    first_sort (tree_of c.args.expr.now) c.first_is_shared.ensures c.requires.marks ∙ c.if-first_is_shared.false in
    rw (
      public_form c.args.place.body.now.meas (scope_of c.args.place.scope.now) (tree_of c.args.expr.now) public,
      public_inputs c.args.place.body.now.meas (scope_of c.args.place.scope.now) (tree_of c.args.expr.now) public,
    )
    (record { form = refl; inputs = refl })

-- ---- loops

pub terms_of_turns-loop-turn-preserved : goal.terms_of_turns-loop-turn-preserved
terms_of_turns-loop-turn-preserved t c =
    let turn = rw (c.deref.ensures.value, c.in_ok-enter.ensures) at c.in_ok-terms.ensures in
    record {
      form =
          turn_next (λ turn. form_terms c.args.place.body.now.meas (inside (scope_of c.args.place.scope.now) c.args.over.name.now turn) (tree_of c.args.inner.now))
          c.loop-turn.turn c.args.over.to c.loop-turn-test.true c.loop-turn.invariant.form turn.form c.together-all.ensures.form;
      inputs =
          turn_next (λ turn. input_terms c.args.place.body.now.meas (inside (scope_of c.args.place.scope.now) c.args.over.name.now turn) (tree_of c.args.inner.now))
          c.loop-turn.turn c.args.over.to c.loop-turn-test.true c.loop-turn.invariant.inputs turn.inputs c.together-all.ensures.inputs;
    }

pub terms_of_items-terms_of-requires : goal.terms_of_items-terms_of-requires
terms_of_items-terms_of-requires t c = (search (rules, the_lemmas), item_has_code (rest_items _ _ c.item-item.result c.loop-item-test.true c.item-item.is) c.loop-item.invariant.code)

pub terms_of_items-loop-item-preserved : goal.terms_of_items-loop-item-preserved
terms_of_items-loop-item-preserved t c =
    let rest = rest_items _ _ c.item-item.result c.loop-item-test.true c.item-item.is in
    record {
      code = items_behind rest c.behind_first-marks.ensures c.loop-item.invariant.code;
      form = count_next (form_terms c.args.place.body.now.meas (scope_of c.args.place.scope.now) (tree_of c.item-item.result.expr)) (rw rest at c.loop-item.invariant.form) c.in_ok-terms.ensures.form c.together-all.ensures.form;
      inputs = count_next (input_terms c.args.place.body.now.meas (scope_of c.args.place.scope.now) (tree_of c.item-item.result.expr)) (rw rest at c.loop-item.invariant.inputs) c.in_ok-terms.ensures.inputs c.together-all.ensures.inputs;
    }

pub terms_of_arguments-terms_of_argument-requires : goal.terms_of_arguments-terms_of_argument-requires
terms_of_arguments-terms_of_argument-requires t c = (search (rules, the_lemmas), argument_has_code (rest_args _ _ c.arg-item.result c.loop-arg-test.true c.arg-item.is) c.loop-arg.invariant.code)

pub terms_of_arguments-loop-arg-preserved : goal.terms_of_arguments-loop-arg-preserved
terms_of_arguments-loop-arg-preserved t c =
    let rest = rest_args _ _ c.arg-item.result c.loop-arg-test.true c.arg-item.is in
    record {
      code = arguments_behind rest c.behind_first-marks.ensures c.loop-arg.invariant.code;
      count = count_next (terms_of_argument c.args.place.body.now.meas (scope_of c.args.place.scope.now) (arg_of c.arg-item.result)) (rw rest at c.loop-arg.invariant.count) c.in_ok-terms.ensures c.saturating_add-count.ensures;
    }

pub arguments_in_turns-terms_of_arguments-requires : goal.arguments_in_turns-terms_of_arguments-requires
arguments_in_turns-terms_of_arguments-requires t c = (
  search (rules, the_lemmas),
  record { fits = search rules; linear = c.requires.linear; marks = c.inside_first-marks.ensures true _ c.requires.marks },
)

pub arguments_in_turns-loop-turn-preserved : goal.arguments_in_turns-loop-turn-preserved
arguments_in_turns-loop-turn-preserved t c =
    turn_next (λ turn. terms_of_arguments c.args.place.body.now.meas (inside (scope_of c.args.place.scope.now) c.args.over.name.now turn) (arguments (map arg_of c.args.inner.now)))
    c.loop-turn.turn c.args.over.to c.loop-turn-test.true c.loop-turn.invariant
    (rw (c.deref.ensures.value, c.in_ok-enter.ensures) at c.in_ok-terms.ensures) c.saturating_add-count.ensures

-- ---- parts

pub terms_of_argument-terms_of_expression-requires : goal.terms_of_argument-terms_of_expression-requires
terms_of_argument-terms_of_expression-requires t c = (
  search (rules, the_lemmas),
  record {
    fits = rw (c.in-One.is, arg_of_One) at c.requires.fits;
    linear = rw (c.in-One.is, arg_of_One) at c.requires.linear;
    marks = rw (c.in-One.is, arg_of_One) at c.requires.marks;
  },
)

pub terms_of_argument-arguments_in_turns-requires : goal.terms_of_argument-arguments_in_turns-requires
terms_of_argument-arguments_in_turns-requires t c = (
  search (rules, the_lemmas),
  (
    rw (c.turns_of.ensures.from, c.turns_of.ensures.to, c.turns_of.ensures.name, c.as_slice-inner.ensures)
        (rw (c.in-Each.is, arg_of_Each) at c.requires.fits).turns,
    (
      rw c.as_slice-inner.ensures (rw (c.in-Each.is, arg_of_Each) at c.requires.linear),
      rw c.as_slice-inner.ensures (rw (c.in-Each.is, arg_of_Each) at c.requires.marks),
    ),
  ),
)

pub terms_of_shared-terms_of_turns-requires : goal.terms_of_shared-terms_of_turns-requires
terms_of_shared-terms_of_turns-requires t c = (
  search (rules, the_lemmas),
  (
    rw (c.turns_of.ensures.from, c.turns_of.ensures.to, c.turns_of.ensures.name, c.deref.ensures)
        (rw (c.in-Sum.is, tree_of_Sum) at c.requires.fits).turns,
    (
      rw c.deref.ensures (rw (c.in-Sum.is, tree_of_Sum) at c.requires.linear),
      rw c.deref.ensures (rw (c.in-Sum.is, tree_of_Sum) at c.requires.marks),
    ),
  ),
)

pub terms_of_shared-terms_of_arguments-requires : goal.terms_of_shared-terms_of_arguments-requires
terms_of_shared-terms_of_arguments-requires t c = (
  search (rules, the_lemmas),
  record {
    fits = rw c.as_slice.ensures (rw (c.in-Call.is, tree_of_Call) at c.requires.fits).0;
    linear = rw c.as_slice.ensures (rw (c.in-Call.is, tree_of_Call) at c.requires.linear).1;
    marks = rw c.as_slice.ensures (rw (c.in-Call.is, tree_of_Call) at c.requires.marks);
  },
)

pub terms_of_shared-terms_of_items-requires : goal.terms_of_shared-terms_of_items-requires
terms_of_shared-terms_of_items-requires t c = (
  search (rules, the_lemmas),
  record {
    fits = rw c.as_slice-in-Add.ensures (rw (c.in-Add.is, tree_of_Add) at c.requires.fits);
    linear = rw c.as_slice-in-Add.ensures (rw (c.in-Add.is, tree_of_Add) at c.requires.linear);
    marks = rw c.as_slice-in-Add.ensures (rw (c.in-Add.is, tree_of_Add) at c.requires.marks);
  },
)

pub terms_of_shared-terms_of_factors-requires : goal.terms_of_shared-terms_of_factors-requires
terms_of_shared-terms_of_factors-requires t c = (
  search (rules, the_lemmas),
  (
    rw c.as_slice-in-Mul.ensures (rw (c.in-Mul.is, tree_of_Mul) at c.requires.shared),
    record {
      fits = rw c.as_slice-in-Mul.ensures (rw (c.in-Mul.is, tree_of_Mul) at c.requires.fits);
      linear = rw c.as_slice-in-Mul.ensures (rw (c.in-Mul.is, tree_of_Mul) at c.requires.linear);
      marks = rw c.as_slice-in-Mul.ensures (rw (c.in-Mul.is, tree_of_Mul) at c.requires.marks);
    },
  ),
)

-- ---- a product

pub terms_of_factors-terms_of-requires : goal.terms_of_factors-terms_of-requires
terms_of_factors-terms_of-requires t c =
    let one : IsOneShared (tree_of c.index-factors-number.result) (trees (map tree_of c.args.factors.now)) =
    c.shared_place-number.ensures.one c.index-factors-number.result c.index-factors-number.is in (
      search (rules, the_lemmas),
      record {
        fits = one_shared_fits (program_of c.args.place.body.now) (scope_of c.args.place.scope.now) one c.requires.code.fits;
        linear = one_shared_linear false false one c.requires.code.linear;
        marks = c.shared_place-number.ensures.marks c.index-factors-number.result c.index-factors-number.is;
      },
    )

pub terms_of_factors-returns : goal.terms_of_factors-returns
terms_of_factors-returns t c =
    let one : IsOneShared (tree_of c.index-factors-number.result) (trees (map tree_of c.args.factors.now)) =
    c.shared_place-number.ensures.one c.index-factors-number.result c.index-factors-number.is in
    rw (one_shared_form c.args.place.body.now.meas (scope_of c.args.place.scope.now) one, one_shared_inputs c.args.place.body.now.meas (scope_of c.args.place.scope.now) one)
    c.in_ok-terms.ensures
