use Rattle.std.proofs.Common.{◌≡◌, ◌+◌, ◌++◌, [], ◌∙◌, true, false, map, rules}
use Rattle.std.proofs.lemmas.List.{drop_all}
use Rattle.flp_syntax.specs.declared.syntax.Item.{the_lemmas}
use Rattle.flp_syntax.specs.Tree.{trees}
use Rattle.flp_syntax.specs.View.{program_of, tree_of, tree_of_Meas, tree_of_MeasOrZero, tree_of_Sum, tree_of_Call, tree_of_Add, tree_of_Mul, arg_of_One, arg_of_Each}
use Rattle.flp_forms.specs.declared.term.Source.TheVariants.{Meas}
use Rattle.flp_syntax.specs.View.{scope_of}
use Rattle.flp_emit.specs.Code.{read_by}
use Rattle.flp_emit.specs.Emitting.{IsOneShared}
use Rattle.flp_syntax.specs.Sorts.{is_shared}
use Rattle.flp_emit.proofs.Marking.{first_sort, inside_tree}
use Rattle.flp_emit.proofs.Walking.{item_has_code, argument_has_code, items_behind, arguments_behind}
use Rattle.flp_syntax.proofs.Rests.{rest_items, rest_args}
use Rattle.flp_syntax.proofs.Turns.{turns_none, turns_next}
use Rattle.flp_emit.proofs.Adding.{extends_trans, ready_later, adds_then, adds_none}
use Rattle.flp_emit.proofs.Forming.{emitted_term, emitted_public, emitted_signed, emitted_product, emitted_law, emitted_law_none, emitted_nothing, extends_steps}
use Rattle.flp_emit.proofs.Listing.{listed_one, listed_law, listed_law_none, emitted_call}
use Rattle.flp_emit.proofs.PlainRuns.{one_shared_value, one_shared_calls, one_shared_is, one_shared_fits, one_shared_linear}
use Rattle.flp_emit.proofs.shared.+shared.Goals as goal

-- ---- expressions that stand for shared ones

pub counted_terms-returns-in_ok-shared_terms : goal.counted_terms-returns-in_ok-shared_terms
counted_terms-returns-in_ok-shared_terms t c =
    let shared : is_shared (tree_of c.args.expr.now) ≡ true =
    first_sort (tree_of c.args.expr.now) c.first_is_shared.ensures c.requires.code.marks ∙ c.if-first_is_shared.true in
    rw shared c.in_ok-shared_terms.ensures

pub counted_terms-returns-in_ok-add_term : goal.counted_terms-returns-in_ok-add_term
counted_terms-returns-in_ok-add_term t c =
    let public : is_shared (tree_of c.args.expr.now) ≡ false =
    first_sort (tree_of c.args.expr.now) c.first_is_shared.ensures c.requires.code.marks ∙ c.if-first_is_shared.false in
    rw (public, c.in_ok-add_term.ensures)
    (emitted_public c.in_ok-step.ensures c.in_ok-after.ensures)

pub counted_terms-shared_terms-requires : goal.counted_terms-shared_terms-requires
counted_terms-shared_terms-requires t c =
    let shared : is_shared (tree_of c.args.expr.now) ≡ true =
    first_sort (tree_of c.args.expr.now) c.first_is_shared.ensures c.requires.code.marks ∙ c.if-first_is_shared.true in
    (search (rules, the_lemmas), (c.requires.ready, (shared, (c.requires.code, c.requires.scale))))

pub counted_terms-public_step-requires : goal.counted_terms-public_step-requires
counted_terms-public_step-requires t c =
    let public : is_shared (tree_of c.args.expr.now) ≡ false =
    first_sort (tree_of c.args.expr.now) c.first_is_shared.ensures c.requires.code.marks ∙ c.if-first_is_shared.false in
    record { joint = c.requires.ready.joint; public = public; fits = c.requires.code.fits }

-- ---- a form

pub form_of-returns : goal.form_of-returns
form_of-returns t c = rw c.new-form.ensures.items at c.in_ok-counted_terms.ensures

-- ---- arguments

pub list_argument-form_of-requires : goal.list_argument-form_of-requires
list_argument-form_of-requires t c = (
  search (rules, the_lemmas),
  (
    c.requires.ready,
    record {
      fits = rw (c.in-One.is, arg_of_One) at c.requires.code.fits;
      linear = rw (c.in-One.is, arg_of_One) at c.requires.code.linear;
      marks = rw (c.in-One.is, arg_of_One) at c.requires.code.marks;
    },
  ),
)

pub list_argument-list_turns-requires : goal.list_argument-list_turns-requires
list_argument-list_turns-requires t c = (
  search (rules, the_lemmas),
  (
    c.requires.ready,
    (
      rw (c.turns_of-over.ensures.from, c.turns_of-over.ensures.to, c.turns_of-over.ensures.name, c.as_slice.ensures)
          (rw (c.in-Each.is, arg_of_Each) at c.requires.code.fits).turns,
      (
        rw c.as_slice.ensures (rw (c.in-Each.is, arg_of_Each) at c.requires.code.linear),
        rw c.as_slice.ensures (rw (c.in-Each.is, arg_of_Each) at c.requires.code.marks),
      ),
    ),
  ),
)

pub list_argument-returns-in_ok-push-in-One : goal.list_argument-returns-in_ok-push-in-One
list_argument-returns-in_ok-push-in-One t c =
    rw (c.in-One.is, arg_of_One, c.in_ok-push-in-One.ensures.ok, c.deref.ensures.value)
    (listed_one c.in_ok-form-in-One.ensures)

pub list_argument-returns-in-Each : goal.list_argument-returns-in-Each
list_argument-returns-in-Each t c =
    rw (c.in-Each.is, arg_of_Each, ← c.turns_of-over.ensures.from, ← c.turns_of-over.ensures.to, ← c.turns_of-over.ensures.name, ← c.as_slice.ensures)
    c.list_turns.ensures

pub list_arguments-loop-arg-preserved : goal.list_arguments-loop-arg-preserved
list_arguments-loop-arg-preserved t c =
    record {
      code = arguments_behind (rest_args _ _ c.arg-item.result c.loop-arg-test.true c.arg-item.is) c.behind_first-marks.ensures c.loop-arg.invariant.code;
      extends = extends_trans c.loop-arg.invariant.extends c.in_ok-list_argument.ensures.extends;
      leads =
          λ after forms h.
          c.loop-arg.invariant.leads after forms
          (rw (rest_args _ _ c.arg-item.result c.loop-arg-test.true c.arg-item.is)
          (adds_then (λ xs ys. xs ++ ys) listed_law c.in_ok-list_argument.ensures h));
    }

pub list_arguments-list_argument-requires : goal.list_arguments-list_argument-requires
list_arguments-list_argument-requires t c = (
  search (rules, the_lemmas),
  (
    ready_later c.requires.ready c.loop-arg.invariant.extends,
    argument_has_code (rest_args _ _ c.arg-item.result c.loop-arg-test.true c.arg-item.is) c.loop-arg.invariant.code,
  ),
)

pub list_arguments-returns : goal.list_arguments-returns
list_arguments-returns t c =
    c.loop-arg.invariant.leads _ _ (rw (drop_all _ _ c.loop-arg-test.false) (adds_none _ _ [] listed_law_none))

pub list_turns-list_arguments-requires : goal.list_turns-list_arguments-requires
list_turns-list_arguments-requires t c = (
  search (rules, the_lemmas),
  (
    ready_later c.requires.ready c.loop-turn.invariant.extends,
    record { fits = search rules; linear = c.requires.linear; marks = c.inside_first-marks.ensures true _ c.requires.marks },
  ),
)

pub list_turns-loop-turn-preserved : goal.list_turns-loop-turn-preserved
list_turns-loop-turn-preserved t c =
    let turn = rw (c.deref.ensures.value, c.in_ok-enter.ensures) at c.in_ok-list_arguments.ensures in
    record {
      extends = extends_trans c.loop-turn.invariant.extends c.in_ok-list_arguments.ensures.extends;
      leads =
          λ after forms h.
          c.loop-turn.invariant.leads after forms
          (rw (turns_next _ _ c.loop-turn-test.true) (adds_then (λ xs ys. xs ++ ys) listed_law turn h));
    }

pub list_turns-returns : goal.list_turns-returns
list_turns-returns t c =
    c.loop-turn.invariant.leads _ _ (rw (turns_none _ _ c.loop-turn-test.false) (adds_none _ _ [] listed_law_none))

-- ---- calls

pub shared_call-returns : goal.shared_call-returns
shared_call-returns t c =
    rw c.in_ok-add_term.ensures
    (emitted_call c.args.scale (rw c.new-inputs.ensures at c.in_ok-list_arguments.ensures) c.in_ok-number.ensures c.requires.scale)

-- ---- products

pub shared_product-shared_terms-requires : goal.shared_product-shared_terms-requires
shared_product-shared_terms-requires t c =
    let one : IsOneShared (tree_of c.index-factors-number.result) (trees (map tree_of c.args.factors.now)) =
    c.shared_place-number.ensures.one c.index-factors-number.result c.index-factors-number.is in (
      search (rules, the_lemmas),
      (
        ready_later c.requires.ready (extends_steps c.args.made.now c.public_scale.new.steps c.in_ok-all.ensures.grows),
        (
          one_shared_is one,
          (
            record {
              fits = one_shared_fits (program_of c.args.place.body.now) (scope_of c.args.place.scope.now) one c.requires.code.fits;
              linear = one_shared_linear false false one c.requires.code.linear;
              marks = c.shared_place-number.ensures.marks c.index-factors-number.result c.index-factors-number.is;
            },
            c.in_ok-all.ensures.fits,
          ),
        ),
      ),
    )

pub shared_product-returns : goal.shared_product-returns
shared_product-returns t c =
    let one : IsOneShared (tree_of c.index-factors-number.result) (trees (map tree_of c.args.factors.now)) =
    c.shared_place-number.ensures.one c.index-factors-number.result c.index-factors-number.is in
    emitted_product c.in_ok-all.ensures
    (λ joint share n. one_shared_value (program_of c.args.place.body.now).gadgets (read_by joint share) (scope_of c.args.place.scope.now) one n)
    (λ joint share n. one_shared_calls (program_of c.args.place.body.now).gadgets (read_by joint share) (scope_of c.args.place.scope.now) one n)
    c.in_ok-shared_terms.ensures

-- ---- sums

pub shared_sum-counted_terms-requires : goal.shared_sum-counted_terms-requires
shared_sum-counted_terms-requires t c = (
  search (rules, the_lemmas),
  (
    ready_later c.requires.ready
        (extends_trans c.loop-item.invariant.extends (extends_steps c.loop-item.made c.scale_with_sign.new.steps c.in_ok-signed.ensures.grows)),
    (item_has_code (rest_items _ _ c.item-item.result c.loop-item-test.true c.item-item.is) c.loop-item.invariant.code, c.in_ok-signed.ensures.fits),
  ),
)

pub shared_sum-loop-item-preserved : goal.shared_sum-loop-item-preserved
shared_sum-loop-item-preserved t c =
    record {
      code = items_behind (rest_items _ _ c.item-item.result c.loop-item-test.true c.item-item.is) c.behind_first-marks.ensures c.loop-item.invariant.code;
      extends =
          extends_trans c.loop-item.invariant.extends
          (extends_trans (extends_steps c.loop-item.made c.scale_with_sign.new.steps c.in_ok-signed.ensures.grows)
          c.in_ok-counted_terms.ensures.extends);
      leads =
          λ after form h.
          c.loop-item.invariant.leads after form
          (rw (rest_items _ _ c.item-item.result c.loop-item-test.true c.item-item.is)
          (adds_then (λ a b. a + b) (emitted_law c.args.scale)
          (emitted_signed c.item-item.result.minus c.in_ok-signed.ensures c.in_ok-counted_terms.ensures) h));
    }

pub shared_sum-returns : goal.shared_sum-returns
shared_sum-returns t c =
    c.loop-item.invariant.leads _ _ (rw (drop_all _ _ c.loop-item-test.false) (adds_none _ _ 0 (emitted_law_none c.args.scale)))

pub shared_turns-loop-turn-preserved : goal.shared_turns-loop-turn-preserved
shared_turns-loop-turn-preserved t c =
    let turn = rw (c.deref.ensures.value, c.in_ok-enter.ensures) at c.in_ok-shared_terms.ensures in
    record {
      extends = extends_trans c.loop-turn.invariant.extends c.in_ok-shared_terms.ensures.extends;
      leads =
          λ after form h.
          c.loop-turn.invariant.leads after form
          (rw (turns_next _ _ c.loop-turn-test.true) (adds_then (λ a b. a + b) (emitted_law c.args.scale) turn h));
    }

pub shared_turns-returns : goal.shared_turns-returns
shared_turns-returns t c =
    c.loop-turn.invariant.leads _ _ (rw (turns_none _ _ c.loop-turn-test.false) (adds_none _ _ 0 (emitted_law_none c.args.scale)))

-- ---- one expression

pub shared_terms-returns-then-from-place : goal.shared_terms-returns-then-from-place
shared_terms-returns-then-from-place t c =
    rw (c.in-MeasOrZero.is, tree_of_MeasOrZero, ← c.index_value-word-in-MeasOrZero.ensures)
    (emitted_nothing c.args.scale c.args.place.body.now.meas c.args.made.now c.args.form.now.items c.index_value-word-in-MeasOrZero.result
    (rw c.from.ensures at c.if-from-place.true))

pub shared_terms-shared_turns-requires : goal.shared_terms-shared_turns-requires
shared_terms-shared_turns-requires t c = (
  search (rules, the_lemmas),
  (
    c.requires.ready,
    (
      rw c.deref.ensures (rw (c.in-Sum.is, tree_of_Sum) at c.requires.shared),
      (
        rw (c.turns_of-over.ensures.from, c.turns_of-over.ensures.to, c.turns_of-over.ensures.name, c.deref.ensures)
            (rw (c.in-Sum.is, tree_of_Sum) at c.requires.code.fits).turns,
        (
          rw c.deref.ensures (rw (c.in-Sum.is, tree_of_Sum) at c.requires.code.linear),
          (c.requires.scale, rw c.deref.ensures (rw (c.in-Sum.is, tree_of_Sum) at (inside_tree (tree_of c.args.expr.now) c.inside_first-marks.ensures c.requires.code.marks))),
        ),
      ),
    ),
  ),
)

pub shared_terms-shared_call-requires : goal.shared_terms-shared_call-requires
shared_terms-shared_call-requires t c = (
  search (rules, the_lemmas),
  (
    c.requires.ready,
    (
      record {
        fits = rw c.as_slice-args.ensures (rw (c.in-Call.is, tree_of_Call) at c.requires.code.fits).0;
        linear = rw c.as_slice-args.ensures (rw (c.in-Call.is, tree_of_Call) at c.requires.code.linear).1;
        marks = rw c.as_slice-args.ensures (rw (c.in-Call.is, tree_of_Call) at (inside_tree (tree_of c.args.expr.now) c.inside_first-marks.ensures c.requires.code.marks));
      },
      c.requires.scale,
    ),
  ),
)

pub shared_terms-shared_sum-requires : goal.shared_terms-shared_sum-requires
shared_terms-shared_sum-requires t c = (
  search (rules, the_lemmas),
  (
    c.requires.ready,
    (
      record {
        fits = rw c.as_slice-in-Add.ensures (rw (c.in-Add.is, tree_of_Add) at c.requires.code.fits);
        linear = rw c.as_slice-in-Add.ensures (rw (c.in-Add.is, tree_of_Add) at c.requires.code.linear);
        marks = rw c.as_slice-in-Add.ensures (rw (c.in-Add.is, tree_of_Add) at (inside_tree (tree_of c.args.expr.now) c.inside_first-marks.ensures c.requires.code.marks));
      },
      c.requires.scale,
    ),
  ),
)

pub shared_terms-shared_product-requires : goal.shared_terms-shared_product-requires
shared_terms-shared_product-requires t c = (
  search (rules, the_lemmas),
  (
    c.requires.ready,
    (
      rw c.as_slice-in-Mul.ensures (rw (c.in-Mul.is, tree_of_Mul) at c.requires.shared),
      (
        record {
          fits = rw c.as_slice-in-Mul.ensures (rw (c.in-Mul.is, tree_of_Mul) at c.requires.code.fits);
          linear = rw c.as_slice-in-Mul.ensures (rw (c.in-Mul.is, tree_of_Mul) at c.requires.code.linear);
          marks = rw c.as_slice-in-Mul.ensures (rw (c.in-Mul.is, tree_of_Mul) at (inside_tree (tree_of c.args.expr.now) c.inside_first-marks.ensures c.requires.code.marks));
        },
        c.requires.scale,
      ),
    ),
  ),
)

pub shared_terms-returns-in_ok-add_term-in-Meas : goal.shared_terms-returns-in_ok-add_term-in-Meas
shared_terms-returns-in_ok-add_term-in-Meas t c =
    rw (c.in-Meas.is, tree_of_Meas, ← c.index_value-word.ensures, c.in_ok-add_term-in-Meas.ensures)
    (emitted_term _ _ _ c.args.scale (Meas c.index_value-word.result) c.requires.scale
    (λ answers. rw c.index_value-word.ensures (rw (c.in-Meas.is, tree_of_Meas) at c.requires.code.fits).1))

pub shared_terms-returns-in_ok-add_term-in-MeasOrZero : goal.shared_terms-returns-in_ok-add_term-in-MeasOrZero
shared_terms-returns-in_ok-add_term-in-MeasOrZero t c =
    rw (c.in-MeasOrZero.is, tree_of_MeasOrZero, ← c.index_value-word-in-MeasOrZero.ensures, c.in_ok-add_term-in-MeasOrZero.ensures)
    (emitted_term _ _ _ c.args.scale (Meas c.index_value-word-in-MeasOrZero.result) c.requires.scale
    (λ answers. rw c.from.ensures at c.if-from-place.false))

pub shared_terms-returns-in-Sum : goal.shared_terms-returns-in-Sum
shared_terms-returns-in-Sum t c =
    rw (c.in-Sum.is, tree_of_Sum, ← c.turns_of-over.ensures.from, ← c.turns_of-over.ensures.to, ← c.turns_of-over.ensures.name, ← c.deref.ensures)
    c.shared_turns.ensures

pub shared_terms-returns-in-Call : goal.shared_terms-returns-in-Call
shared_terms-returns-in-Call t c =
    let gadget = rw (c.as_slice.ensures, c.as_slice-in-Call.ensures) at c.gadget_of-gadget.ensures in
    rw (c.in-Call.is, tree_of_Call, ← gadget, ← c.as_slice-args.ensures) c.shared_call.ensures

pub shared_terms-returns-in-Add : goal.shared_terms-returns-in-Add
shared_terms-returns-in-Add t c =
    rw (c.in-Add.is, tree_of_Add, rw (c.in-Add.is, tree_of_Add) at c.requires.shared, ← c.as_slice-in-Add.ensures) c.shared_sum.ensures

pub shared_terms-returns-in-Mul : goal.shared_terms-returns-in-Mul
shared_terms-returns-in-Mul t c =
    rw (c.in-Mul.is, tree_of_Mul, ← c.as_slice-in-Mul.ensures) c.shared_product.ensures
