use Rattle.std.proofs.Common.{◌≤◌, length, map, ap, ◌∙◌, arith}
use Rattle.std.proofs.lemmas.List.{at_drop_all}
use Rattle.flp_syntax.specs.Tree.{items, trees, tree_on, arguments, arg_on}
use Rattle.flp_syntax.specs.View.{tree_of, item_of, item_of_roll, arg_of, names_of}
use Rattle.flp_syntax.proofs.Rests.{rest_items, rest_trees, rest_args}
use Rattle.flp_rename.specs.Renamed.{renamed_items, renamed_trees, renamed_arguments}
use Rattle.flp_rename.proofs.Fronts.{on_item, before_next, before_all, before_items, before_trees, before_arguments}
use Rattle.flp_rename.proofs.tree.+tree.Goals as goal

pub items-loop-item-preserved : goal.items-loop-item-preserved
items-loop-item-preserved t c =
    let item = c.item-item.result in
    before_next on_item item_of _ _ _ _ _ _ _ c.in_ok-push.ensures.items (item_of_roll _ _ ∙ ap (λ v. (item.minus, v)) c.in_ok-expr.ensures) (ap (renamed_items (names_of c.args.names.now)) (rest_items _ _ item c.loop-item-test.true c.item-item.is)) c.loop-item.invariant

pub items-returns : goal.items-returns
items-returns t c =
    let none : length c.args.items.now ≤ c.loop-item.item-index = omega (arith, c.loop-item-test.false) in
    before_all on_item item_of _ items before_items _ _ _ _ c.from_vec.ensures (at_drop_all (λ xs. renamed_items (names_of c.args.names.now) (items (map item_of xs))) c.args.items.now c.loop-item.item-index none) c.loop-item.invariant

pub trees-loop-factor-preserved : goal.trees-loop-factor-preserved
trees-loop-factor-preserved t c =
    let item = c.factor-item.result in
    before_next tree_on tree_of _ _ _ _ _ _ _ c.in_ok-push.ensures.items (c.in_ok-factor.ensures) (ap (renamed_trees (names_of c.args.names.now)) (rest_trees _ _ item c.loop-factor-test.true c.factor-item.is)) c.loop-factor.invariant

pub trees-returns : goal.trees-returns
trees-returns t c =
    let none : length c.args.factors.now ≤ c.loop-factor.factor-index = omega (arith, c.loop-factor-test.false) in
    before_all tree_on tree_of _ trees before_trees _ _ _ _ c.from_vec.ensures (at_drop_all (λ xs. renamed_trees (names_of c.args.names.now) (trees (map tree_of xs))) c.args.factors.now c.loop-factor.factor-index none) c.loop-factor.invariant

pub arguments-loop-arg-preserved : goal.arguments-loop-arg-preserved
arguments-loop-arg-preserved t c =
    let item = c.arg-item.result in
    before_next arg_on arg_of _ _ _ _ _ _ _ c.in_ok-push.ensures.items (c.in_ok-arg.ensures) (ap (renamed_arguments (names_of c.args.names.now)) (rest_args _ _ item c.loop-arg-test.true c.arg-item.is)) c.loop-arg.invariant

pub arguments-returns : goal.arguments-returns
arguments-returns t c =
    let none : length c.args.args.now ≤ c.loop-arg.arg-index = omega (arith, c.loop-arg-test.false) in
    before_all arg_on arg_of _ arguments before_arguments _ _ _ _ c.from_vec.ensures (at_drop_all (λ xs. renamed_arguments (names_of c.args.names.now) (arguments (map arg_of xs))) c.args.args.now c.loop-arg.arg-index none) c.loop-arg.invariant
