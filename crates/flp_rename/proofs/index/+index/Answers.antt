use Rattle.std.proofs.Common.{◌≤◌, length, map, ap, ◌∙◌, arith}
use Rattle.std.proofs.lemmas.List.{at_drop_all}
use Rattle.flp_syntax.specs.Tree.{index_items, indices, index_on}
use Rattle.flp_syntax.specs.View.{index_of, index_item_of, index_item_of_roll, names_of}
use Rattle.flp_syntax.proofs.Rests.{rest_index_items, rest_indices}
use Rattle.flp_rename.specs.Renamed.{renamed_index_items, renamed_indices}
use Rattle.flp_rename.proofs.Fronts.{on_index_item, before_next, before_all, before_index_items, before_indices}
use Rattle.flp_rename.proofs.index.+index.Goals as goal

pub index_items-loop-item-preserved : goal.index_items-loop-item-preserved
index_items-loop-item-preserved t c =
    let item = c.item-item.result in
    before_next on_index_item index_item_of _ _ _ _ _ _ _ c.in_ok-push.ensures.items (index_item_of_roll _ _ ∙ ap (λ v. (item.minus, v)) c.in_ok-idx.ensures) (ap (renamed_index_items (names_of c.args.names.now)) (rest_index_items _ _ item c.loop-item-test.true c.item-item.is)) c.loop-item.invariant

pub index_items-returns : goal.index_items-returns
index_items-returns t c =
    let none : length c.args.items.now ≤ c.loop-item.item-index = omega (arith, c.loop-item-test.false) in
    before_all on_index_item index_item_of _ index_items before_index_items _ _ _ _ c.from_vec.ensures (at_drop_all (λ xs. renamed_index_items (names_of c.args.names.now) (index_items (map index_item_of xs))) c.args.items.now c.loop-item.item-index none) c.loop-item.invariant

pub indices-loop-factor-preserved : goal.indices-loop-factor-preserved
indices-loop-factor-preserved t c =
    let item = c.factor-item.result in
    before_next index_on index_of _ _ _ _ _ _ _ c.in_ok-push.ensures.items (c.in_ok-factor.ensures) (ap (renamed_indices (names_of c.args.names.now)) (rest_indices _ _ item c.loop-factor-test.true c.factor-item.is)) c.loop-factor.invariant

pub indices-returns : goal.indices-returns
indices-returns t c =
    let none : length c.args.factors.now ≤ c.loop-factor.factor-index = omega (arith, c.loop-factor-test.false) in
    before_all index_on index_of _ indices before_indices _ _ _ _ c.from_vec.ensures (at_drop_all (λ xs. renamed_indices (names_of c.args.names.now) (indices (map index_of xs))) c.args.factors.now c.loop-factor.factor-index none) c.loop-factor.invariant
