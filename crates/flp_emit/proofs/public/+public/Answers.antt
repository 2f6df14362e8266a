use Rattle.std.proofs.Common.{◌+◌, ◌^◌, ◌∙◌, map, drop, rules, arith}
use Rattle.std.proofs.lemmas.List.{drop_all}
use Rattle.flp_syntax.specs.declared.syntax.Item.{the_lemmas}
use Rattle.flp_syntax.specs.Tree.{items, trees}
use Rattle.flp_syntax.specs.View.{tree_of, item_of, tree_of_Joint, tree_of_Sum, tree_of_Add, tree_of_Mul, tree_of_Pow}
use Rattle.flp_meaning.specs.Meaning.{value_with_sign}
use Rattle.flp_syntax.proofs.Rests.{rest_items, rest_trees}
use Rattle.flp_syntax.proofs.Turns.{turns_none, turns_next}
use Rattle.flp_syntax.proofs.Publics.{first_item_public, rest_items_public, rest_public}
use Rattle.flp_emit.proofs.Parts.{remains_more, remains_none, makes_stands, makes_changed, then_grows, sums_regroup, products_regroup}
use Rattle.flp_emit.proofs.public.+public.Goals as goal

-- ---- products

pub public_product-loop-factor-preserved : goal.public_product-loop-factor-preserved
public_product-loop-factor-preserved t c = record {
  grows = then_grows c.loop-factor.invariant.grows (then_grows c.in_ok-step.ensures.grows c.in_ok-multiplied.ensures.grows);
  public =
      rest_public (tree_of c.factor-item.result) (trees (map tree_of (drop (c.loop-factor.factor-index + 1) c.args.factors.now)))
      (rw (rest_trees _ _ c.factor-item.result c.loop-factor-test.true c.factor-item.is) at c.loop-factor.invariant.public);
  fits = (rw (rest_trees _ _ c.factor-item.result c.loop-factor-test.true c.factor-item.is) at c.loop-factor.invariant.fits).1;
  left =
      remains_more products_regroup
      (rw (rest_trees _ _ c.factor-item.result c.loop-factor-test.true c.factor-item.is) at c.loop-factor.invariant.left)
      c.in_ok-step.ensures c.in_ok-multiplied.ensures;
}

pub public_product-returns : goal.public_product-returns
public_product-returns t c =
    remains_none (λ n. omega arith) c.loop-factor.invariant.grows
    (rw (drop_all _ _ c.loop-factor-test.false) at c.loop-factor.invariant.left) c.in_ok-all.ensures

-- ---- sums

pub public_sum-public_step-requires : goal.public_sum-public_step-requires
public_sum-public_step-requires t c = (
  search (rules, the_lemmas),
  (
    c.loop-item.invariant.grows.joint ∙ c.requires.joint,
    (
      first_item_public c.item-item.result.minus (tree_of c.item-item.result.expr) (items (map item_of (drop (c.loop-item.item-index + 1) c.args.list.now)))
          (rw (rest_items _ _ c.item-item.result c.loop-item-test.true c.item-item.is) at c.loop-item.invariant.public),
      ((rw (rest_items _ _ c.item-item.result c.loop-item-test.true c.item-item.is) at c.loop-item.invariant.fits).0),
    ),
  ),
)

pub public_sum-loop-item-preserved : goal.public_sum-loop-item-preserved
public_sum-loop-item-preserved t c = record {
  grows =
      then_grows c.loop-item.invariant.grows
      (then_grows c.in_ok-value.ensures.grows (then_grows c.in_ok-step.ensures.grows c.in_ok-added.ensures.grows));
  public =
      rest_items_public c.item-item.result.minus (tree_of c.item-item.result.expr) (items (map item_of (drop (c.loop-item.item-index + 1) c.args.list.now)))
      (rw (rest_items _ _ c.item-item.result c.loop-item-test.true c.item-item.is) at c.loop-item.invariant.public);
  fits = (rw (rest_items _ _ c.item-item.result c.loop-item-test.true c.item-item.is) at c.loop-item.invariant.fits).1;
  left =
      remains_more sums_regroup
      (rw (rest_items _ _ c.item-item.result c.loop-item-test.true c.item-item.is) at c.loop-item.invariant.left)
      (makes_changed (value_with_sign c.item-item.result.minus) c.in_ok-value.ensures c.in_ok-step.ensures) c.in_ok-added.ensures;
}

pub public_sum-returns : goal.public_sum-returns
public_sum-returns t c =
    remains_none (λ n. omega arith) c.loop-item.invariant.grows
    (rw (drop_all _ _ c.loop-item-test.false) at c.loop-item.invariant.left) c.in_ok-all.ensures

-- ---- sums over turns

pub public_turns-loop-turn-preserved : goal.public_turns-loop-turn-preserved
public_turns-loop-turn-preserved t c = record {
  grows = then_grows c.loop-turn.invariant.grows (then_grows c.in_ok-step.ensures.grows c.in_ok-added.ensures.grows);
  left =
      remains_more sums_regroup
      (rw (turns_next _ _ c.loop-turn-test.true) at c.loop-turn.invariant.left)
      (rw (c.deref.ensures.value, c.in_ok-enter.ensures) at c.in_ok-step.ensures) c.in_ok-added.ensures;
}

pub public_turns-returns : goal.public_turns-returns
public_turns-returns t c =
    remains_none (λ n. omega arith) c.loop-turn.invariant.grows
    (rw (turns_none _ _ c.loop-turn-test.false) at c.loop-turn.invariant.left) c.in_ok-all.ensures

-- ---- one expression

pub public_step-public_turns-requires : goal.public_step-public_turns-requires
public_step-public_turns-requires t c = (
  search (rules, the_lemmas),
  (
    c.requires.joint,
    (
      rw c.deref.ensures (rw (c.in-Sum.is, tree_of_Sum) at c.requires.public),
      (rw (c.turns_of.ensures.from, c.turns_of.ensures.to, c.turns_of.ensures.name, c.deref.ensures)
          (rw (c.in-Sum.is, tree_of_Sum) at c.requires.fits).turns),
    ),
  ),
)

pub public_step-public_sum-requires : goal.public_step-public_sum-requires
public_step-public_sum-requires t c = (
  search (rules, the_lemmas),
  (
    c.requires.joint,
    (
      rw c.as_slice-in-Add.ensures (rw (c.in-Add.is, tree_of_Add) at c.requires.public),
      (rw c.as_slice-in-Add.ensures (rw (c.in-Add.is, tree_of_Add) at c.requires.fits)),
    ),
  ),
)

pub public_step-public_product-requires : goal.public_step-public_product-requires
public_step-public_product-requires t c = (
  search (rules, the_lemmas),
  (
    c.requires.joint,
    (
      rw c.as_slice-in-Mul.ensures (rw (c.in-Mul.is, tree_of_Mul) at c.requires.public),
      (rw c.as_slice-in-Mul.ensures (rw (c.in-Mul.is, tree_of_Mul) at c.requires.fits)),
    ),
  ),
)

pub public_step-public_step-requires : goal.public_step-public_step-requires
public_step-public_step-requires t c = (
  search (rules, the_lemmas),
  (
    c.requires.joint,
    (
      rw c.deref-in-Pow.ensures (rw (c.in-Pow.is, tree_of_Pow) at c.requires.public),
      (rw c.deref-in-Pow.ensures (rw (c.in-Pow.is, tree_of_Pow) at c.requires.fits).0),
    ),
  ),
)

pub public_step-returns-in-Joint : goal.public_step-returns-in-Joint
public_step-returns-in-Joint t c =
    rw (c.in-Joint.is, tree_of_Joint, ← c.index_value-word.ensures) (makes_stands _ _ _ c.joint.ensures)

pub public_step-returns-in-Sum : goal.public_step-returns-in-Sum
public_step-returns-in-Sum t c =
    rw (c.in-Sum.is, tree_of_Sum, ← c.turns_of.ensures.from, ← c.turns_of.ensures.to, ← c.turns_of.ensures.name, ← c.deref.ensures)
    c.public_turns.ensures

pub public_step-returns-in-Add : goal.public_step-returns-in-Add
public_step-returns-in-Add t c =
    rw (c.in-Add.is, tree_of_Add, rw (c.in-Add.is, tree_of_Add) at c.requires.public, ← c.as_slice-in-Add.ensures) c.public_sum.ensures

pub public_step-returns-in-Mul : goal.public_step-returns-in-Mul
public_step-returns-in-Mul t c = rw (c.in-Mul.is, tree_of_Mul, ← c.as_slice-in-Mul.ensures) c.public_product.ensures

pub public_step-returns-in_ok-power-in-Pow : goal.public_step-returns-in_ok-power-in-Pow
public_step-returns-in_ok-power-in-Pow t c =
    rw (c.in-Pow.is, tree_of_Pow, ← c.index_value-exponent.ensures, ← c.deref-in-Pow.ensures)
    (makes_changed (λ n. n ^ c.index_value-exponent.result) c.in_ok-base-in-Pow.ensures c.in_ok-power-in-Pow.ensures)
