use Rattle.std.proofs.Common.{◌≡◌, ◌+◌, ◌*◌, false, drop, map}
use Rattle.flp_syntax.specs.Tree.{items, trees}
use Rattle.flp_syntax.specs.Sorts.{has_shared_item, has_shared}
use Rattle.flp_syntax.specs.Scope.{inside, turns}
use Rattle.flp_syntax.specs.View.{tree_of, item_of, program_of}
use Rattle.flp_meaning.specs.Meaning.{meaning, items_of, factors_of, total, product}
use Rattle.flp_forms.specs.StraightLine.{Grows}
use Rattle.flp_syntax.specs.Fits.{ItemsFit, FactorsFit}
use Rattle.flp_syntax.specs.View.{scope_of}
use Rattle.flp_emit.specs.Standing.{Remains}
use Rattle.flp_emit.proofs.public.+public.Given as goal

-- the turns from here on are left
abbrev pub invariant-public_turns-loop-turn : goal.invariant-public_turns-loop-turn
invariant-public_turns-loop-turn l = record {
  grows : Grows l.fn.steps l.steps;
  left :
      Remains l.steps 0 (λ a b. a + b) l.sum
      (λ reading. total
      (map (λ turn. meaning (program_of l.place.body.now).gadgets reading (inside (scope_of l.place.scope.now) l.over.name.now turn) (tree_of l.inner)) (turns l.turn l.over.to)))
      (λ reading. total
      (map (λ turn. meaning (program_of l.place.body.now).gadgets reading (inside (scope_of l.place.scope.now) l.over.name.now turn) (tree_of l.inner)) (turns l.over.from l.over.to)));
}

-- the items from here on are left
abbrev pub invariant-public_sum-loop-item : goal.invariant-public_sum-loop-item
invariant-public_sum-loop-item l = record {
  grows : Grows l.fn.steps l.steps;
  public : has_shared_item (items (map item_of (drop l.item-index l.list))) ≡ false;
  fits : ItemsFit (program_of l.place.body.now) (scope_of l.place.scope.now) (items (map item_of (drop l.item-index l.list)));
  left :
      Remains l.steps 0 (λ a b. a + b) l.sum
      (λ reading. total (items_of (program_of l.place.body.now).gadgets reading (scope_of l.place.scope.now) false (items (map item_of (drop l.item-index l.list)))))
      (λ reading. total (items_of (program_of l.place.body.now).gadgets reading (scope_of l.place.scope.now) false (items (map item_of l.list))));
}

-- the factors from here on are left
abbrev pub invariant-public_product-loop-factor : goal.invariant-public_product-loop-factor
invariant-public_product-loop-factor l = record {
  grows : Grows l.fn.steps l.steps;
  public : has_shared (trees (map tree_of (drop l.factor-index l.factors))) ≡ false;
  fits : FactorsFit (program_of l.place.body.now) (scope_of l.place.scope.now) (trees (map tree_of (drop l.factor-index l.factors)));
  left :
      Remains l.steps 1 (λ a b. a * b) l.product
      (λ reading. product (factors_of (program_of l.place.body.now).gadgets reading (scope_of l.place.scope.now) (trees (map tree_of (drop l.factor-index l.factors)))))
      (λ reading. product (factors_of (program_of l.place.body.now).gadgets reading (scope_of l.place.scope.now) (trees (map tree_of l.factors))));
}
