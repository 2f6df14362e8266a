use Rattle.std.proofs.Common.{◌∙◌, sym, length}
use Rattle.std.proofs.Common.{◌≡◌, ◌<◌, false}
use Rattle.flp_lang.proofs.Made.{sum_made, nonzero}
use Rattle.flp_lang.proofs.expr.sum_of.Goals as goal
use Rattle.flp_lang.proofs.expr.sum_of.Goals.{then-not-minus+else-is_empty, else-not-minus}

pub returns : goal.returns
returns c = sum_made _ _ _ _ _ (several c) c.tree_at-at.ensures (c.from_vec.ensures ∙ c.in_ok-insert.ensures.items)
  where
    several : (c : goal.After-from_vec) → c.args.minus ≡ false → 0 < length c.args.more.items
    several c h = elim c.if-not-minus.branch [ then-not-minus+else-is_empty w ↦ nonzero _ _ (c.args.more.ok.0) (sym w.is_empty.ensures ∙ w.if-is_empty.false) | else-not-minus w ↦ (let i = w.if-not-minus.false in cc) ]
