use Rattle.std.proofs.Common.{◌∙◌, sym}
use Rattle.flp_lang.proofs.Made.{product_made, nonzero}
use Rattle.flp_lang.proofs.expr.product_of.Goals as goal

pub returns : goal.returns
returns c = product_made _ _ _ _ (nonzero _ _ (c.args.more.ok.0) (sym c.is_empty.ensures ∙ c.if-is_empty.false)) c.tree_at-at.ensures (c.from_vec.ensures ∙ c.in_ok-insert.ensures.items)
