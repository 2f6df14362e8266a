use Rattle.std.proofs.Common.{◌∙◌, refl}
use Rattle.flp_syntax.specs.View.{tree_of_Pow}
use Rattle.flp_lang.proofs.expr.power_of.Goals as goal

pub returns : goal.returns
returns c = tree_of_Pow _ _ _ ∙ rw (c.tree_at-at.ensures, c.in_ok-base.ensures.ok) refl
