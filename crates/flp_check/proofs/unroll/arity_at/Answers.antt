use Rattle.std.proofs.Common.{◌∙◌, ap, sym}
use Rattle.flp_check.specs.Limits.{named_count}
use Rattle.flp_check.proofs.Turns.{arity_at_get}
use Rattle.flp_check.proofs.unroll.arity_at.Goals as goal

pub returns : goal.returns
returns c = c.arity.ensures ∙ ap named_count (sym (arity_at_get _ _ c.index-gadgets-gadget.result c.requires))
