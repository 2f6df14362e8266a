use Rattle.std.proofs.Common.{refl, codes, decimal}
use Rattle.flp_known.proofs.PutsLemmas.{Puts-after, Puts-short}
use Rattle.flp_reseed.proofs.lines.put_domain.Goals as goal

pub returns-in_err-put_piece : goal.returns-in_err-put_piece
returns-in_err-put_piece g c = Puts-short (codes " domain ") (decimal c.args.gadget) c.in_err-put_piece.ensures refl c.from_residual.ensures.0

pub returns : goal.returns
returns g c = Puts-after (codes " domain ") (decimal c.args.gadget) c.in_ok-put_piece.ensures refl (rw c.from.ensures at c.put_number.ensures)
