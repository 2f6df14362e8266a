use Rattle.std.proofs.Common.{◌++◌, refl, codes, decimal}
use Rattle.flp_known.proofs.PutsLemmas.{Puts-after, Puts-short}
use Rattle.flp_verify.proofs.lines.put_domain.Goals as goal

pub returns-in_err-put_piece : goal.returns-in_err-put_piece
returns-in_err-put_piece g c = Puts-short (codes "domain ") (decimal c.args.proof ++ (codes " " ++ decimal c.args.gadget)) c.in_err-put_piece.ensures refl c.from_residual.ensures.0

pub returns-in_err-put_number : goal.returns-in_err-put_number
returns-in_err-put_number g c = Puts-after (codes "domain ") (decimal c.args.proof ++ (codes " " ++ decimal c.args.gadget)) c.in_ok-put_piece.ensures refl
    (Puts-short (decimal c.args.proof) (codes " " ++ decimal c.args.gadget) c.in_err-put_number.ensures refl c.from_residual-in_err-put_number.ensures.0)

pub returns : goal.returns
returns g c = Puts-after (codes "domain ") (decimal c.args.proof ++ (codes " " ++ decimal c.args.gadget)) c.in_ok-put_piece.ensures refl
    (Puts-after (decimal c.args.proof) (codes " " ++ decimal c.args.gadget) c.in_ok-put_number.ensures refl c.put_spaced_number.ensures)
