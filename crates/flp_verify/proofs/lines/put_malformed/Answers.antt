use Rattle.std.proofs.Common.{refl, codes, decimal}
use Rattle.flp_known.proofs.PutsLemmas.{Puts-after, Puts-short}
use Rattle.flp_verify.proofs.lines.put_malformed.Goals as goal

pub returns-in_err-put_piece : goal.returns-in_err-put_piece
returns-in_err-put_piece g c = Puts-short (codes "malformed ") (decimal c.args.word) c.in_err-put_piece.ensures refl c.from_residual.ensures.0

pub returns : goal.returns
returns g c = Puts-after (codes "malformed ") (decimal c.args.word) c.in_ok-put_piece.ensures refl c.put_number.ensures
