use Rattle.std.proofs.Common.{refl, codes, decimal}
use Rattle.flp_known.proofs.PutsLemmas.{Puts-after, Puts-short}
use Rattle.flp_verdict.proofs.puts.put_spaced_number.Goals as goal

pub returns-in_err-put_piece : goal.returns-in_err-put_piece
returns-in_err-put_piece g c = Puts-short (codes " ") (decimal c.args.number) c.in_err-put_piece.ensures refl c.from_residual.ensures.0

pub returns : goal.returns
returns g c = Puts-after (codes " ") (decimal c.args.number) c.in_ok-put_piece.ensures refl c.put_number.ensures
