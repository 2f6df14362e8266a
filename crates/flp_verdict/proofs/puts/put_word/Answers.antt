use Rattle.std.proofs.Common.{refl, codes}
use Rattle.flp_known.proofs.PutsLemmas.{Puts-after, Puts-short}
use Rattle.flp_verdict.proofs.puts.put_word.Goals as goal

pub returns-in_err-put_piece : goal.returns-in_err-put_piece
returns-in_err-put_piece g c = Puts-short c.args.word.now (codes " ") c.in_err-put_piece.ensures refl c.from_residual.ensures.0

pub returns : goal.returns
returns g c = Puts-after c.args.word.now (codes " ") c.in_ok-put_piece.ensures refl c.put_piece-2.ensures
