use Rattle.std.proofs.Common.{◌++◌, refl, codes}
use Rattle.flp_known.proofs.PutsLemmas.{Puts-after, Puts-short}
use Rattle.flp_known.proofs.writing.put_line.Goals as goal

pub returns-in_err-put_piece : goal.returns-in_err-put_piece
returns-in_err-put_piece g c = Puts-short c.args.name.now (c.args.said.now ++ codes "\n") c.in_err-put_piece.ensures refl c.from_residual.ensures.0

pub returns-in_err-put_piece-2 : goal.returns-in_err-put_piece-2
returns-in_err-put_piece-2 g c = Puts-after c.args.name.now (c.args.said.now ++ codes "\n") c.in_ok-put_piece.ensures refl
    (Puts-short c.args.said.now (codes "\n") c.in_err-put_piece-2.ensures refl c.from_residual-in_err-put_piece-2.ensures.0)

pub returns : goal.returns
returns g c = Puts-after c.args.name.now (c.args.said.now ++ codes "\n") c.in_ok-put_piece.ensures refl
    (Puts-after c.args.said.now (codes "\n") c.in_ok-put_piece-2.ensures refl c.put_piece-3.ensures)
