use Rattle.std.proofs.Common.{◌++◌, refl, codes}
use Rattle.flp_verdict.specs.Text.{spaced}
use Rattle.flp_known.proofs.PutsLemmas.{Puts-after, Puts-short}
use Rattle.flp_verify.proofs.ending.put_aggregate.Goals as goal

pub returns-in_err-put_piece : goal.returns-in_err-put_piece
returns-in_err-put_piece g c = Puts-short (codes "aggregate") (spaced c.args.aggregate.now ++ codes "\n") c.in_err-put_piece.ensures refl c.from_residual.ensures.0

pub returns-in_err-put_spaced : goal.returns-in_err-put_spaced
returns-in_err-put_spaced g c = Puts-after (codes "aggregate") (spaced c.args.aggregate.now ++ codes "\n") c.in_ok-put_piece.ensures refl
    (Puts-short (spaced c.args.aggregate.now) (codes "\n") c.in_err-put_spaced.ensures refl c.from_residual-in_err-put_spaced.ensures.0)

pub returns : goal.returns
returns g c = Puts-after (codes "aggregate") (spaced c.args.aggregate.now ++ codes "\n") c.in_ok-put_piece.ensures refl
    (Puts-after (spaced c.args.aggregate.now) (codes "\n") c.in_ok-put_spaced.ensures refl c.put_piece-2.ensures)
