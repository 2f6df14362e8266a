use Rattle.std.proofs.Common.{refl, codes}
use Rattle.flp_verdict.specs.Text.{spaced}
use Rattle.flp_known.proofs.PutsLemmas.{Puts-after, Puts-short}
use Rattle.flp_reseed.proofs.lines.put_seeds.Goals as goal

pub returns-in_err-put_piece : goal.returns-in_err-put_piece
returns-in_err-put_piece g c = Puts-short (codes " seeds") (spaced c.args.seeds.now) c.in_err-put_piece.ensures refl c.from_residual.ensures.0

pub returns : goal.returns
returns g c = Puts-after (codes " seeds") (spaced c.args.seeds.now) c.in_ok-put_piece.ensures refl c.put_spaced.ensures
