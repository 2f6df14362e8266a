use Rattle.flp_check.proofs.VerdictLemmas.{body_fits}
use Rattle.flp_check.proofs.laws.fits.Goals as goal

pub returns : goal.returns
returns c = body_fits
