use Rattle.flp_io.proofs.BlockLemmas.{Passes-join, Passes-flushed}
use Rattle.flp_io.proofs.laws.pushes_join.Goals as goal

pub returns : goal.returns
returns c = record { join = Passes-join; flush = Passes-flushed }
