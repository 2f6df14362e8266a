use Rattle.flp_jobs.proofs.LawFileLemmas.{batches_read_back}
use Rattle.flp_jobs.proofs.laws.reads_back.Goals as goal

pub returns : goal.returns
returns c = batches_read_back c.loaded_is_bounded.ensures
