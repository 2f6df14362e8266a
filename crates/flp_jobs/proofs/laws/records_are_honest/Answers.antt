use Rattle.flp_jobs.proofs.LawFileLemmas.{records_are_honest}
use Rattle.flp_jobs.proofs.laws.records_are_honest.Goals as goal

pub returns : goal.returns
returns c = records_are_honest c.loaded_is_bounded.ensures
