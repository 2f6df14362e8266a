use Rattle.flp_jobs.proofs.FileLemmas.{IsJobOf-numbered}
use Rattle.flp_jobs.proofs.file.JobFile.job.Goals as goal

pub returns-clause-of_file : goal.returns-clause-of_file
returns-clause-of_file c =
    IsJobOf-numbered c.args.self.now c.job_at.result c.args.place c.requires.whole c.job_at.ensures.shape c.job_at.ensures.numbered
