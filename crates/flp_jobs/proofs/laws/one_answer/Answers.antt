use Rattle.flp_batch.specs.Format.{job_files}
use Rattle.flp_jobs.proofs.LawAnswerLemmas.{one_setting, one_refusal, never_both}
use Rattle.flp_jobs.proofs.laws.one_answer.Goals as goal

pub returns-clause-setting : goal.returns-clause-setting
returns-clause-setting c =
    one_setting
    (λ written bytes setting other p q. (c.one_answer.ensures.setting (job_files written) bytes setting.params other.params setting other p q).1)

pub returns-clause-refusal : goal.returns-clause-refusal
returns-clause-refusal c =
    one_refusal
    (λ written bytes setting other p q. (c.one_answer.ensures.setting (job_files written) bytes setting.params other.params setting other p q).1)
    (λ written bytes. c.one_answer.ensures.fault (job_files written) bytes)
    (λ written bytes setting. c.one_answer.ensures.never_both (job_files written) bytes setting.params setting)

pub returns-clause-never_both : goal.returns-clause-never_both
returns-clause-never_both c =
    never_both
    (λ written bytes setting other p q. (c.one_answer.ensures.setting (job_files written) bytes setting.params other.params setting other p q).1)
    (λ written bytes setting. c.one_answer.ensures.never_both (job_files written) bytes setting.params setting)
