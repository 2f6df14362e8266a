use Rattle.std.proofs.Common.{◌∙◌, sym}
use Rattle.flp_report.proofs.JobLemmas.{word_from-good, word_from-bad, word_from-start}
use Rattle.flp_report.proofs.job.Jobs.bad_word.Goals as goal

pub returns-in-Some : goal.returns-in-Some
returns-in-Some c =
    let jobs = c.args.self.now in
    let bad = sym (rw (c.job_at.ensures.bytes, c.job_at.ensures.shape) at c.in-Some.ensures) in
    sym (word_from-bad jobs.shape c.loop-place.place jobs.count c.in-Some.word jobs.bytes.items c.loop-place-test.true bad)
    ∙ (sym c.loop-place.invariant ∙ word_from-start jobs.shape jobs.count jobs.bytes.items)

pub loop-place-preserved : goal.loop-place-preserved
loop-place-preserved c =
    let jobs = c.args.self.now in
    let good = sym (rw (c.job_at.ensures.bytes, c.job_at.ensures.shape) at c.in-None.ensures) in
    c.loop-place.invariant ∙ word_from-good jobs.shape c.loop-place.place jobs.count jobs.bytes.items c.loop-place-test.true good
