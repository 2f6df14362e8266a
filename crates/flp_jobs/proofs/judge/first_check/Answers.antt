use Rattle.std.proofs.Common.{ℕ, List, refl, sym, ap₂, ◌∙◌}
use Rattle.flp_report.specs.JobParts.{job_of}
use Rattle.flp_meaning.specs.Circuit.{failing_check}
use Rattle.flp_jobs.specs.Reading.{setting_of}
use Rattle.flp_jobs.proofs.PlaceLemmas.{check-more, check-here}
use Rattle.flp_jobs.proofs.judge.first_check.Goals as goal

pub returns-in-Some-clause-check : goal.returns-in-Some-clause-check
returns-in-Some-clause-check c =
    let by = setting_of c.args.file.now in
    let under = job_of c.args.under.now in
    let job = job_of c.args.job.now in
    let same = ap₂ (λ (x joint : List ℕ). failing_check by.circuit x joint) c.requires.x c.load_joint.ensures in
    sym (c.loop-proof.invariant.goes_on ∙ check-here by under job c.loop-proof.proof by.shape.proofs _ c.in-Some.check c.loop-proof-test.true (c.in-Some.ensures.check ∙ same) refl)

pub loop-proof-preserved : goal.loop-proof-preserved
loop-proof-preserved c =
    let by = setting_of c.args.file.now in
    let under = job_of c.args.under.now in
    let job = job_of c.args.job.now in
    let same = ap₂ (λ (x joint : List ℕ). failing_check by.circuit x joint) c.requires.x c.load_joint.ensures in
    record {
      again = c.in-None.ensures.again ∙ c.loop-proof.invariant.again;
      goes_on = c.loop-proof.invariant.goes_on ∙ check-more by under job c.loop-proof.proof by.shape.proofs _ c.loop-proof-test.true (c.in-None.ensures.check ∙ same) refl;
    }
