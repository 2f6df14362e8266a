use Rattle.std.proofs.Common.{refl, decimal, ◌∙◌}
use Rattle.flp_meaning.specs.Verifier.{gadget_in_domain}
use Rattle.flp_report.specs.JobParts.{job_of}
use Rattle.flp_jobs.specs.Encoding.{job_query}
use Rattle.flp_jobs.specs.Reading.{setting_of}
use Rattle.flp_known.proofs.PutsLemmas.{Puts-after, Puts-short}
use Rattle.flp_reseed.specs.Text.{matched_seeds, told}
use Rattle.flp_reseed.proofs.LineLemmas.{told-seeds, told-domain}
use Rattle.flp_reseed.proofs.lines.put_told.Goals as goal

pub returns-in_err-put_number-clause-puts : goal.returns-in_err-put_number-clause-puts
returns-in_err-put_number-clause-puts g c =
    let by = setting_of c.args.file.now in
    let first = job_of c.args.first.now in
    let proof = c.args.proof in
    let domain = gadget_in_domain by.circuit (job_query by.shape first proof) in
    Puts-short (decimal proof) (told domain (matched_seeds by first (job_of c.args.job.now) proof)) (rw c.from.ensures at c.in_err-put_number.ensures) refl c.from_residual.ensures.0

pub returns-in-Ok-clause-puts : goal.returns-in-Ok-clause-puts
returns-in-Ok-clause-puts g c =
    let by = setting_of c.args.file.now in
    let first = job_of c.args.first.now in
    let proof = c.args.proof in
    let domain = gadget_in_domain by.circuit (job_query by.shape first proof) in
    let seeds = matched_seeds by first (job_of c.args.job.now) proof in
    let said = told-seeds domain seeds c.matched.result.now c.in-Ok.ensures.outside (c.matched.ensures ∙ c.in-Ok.ensures.matched) in
    Puts-after (decimal proof) (told domain seeds) (rw c.from.ensures at c.in_ok-put_number.ensures) refl (rw said at c.put_seeds.ensures)

pub returns-in-Err-clause-puts : goal.returns-in-Err-clause-puts
returns-in-Err-clause-puts g c =
    let by = setting_of c.args.file.now in
    let first = job_of c.args.first.now in
    let proof = c.args.proof in
    let domain = gadget_in_domain by.circuit (job_query by.shape first proof) in
    let seeds = matched_seeds by first (job_of c.args.job.now) proof in
    let said = told-domain domain seeds c.in-Err.refusal.gadget c.in-Err.ensures.inside in
    Puts-after (decimal proof) (told domain seeds) (rw c.from.ensures at c.in_ok-put_number.ensures) refl (rw said at c.put_domain.ensures)
