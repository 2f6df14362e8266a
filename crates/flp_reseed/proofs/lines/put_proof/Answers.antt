use Rattle.std.proofs.Common.{◌++◌, refl, codes, take}
use Rattle.flp_report.specs.JobParts.{job_of}
use Rattle.flp_verdict.specs.Text.{line_head}
use Rattle.flp_jobs.specs.Reading.{setting_of}
use Rattle.flp_known.proofs.PutsLemmas.{Puts-after, Puts-short}
use Rattle.flp_reseed.specs.Text.{proof_told}
use Rattle.flp_reseed.proofs.lines.put_proof.Goals as goal

pub returns-in_err-put_nonce-clause-puts : goal.returns-in_err-put_nonce-clause-puts
returns-in_err-put_nonce-clause-puts g c =
    let head = line_head (take 16 (job_of c.args.job.now)) in
    let said = proof_told (setting_of c.args.file.now) (job_of c.args.first.now) (job_of c.args.job.now) c.args.proof in
    let fails = c.from_residual.ensures.0 in
    Puts-short (head ++ said) (codes "\n") (Puts-short {s = c.from_residual.result} head said (rw c.nonce.ensures at c.in_err-put_nonce.ensures) refl fails) fails fails

pub returns-in_err-put_told-clause-puts : goal.returns-in_err-put_told-clause-puts
returns-in_err-put_told-clause-puts g c =
    let head = line_head (take 16 (job_of c.args.job.now)) in
    let said = proof_told (setting_of c.args.file.now) (job_of c.args.first.now) (job_of c.args.job.now) c.args.proof in
    Puts-short (head ++ said) (codes "\n") (Puts-after head said (rw c.nonce.ensures at c.in_ok-put_nonce.ensures) refl c.in_err-put_told.ensures.puts) refl
    c.from_residual-in_err-put_told.ensures.0

pub returns-clause-puts : goal.returns-clause-puts
returns-clause-puts g c =
    let head = line_head (take 16 (job_of c.args.job.now)) in
    let said = proof_told (setting_of c.args.file.now) (job_of c.args.first.now) (job_of c.args.job.now) c.args.proof in
    Puts-after (head ++ said) (codes "\n") (Puts-after head said (rw c.nonce.ensures at c.in_ok-put_nonce.ensures) refl c.in_ok-put_told.ensures.puts) refl c.put_piece.ensures
