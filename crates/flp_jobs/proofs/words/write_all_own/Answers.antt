use Rattle.std.proofs.Common.{ℕ, ◌+◌, ◌*◌, ◌≤◌, List, length, refl, ◌∙◌, arith}
use Rattle.flp_report.specs.JobParts.{job_of}
use Rattle.flp_worker.proofs.PrefixLemmas.{part-fits, length-part, flat-more}
use Rattle.flp_jobs.specs.Record.{own_words}
use Rattle.flp_jobs.proofs.words.write_all_own.Goals as goal

pub loop-proof-preserved : goal.loop-proof-preserved
loop-proof-preserved c =
    let f : ℕ → List ℕ = own_words c.args.file.now.shape (job_of c.args.job.now) in
    let k : ℕ = c.loop-proof.proof in
    let n : ℕ = c.args.file.now.shape.joint + c.args.file.now.shape.query in
    let fits : k * n + n ≤ length c.loop-proof.own =
    omega (arith, part-fits k c.args.file.now.shape.proofs n c.loop-proof-test.true, c.loop-proof.auto.own, c.requires.own) in
    flat-more f c.loop-proof.own c.write_own.new.own k n n _ refl (c.write_own.auto.own ∙ length-part c.loop-proof.own (k * n) n fits) (omega (arith, fits))
    c.loop-proof.invariant c.write_own.ensures
