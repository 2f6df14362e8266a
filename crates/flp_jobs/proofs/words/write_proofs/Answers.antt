use Rattle.std.proofs.Common.{◌≡◌, ℕ, ◌+◌, ◌*◌, ◌≤◌, List, length, refl, ◌∙◌, arith}
use Rattle.flp_meaning.specs.Proof.{honest_proof}
use Rattle.flp_report.specs.JobParts.{job_of}
use Rattle.flp_worker.proofs.PrefixLemmas.{part-fits, length-part, flat-more}
use Rattle.flp_jobs.specs.Record.{job_proof}
use Rattle.flp_jobs.specs.Reading.{setting_of}
use Rattle.flp_jobs.proofs.words.write_proofs.Goals as goal

pub loop-proof-preserved : goal.loop-proof-preserved
loop-proof-preserved c =
    let by = setting_of c.args.file.now in
    let f : ℕ → List ℕ = job_proof by (job_of c.args.job.now) in
    let k : ℕ = c.loop-proof.proof in
    let n : ℕ = c.args.file.now.shape.proof in
    let fits : k * n + n ≤ length c.loop-proof.proofs =
    omega (arith, part-fits k c.args.file.now.shape.proofs n c.loop-proof-test.true, c.loop-proof.auto.proofs, c.requires.proofs) in
    let own : c.prove.new.proof ≡ f k =
    c.prove.ensures.proof ∙ (λ i. honest_proof by.circuit (c.requires.x i) (c.load_joint.ensures i) (c.load_seeds.ensures i)) in
    record {
      again = c.prove.ensures.again ∙ c.loop-proof.invariant.again;
      proofs = flat-more f c.loop-proof.proofs c.prove.new.proof k n n _ refl (c.prove.auto.proof ∙ length-part c.loop-proof.proofs (k * n) n fits) (omega (arith, fits))
          c.loop-proof.invariant.proofs own;
    }
