use Rattle.std.proofs.Common.{◌+◌, refl, arith}
use Rattle.flp_report.specs.JobParts.{job_of}
use Rattle.flp_jobs.specs.Reading.{setting_of}
use Rattle.flp_known.proofs.PutsLemmas.{UpTo-none, UpTo-more, UpTo-stop}
use Rattle.flp_reseed.specs.Text.{seeds_line, place_lines}
use Rattle.flp_reseed.proofs.LineLemmas.{UpTo-all, numbers-left, numbers-all, numbers-more, numbers-none}
use Rattle.flp_reseed.proofs.lines.put_place.Goals as goal

pub loop-proof-init : goal.loop-proof-init
loop-proof-init g c =
    let f = seeds_line (setting_of c.args.file.now) (job_of c.args.first.now) (job_of c.args.job.now) in
    let n = c.args.file.now.shape.proofs in
    record {
      puts = UpTo-none c.args.sink.now c.args.block.now (place_lines (setting_of c.args.file.now) (job_of c.args.first.now) (job_of c.args.job.now)) (numbers-left f 0 n)
          (numbers-all f n) c.requires.ready;
      both = c.turn_to.ensures;
    }

pub loop-proof-preserved : goal.loop-proof-preserved
loop-proof-preserved g c =
    let f = seeds_line (setting_of c.args.file.now) (job_of c.args.first.now) (job_of c.args.job.now) in
    let k = c.loop-proof.proof in
    let n = c.args.file.now.shape.proofs in
    record {
      puts = UpTo-more (numbers-left f k n) (f k) (numbers-left f (k + 1) n) (numbers-more f k n c.loop-proof-test.true) c.loop-proof.invariant.puts c.in_ok-put_proof.ensures.puts;
      both = c.put_proof.ensures.again;
    }

pub returns-in_err-put_proof-clause-puts : goal.returns-in_err-put_proof-clause-puts
returns-in_err-put_proof-clause-puts g c =
    let f = seeds_line (setting_of c.args.file.now) (job_of c.args.first.now) (job_of c.args.job.now) in
    let k = c.loop-proof.proof in
    let n = c.args.file.now.shape.proofs in
    UpTo-stop (numbers-left f k n) (f k) (numbers-left f (k + 1) n) (numbers-more f k n c.loop-proof-test.true) c.loop-proof.invariant.puts
    c.in_err-put_proof.ensures.puts refl c.from_residual.ensures.0

pub returns-clause-puts : goal.returns-clause-puts
returns-clause-puts g c =
    let f = seeds_line (setting_of c.args.file.now) (job_of c.args.first.now) (job_of c.args.job.now) in
    let k = c.loop-proof.proof in
    let n = c.args.file.now.shape.proofs in
    UpTo-all (numbers-left f k n) (numbers-none f k n (omega (arith, c.loop-proof-test.false))) c.loop-proof.invariant.puts
