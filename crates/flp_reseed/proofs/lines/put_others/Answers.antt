use Rattle.std.proofs.Common.{◌≤◌, ◌+◌, length, drop, refl, arith}
use Rattle.std.specs.List.{flat_map}
use Rattle.flp_report.specs.JobParts.{jobs_in, job_of}
use Rattle.flp_jobs.specs.declared.rules.Joints.TheVariants.{First}
use Rattle.flp_jobs.specs.Place.{first_job}
use Rattle.flp_jobs.specs.Reading.{setting_of}
use Rattle.flp_jobs.proofs.FileLemmas.{count-jobs}
use Rattle.flp_jobs.proofs.MeasLemmas.{input-taken}
use Rattle.flp_jobs.proofs.PlaceLemmas.{place-good}
use Rattle.flp_known.proofs.PutsLemmas.{UpTo-none, UpTo-more, UpTo-stop}
use Rattle.flp_reseed.specs.Text.{place_lines, hidden_lines}
use Rattle.flp_reseed.proofs.LineLemmas.{UpTo-all, jobs-more, jobs-none, others-lines}
use Rattle.flp_reseed.proofs.lines.put_others.Goals as goal

pub put_place-requires-clause-taken : goal.put_place-requires-clause-taken
put_place-requires-clause-taken g c =
    let file = c.args.file.now in
    let jobs = jobs_in file.jobs in
    let job = job_of c.job-job.result in
    input-taken (setting_of file) (first_job jobs) job c.requires.has.whole.setting
    (place-good First (setting_of file) c.loop-number.number jobs job c.requires.good c.job-job.ensures.numbered)

pub loop-number-init : goal.loop-number-init
loop-number-init g c =
    let file = c.args.file.now in
    let jobs = jobs_in file.jobs in
    let first = job_of c.args.first.now in
    record {
      puts = UpTo-none c.args.sink.now c.args.block.now (hidden_lines (setting_of file) jobs) (flat_map (place_lines (setting_of file) first) (drop 1 jobs))
          (others-lines (setting_of file) jobs first c.requires.is_first) c.requires.ready;
      has = c.requires.has;
    }

pub loop-number-preserved : goal.loop-number-preserved
loop-number-preserved g c =
    let file = c.args.file.now in
    let jobs = jobs_in file.jobs in
    let f = place_lines (setting_of file) (job_of c.args.first.now) in
    let k = c.loop-number.number in
    let job = job_of c.job-job.result in
    record {
      puts = UpTo-more (flat_map f (drop k jobs)) (f job) (flat_map f (drop (k + 1) jobs)) (jobs-more f jobs k job c.job-job.ensures.numbered)
          c.loop-number.invariant.puts c.in_ok-put_place.ensures.puts;
      has = c.put_place.ensures.again;
    }

pub returns-in_err-put_place : goal.returns-in_err-put_place
returns-in_err-put_place g c =
    let file = c.args.file.now in
    let jobs = jobs_in file.jobs in
    let f = place_lines (setting_of file) (job_of c.args.first.now) in
    let k = c.loop-number.number in
    let job = job_of c.job-job.result in
    UpTo-stop (flat_map f (drop k jobs)) (f job) (flat_map f (drop (k + 1) jobs)) (jobs-more f jobs k job c.job-job.ensures.numbered)
    c.loop-number.invariant.puts c.in_err-put_place.ensures.puts refl c.from_residual.ensures.0

pub returns : goal.returns
returns g c =
    let file = c.args.file.now in
    let jobs = jobs_in file.jobs in
    let f = place_lines (setting_of file) (job_of c.args.first.now) in
    let k = c.loop-number.number in
    let count = count-jobs file c.requires.has.whole in
    let all : length jobs ≤ k = omega (arith, count, c.loop-number-test.false) in
    UpTo-all (flat_map f (drop k jobs)) (jobs-none f jobs k all) c.loop-number.invariant.puts
