use Rattle.std.proofs.Common.{◌≡◌, List, ℕ, length, sym, subst, ◌∙◌, Ok}
use Rattle.flp_io.specs.declared.failed.Failed.{Failed}
use Rattle.flp_report.specs.JobParts.{jobs_in, job_of}
use Rattle.flp_jobs.specs.declared.rules.Joints.TheVariants.{First}
use Rattle.flp_jobs.specs.Place.{first_job}
use Rattle.flp_jobs.specs.Reading.{setting_of}
use Rattle.flp_jobs.proofs.FileLemmas.{count-jobs}
use Rattle.flp_jobs.proofs.MeasLemmas.{input-taken}
use Rattle.flp_jobs.proofs.PlaceLemmas.{place-good}
use Rattle.flp_known.specs.Puts.{Puts}
use Rattle.flp_known.proofs.PutsLemmas.{Puts-none}
use Rattle.flp_reseed.proofs.LineLemmas.{no-lines}
use Rattle.flp_reseed.proofs.lines.put_lines.Goals as goal

pub begin-requires-clause-taken : goal.begin-requires-clause-taken
begin-requires-clause-taken g c =
    let file = c.args.file.now in
    let jobs = jobs_in file.jobs in
    let job = job_of c.job-first.result in
    input-taken (setting_of file) (first_job jobs) job c.requires.whole.setting (place-good First (setting_of file) 0 jobs job c.requires.good c.job-first.ensures.numbered)

pub returns-then-file-eq0 : goal.returns-then-file-eq0
returns-then-file-eq0 g c =
    let file = c.args.file.now in
    let jobs = jobs_in file.jobs in
    let none : length jobs ≡ 0 = count-jobs file c.requires.whole ∙ c.if-file-eq0.true in
    subst (λ (text : List ℕ). Puts {T = Unit {0}} {E = Failed} g.K.Sink.taken g.K.Sink.faults g.K.Sink.ready c.args.sink.now c.args.sink.now c.args.block.now c.args.block.now text (Ok tt))
    (sym (no-lines (setting_of file) jobs none)) (Puts-none c.args.sink.now c.args.block.now tt c.requires.ready)
