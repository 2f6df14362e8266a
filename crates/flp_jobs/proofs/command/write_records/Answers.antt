use Rattle.std.proofs.Common.{◌≡◌, ℕ, ◌≤◌, List, length, map, None, refl, ap₂, subst, ◌∙◌, arith}
use Rattle.std.specs.List.{concat}
use Rattle.std.specs.Io.KnownBytes.{Appends}
use Rattle.flp_io.specs.Writes.{TakesPrefix}
use Rattle.flp_io.proofs.UsesLemmas.{Uses-after, Uses-as}
use Rattle.flp_io.proofs.WriteLemmas.{TakesPrefix-whole}
use Rattle.flp_report.specs.JobParts.{jobs_in, job_of}
use Rattle.flp_report.specs.Layout.{record_bytes}
use Rattle.flp_jobs.specs.Reading.{setting_of}
use Rattle.flp_jobs.specs.Record.{record_made}
use Rattle.flp_jobs.proofs.PlaceLemmas.{place-good}
use Rattle.flp_jobs.proofs.RecordLemmas.{made-all, Appends-more, TakesPrefix-made}
use Rattle.flp_jobs.specs.declared.rules.Joints.TheVariants.{Own}
use Rattle.flp_jobs.proofs.MeasLemmas.{input-taken}
use Rattle.flp_jobs.proofs.FileLemmas.{count-jobs}
use Rattle.flp_jobs.proofs.command.write_records.Goals as goal

pub make-requires-clause-taken : goal.make-requires-clause-taken
make-requires-clause-taken g c =
    let file = c.args.file.now in
    let job = job_of c.job-job.result in
    input-taken (setting_of file) job job c.requires.whole.setting (place-good Own (setting_of file) c.loop-number.number (jobs_in file.jobs) job c.requires.good c.job-job.ensures.numbered)

pub returns-in-Err-clause-front : goal.returns-in-Err-clause-front
returns-in-Err-clause-front g c =
    let file = c.args.file.now in
    let job = job_of c.job-job.result in
    let made : record_bytes c.nonce.result.now None c.words.result.now ≡ record_made (setting_of file) job =
    ap₂ (λ (nonce words : List ℕ). record_bytes nonce None words) c.nonce.ensures (c.words.ensures ∙ c.make.ensures.words) in
    TakesPrefix-made (record_made (setting_of file)) (jobs_in file.jobs) _ _ _ c.loop-number.number job c.job-job.ensures.numbered c.loop-number.invariant.bytes
    (subst (λ (l : List ℕ). TakesPrefix (g.K.Sink.taken c.loop-number.output) (g.K.Sink.taken c.write_record.new.sink) l) made c.write_record.ensures.front)

pub returns-in-Err-clause-uses : goal.returns-in-Err-clause-uses
returns-in-Err-clause-uses g c = Uses-after c.loop-number.invariant.uses c.in-Err.ensures.uses

pub returns-clause-uses : goal.returns-clause-uses
returns-clause-uses g c = Uses-as c.loop-number.invariant.uses (λ is. let no : ⊥ = cc in absurd no) (λ ok. tt)

pub loop-number-preserved : goal.loop-number-preserved
loop-number-preserved g c =
    let file = c.args.file.now in
    let job = job_of c.job-job.result in
    let made : record_bytes c.nonce.result.now None c.words.result.now ≡ record_made (setting_of file) job =
    ap₂ (λ (nonce words : List ℕ). record_bytes nonce None words) c.nonce.ensures (c.words.ensures ∙ c.make.ensures.words) in
    record {
      made = c.make.ensures.again;
      bytes = Appends-more (record_made (setting_of file)) (jobs_in file.jobs) _ _ _ c.loop-number.number job c.job-job.ensures.numbered c.loop-number.invariant.bytes
          (subst (λ (l : List ℕ). Appends (g.K.Sink.taken c.loop-number.output) (g.K.Sink.taken c.write_record.new.sink) l) made c.in-Ok.ensures.whole);
      uses = Uses-after c.loop-number.invariant.uses (Uses-as c.in-Ok.ensures.uses (λ no. absurd no) (λ on. refl));
    }

pub returns-clause-bytes : goal.returns-clause-bytes
returns-clause-bytes g c =
    let file = c.args.file.now in
    let count = count-jobs file c.requires.whole in
    let all : length (jobs_in file.jobs) ≤ c.loop-number.number = omega (arith, count, c.loop-number-test.false) in
    subst (λ (l : List ℕ). Appends (g.K.Sink.taken c.args.output.now) (g.K.Sink.taken c.loop-number.output) l)
    (made-all (record_made (setting_of file)) (jobs_in file.jobs) c.loop-number.number all) c.loop-number.invariant.bytes

pub returns-clause-front : goal.returns-clause-front
returns-clause-front g c =
    let file = c.args.file.now in
    let count = count-jobs file c.requires.whole in
    let all : length (jobs_in file.jobs) ≤ c.loop-number.number = omega (arith, count, c.loop-number-test.false) in
    TakesPrefix-whole _ _ (concat (map (record_made (setting_of file)) (jobs_in file.jobs)))
    (subst (λ (l : List ℕ). Appends (g.K.Sink.taken c.args.output.now) (g.K.Sink.taken c.loop-number.output) l)
    (made-all (record_made (setting_of file)) (jobs_in file.jobs) c.loop-number.number all) c.loop-number.invariant.bytes)
