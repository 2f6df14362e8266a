use Rattle.std.proofs.Common.{◌≡◌, ◌≤◌, ◌+◌, ◌*◌, length, Err, inl, sym, ap, subst, ◌∙◌}
use Rattle.flp_io.specs.Reads.{ConsumesAtMost}
use Rattle.flp_report.specs.Job.{job_bytes_of}
use Rattle.flp_io.proofs.ReadLemmas.{ReadsFrom-after, ReadsFrom-as}
use Rattle.std.specs.Prelude.{IfSome}
use Rattle.flp_report.specs.declared.header.Header.{Header}
use Rattle.flp_report.specs.Reader.{source_of, place_of, reports_left}
use Rattle.flp_batch.specs.declared.fault.EngineFault.{EngineFault}
use Rattle.flp_batch.specs.declared.fault.EngineFault.TheVariants.{Read, Write}
use Rattle.flp_batch.specs.Fault.{fault_from, IfFile}
use Rattle.flp_batch.specs.Format.{job_files}
use Rattle.flp_batch.specs.File.{IsFault, TakesFew}
use Rattle.flp_batch.proofs.FaultLemmas.{fault_from-read, fault_from-write}
use Rattle.flp_jobs.specs.Reading.{setting_behind}
use Rattle.flp_jobs.proofs.FileLemmas.{jobs-refused, Reads-from, few-jobs}
use Rattle.flp_jobs.proofs.SettingLemmas.{circuit-of, IsSetting-from}
use Rattle.flp_jobs.proofs.file.read_file.Goals as goal

pub returns-in-Ok-read_jobs-clause-reads : goal.returns-in-Ok-read_jobs-clause-reads
returns-in-Ok-read_jobs-clause-reads g c =
    let at = c.in-Ok.ensures.at in
    let jobs = c.in-Ok-read_jobs.ensures in
    Reads-from c.args.written _ _ c.in-Ok.front c.in-Ok.ensures.opens _ c.header_made.result c.in-Ok-read_jobs.jobs (place_of c.open.new.reader) (reports_left c.open.new.reader)
    at.place at.jobs c.header_made.ensures jobs.fits jobs.bytes jobs.ended jobs.shape jobs.count jobs.words

pub returns-in-Ok-read_jobs-clause-whole : goal.returns-in-Ok-read_jobs-clause-whole
returns-in-Ok-read_jobs-clause-whole g c =
    let front = c.in-Ok.front in
    let o = c.in-Ok.ensures.opens in
    let jobs = c.in-Ok-read_jobs.ensures in
    record {
      setting = IsSetting-from c.args.written front.header (setting_behind front) (circuit-of _ front.loaded.params front.loaded.plan.circuit o.text) o.shape o.limits.least_shares;
      text = subst (λ (h : Header). length h.text ≤ 65536) (sym c.header_made.ensures) o.limits.text;
      shape = jobs.shape;
      count = jobs.count ∙ (c.in-Ok.ensures.at.jobs ∙ sym (ap (λ (h : Header). h.reports) c.header_made.ensures));
      words = jobs.words;
    }

pub returns-in-Err-clause-source : goal.returns-in-Err-clause-source
returns-in-Err-clause-source g c = ReadsFrom-as c.in-Err.ensures.source (λ few. inl few) (λ is. let same : c.in-Err.fault ≡ Read = cc in ap Err same) (λ no. absurd no)

pub returns-in-Ok-read_jobs-clause-source : goal.returns-in-Ok-read_jobs-clause-source
returns-in-Ok-read_jobs-clause-source g c =
    ReadsFrom-after {takes' = ConsumesAtMost (reports_left c.open.new.reader * job_bytes_of c.in-Ok.front.shape + 1)} (TakesFew (job_files c.args.written)) c.in-Ok.ensures.source (ReadsFrom-as c.in-Ok-read_jobs.ensures.source (λ few. few) (λ is. let no : ⊥ = cc in absurd no) (λ no. no))
    (λ first few. few-jobs c.args.written _ _ c.in-Ok.front c.in-Ok.ensures.opens _ (reports_left c.open.new.reader) c.in-Ok.ensures.at.jobs few)

pub returns-in-Err-read_jobs-clause-source : goal.returns-in-Err-read_jobs-clause-source
returns-in-Err-read_jobs-clause-source g c =
    ReadsFrom-after {takes' = ConsumesAtMost (reports_left c.open.new.reader * job_bytes_of c.in-Ok.front.shape + 1)} (TakesFew (job_files c.args.written)) c.in-Ok.ensures.source
    (ReadsFrom-as c.in-Err-read_jobs.ensures.source (λ few. few)
    (λ is.
    let from = c.from.ensures in
    let turned : fault_from c.in-Err-read_jobs.fault ≡ Read = cc in
    ap Err (fault_from-read c.in-Err-read_jobs.fault turned)) (λ no. no))
    (λ first few. few-jobs c.args.written _ _ c.in-Ok.front c.in-Ok.ensures.opens _ (reports_left c.open.new.reader) c.in-Ok.ensures.at.jobs few)

pub returns-in-Err-read_jobs-clause-fault : goal.returns-in-Err-read_jobs-clause-fault
returns-in-Err-read_jobs-clause-fault g c =
    let at = c.in-Ok.ensures.at in
    let P : EngineFault → Type 0 = λ e. IfFile e (λ f. IfSome (g.S.Source.left (source_of c.args.reader.now)) (λ bytes. IsFault (job_files c.args.written) bytes f)) in
    subst P (sym c.from.ensures)
    (jobs-refused c.args.written _ _ c.in-Ok.front c.in-Ok.ensures.opens (place_of c.open.new.reader) (reports_left c.open.new.reader) c.in-Err-read_jobs.fault at.place at.jobs c.in-Err-read_jobs.ensures.fault)

pub returns-in-Err-read_jobs-clause-no_write : goal.returns-in-Err-read_jobs-clause-no_write
returns-in-Err-read_jobs-clause-no_write g c = λ is.
    let from = c.from.ensures in
    let turned : fault_from c.in-Err-read_jobs.fault ≡ Write = cc in
    fault_from-write c.in-Err-read_jobs.fault turned
