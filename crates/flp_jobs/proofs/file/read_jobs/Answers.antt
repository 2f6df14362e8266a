use Rattle.std.proofs.Common.{◌≡◌, ◌+◌, ◌*◌, Err, refl, sym, ap, subst, ◌∙◌, arith}
use Rattle.flp_io.specs.Reads.{ConsumesAtMost}
use Rattle.flp_io.proofs.ReadLemmas.{ConsumesAtMost-none, ConsumesAtMost-raised, ReadsFrom-after, ReadsFrom-as}
use Rattle.flp_report.specs.declared.fault.ReadFault.TheVariants as read
use Rattle.flp_report.specs.Job.{job_bytes_of}
use Rattle.flp_report.specs.JobReader.{job_shape_given}
use Rattle.flp_report.specs.JobParts.{jobs_bytes}
use Rattle.flp_report.specs.Reader.{source_of, reports_left}
use Rattle.flp_report.proofs.ReadsLemmas.{ConsumesAtMost-after}
use Rattle.flp_jobs.proofs.FileLemmas.{length-jobs, end-refused}
use Rattle.flp_jobs.proofs.file.read_jobs.Goals as goal

pub returns-in-Err-end-clause-fault : goal.returns-in-Err-end-clause-fault
returns-in-Err-end-clause-fault g c =
    let jobs = c.in-Ok-jobs.jobs in
    let got = rw c.shape.ensures.source at c.in-Ok-jobs.ensures.bytes in
    end-refused _ c.in-Err-end.fault c.args.shape _ (reports_left c.args.reader.now) _ _ jobs got
    (c.in-Ok-jobs.ensures.shape.0 ∙ c.in-Ok.ensures.shape) (c.in-Ok-jobs.ensures.count ∙ c.in-Ok.ensures.left) c.in-Ok.ensures.none refl c.in-Err-end.ensures.fault

pub returns-in-Err-clause-source : goal.returns-in-Err-clause-source
returns-in-Err-clause-source g c =
    let old = source_of c.args.reader.now in
    let (b, is, large) = c.in-Err.ensures.fault in
    let counted : g.S.Source.faults (source_of c.shape.new.self) ≡ g.S.Source.faults old = ap g.S.Source.faults c.shape.ensures.source in
    record {
      bytes = subst (λ s. ConsumesAtMost (reports_left c.args.reader.now * job_bytes_of c.args.shape + 1) (g.S.Source.left old) (g.S.Source.left s)) (sym c.shape.ensures.source) (ConsumesAtMost-none _ _);
      uses = record {
        later = omega (arith, counted);
        cause = λ failed. let no : ⊥ = cc in absurd no;
        again = λ no. absurd no;
      };
    }

pub returns-in-Err-jobs-clause-source : goal.returns-in-Err-jobs-clause-source
returns-in-Err-jobs-clause-source g c =
    let more : reports_left c.shape.new.self * job_bytes_of (job_shape_given c.shape.new.self) ≡ reports_left c.args.reader.now * job_bytes_of c.args.shape = λ i. c.in-Ok.ensures.left i * job_bytes_of (c.in-Ok.ensures.shape i) in
    let got = rw c.shape.ensures.source at c.in-Err-jobs.ensures.source in
    ReadsFrom-as got (λ few. ConsumesAtMost-raised _ _ _ _ few (omega (arith, more))) (λ is. is) (λ no. absurd no)

pub returns-in-Ok-end-clause-source : goal.returns-in-Ok-end-clause-source
returns-in-Ok-end-clause-source g c =
    let jobs = c.in-Ok-jobs.jobs in
    let bytes = rw c.shape.ensures.source at c.in-Ok-jobs.ensures.bytes in
    let got = rw c.shape.ensures.source at c.in-Ok-jobs.ensures.source in
    let whole = length-jobs jobs c.args.shape (reports_left c.args.reader.now) (c.in-Ok-jobs.ensures.shape.0 ∙ c.in-Ok.ensures.shape) (c.in-Ok-jobs.ensures.count ∙ c.in-Ok.ensures.left) in
    ReadsFrom-after {takes' = ConsumesAtMost 1} (ConsumesAtMost (reports_left c.args.reader.now * job_bytes_of c.args.shape + 1)) got
    (ReadsFrom-as c.in-Ok-end.ensures.source (λ few. few) (λ is. let no : ⊥ = cc in absurd no) (λ no. no))
    (λ first few. ConsumesAtMost-after _ _ _ (jobs_bytes jobs) 1 _ bytes few (omega (arith, whole)))

pub returns-in-Err-end-clause-source : goal.returns-in-Err-end-clause-source
returns-in-Err-end-clause-source g c =
    let jobs = c.in-Ok-jobs.jobs in
    let bytes = rw c.shape.ensures.source at c.in-Ok-jobs.ensures.bytes in
    let got = rw c.shape.ensures.source at c.in-Ok-jobs.ensures.source in
    let whole = length-jobs jobs c.args.shape (reports_left c.args.reader.now) (c.in-Ok-jobs.ensures.shape.0 ∙ c.in-Ok.ensures.shape) (c.in-Ok-jobs.ensures.count ∙ c.in-Ok.ensures.left) in
    ReadsFrom-after {takes' = ConsumesAtMost 1} (ConsumesAtMost (reports_left c.args.reader.now * job_bytes_of c.args.shape + 1)) got
    (ReadsFrom-as c.in-Err-end.ensures.source (λ few. few) (λ is. let same : c.in-Err-end.fault ≡ read.Failed = cc in ap Err same) (λ no. no))
    (λ first few. ConsumesAtMost-after _ _ _ (jobs_bytes jobs) 1 _ bytes few (omega (arith, whole)))
