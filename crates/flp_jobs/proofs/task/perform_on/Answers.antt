use Rattle.std.proofs.Common.{ℕ, Option, List, subst}
use Rattle.std.specs.Prelude.{IfSome}
use Rattle.std.proofs.lemmas.Result.{on_ok_weaker}
use Rattle.flp_report.specs.Reader.{source_of}
use Rattle.flp_batch.specs.Format.{job_files}
use Rattle.flp_batch.specs.File.{TakesFew}
use Rattle.flp_jobs.specs.declared.fault.ProveFault.{ProveFault}
use Rattle.flp_jobs.specs.declared.rules.Rules.{Rules}
use Rattle.flp_jobs.specs.Reading.{Reads}
use Rattle.flp_jobs.specs.Rules.{IsRefusedBy}
use Rattle.flp_jobs.proofs.CommandLemmas.{refused-weaker}
use Rattle.flp_jobs.proofs.task.perform_on.Goals as goal

pub returns-in-Ok-clause-done : goal.returns-in-Ok-clause-done
returns-in-Ok-clause-done g c =
    let left = g.S.Source.left (source_of c.args.reader.now) in
    let left' = g.S.Source.left (source_of c.read_file.new.reader) in
    on_ok_weaker c.answer.result (λ all. all left left' (subst (λ (r : Rules). Reads r.written left left' c.in-Ok.file) c.rules.ensures c.in-Ok.ensures.reads)) c.answer.ensures.done

pub returns-in-Ok-clause-stopped : goal.returns-in-Ok-clause-stopped
returns-in-Ok-clause-stopped g c = λ is.
    let left = g.S.Source.left (source_of c.args.reader.now) in
    let left' = g.S.Source.left (source_of c.read_file.new.reader) in
    c.answer.ensures.stopped is left left' (subst (λ (r : Rules). Reads r.written left left' c.in-Ok.file) c.rules.ensures c.in-Ok.ensures.reads)

pub returns-in-Ok-clause-ends : goal.returns-in-Ok-clause-ends
returns-in-Ok-clause-ends g c =
    let asked = g.T.JobTask.asked c.args.task.now in
    let left = g.S.Source.left (source_of c.args.reader.now) in
    let left' = g.S.Source.left (source_of c.read_file.new.reader) in
    let P : ProveFault → Type 0 = λ f. (left left' : Option (List ℕ)) → Reads asked.written left left' c.in-Ok.file → IfSome left (λ bytes. IsRefusedBy asked bytes f) in
    let Q : ProveFault → Type 0 = λ f. IfSome left (λ bytes. IsRefusedBy asked bytes f) in
    record {
      fault = refused-weaker P Q c.answer.result (λ f said. said left left' (subst (λ (r : Rules). Reads r.written left left' c.in-Ok.file) c.rules.ensures c.in-Ok.ensures.reads)) c.answer.ensures.fault;
      few = subst (λ (r : Rules). TakesFew (job_files r.written) left left') c.rules.ensures c.read_file.ensures.source.bytes;
      read = λ is. absurd (c.answer.ensures.no_read is);
      write = c.answer.ensures.write;
      later_in = c.read_file.ensures.source.uses.later;
      later_out = c.answer.ensures.later;
    }
