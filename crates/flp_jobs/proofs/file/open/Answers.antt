use Rattle.std.proofs.Common.{◌≡◌, ℕ, List, Err, refl, sym, ap, subst}
use Rattle.flp_io.proofs.ReadLemmas.{ReadsFrom-as}
use Rattle.std.specs.Prelude.{IfSome}
use Rattle.flp_load.specs.Loaded.{IsLoaded}
use Rattle.flp_load.specs.Fault.{IsLoadFault}
use Rattle.flp_report.specs.Reader.{source_of}
use Rattle.flp_batch.specs.declared.fault.EngineFault.{EngineFault}
use Rattle.flp_batch.specs.declared.fault.EngineFault.TheVariants.{Read}
use Rattle.flp_batch.specs.Fault.{fault_from, fault_of_text, IfFile}
use Rattle.flp_batch.proofs.FaultLemmas.{fault_from-read, fault_of_text-read}
use Rattle.flp_batch.specs.Format.{job_files}
use Rattle.flp_batch.specs.File.{IsFault}
use Rattle.flp_jobs.proofs.FileLemmas.{text-refused}
use Rattle.flp_jobs.proofs.file.open.Goals as goal

pub returns-in-Err-load_circuit-clause-fault : goal.returns-in-Err-load_circuit-clause-fault
returns-in-Err-load_circuit-clause-fault g c =
    let head = c.in-Ok.ensures.bytes in
    let P : EngineFault → Type 0 = λ e. IfFile e (λ f. IfSome (g.S.Source.left (source_of c.args.reader.now)) (λ bytes. IsFault (job_files c.args.written) bytes f)) in
    let Q : List ℕ → Type 0 = λ text. IsLoadFault text c.in-Err-load_circuit.fault in
    let refused = subst Q c.as_slice.ensures c.in-Err-load_circuit.ensures.fault in
    subst P (sym c.from-in-Err-load_circuit.ensures) (text-refused c.args.written _ _ head.0 c.in-Ok.header c.in-Err-load_circuit.fault head.2 head.1 refused)

pub returns-in-Err-clause-source : goal.returns-in-Err-clause-source
returns-in-Err-clause-source g c =
    ReadsFrom-as c.in-Err.ensures.source (λ few. few)
    (λ is.
    let from = c.from.ensures in
    let turned : fault_from c.in-Err.fault ≡ Read = cc in
    ap Err (fault_from-read c.in-Err.fault turned))
    (λ ok. let no : ⊥ = cc in absurd no)

pub returns-in-Err-load_circuit-clause-source : goal.returns-in-Err-load_circuit-clause-source
returns-in-Err-load_circuit-clause-source g c =
    ReadsFrom-as c.in-Ok.ensures.source (λ few. few)
    (λ is.
    let from = c.from-in-Err-load_circuit.ensures in
    let turned : fault_of_text c.in-Err-load_circuit.fault ≡ Read = cc in
    absurd (fault_of_text-read c.in-Err-load_circuit.fault turned))
    (λ ok. let no : ⊥ = cc in absurd no)

pub returns-clause-source : goal.returns-clause-source
returns-clause-source g c =
    ReadsFrom-as c.in-Ok.ensures.source (λ few. few) (λ is. let no : ⊥ = cc in absurd no) (λ ok. refl)

pub returns-clause-opens : goal.returns-clause-opens
returns-clause-opens g c =
    let head = c.in-Ok.ensures.bytes in
    let loaded = c.in-Ok-load_circuit.loaded in
    let Q : List ℕ → Type 0 = λ text. IsLoaded text loaded.params loaded.plan.circuit in
    record {
      bytes = head.0;
      read = head.2;
      head = head.1;
      limits = c.in-Ok.ensures.limits;
      text = subst Q c.as_slice.ensures c.in-Ok-load_circuit.ensures.loaded;
      shape = c.shape_of-shape.ensures;
    }
