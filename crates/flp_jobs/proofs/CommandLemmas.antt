-- What follows from what is said of a fault of the input.
use Rattle.std.proofs.Common.{Result}
use Rattle.std.specs.Prelude.{IfErr}
use Rattle.std.proofs.lemmas.Result.{IfErr-weaker}
use Rattle.flp_batch.specs.declared.fault.EngineFault.TheVariants.{Memory, Read, Write, Batch, Circuit}
use Rattle.flp_jobs.specs.declared.fault.ProveFault.{ProveFault}
use Rattle.flp_jobs.specs.declared.fault.ProveFault.TheVariants.{File, Place}
use Rattle.flp_jobs.specs.Fault.{IfJobs}

IfJobs-weaker : (P Q : ProveFault → Type 0) (fault : ProveFault) → ((f : ProveFault) → P f → Q f) → IfJobs fault P → IfJobs fault Q
IfJobs-weaker P Q (File Memory) more said = tt
IfJobs-weaker P Q (File Read) more said = tt
IfJobs-weaker P Q (File Write) more said = tt
IfJobs-weaker P Q (File (Batch fault)) more said = more (File (Batch fault)) said
IfJobs-weaker P Q (File (Circuit fault)) more said = more (File (Circuit fault)) said
IfJobs-weaker P Q (Place place fault) more said = more (Place place fault) said

pub refused-weaker : {T : Type 0} → (P Q : ProveFault → Type 0) (r : Result T ProveFault) → ((f : ProveFault) → P f → Q f)
    → IfErr r (λ fault. IfJobs fault P) → IfErr r (λ fault. IfJobs fault Q)
refused-weaker P Q r more said = IfErr-weaker r (λ fault. IfJobs fault P) (λ fault. IfJobs fault Q) (λ fault. IfJobs-weaker P Q fault more) said
