-- What is said of a fault of `prove`.
use Rattle.flp_batch.specs.Fault.{IfFile}
use Rattle.flp_jobs.specs.declared.fault.ProveFault.{ProveFault}
use Rattle.flp_jobs.specs.declared.fault.ProveFault.TheVariants.{File, Place}

-- what is said of a fault of the input; of failed calls and want of memory nothing is said
abbrev pub IfJobs : ProveFault → (ProveFault → Type 0) → Type 0
IfJobs (File fault) P = IfFile fault (λ f. P (File f))
IfJobs (Place place fault) P = P (Place place fault)
