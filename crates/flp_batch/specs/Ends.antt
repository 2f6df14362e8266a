-- How a call ended that reads an input and writes an output, whatever it answers.
use Rattle.std.specs.Prelude.{ℕ, ◌≡◌, ◌≤◌, List, Option, Result, Err, IfErr, IfSome}
use Rattle.flp_io.specs.Faults.{Rose}
use Rattle.flp_batch.specs.declared.fault.EngineFault.{EngineFault}
use Rattle.flp_batch.specs.declared.fault.EngineFault.TheVariants.{Read, Write}
use Rattle.flp_batch.specs.Fault.{IfFile}

-- a fault of the file is one of the bytes that were left, no more of these are taken than may be, and a call that
-- failed is the cause of the answer that says so
pub record Ends {T : Type 0} (is_fault : List ℕ → EngineFault → Type 0) (takes : Option (List ℕ) → Option (List ℕ) → Type 0) (left left' : Option (List ℕ)) (reads reads' writes writes' : ℕ) (result : Result T EngineFault) : Type 0 where
  pub fault : IfErr result (λ fault. IfFile fault (λ f. IfSome left (λ bytes. is_fault bytes f)))
  pub few : takes left left'
  pub read : result ≡ Err Read → Rose reads reads'
  pub write : result ≡ Err Write → Rose writes writes'
  pub later_in : reads ≤ reads'
  pub later_out : writes ≤ writes'
