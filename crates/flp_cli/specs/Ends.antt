-- How the call of a command ended, in the words of its duty.
use Rattle.std.specs.Prelude.{◌≡◌, ◌⊎◌, ℕ, List, ◌∷◌, Result, Err, IsTrue, IfOk, IfErr, IfSome}
use Rattle.std.specs.Io.KnownBytes.{Appends}
use Rattle.flp_batch.specs.declared.fault.EngineFault.TheVariants.{Read, Write}
use Rattle.flp_jobs.specs.declared.fault.ProveFault.{ProveFault}
use Rattle.flp_jobs.specs.declared.fault.ProveFault.TheVariants.{File}
use Rattle.flp_cli.specs.declared.answers.Ending.{Ending}
use Rattle.flp_cli.specs.declared.answers.Ending.TheVariants as ending
use Rattle.flp_cli.specs.Answers.{IsRefusalStatus, is_one_of, status_of, ending_status}
use Rattle.flp_cli.specs.Runs.{Reply, Done, Withheld, Refused, Duty, Writes, StopsInReply, reply_status}
use Rattle.flp_cli.specs.Stream.{Stream, Failed}

-- whichever replies the bytes of an input have, one status tells them
abbrev pub HasOneReply : Duty → Type 0
HasOneReply duty = (bytes : List ℕ) (reply other : Reply) → duty.replies bytes reply → duty.replies bytes other → reply_status reply ≡ reply_status other

-- the kind of the reply to which an ending belongs
abbrev pub reply_by : Ending → (text : List ℕ) → Reply
reply_by ending.Done = Done
reply_by ending.Withheld = Withheld

-- the whole text was written, with this ending
pub record Finishes (duty : Duty) (input output : Stream) (ending : Ending) : Type 0 where
  pub known : IsTrue (is_one_of (ending_status ending) (0 ∷ duty.statuses))
  pub writes : Writes duty (reply_by ending) Appends input output

-- the fault is a refusal of the duty
pub record RefusesInput (duty : Duty) (input : Stream) (fault : ProveFault) : Type 0 where
  pub known : IsTrue (is_one_of (status_of fault) duty.statuses)
  pub replied : IfSome input.old (λ bytes. duty.replies bytes (Refused fault))

-- the call ended so
pub record EndsAs (duty : Duty) (input output : Stream) (result : Result Ending ProveFault) : Type 0 where
  pub done : IfOk result (Finishes duty input output)
  pub stopped : IfErr result (λ fault. duty.early (status_of fault) input output ⊎ ((fault ≡ File Write) × StopsInReply duty input output))
  pub refused : IfErr result (λ fault. IsRefusalStatus (status_of fault) → RefusesInput duty input fault)
  pub read : result ≡ Err (File Read) → Failed input
  pub write : result ≡ Err (File Write) → Failed output
  pub takes : duty.takes input.old input.new
