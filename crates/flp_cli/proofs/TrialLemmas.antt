-- The end of `trial`, which writes nothing before it knows its reply, in the words of its duty.
use Rattle.std.proofs.Common.{◌≡◌, ℕ, Option, None, Some, Result, Ok, Err, List, refl, ap, subst, inl, inr, ◌⊎◌, arith}
use Rattle.std.specs.Prelude.{IfSome, IfErr, OnOk}
use Rattle.std.specs.Option.{option_map}
use Rattle.std.specs.Io.KnownBytes.{Appends}
use Rattle.flp_io.specs.Writes.{TakesPrefix}
use Rattle.flp_io.specs.Reads.{ConsumesAtMost}
use Rattle.flp_report.specs.declared.fault.BatchFault.{BatchFault}
use Rattle.flp_report.specs.declared.fault.BatchFault.TheVariants as file
use Rattle.flp_load.specs.Loaded.{IsLoaded}
use Rattle.flp_batch.specs.declared.fault.EngineFault.{EngineFault}
use Rattle.flp_batch.specs.declared.fault.EngineFault.TheVariants.{Memory, Read, Write, Batch, Circuit}
use Rattle.flp_batch.specs.Ends.{Ends}
use Rattle.flp_batch.specs.Fault.{IfFile}
use Rattle.flp_jobs.specs.declared.fault.ProveFault.TheVariants.{File, Place}
use Rattle.flp_trial.specs.Text.{trial_text}
use Rattle.flp_trial.specs.Reply as trial
use Rattle.flp_trial.specs.Reply.{size_fault, IsFaultOfTrial, MakesTrial, WritesTrial}
use Rattle.flp_trial.specs.Laws.{OneFault, NeverBoth}
use Rattle.flp_cli.specs.declared.answers.Ending.TheVariants as ending
use Rattle.flp_cli.specs.Answers.{IsRefusalStatus, engine_status, file_status, all_done, by_file}
use Rattle.flp_cli.specs.Runs.{Done, Withheld, Refused, Writes, StopsInReply}
use Rattle.flp_cli.specs.Ends.{HasOneReply, RefusesInput, EndsAs}
use Rattle.flp_cli.specs.Commands.{trial_duty}
use Rattle.flp_cli.specs.Stream.{Stream}
use Rattle.flp_cli.proofs.RunLemmas.{not_refused, end-done, end-failed}
use Rattle.flp_cli.proofs.StatusLemmas.{whole-text}

pub trial-one : NeverBoth → OneFault → (seed reports : ℕ) → HasOneReply (trial_duty seed reports)
trial-one never one seed reports bytes (Done a) (Done b) x y = refl
trial-one never one seed reports bytes (Done a) (Withheld b) x y = absurd y
trial-one never one seed reports bytes (Withheld a) other x y = absurd x
trial-one never one seed reports bytes (Refused (File f)) (Withheld b) x y = absurd y
trial-one never one seed reports bytes (Done a) (Refused (File f)) x y = absurd (never seed reports bytes a f x y)
trial-one never one seed reports bytes (Done a) (Refused (Place p f)) x y = absurd y
trial-one never one seed reports bytes (Refused (File f)) (Done b) x y = absurd (never seed reports bytes b f y x)
trial-one never one seed reports bytes (Refused (File f)) (Refused (File g)) x y = ap engine_status (one reports bytes f g x y)
trial-one never one seed reports bytes (Refused (File f)) (Refused (Place p g)) x y = absurd y
trial-one never one seed reports bytes (Refused (Place p f)) other x y = absurd x

trial-writes : (seed reports : ℕ) (grows : (taken taken' : Option (List ℕ)) → List ℕ → Type 0) (input output : Stream)
    → MakesTrial seed reports (grows output.old output.new) input.old input.new → Writes (trial_duty seed reports) Done grows input output
trial-writes seed reports grows input output done =
    let reads = done.read in
    let whole = whole-text done.source reads.read.few in
    record {
      bytes = done.source;
      text = trial_text done.params done.circuit seed reports;
      read = reads.read.read;
      ended = reads.ended;
      replied = record {
        params = done.params;
        circuit = done.circuit;
        loaded = subst (λ (t : List ℕ). IsLoaded t done.params done.circuit) whole reads.loaded;
        fits = subst (λ (t : List ℕ). size_fault done.circuit t reports ≡ None) whole done.fits;
        made = refl;
      };
      written = done.written;
    }

-- a size that is too large has status 6
size-status : (size : Option ℕ) (fault : BatchFault) → option_map file.TooLarge size ≡ Some fault → file_status fault ≡ 6
size-status None fault is = cc
size-status (Some bytes) fault is = let same : file.TooLarge bytes ≡ fault = cc in subst (λ (f : BatchFault). file_status f ≡ 6) same refl

trial-early : (seed reports : ℕ) (input output : Stream) (fault : EngineFault) → trial.StopsBy seed reports fault input.old input.new output.old output.new
    → (trial_duty seed reports).early (engine_status fault) input output ⊎ ((fault ≡ Write) × StopsInReply (trial_duty seed reports) input output)
trial-early seed reports input output Memory stopped = inl (record { nothing = ((λ is. omega arith), stopped); judged = λ is. absurd (omega arith) })
trial-early seed reports input output Read stopped = inl (record { nothing = ((λ is. omega arith), stopped); judged = λ is. absurd (omega arith) })
trial-early seed reports input output Write stopped = inr (refl, inl (trial-writes seed reports TakesPrefix input output stopped))
trial-early seed reports input output (Batch f) stopped =
    let six = size-status _ f stopped.1.large in
    inl (record { nothing = ((λ is. omega (arith, six, is)), stopped.0); judged = λ is. absurd (omega (arith, six, is)) })
trial-early seed reports input output (Circuit f) stopped = inl (record { nothing = ((λ is. omega arith), stopped.0); judged = λ _. (f, stopped.1) })

trial-refused : (seed reports : ℕ) (input output : Stream) (fault : EngineFault) → trial.StopsBy seed reports fault input.old input.new output.old output.new
    → IfFile fault (λ f. IfSome input.old (λ bytes. IsFaultOfTrial reports bytes f)) → IsRefusalStatus (engine_status fault) → RefusesInput (trial_duty seed reports) input (File fault)
trial-refused seed reports input output Memory stopped told is = not_refused 3 (λ six. omega arith) (λ seven. omega arith) (λ eight. omega arith) is
trial-refused seed reports input output Read stopped told is = not_refused 4 (λ six. omega arith) (λ seven. omega arith) (λ eight. omega arith) is
trial-refused seed reports input output Write stopped told is = not_refused 5 (λ six. omega arith) (λ seven. omega arith) (λ eight. omega arith) is
trial-refused seed reports input output (Batch f) stopped told is = record { known = rw (size-status _ f stopped.1.large) refl; replied = told }
trial-refused seed reports input output (Circuit f) stopped told is = record { known = refl; replied = told }

pub trial-ends : {T : Type 0} (seed reports : ℕ) (input output : Stream) (result : Result T EngineFault)
    → OnOk result (WritesTrial seed reports input.old input.new output.old output.new)
    → IfErr result (λ fault. trial.StopsBy seed reports fault input.old input.new output.old output.new)
    → Ends (IsFaultOfTrial reports) (ConsumesAtMost 65537) input.old input.new input.faults input.faults_now output.faults output.faults_now result
    → EndsAs (trial_duty seed reports) input output (by_file (all_done result))
trial-ends seed reports input output (Ok nothing) done stopped ends =
    end-done (trial_duty seed reports) input output ending.Done (record { known = refl; writes = trial-writes seed reports Appends input output done }) ends.few
trial-ends seed reports input output (Err fault) done stopped ends =
    end-failed (trial_duty seed reports) input output fault (trial-early seed reports input output fault stopped) (trial-refused seed reports input output fault stopped ends.fault)
    (λ is. ends.read (ap Err is)) (λ is. ends.write (ap Err is)) ends.few
