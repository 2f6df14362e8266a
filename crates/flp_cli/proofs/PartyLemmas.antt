-- The end of `deal` in the words of its duty.
use Rattle.std.proofs.Common.{◌≡◌, ℕ, Option, Some, Result, Ok, Err, List, [], refl, ap, inl, ⊎_elim, arith}
use Rattle.std.specs.Prelude.{IfSome, IfErr, OnOk, OnErr}
use Rattle.std.specs.Io.KnownBytes.{Keeps}
use Rattle.std.proofs.KnownBytes.{Consumes-nil, Keeps-refl}
use Rattle.flp_batch.specs.declared.fault.EngineFault.{EngineFault}
use Rattle.flp_batch.specs.Ends.{Ends}
use Rattle.flp_batch.specs.Fault.{IfFile, IsOfFront, IsOfInput}
use Rattle.flp_batch.specs.File.{IsFault, TakesFew}
use Rattle.flp_batch.specs.Format.{batches, front_size}
use Rattle.flp_batch.specs.Reply.{text_on}
use Rattle.flp_jobs.specs.declared.fault.ProveFault.TheVariants.{File}
use Rattle.flp_lines.specs.Fault.{memory_line}
use Rattle.flp_party.specs.Reply.{file_of, WritesShare, StopsShare, SettlesShare}
use Rattle.flp_cli.specs.declared.answers.Ending.TheVariants as ending
use Rattle.flp_cli.specs.Answers.{IsRefusalStatus, engine_status, all_done, by_file}
use Rattle.flp_cli.specs.Runs.{Runs}
use Rattle.flp_cli.specs.Ends.{HasOneReply, Finishes, RefusesInput, EndsAs}
use Rattle.flp_cli.specs.Commands.{lines_reply, deal_duty}
use Rattle.flp_cli.specs.Stream.{Stream, Says}
use Rattle.flp_cli.proofs.BatchLemmas.{OneSetting, NeverBoth, OneFault, batch-one, batch-refused, text-status, input-status}
use Rattle.flp_cli.proofs.RunLemmas.{end-done, end-failed, run-memory, still, within-none}

pub deal-one : OneSetting → NeverBoth → OneFault → (party : ℕ) → HasOneReply (deal_duty party)
deal-one setting never one party bytes reply other x y =
    batch-one setting never one (Some party) [] (λ _ _. []) (lines_reply (file_of party bytes)) bytes reply other x y

deal-done : (party : ℕ) (input output : Stream) → WritesShare party input.old input.new output.old output.new → Finishes (deal_duty party) input output ending.Done
deal-done party input output done = record {
  known = refl;
  writes = record {
    bytes = done.bytes;
    text = text_on (Some party) (file_of party done.bytes) done.bytes done.setting;
    read = done.read;
    ended = done.ended;
    replied = record { params = done.params; setting = done.setting; is_batch = done.is_batch; made = refl };
    written = done.written;
  };
}

deal-refused : (party : ℕ) (input : Stream) (fault : EngineFault)
    → IfFile fault (λ f. IfSome input.old (λ bytes. IsFault (batches (Some party)) bytes f)) → IsRefusalStatus (engine_status fault) → RefusesInput (deal_duty party) input (File fault)
deal-refused party input fault told is =
    let refuses = batch-refused (Some party) [] (λ _ _. []) (lines_reply (λ _ _. [])) input fault told is in
    record { known = refuses.known; replied = refuses.replied }

-- whichever way it ended
pub deal-ends : {T : Type 0} (party : ℕ) (input output : Stream) (result : Result T EngineFault)
    → OnOk result (WritesShare party input.old input.new output.old output.new)
    → OnErr result (StopsShare party input.old input.new output.old output.new)
    → IfErr result (λ fault. IsOfFront fault → Keeps output.old output.new)
    → IfErr result (λ fault. IsOfInput fault → SettlesShare party input.old input.new output.old output.new)
    → Ends (IsFault (batches (Some party))) (TakesFew (batches (Some party))) input.old input.new input.faults input.faults_now output.faults output.faults_now result
    → EndsAs (deal_duty party) input output (by_file (all_done result))
deal-ends party input output (Ok nothing) done stopped kept settled ends = end-done (deal_duty party) input output ending.Done (deal-done party input output done) ends.few
deal-ends party input output (Err fault) done stopped kept settled ends =
    end-failed (deal_duty party) input output fault
    (inl (record { front = stopped; kept = λ seven. kept (text-status fault seven); settled = λ is. settled (input-status fault is) }))
    (deal-refused party input fault ends.fault)
    (λ is. ends.read (ap Err is)) (λ is. ends.write (ap Err is)) ends.few

-- no memory for the words
pub deal-unread : (party : ℕ) (left taken : Option (List ℕ)) (reads writes : ℕ) (errors : Stream) → Says errors memory_line
    → Runs (deal_duty party) (still left reads) (still taken writes) errors 3
deal-unread party left taken reads writes errors line =
    run-memory (deal_duty party) (still left reads) (still taken writes) errors
    (record { front = record { bytes = []; read = Consumes-nil left; written = inl (Keeps-refl taken) }; kept = λ seven. absurd (omega arith); settled = ⊎_elim (λ four. absurd (omega arith)) (λ six. absurd (omega arith)) })
    (inl (within-none (front_size (batches (Some party))) left)) line
