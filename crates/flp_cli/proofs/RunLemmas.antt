-- From the end of a command's call to its run.
use Rattle.std.proofs.Common.{◌≡◌, ℕ, ◌≤◌, Bool, true, false, ◌||◌, Option, None, Some, Result, Ok, Err, List, [], ◌∷◌, refl, sym, ap, subst, inl, inr, ◌⊎◌, ⊎_elim, arith}
use Rattle.std.specs.Prelude.{◌==◌, IsTrue}
use Rattle.std.proofs.KnownBytes.{Consumes-nil}
use Rattle.flp_report.specs.Reads.{ConsumesWithin}
use Rattle.flp_batch.specs.declared.fault.EngineFault.{EngineFault}
use Rattle.flp_batch.specs.declared.fault.EngineFault.TheVariants.{Memory, Read, Write, Batch, Circuit}
use Rattle.flp_jobs.specs.declared.fault.ProveFault.{ProveFault}
use Rattle.flp_jobs.specs.declared.fault.ProveFault.TheVariants.{File, Place}
use Rattle.flp_cli.specs.declared.answers.Ending.{Ending}
use Rattle.flp_cli.specs.declared.answers.Ending.TheVariants as ending
use Rattle.flp_cli.specs.Answers.{IsRefusalStatus, is_one_of, engine_status, status_of, failure_line, status_line, ending_status, end_status, end_line}
use Rattle.flp_cli.specs.Runs.{Done, Withheld, Refused, Duty, StopsInReply, Runs}
use Rattle.flp_cli.specs.Ends.{HasOneReply, Finishes, RefusesInput, EndsAs}
use Rattle.flp_cli.specs.Stream.{Stream, Failed, Says}
use Rattle.flp_cli.proofs.StatusLemmas.{file-status, whole-read, told}

-- no status below 6 is a refusal
pub not_refused : {A : Type 0} (status : ℕ) → (status ≡ 6 → ⊥) → (status ≡ 7 → ⊥) → (status ≡ 8 → ⊥) → IsRefusalStatus status → A
not_refused status six seven eight is = absurd (⊎_elim six (λ more. ⊎_elim seven eight more) is)

-- a refusal is no other status
not_other : (n other : ℕ) → (other ≡ 0) ⊎ (other ≡ 4) ⊎ (other ≡ 5) ⊎ (other ≡ 9) → IsRefusalStatus n → n ≡ other → ⊥
not_other n other which is same =
    not_refused n (λ six. omega arith) (λ seven. omega arith) (λ eight. omega arith) is

-- a refusal of the duty is one of the statuses that its run may have
or-more : (this rest : Bool) → rest ≡ true → (this || rest) ≡ true
or-more true rest is = refl
or-more false rest is = is

known-refused : (status : ℕ) (statuses : List ℕ) → IsTrue (is_one_of status statuses) → IsTrue (is_one_of status (0 ∷ 3 ∷ 4 ∷ 5 ∷ statuses))
known-refused status statuses is =
    or-more (0 == status) _ (or-more (3 == status) _ (or-more (4 == status) _ (or-more (5 == status) _ is)))

-- a whole text, with its ending
run-done : (duty : Duty) → HasOneReply duty → (input output errors : Stream) (ending : Ending) → Finishes duty input output ending → duty.takes input.old input.new
    → Says errors [] → Runs duty input output errors (ending_status ending)
run-done duty one input output errors ending.Done finishes takes line =
    let done = finishes.writes in
    record {
      known = refl;
      done = λ _. done;
      withheld = λ is. absurd (omega arith);
      refused = not_refused 0 (λ six. omega arith) (λ seven. omega arith) (λ eight. omega arith);
      read_fault = λ is. absurd (omega arith);
      write_fault = λ is. absurd (omega arith);
      line = λ _. line;
      decided = λ bytes is quiet_in quiet_out reply replied.
          let all : bytes ≡ done.bytes = whole-read input.old input.new bytes done.bytes is done.read done.ended in
          inr (one bytes (Done done.text) reply (subst (λ (b : List ℕ). duty.replies b (Done done.text)) (sym all) done.replied) replied);
      stopped = λ other _. absurd (other refl);
      takes = takes;
    }
run-done duty one input output errors ending.Withheld finishes takes line =
    let done = finishes.writes in
    record {
      known = finishes.known;
      done = λ is. absurd (omega arith);
      withheld = λ _. done;
      refused = not_refused 9 (λ six. omega arith) (λ seven. omega arith) (λ eight. omega arith);
      read_fault = λ is. absurd (omega arith);
      write_fault = λ is. absurd (omega arith);
      line = λ _. line;
      decided = λ bytes is quiet_in quiet_out reply replied.
          let all : bytes ≡ done.bytes = whole-read input.old input.new bytes done.bytes is done.read done.ended in
          inr (one bytes (Withheld done.text) reply (subst (λ (b : List ℕ). duty.replies b (Withheld done.text)) (sym all) done.replied) replied);
      stopped = λ _ other. absurd (other refl);
      takes = takes;
    }

-- a stream with which nothing was done
abbrev pub still : Option (List ℕ) → ℕ → Stream
still bytes count = record { old = bytes; new = bytes; faults = count; faults_now = count }

-- of a file nothing is read
pub within-none : (limit : List ℕ → ℕ) (left : Option (List ℕ)) → ConsumesWithin limit left left
within-none limit None = tt
within-none limit (Some xs) = let none : 0 ≤ limit xs = omega arith in record { bytes = []; few = none; gone = Consumes-nil (Some xs) }

-- an end for want of memory
pub run-memory : (duty : Duty) (input output errors : Stream) → duty.early 3 input output → duty.takes input.old input.new
    → Says errors (status_line 3) → Runs duty input output errors 3
run-memory duty input output errors early takes line = record {
  known = refl;
  done = λ is. absurd (omega arith);
  withheld = λ is. absurd (omega arith);
  refused = not_refused 3 (λ six. omega arith) (λ seven. omega arith) (λ eight. omega arith);
  read_fault = λ is. absurd (omega arith);
  write_fault = λ is. absurd (omega arith);
  line = λ _. line;
  decided = λ bytes is quiet_in quiet_out reply replied. inl refl;
  stopped = λ _ _. inl early;
  takes = takes;
}

-- an end for a failed read
run-read : (duty : Duty) (input output errors : Stream) → duty.early 4 input output → duty.takes input.old input.new
    → Failed input → Says errors (status_line 4) → Runs duty input output errors 4
run-read duty input output errors early takes failed line = record {
  known = refl;
  done = λ is. absurd (omega arith);
  withheld = λ is. absurd (omega arith);
  refused = not_refused 4 (λ six. omega arith) (λ seven. omega arith) (λ eight. omega arith);
  read_fault = λ _. failed;
  write_fault = λ is. absurd (omega arith);
  line = λ _. line;
  decided = λ bytes is quiet_in quiet_out reply replied. absurd (quiet_in failed);
  stopped = λ _ _. inl early;
  takes = takes;
}

-- an end for a failed write
run-write : (duty : Duty) (input output errors : Stream) → duty.early 5 input output ⊎ StopsInReply duty input output → duty.takes input.old input.new
    → Failed output → Says errors (status_line 5) → Runs duty input output errors 5
run-write duty input output errors stopped takes failed line = record {
  known = refl;
  done = λ is. absurd (omega arith);
  withheld = λ is. absurd (omega arith);
  refused = not_refused 5 (λ six. omega arith) (λ seven. omega arith) (λ eight. omega arith);
  read_fault = λ is. absurd (omega arith);
  write_fault = λ _. failed;
  line = λ _. line;
  decided = λ bytes is quiet_in quiet_out reply replied. absurd (quiet_out failed);
  stopped = λ _ _. ⊎_elim (λ early. inl early) (λ late. inr (refl, late)) stopped;
  takes = takes;
}

-- an end for a refusal
run-refused : (duty : Duty) → HasOneReply duty → (input output errors : Stream) (fault : ProveFault) → IsRefusalStatus (status_of fault)
    → RefusesInput duty input fault → duty.early (status_of fault) input output → duty.takes input.old input.new
    → Says errors (failure_line duty.kind fault) → Runs duty input output errors (status_of fault)
run-refused duty one input output errors fault status refused early takes line =
    record {
      known = known-refused (status_of fault) duty.statuses refused.known;
      done = λ is. absurd (not_other (status_of fault) 0 (inl refl) status is);
      withheld = λ is. absurd (not_other (status_of fault) 9 (inr (inr (inr refl))) status is);
      refused = λ _. record { fault = fault; replied = refused.replied; status_is = refl; says = line };
      read_fault = λ is. absurd (not_other (status_of fault) 4 (inr (inl refl)) status is);
      write_fault = λ is. absurd (not_other (status_of fault) 5 (inr (inr (inl refl))) status is);
      line = λ other. absurd (other status);
      decided = λ bytes is quiet_in quiet_out reply replied.
          inr (one bytes (Refused fault) reply (told input.old bytes (λ b. duty.replies b (Refused fault)) is refused.replied) replied);
      stopped = λ _ _. inl early;
      takes = takes;
    }

-- what is said of an end that is not for a failed write
early-of : {A B : Type 0} (fault : ProveFault) → (fault ≡ File Write → ⊥) → A ⊎ ((fault ≡ File Write) × B) → A
early-of fault other (inl early) = early
early-of fault other (inr late) = absurd (other late.0)

either-of : {A B C : Type 0} → A ⊎ (C × B) → A ⊎ B
either-of (inl early) = inl early
either-of (inr late) = inr late.1

run-stopped : (duty : Duty) → HasOneReply duty → (input output errors : Stream) (fault : ProveFault)
    → duty.early (status_of fault) input output ⊎ ((fault ≡ File Write) × StopsInReply duty input output)
    → (IsRefusalStatus (status_of fault) → RefusesInput duty input fault)
    → (fault ≡ File Read → Failed input) → (fault ≡ File Write → Failed output) → duty.takes input.old input.new
    → Says errors (failure_line duty.kind fault) → Runs duty input output errors (status_of fault)
run-stopped duty one input output errors (File Memory) stopped refused read write takes line =
    run-memory duty input output errors (early-of (File Memory) (λ is. cc) stopped) takes line
run-stopped duty one input output errors (File Read) stopped refused read write takes line =
    run-read duty input output errors (early-of (File Read) (λ is. cc) stopped) takes (read refl) line
run-stopped duty one input output errors (File Write) stopped refused read write takes line =
    run-write duty input output errors (either-of stopped) takes (write refl) line
run-stopped duty one input output errors (File (Batch why)) stopped refused read write takes line =
    let status : IsRefusalStatus (status_of (File (Batch why))) = ⊎_elim (λ six. inl six) (λ seven. inr (inl seven)) (file-status why) in
    run-refused duty one input output errors (File (Batch why)) status (refused status) (early-of (File (Batch why)) (λ is. cc) stopped) takes line
run-stopped duty one input output errors (File (Circuit why)) stopped refused read write takes line =
    let status : IsRefusalStatus (status_of (File (Circuit why))) = inr (inl refl) in
    run-refused duty one input output errors (File (Circuit why)) status (refused status) (early-of (File (Circuit why)) (λ is. cc) stopped) takes line
run-stopped duty one input output errors (Place place why) stopped refused read write takes line =
    let status : IsRefusalStatus (status_of (Place place why)) = inr (inr refl) in
    run-refused duty one input output errors (Place place why) status (refused status) (early-of (Place place why) (λ is. cc) stopped) takes line

-- whichever way it ended
run-ended : (duty : Duty) → HasOneReply duty → (input output errors : Stream) (result : Result Ending ProveFault)
    → EndsAs duty input output result → Says errors (end_line duty.kind result) → Runs duty input output errors (end_status result)
run-ended duty one input output errors (Ok ending) ends line = run-done duty one input output errors ending ends.done ends.takes line
run-ended duty one input output errors (Err fault) ends line =
    run-stopped duty one input output errors fault ends.stopped ends.refused (λ is. ends.read (ap Err is)) (λ is. ends.write (ap Err is)) ends.takes line

-- the same, where the status is given by an equation
pub run-by : (duty : Duty) → HasOneReply duty → (input output errors : Stream) (result : Result Ending ProveFault) (status : ℕ)
    → EndsAs duty input output result → status ≡ end_status result → Says errors (end_line duty.kind result) → Runs duty input output errors status
run-by duty one input output errors result status ends is line = rw is (run-ended duty one input output errors result ends line)

-- ---- the ends of calls

-- a command that wrote its whole text
pub end-done : (duty : Duty) (input output : Stream) (ending : Ending) → Finishes duty input output ending → duty.takes input.old input.new
    → EndsAs duty input output (Ok ending)
end-done duty input output ending finishes takes = record {
  done = finishes;
  stopped = tt;
  refused = tt;
  read = λ is. cc;
  write = λ is. cc;
  takes = takes;
}

-- a fault of the file
pub end-failed : (duty : Duty) (input output : Stream) (fault : EngineFault)
    → duty.early (engine_status fault) input output ⊎ ((fault ≡ Write) × StopsInReply duty input output)
    → (IsRefusalStatus (engine_status fault) → RefusesInput duty input (File fault))
    → (fault ≡ Read → Failed input) → (fault ≡ Write → Failed output) → duty.takes input.old input.new
    → EndsAs duty input output (Err (File fault))
end-failed duty input output fault stopped refused read write takes = record {
  done = tt;
  stopped = ⊎_elim (λ early. inl early) (λ late. inr (ap File late.0, late.1)) stopped;
  refused = refused;
  read = λ is. read cc;
  write = λ is. write cc;
  takes = takes;
}
