-- What a run of a command does, whichever it is. From the reply to the bytes of a whole input up to the run.
use Rattle.std.specs.Prelude.{◌≡◌, ◌≢◌, ◌⊎◌, ℕ, List, ◌∷◌, Option, Some, IsTrue, IfSome}
use Rattle.std.specs.Io.KnownBytes.{Consumes, Appends, IsAtEnd}
use Rattle.flp_io.specs.Writes.{TakesPrefix}
use Rattle.flp_lines.specs.declared.fault.FileKind.{FileKind}
use Rattle.flp_jobs.specs.declared.fault.ProveFault.{ProveFault}
use Rattle.flp_cli.specs.Answers.{IsRefusalStatus, is_one_of, status_line, failure_line, status_of}
use Rattle.flp_cli.specs.Stream.{Stream, Failed, IsQuiet, Says}

-- what a command makes of an input: a text, or one whose aggregate is withheld, or it refuses it
pub data Reply : Type 0 where
  Done : (text : List ℕ) → Reply
  Withheld : (text : List ℕ) → Reply
  Refused : (fault : ProveFault) → Reply

abbrev pub reply_status : Reply → ℕ
reply_status (Done text) = 0
reply_status (Withheld text) = 9
reply_status (Refused fault) = status_of fault

-- what a command is to do
pub record Duty : Type 1 where
  -- what it reads
  pub kind : FileKind
  -- the statuses that its run may have, but for 0 and those of want of memory and of a failed call
  pub statuses : List ℕ
  -- its reply to the bytes of a whole input
  pub replies : List ℕ → Reply → Type 0
  -- what it has written where it ends with a status before it knows its reply, or is about to refuse
  pub early : (status : ℕ) → (input output : Stream) → Type 0
  -- how much it reads
  pub takes : (left left' : Option (List ℕ)) → Type 0

-- the input was read to its end, and the output grew by the text of the reply to its bytes, which is of this kind: by
-- all of it, or by a prefix
pub record Writes (duty : Duty) (reply : (text : List ℕ) → Reply) (grows : (taken taken' : Option (List ℕ)) → List ℕ → Type 0) (input output : Stream) : Type 0 where
  pub bytes : List ℕ
  pub text : List ℕ
  pub read : Consumes input.old input.new bytes
  pub ended : IsAtEnd input.new
  pub replied : duty.replies bytes (reply text)
  pub written : grows output.old output.new text

-- the output grew by a prefix of the text of the reply, of whichever kind
abbrev pub StopsInReply : Duty → (input output : Stream) → Type 0
StopsInReply duty input output = Writes duty Done TakesPrefix input output ⊎ Writes duty Withheld TakesPrefix input output

-- the reply to the bytes of the input is a refusal, which the status and the line tell
pub record Refuses (duty : Duty) (input errors : Stream) (status : ℕ) : Type 0 where
  pub fault : ProveFault
  pub replied : IfSome input.old (λ bytes. duty.replies bytes (Refused fault))
  pub status_is : status ≡ status_of fault
  pub says : Says errors (failure_line duty.kind fault)

-- a run of a command that ended with this status
pub record Runs (duty : Duty) (input output errors : Stream) (status : ℕ) : Type 0 where
  pub known : IsTrue (is_one_of status (0 ∷ 3 ∷ 4 ∷ 5 ∷ duty.statuses))
  -- done, done with the aggregate withheld, refused, or a call failed
  pub done : status ≡ 0 → Writes duty Done Appends input output
  pub withheld : status ≡ 9 → Writes duty Withheld Appends input output
  pub refused : IsRefusalStatus status → Refuses duty input errors status
  pub read_fault : status ≡ 4 → Failed input
  pub write_fault : status ≡ 5 → Failed output
  pub line : (IsRefusalStatus status → ⊥) → Says errors (status_line status)
  -- where nothing failed, the bytes of the input alone decide the status, but for want of memory
  pub decided : (bytes : List ℕ) → input.old ≡ Some bytes → IsQuiet input → IsQuiet output
      → (reply : Reply) → duty.replies bytes reply → (status ≡ 3) ⊎ (status ≡ reply_status reply)
  -- what was written where the run was not done
  pub stopped : status ≢ 0 → status ≢ 9 → duty.early status input output ⊎ ((status ≡ 5) × StopsInReply duty input output)
  -- no more is asked for
  pub takes : duty.takes input.old input.new

-- words that name no command, or no memory for the words
abbrev pub Declines : (errors : Stream) → (usage memory : List ℕ) → ℕ → Type 0
Declines errors usage memory status = ((status ≡ 2) × Says errors usage) ⊎ ((status ≡ 3) × Says errors memory)
