-- What the program answers besides the text: the exit status, and the line on the error output. From a fault
-- of a file up to the end of a command.
use Rattle.std.specs.Prelude.{ℕ, ◌≡◌, ◌⊎◌, Bool, List, [], ◌++◌, ◌==◌, if◌then◌else◌, codes, Result, Ok, Err}
use Rattle.std.specs.List.{list_any}
use Rattle.flp_report.specs.declared.fault.BatchFault.{BatchFault}
use Rattle.flp_report.specs.declared.fault.BatchFault.TheVariants.{TextLength}
use Rattle.flp_batch.specs.declared.fault.EngineFault.{EngineFault}
use Rattle.flp_batch.specs.declared.fault.EngineFault.TheVariants.{Memory, Read, Write, Batch, Circuit}
use Rattle.flp_lines.specs.declared.fault.FileKind.{FileKind}
use Rattle.flp_lines.specs.Fault.{fault_line, memory_line, read_line, write_line}
use Rattle.flp_lines.specs.Pieces.{numbered, paired}
use Rattle.flp_jobs.specs.declared.fault.PlaceFault.{PlaceFault}
use Rattle.flp_jobs.specs.declared.fault.PlaceFault.TheVariants as place
use Rattle.flp_jobs.specs.declared.fault.ProveFault.{ProveFault}
use Rattle.flp_jobs.specs.declared.fault.ProveFault.TheVariants.{File, Place}
use Rattle.flp_verify.specs.declared.counted.End.{End}
use Rattle.flp_verify.specs.declared.counted.End.TheVariants.{Released, Withheld}
use Rattle.flp_cli.specs.declared.answers.Ending.{Ending}
use Rattle.flp_cli.specs.declared.answers.Ending.TheVariants as ending

-- ---- statuses

-- the status is one of these
abbrev pub is_one_of : ℕ → List ℕ → Bool
is_one_of status statuses = list_any (λ s. s == status) statuses

-- the input is refused: the file, its circuit, or a place of it
abbrev pub IsRefusalStatus : ℕ → Type 0
IsRefusalStatus status = (status ≡ 6) ⊎ (status ≡ 7) ⊎ (status ≡ 8)

-- the exit status of a file's fault; a text that is too long is a refused circuit
abbrev pub file_status : BatchFault → ℕ
file_status (TextLength length) = 7
file_status fault = 6

abbrev pub engine_status : EngineFault → ℕ
engine_status Memory = 3
engine_status Read = 4
engine_status Write = 5
engine_status (Batch fault) = file_status fault
engine_status (Circuit fault) = 7

-- the exit status of each fault of a command
abbrev pub status_of : ProveFault → ℕ
status_of (File fault) = engine_status fault
status_of (Place place fault) = 8

-- ---- lines

-- the words of a bad place
abbrev pub place_text : PlaceFault → List ℕ
place_text (place.Range number value) = paired (codes "range ") number value
place_text (place.Weight count) = numbered (codes "weight ") count
place_text (place.Check check proof) = numbered (codes "check ") check ++ numbered (codes " of proof ") proof

-- the line of a bad place
abbrev pub place_line : ℕ → PlaceFault → List ℕ
place_line place fault = numbered (codes "flp: place ") place ++ codes ": " ++ place_text fault ++ codes "\n"

-- the line of each fault of a command that reads a file of this kind
abbrev pub failure_line : FileKind → ProveFault → List ℕ
failure_line kind (File fault) = fault_line kind fault
failure_line kind (Place place fault) = place_line place fault

-- the line where the words name no command
abbrev pub usage_line : List ℕ
usage_line = codes "flp: usage: flp verify, prove, lengths, prep, explain or trial\n"

-- the line of a command's status that is no refusal
abbrev pub status_line : ℕ → List ℕ
status_line status =
    if status == 3 then memory_line
    else (if status == 4 then read_line
    else (if status == 5 then write_line
    else []))

-- ---- the end of a command

-- the exit status of a command that wrote its whole text
abbrev pub ending_status : Ending → ℕ
ending_status ending.Done = 0
ending_status ending.Withheld = 9

abbrev pub end_status : Result Ending ProveFault → ℕ
end_status (Ok ending) = ending_status ending
end_status (Err fault) = status_of fault

abbrev pub end_line : FileKind → Result Ending ProveFault → List ℕ
end_line kind (Ok ending) = []
end_line kind (Err fault) = failure_line kind fault

-- the end of a command that withholds nothing
abbrev pub all_done : {T F : Type 0} → Result T F → Result Ending F
all_done (Ok nothing) = Ok ending.Done
all_done (Err fault) = Err fault

-- the end of `verify`
abbrev pub released : {F : Type 0} → Result End F → Result Ending F
released (Ok Released) = Ok ending.Done
released (Ok (Withheld policy)) = Ok ending.Withheld
released (Err fault) = Err fault

-- the end of a command whose faults are all of the file
abbrev pub by_file : {T : Type 0} → Result T EngineFault → Result T ProveFault
by_file (Ok ending) = Ok ending
by_file (Err fault) = Err (File fault)
