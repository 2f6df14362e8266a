-- Which bytes of the input are the text.
use Rattle.std.proofs.Common.{ℕ, ◌<◌, ◌≤◌, List, [], ◌++◌, length, take, Option, None, Some, IfSome, ◌≡◌, ⊎_elim, subst, arith}
use Rattle.std.specs.Io.KnownBytes.{Consumes, IsAtEnd, Keeps}
use Rattle.std.proofs.lemmas.Grind.{common_steps}
use Rattle.std.proofs.lemmas.Bool.{cases_lt}
use Rattle.flp_syntax.specs.declared.syntax.Params.{Params}
use Rattle.flp_syntax.specs.Tree.{Program}
use Rattle.flp_load.specs.Loaded.{IsLoaded}
use Rattle.flp_load.proofs.AnswerLemmas.{read_parsed}
use Rattle.flp_load.specs.Fault.{IsCircuitFault}
use Rattle.flp_load.specs.declared.fault.CircuitFault.{CircuitFault}
use Rattle.flp_batch.specs.declared.fault.EngineFault.{EngineFault}
use Rattle.flp_batch.specs.declared.fault.EngineFault.TheVariants.{Memory, Read, Write, Batch, Circuit}
use Rattle.flp_batch.specs.Fault.{IfFile}
use Rattle.flp_lengths.specs.Reading.{judged_text, ReadsText, ReadsCircuit, ReadsFault, FailsToRead}
use Rattle.flp_lengths.specs.Reply.{StopsBy, IsFaultOfText}

-- known bytes that were read up to a limit, or to their end, are their own front
front_of_known : (most : ℕ) (bytes rest text : List ℕ) → bytes ≡ text ++ rest → length text ≤ most → (length text < most → rest ≡ []) → text ≡ take most bytes
front_of_known most bytes rest text is few ended = ⊎_elim
    (λ (less : length text < most). grind (arith, common_steps, ended less))
    (λ (all : most ≤ length text). grind (arith, common_steps))
    (cases_lt (length text) most)

front_of : (most : ℕ) (left left' : Option (List ℕ)) (text : List ℕ) → Consumes left left' text → length text ≤ most → (length text < most → IsAtEnd left')
    → IfSome left (λ bytes. text ≡ take most bytes)
front_of most None left' text read few ended = tt
front_of most (Some bytes) None text read few ended = absurd read
front_of most (Some bytes) (Some rest) text read few ended = front_of_known most bytes rest text read few ended

-- what was read to the front of a buffer is the text
pub reads_text :
    (left left' : Option (List ℕ)) (buf : List ℕ) (count : ℕ) → length buf ≡ 65537 → count ≤ length buf
    → Consumes left left' (take count buf) → (count < length buf → IsAtEnd left') → ReadsText left left' (take count buf)
reads_text left left' buf count size bound read end =
    let same : length (take count buf) ≡ count = grind (arith, common_steps) in
    let few : length (take count buf) ≤ 65537 = omega arith in
    let ended : length (take count buf) < 65537 → IsAtEnd left' = λ (less : length (take count buf) < 65537). end (omega arith) in
    record { read = read; few = few; ended = ended; front = front_of 65537 left left' (take count buf) read few ended }

-- a text that is loaded is not too long
loaded_short : (text : List ℕ) (params : Option Params) (circuit : Program) → IsLoaded text params circuit → length text ≤ 65536
loaded_short text params circuit loaded =
    let parsed = read_parsed text params circuit loaded.read in
    parsed.1.1.0

-- a text that was read and is loaded is the whole input
pub reads_circuit :
    (left left' : Option (List ℕ)) (text : List ℕ) (params : Option Params) (circuit : Program) → ReadsText left left' text → IsLoaded text params circuit
    → ReadsCircuit left left' text params circuit
reads_circuit left left' text params circuit read loaded =
    let short = loaded_short text params circuit loaded in
    record { read = read; ended = read.ended (omega arith); loaded = loaded }

-- a text that was read and is refused
pub load_fails :
    (left left' : Option (List ℕ)) (text : List ℕ) (fault : CircuitFault) → ReadsText left left' text → IsCircuitFault text fault → ReadsFault left left' fault
load_fails left left' text fault read is = record { text = text; read = read; refused = is }

-- where no circuit was read, nothing is written
pub stops_unread :
    (left left' taken taken' : Option (List ℕ)) (fault : EngineFault) → FailsToRead fault left left' → Keeps taken taken' → StopsBy fault left left' taken taken'
stops_unread left left' taken taken' Memory failed kept = kept
stops_unread left left' taken taken' Read failed kept = kept
stops_unread left left' taken taken' Write failed kept = absurd failed
stops_unread left left' taken taken' (Batch fault) failed kept = absurd failed
stops_unread left left' taken taken' (Circuit fault) failed kept = (kept, failed)

-- the fault of the text that was read is that of the bytes, where these are told
fault_of_front : (left left' : Option (List ℕ)) (fault : CircuitFault) → ReadsFault left left' fault → IfSome left (λ bytes. IsCircuitFault (judged_text bytes) fault)
fault_of_front None left' fault failed = tt
fault_of_front (Some bytes) left' fault failed = subst (λ (text : List ℕ). IsCircuitFault text fault) failed.read.front failed.refused

pub fault_told : (left left' : Option (List ℕ)) (fault : EngineFault) → FailsToRead fault left left' → IfFile fault (λ f. IfSome left (λ bytes. IsFaultOfText bytes f))
fault_told left left' Memory failed = tt
fault_told left left' Read failed = tt
fault_told left left' Write failed = tt
fault_told left left' (Batch fault) failed = absurd failed
fault_told left left' (Circuit fault) failed = fault_of_front left left' fault failed
