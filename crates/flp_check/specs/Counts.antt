-- What is counted while unrolling, and the first fault that is met.
use Rattle.std.specs.Prelude.{◌≡◌, ◌≢◌, ℕ, suc, nat_lt, if◌then◌else◌, List, [], ◌∷◌, Result, Ok, Err, slice_index, slice_set, MatchResult}
use Rattle.flp_syntax.specs.declared.fault.LangFault.{LangFault}
use Rattle.flp_syntax.specs.declared.fault.LangFault.TheVariants.{Memory, Index, Arity, Limit}
use Rattle.flp_syntax.specs.declared.fault.Counted.TheVariants as counted
use Rattle.flp_check.specs.Events.{Event, visit, bad_index, bad_arity, gadget_call, a_check, an_out}

-- the nodes that were met, the calls of each gadget, the checks and the outputs
pub record Counts : Type 0 where
  pub visits : ℕ
  pub calls : List ℕ
  pub checks : ℕ
  pub outs : ℕ

-- the counts after an event, or the fault that it is
abbrev pub meet : Counts → Event → Result Counts LangFault
meet counts visit = if nat_lt counts.visits 4194304 then Ok (record counts { visits = suc counts.visits }) else Err (Limit counted.Visits 4194305)
meet counts (bad_index at) = Err (Index at)
meet counts (bad_arity at) = Err (Arity at)
meet counts (gadget_call gadget) = if nat_lt (slice_index counts.calls gadget) 4095 then Ok (record counts { calls = slice_set counts.calls gadget (suc (slice_index counts.calls gadget)) }) else Err (Limit counted.Calls 4096)
meet counts a_check = if nat_lt counts.checks 65536 then Ok (record counts { checks = suc counts.checks }) else Err (Limit counted.Checks 65537)
meet counts an_out = if nat_lt counts.outs 65536 then Ok (record counts { outs = suc counts.outs }) else Err (Limit counted.Outs 65537)

-- goes on where there is no fault
abbrev pub go_on : {A B : Type 0} → Result A LangFault → (A → Result B LangFault) → Result B LangFault
go_on (Ok value) next = next value
go_on (Err fault) next = Err fault

-- the counts after events, or the first fault among them
abbrev pub walk : Counts → List Event → Result Counts LangFault
walk counts [] = Ok counts
walk counts (event ∷ more) = go_on (meet counts event) (λ after. walk after more)

-- events without a fault, and the counts after them
pub record Reaches (before : Counts) (events : List Event) (after : Counts) : Type 0 where
  pub is : walk before events ≡ Ok after

-- events with a fault, the first among them; where memory is wanting, nothing is said
pub record Stops (before : Counts) (events : List Event) (fault : LangFault) : Type 0 where
  pub is : fault ≢ Memory → walk before events ≡ Err fault

-- what a part of the walk answers: the counts after its events, or the first fault among them
abbrev pub Walks : {A : Type 0} → Counts → List Event → Result A LangFault → Counts → Type 0
Walks before events result after = MatchResult result (λ _. Reaches before events after) (λ fault. Stops before events fault)
