-- The laws of what circuits mean: what no reading changes, the two readings, and the check at which an encoding fails.
use Rattle.std.specs.Prelude.{ℕ, ◌≡◌, ◌≢◌, ◌+◌, ◌<◌, List, map, length, take, slice_index, Option, None, Some}
use Rattle.flp_gadget.specs.KindTree.{value_of}
use Rattle.flp_syntax.specs.Tree.{Program}
use Rattle.flp_meaning.specs.Meaning.{Call, Reading}
use Rattle.flp_meaning.specs.Circuit.{circuit_of, checks_of, calls_of, kind_of, direct, with_answers, IsValid, failing_check}
use Rattle.flp_meaning.specs.Gadgets.{gadgets_called, calls_to, calls_made, check_count, out_count}

-- ---- what no reading changes

-- the gadgets of the calls, in order
abbrev pub GadgetsAreFixed : Type 0
GadgetsAreFixed =
    (body : Program) (reading : Reading) → map (λ (call : Call). call.gadget) (calls_of body reading) ≡ gadgets_called body

-- and so the number of calls of each gadget
abbrev pub CallsAreFixed : Type 0
CallsAreFixed =
    (body : Program) (reading : Reading) (gadget : ℕ)
    → length (calls_to gadget (calls_of body reading)) ≡ calls_made body gadget

-- the number of checks, and of outs
abbrev pub ChecksAreFixed : Type 0
ChecksAreFixed = (body : Program) (reading : Reading) → length (checks_of body reading) ≡ check_count body

abbrev pub OutsAreFixed : Type 0
OutsAreFixed = (body : Program) (reading : Reading) → length (circuit_of body reading).value.outs ≡ out_count body

-- ---- the two readings

-- the values of the calls in the direct reading
abbrev pub call_values : Program → (x joint : List ℕ) → List ℕ
call_values body x joint =
    map (λ (call : Call). value_of (kind_of body call.gadget) call.inputs) (calls_of body (direct body x joint))

-- the circuit with the calls' own values as answers, and 1 as unit, is the circuit in the direct reading
abbrev pub AnsweredIsDirect : Type 0
AnsweredIsDirect =
    (body : Program) (x joint : List ℕ)
    → circuit_of body (with_answers x joint 1 (call_values body x joint)) ≡ circuit_of body (direct body x joint)

-- with the values of the first k calls as answers, whatever the others are, the calls up to the next one are those of the direct reading
abbrev pub CallsAreFilled : Type 0
CallsAreFilled =
    (body : Program) (x joint answers : List ℕ) (k : ℕ)
    → ((number : ℕ) → number < k → slice_index answers number ≡ slice_index (call_values body x joint) number)
    → take (k + 1) (calls_of body (with_answers x joint 1 answers)) ≡ take (k + 1) (calls_of body (direct body x joint))

-- ---- validity

-- no check is not 0, or this one is the least
abbrev pub IsFailing : Program → (x joint : List ℕ) → Option ℕ → Type 0
IsFailing body x joint None = IsValid body x joint
IsFailing body x joint (Some check) =
    (check < check_count body)
    × (slice_index (checks_of body (direct body x joint)) check ≢ 0)
    × ((earlier : ℕ) → earlier < check → slice_index (checks_of body (direct body x joint)) earlier ≡ 0)

-- the check at which an encoding fails is the least that is not 0, and there is none exactly where the encoding is valid
abbrev pub FailingCheckIsFound : Type 0
FailingCheckIsFound = (body : Program) (x joint : List ℕ) → IsFailing body x joint (failing_check body x joint)
