-- The number of each call among the calls of its gadget, from 1.
use Rattle.std.specs.Prelude.{ℕ, ◌≡◌, ◌+◌, ◌<◌, List, length, map, take, slice_index}
use Rattle.flp_meaning.specs.Gadgets.{times}
use Rattle.flp_emit.specs.declared.code.CallForms.{CallForms}

-- the gadgets of calls
abbrev pub gadgets_in : List CallForms → List ℕ
gadgets_in calls = map (λ (call : CallForms). call.gadget) calls

-- each number says how often its gadget was called so far
pub record AreNumbers (called numbers : List ℕ) : Type 0 where
  pub count : length numbers ≡ length called
  pub each :
      (k : ℕ) → k < length called → slice_index numbers k ≡ times (slice_index called k) (take (k + 1) called)
