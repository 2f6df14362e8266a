-- Counts of faults, from the parts up: how a count rises, and what an answer says of it.
use Rattle.std.specs.Prelude.{ℕ, ◌+◌, ◌-◌, ◌^◌, ◌≤◌, ◌==◌, Bool, List, min, ⊤}
use Rattle.std.specs.List.{list_any}

-- the count after one fault more: it stops at `u64::MAX`
abbrev pub next_count : ℕ → ℕ
next_count count = min (count + 1) (2 ^ 64 - 1)

-- the count rose, or stands at its end
abbrev pub Rose : ℕ → ℕ → Type 0
Rose before now = next_count before ≤ now

-- what a call did with a source or a sink: the count of its faults did not fall, and rose where the call says that it
-- failed; and it may be called again where the call says that it went on
pub record Uses {S : Type 0} (faults : S → ℕ) (ready : S → Type 0) (old new : S) (failed went_on : Type 0) : Type 0 where
  pub later : faults old ≤ faults new
  pub cause : failed → Rose (faults old) (faults new)
  pub again : went_on → ready new

-- what may always be called
abbrev pub always_ready : {S : Type 0} → S → Type 0
always_ready stream = ⊤

-- whether the call of this number is among those that are to fail
abbrev pub is_chosen : List ℕ → ℕ → Bool
is_chosen fails call = list_any (λ k. k == call) fails
