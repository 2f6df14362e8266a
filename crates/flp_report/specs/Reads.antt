-- How many bytes a reading takes from its source.
use Rattle.std.specs.Prelude.{ℕ, ◌+◌, ◌<◌, ◌≡◌, List, length, Option, IfSome}
use Rattle.flp_io.specs.Reads.{ConsumesAtMost}
use Rattle.flp_report.specs.declared.fault.BatchFault.{BatchFault}
use Rattle.flp_report.specs.declared.fault.BatchFault.TheVariants.{Truncated}

-- known bytes lose some of their front, and no more than as many as they themselves give
abbrev pub ConsumesWithin : (List ℕ → ℕ) → Option (List ℕ) → Option (List ℕ) → Type 0
ConsumesWithin limit old new = IfSome old (λ bytes. ConsumesAtMost (limit bytes) old new)

-- the fault is that only `came` bytes, less than were wanted behind the first `before`, were left
pub record EndedShort (left : Option (List ℕ)) (before wanted need : ℕ) (fault : BatchFault) : Type 0 where
  pub came : ℕ
  pub less : came < wanted
  pub is : fault ≡ Truncated (before + came) need
  pub known : IfSome left (λ bytes. length bytes ≡ came)
