-- What one worker's walk does.
use Rattle.std.specs.Prelude.{◌≡◌, ℕ, ◌+◌, ◌-◌, ◌≤◌, Option, List, length}
use Rattle.flp_tally.specs.declared.view.View.{View}
use Rattle.flp_tally.specs.Views.{times}
use Rattle.flp_pool.specs.Work.{Did}
use Rattle.flp_pool.specs.Range.{once, with_run}

-- A walk from lo up to hi: each number was met once, and either claimed and done or seen as claimed. Where a look came before
-- the claim and found the number free, it was missed besides.
-- A seat with the full weight sees only what it has claimed itself.
pub record Walks {S : Type 0} (room : S → ℕ) (done : S → List ℕ) (right : S → Type 0) (row_of : ℕ → Option (List ℕ)) (lo hi : ℕ) (v w : View) (s t : S) : Type 0 where
  pub claimed : List ℕ
  pub seen : List ℕ
  pub missed : List ℕ
  pub did : Did room done right s t claimed
  pub few : length claimed ≤ hi - lo
  pub met : (x : ℕ) → times x claimed + times x seen ≡ once lo hi x
  pub alone : v.weight ≡ v.full → (x : ℕ) → times x v.claimed ≡ 0 → times x seen ≡ 0
  pub view : w ≡ with_run row_of v claimed seen missed
