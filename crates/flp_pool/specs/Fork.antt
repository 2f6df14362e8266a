-- What the workers of one part of a fork do together.
use Rattle.std.specs.Prelude.{◌≡◌, ℕ, ◌+◌, ◌-◌, ◌≤◌, Option, Some, None, List, length, All, sum_by}
use Rattle.flp_tally.specs.declared.view.View.{View}
use Rattle.flp_tally.specs.Views.{times}
use Rattle.flp_tally.specs.Held.{Held, Board, IsSeatOf}
use Rattle.flp_pool.specs.Work.{EachDid, Ready}
use Rattle.flp_pool.specs.Range.{once, with_run, HasRange}

-- a seat of the tally with a weight of at least n
abbrev pub HasSeat : Board → ℕ → Option Held → Type 0
HasSeat tally n None = ⊥
HasSeat tally n (Some seat) = IsSeatOf tally seat × (n ≤ seat.view.weight)

-- A part of a run: each number of the range was claimed or seen as claimed, and no other. What was done is what was claimed.
-- With the full weight each number that was free is claimed once.
pub record RanPart {S : Type 0} (room : S → ℕ) (done : S → List ℕ) (right : S → Type 0) (row_of : ℕ → Option (List ℕ)) (lo hi : ℕ) (v w : View) (before after : List S) : Type 0 where
  pub lists : List (List ℕ)
  pub claimed : List ℕ
  pub seen : List ℕ
  pub missed : List ℕ
  pub did : EachDid room done right before after lists
  pub few : All (λ l. length l ≤ hi - lo) lists
  pub together : (x : ℕ) → sum_by (λ l. times x l) lists ≡ times x claimed
  pub inside : (x : ℕ) → once lo hi x ≡ 0 → times x claimed ≡ 0
  pub met : (x : ℕ) → once lo hi x ≡ 1 → 1 ≤ times x claimed + times x seen
  pub whole : v.weight ≡ v.full → (x : ℕ) → once lo hi x ≡ 1 → times x v.claimed ≡ 0 → times x claimed ≡ 1
  pub view : w ≡ with_run row_of v claimed seen missed

-- the same of the seat in a slot, which is there before and after
abbrev pub RanIn : {S : Type 0} → (S → ℕ) → (S → List ℕ) → (S → Type 0) → (ℕ → Option (List ℕ)) → ℕ → ℕ → Option Held → Option Held → List S → List S → Type 0
RanIn room done right row_of lo hi (Some seat) (Some seat') before after = (seat'.table ≡ seat.table) × RanPart room done right row_of lo hi seat.view seat'.view before after
RanIn room done right row_of lo hi _ _ before after = ⊥

-- What one part of a fork needs: a seat with a weight for each worker, states that are ready, and a work that has the range.
pub record MayRun {S : Type 0} (room : S → ℕ) (right : S → Type 0) (takes : ℕ → Type 0) (row_of : ℕ → Option (List ℕ)) (tally : Board) (workers lo hi first : ℕ) (slot : Option Held) (states : List S) : Type 0 where
  pub some_state : 1 ≤ length states
  pub numbered : (first + length states ≤ workers) × (workers ≤ 16)
  pub range : (lo ≤ hi) × (hi ≤ tally.reports)
  pub seat : HasSeat tally (length states) slot
  pub ready : Ready room right (hi - lo) states
  pub numbers : HasRange takes row_of tally.elements lo hi
