-- What a run over a range of numbers does to a seat and to the workers' states.
use Rattle.std.specs.Prelude.{◌≡◌, ℕ, ◌<◌, ◌≤◌, cond, ◌&&◌, nat_le, nat_lt, Option, Some, List, ◌++◌, length, sum_by}
use Rattle.flp_tally.specs.declared.view.View.{View}
use Rattle.flp_tally.specs.Views.{times}
use Rattle.flp_tally.specs.Rows.{rows_entries}
use Rattle.flp_pool.specs.Work.{rows_of, EachDid}

-- 1 from lo up to hi, and 0 elsewhere
abbrev pub once : ℕ → ℕ → ℕ → ℕ
once lo hi x = cond (nat_le lo x && nat_lt x hi) 1 0

-- each number from lo up to hi stands in the list once, and no other number stands in it
abbrev pub EachOnce : ℕ → ℕ → List ℕ → Type 0
EachOnce lo hi xs = (x : ℕ) → times x xs ≡ once lo hi x

-- no number from lo up to hi stands in the list
abbrev pub LacksRange : ℕ → ℕ → List ℕ → Type 0
LacksRange lo hi xs = (x : ℕ) → lo ≤ x → x < hi → times x xs ≡ 0

-- the work has each number from lo up to hi, and the row of such a number is `elements` words long
abbrev pub HasRange : (ℕ → Type 0) → (ℕ → Option (List ℕ)) → ℕ → ℕ → ℕ → Type 0
HasRange takes row_of elements lo hi = (x : ℕ) → lo ≤ x → x < hi → takes x × ((row : List ℕ) → row_of x ≡ Some row → length row ≡ elements)

-- the view has claimed xs, seen ys and missed zs besides, and has added exactly the rows of xs
abbrev pub with_run : (ℕ → Option (List ℕ)) → View → List ℕ → List ℕ → List ℕ → View
with_run row_of v xs ys zs = record v { claimed = v.claimed ++ xs; seen = v.seen ++ ys; missed = v.missed ++ zs; added = v.added ++ rows_entries (rows_of row_of xs) }

-- What a run does to its seat: each number from lo up to hi was claimed once and no other, and exactly the rows of these were added.
pub record TakesRange (row_of : ℕ → Option (List ℕ)) (lo hi : ℕ) (v w : View) : Type 0 where
  pub claimed : List ℕ
  pub seen : List ℕ
  pub missed : List ℕ
  pub each_once : EachOnce lo hi claimed
  pub view : w ≡ with_run row_of v claimed seen missed

-- A run: which numbers were done in each state, each once in one of them, and what its seat took.
pub record Ran {S : Type 0} (room : S → ℕ) (done : S → List ℕ) (right : S → Type 0) (row_of : ℕ → Option (List ℕ)) (lo hi : ℕ) (v w : View) (before after : List S) : Type 0 where
  pub lists : List (List ℕ)
  pub did : EachDid room done right before after lists
  pub each_once : (x : ℕ) → sum_by (λ l. times x l) lists ≡ once lo hi x
  pub taken : TakesRange row_of lo hi v w
