-- Laws for whoever runs several ranges and closes the tally: how runs follow one another, and what the rows of a range come to.
use Rattle.std.specs.Prelude.{◌≡◌, ℕ, ◌-◌, ◌<◌, ◌≤◌, Option, Some, None, List, ◌++◌, slice_index, sum_by}
use Rattle.std.specs.List.{range_with_len}
use Rattle.flp_tally.specs.declared.view.View.{View}
use Rattle.flp_tally.specs.Rows.{column_sum}
use Rattle.flp_pool.specs.Work.{rows_of}
use Rattle.flp_pool.specs.Range.{EachOnce, TakesRange}

-- two works bring the same rows from lo up to hi
abbrev pub RowsAgree : (ℕ → Option (List ℕ)) → (ℕ → Option (List ℕ)) → ℕ → ℕ → Type 0
RowsAgree f g lo hi = (x : ℕ) → lo ≤ x → x < hi → f x ≡ g x

-- a run of one work is a run of any other that brings the same rows there
abbrev pub AgreeingRuns : Type 0
AgreeingRuns = (f g : ℕ → Option (List ℕ)) (lo hi : ℕ) (v w : View) → RowsAgree f g lo hi → TakesRange f lo hi v w → TakesRange g lo hi v w

-- over no numbers a seat that does nothing took all
abbrev pub EmptyRuns : Type 0
EmptyRuns = (row_of : ℕ → Option (List ℕ)) (lo : ℕ) (v : View) → TakesRange row_of lo lo v v

-- A run over each of two neighbouring ranges, each by a work of its own, is one run over both by a work that brings the same
-- rows there.
abbrev pub JoinedRuns : Type 0
JoinedRuns = (f g h : ℕ → Option (List ℕ)) (a b c : ℕ) (u v w : View) → a ≤ b → b ≤ c → RowsAgree f h a b → RowsAgree g h b c → TakesRange f a b u v → TakesRange g b c v w → TakesRange h a c u w

-- two ranges of which one follows the other are one
abbrev pub RangesFollow : Type 0
RangesFollow = (a b c : ℕ) (xs ys : List ℕ) → a ≤ b → b ≤ c → EachOnce a b xs → EachOnce b c ys → EachOnce a c (xs ++ ys)

-- a sum over numbers that are a range's is the sum over the range, in order
abbrev pub SumsOfRange : Type 0
SumsOfRange = (f : ℕ → ℕ) (lo hi : ℕ) (xs : List ℕ) → EachOnce lo hi xs → sum_by f xs ≡ sum_by f (range_with_len lo (hi - lo))

-- a row's word at the element e, and 0 where there is no row
abbrev pub word_of : Option (List ℕ) → ℕ → ℕ
word_of None e = 0
word_of (Some row) e = slice_index row e

-- the rows of numbers that are a range's sum up to the words of the range's rows, in order
abbrev pub RowSums : Type 0
RowSums = (row_of : ℕ → Option (List ℕ)) (lo hi : ℕ) (xs : List ℕ) (e : ℕ) → EachOnce lo hi xs → column_sum e (rows_of row_of xs) ≡ sum_by (λ x. word_of (row_of x) e) (range_with_len lo (hi - lo))
