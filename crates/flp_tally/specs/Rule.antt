-- The rule that holds of the words and of all views between any two steps, from its parts up.
-- Word 0 is the whole weight, word 1 the number of reports, word 2 the number of elements. Then come the claim bits, 64 to a
-- word, and then for each element the sum of the low halves and the sum of the high halves.
use Rattle.std.specs.Prelude.{◌≡◌, ℕ, ◌+◌, ◌*◌, ◌/◌, ◌%◌, ◌^◌, ◌<◌, ◌≤◌, List, length, slice_index, sum_by}
use Rattle.std.specs.Int.{bit_at}
use mathlib.Core.Option.{some}
use lib.ListN.{get_elem?}
use Rattle.atomic_table.specs.Table.{State}
use Rattle.flp_tally.specs.declared.view.View.{View}
use Rattle.flp_tally.specs.declared.view.Shape.{Shape}
use Rattle.flp_tally.specs.Views.{times, amount_in, Owns, EntriesFit, IsIdle, first_view}

-- the number of words that r claim bits fill
abbrev pub blocks : ℕ → ℕ
blocks r = (r + 63) / 64

-- the word with the claim bit of the number x
abbrev pub claim_word : ℕ → ℕ
claim_word x = 3 + x / 64

abbrev pub claim_bit : List ℕ → ℕ → ℕ
claim_bit words x = bit_at (slice_index words (claim_word x)) (x % 64)

-- the word of the cell c
abbrev pub cell_word : ℕ → ℕ → ℕ
cell_word r c = 3 + blocks r + c

-- What holds of one view under words with full weight n, r reports and m elements.
pub record Fits (n r m : ℕ) (words : List ℕ) (v : View) : Type 0 where
  pub numbers : 1 ≤ v.weight → (v.full ≡ n) × (v.reports ≡ r) × (v.elements ≡ m)
  pub idle : v.weight ≡ 0 → IsIdle v
  pub seen : (x : ℕ) → 1 ≤ times x v.seen → (x < r) × (claim_bit words x ≡ 1)
  pub owns : Owns v
  pub entries : EntriesFit m v.added

-- how often x stands in all claimed lists together
abbrev pub claims_of : ℕ → List View → ℕ
claims_of x views = sum_by (λ v. times x v.claimed) views

-- the amounts of all entries of all views for the cell c
abbrev pub sum_in : ℕ → List View → ℕ
sum_in c views = sum_by (λ v. amount_in c v.added) views

-- The rule. A number is claimed by all views together as often as its bit says, 0 or 1 times.
pub record Tallies (n r m : ℕ) (words : List ℕ) (views : List View) : Type 0 where
  pub heads : (slice_index words 0 ≡ n) × (slice_index words 1 ≡ r) × (slice_index words 2 ≡ m)
  pub bounds : (n < 2 ^ 32) × (r < 2 ^ 32)
  pub long : length words ≡ 3 + blocks r + 2 * m
  pub weights : sum_by (λ v. v.weight) views ≡ n
  pub each : (i : ℕ) (v : View) → get_elem? views i ≡ some v → Fits n r m words v
  pub claims : (x : ℕ) → x < r → claims_of x views ≡ claim_bit words x
  pub beyond : (x : ℕ) → r ≤ x → claims_of x views ≡ 0
  pub clear : (x : ℕ) → r ≤ x → x < 64 * blocks r → claim_bit words x ≡ 0
  pub cells : (c : ℕ) → c < 2 * m → slice_index words (cell_word r c) ≡ sum_in c views

abbrev pub holds : Shape → State ℕ View → Type 0
holds shape s = Tallies shape.weight shape.reports shape.elements s.words s.views

abbrev pub first : Shape → View
first shape = first_view shape.weight shape.reports shape.elements
