-- The kinds of step that the calls take, each as a relation between the state before and the state after. Six change words
-- or views, and a seventh, by which a joined seat learns what the rule says of it, changes nothing.
-- Every step is one load, one fetch_or or one fetch_add on one word, by a seat of weight at least 1. Below them: what the rule says.
use Rattle.std.specs.Prelude.{◌≡◌, ◌≢◌, ℕ, ◌+◌, ◌%◌, ◌^◌, ◌<◌, ◌≤◌, ◌↔◌, List, [], ◌∷◌, ◌++◌, slice_index, slice_set, bit_or}
use mathlib.Core.Option.{some}
use lib.ListN.{get_elem?}
use Rattle.atomic_table.specs.Table.{State}
use Rattle.flp_tally.specs.declared.view.View.{View}
use Rattle.flp_tally.specs.declared.view.Entry.{Entry}
use Rattle.flp_tally.specs.Views.{times, entries_of, MayAdd, with_claimed, with_seen, with_missed, with_entry, with_weight, fresh, joined_view, spent_view}
use Rattle.flp_tally.specs.Rule.{claim_word, claim_bit, cell_word, claims_of, Tallies}

-- a load of word 0: the weight is divided into two parts, and the new view has empty lists
pub record SplitStep (n r m : ℕ) (s t : State ℕ View) : Type 0 where
  pub id : ℕ
  pub view : View
  pub kept : ℕ
  pub given : ℕ
  pub at : get_elem? s.views id ≡ some view
  pub parts : (1 ≤ kept) × (1 ≤ given) × (kept + given ≡ view.weight)
  pub words : t.words ≡ s.words
  pub views : t.views ≡ slice_set s.views id (with_weight view kept) ++ fresh view given ∷ []

-- a load of word 0: one view gets both weights and all lists, and the other is spent
pub record JoinStep (n r m : ℕ) (s t : State ℕ View) : Type 0 where
  pub id : ℕ
  pub other : ℕ
  pub view : View
  pub away : View
  pub at : get_elem? s.views id ≡ some view
  pub away_at : get_elem? s.views other ≡ some away
  pub apart : other ≢ id
  pub weight : (1 ≤ view.weight) × (1 ≤ away.weight)
  pub words : t.words ≡ s.words
  pub views : t.views ≡ slice_set (slice_set s.views id (joined_view view away)) other spent_view

-- a fetch_or of the bit of one number: where the bit was clear the number joins claimed, and where it was set it joins seen
pub record ClaimStep (n r m : ℕ) (s t : State ℕ View) : Type 0 where
  pub id : ℕ
  pub view : View
  pub after : View
  pub number : ℕ
  pub at : get_elem? s.views id ≡ some view
  pub weight : 1 ≤ view.weight
  pub below : number < r
  pub clear : claim_bit s.words number ≡ 0 → after ≡ with_claimed view number
  pub marked : claim_bit s.words number ≡ 1 → after ≡ with_seen view number
  pub words : t.words ≡ slice_set s.words (claim_word number) (bit_or (slice_index s.words (claim_word number)) (2 ^ (number % 64)))
  pub views : t.views ≡ slice_set s.views id after

-- a fetch_add of 32 bits on one cell: the entry joins added, whose number this view has claimed and not yet added to the cell
pub record AddStep (n r m : ℕ) (s t : State ℕ View) : Type 0 where
  pub id : ℕ
  pub view : View
  pub entry : Entry
  pub at : get_elem? s.views id ≡ some view
  pub weight : 1 ≤ view.weight
  pub may_add : MayAdd m view entry
  pub words : t.words ≡ slice_set s.words (cell_word r entry.cell) ((slice_index s.words (cell_word r entry.cell) + entry.amount) % 2 ^ 64)
  pub views : t.views ≡ slice_set s.views id (with_entry view entry)

-- a load of word 0: the entry joins added likewise, and has the amount 0, so that no word changes
pub record NoteStep (n r m : ℕ) (s t : State ℕ View) : Type 0 where
  pub id : ℕ
  pub view : View
  pub entry : Entry
  pub at : get_elem? s.views id ≡ some view
  pub weight : 1 ≤ view.weight
  pub may_add : MayAdd m view entry
  pub nothing : entry.amount ≡ 0
  pub words : t.words ≡ s.words
  pub views : t.views ≡ slice_set s.views id (with_entry view entry)

-- a load of a claim word: where the bit was set the number joins seen, and where it was clear it joins missed
pub record PeekStep (n r m : ℕ) (s t : State ℕ View) : Type 0 where
  pub id : ℕ
  pub view : View
  pub after : View
  pub number : ℕ
  pub at : get_elem? s.views id ≡ some view
  pub weight : 1 ≤ view.weight
  pub below : number < r
  pub clear : claim_bit s.words number ≡ 0 → after ≡ with_missed view number
  pub marked : claim_bit s.words number ≡ 1 → after ≡ with_seen view number
  pub words : t.words ≡ s.words
  pub views : t.views ≡ slice_set s.views id after

-- a load of word 0 that changes nothing
pub record LearnStep (n r m : ℕ) (s t : State ℕ View) : Type 0 where
  pub words : t.words ≡ s.words
  pub views : t.views ≡ s.views

-- a kind of step keeps the rule, from any state that meets it
abbrev pub Keeps : (ℕ → ℕ → ℕ → State ℕ View → State ℕ View → Type 0) → Type 0
Keeps kind = (n r m : ℕ) (s t : State ℕ View) → Tallies n r m s.words s.views → kind n r m s t → Tallies n r m t.words t.views

-- the sum in a cell never wraps
abbrev pub NeverWraps : Type 0
NeverWraps = (n r m : ℕ) (s t : State ℕ View) → Tallies n r m s.words s.views → (a : AddStep n r m s t) → slice_index s.words (cell_word r a.entry.cell) + a.entry.amount < 2 ^ 64

-- all claimed lists together hold no number twice, and each number in them is below the number of reports
abbrev pub ClaimedOnce : Type 0
ClaimedOnce = (n r m : ℕ) (words : List ℕ) (views : List View) (x : ℕ) → Tallies n r m words views → (claims_of x views ≤ 1) × (1 ≤ claims_of x views → x < r)

-- some view has claimed the number
abbrev pub IsClaimed : ℕ → List View → Type 0
IsClaimed x views = (id : ℕ) × (v : View) × (get_elem? views id ≡ some v) × (1 ≤ times x v.claimed)

-- a claim bit is set exactly where its number stands in a claimed list
abbrev pub BitIsClaimed : Type 0
BitIsClaimed = (n r m : ℕ) (words : List ℕ) (views : List View) (x : ℕ) → Tallies n r m words views → x < r → (claim_bit words x ≡ 1 ↔ IsClaimed x views)

-- a number that a seat has seen is claimed
abbrev pub SeenIsClaimedBySome : Type 0
SeenIsClaimedBySome = (n r m : ℕ) (words : List ℕ) (views : List View) (id : ℕ) (v : View) (x : ℕ) → Tallies n r m words views → get_elem? views id ≡ some v → 1 ≤ times x v.seen → IsClaimed x views

-- an entry's number is claimed by the view that has the entry, and no two entries of one view are for one number and one cell
abbrev pub AddedOnce : Type 0
AddedOnce = (n r m : ℕ) (words : List ℕ) (views : List View) (id : ℕ) (v : View) (x c : ℕ) → Tallies n r m words views → get_elem? views id ≡ some v
    → (1 ≤ entries_of x c v.added → 1 ≤ times x v.claimed) × (entries_of x c v.added ≤ 1)
