-- Each step that a call makes is of one of the kinds: whatever the table was, it stands after the step as the kind says. What
-- is known of the step is the word that it changes, and what it tells its seat; which slots it moves is open, since none is made.
use Rattle.std.specs.Prelude.{◌≡◌, ◌≢◌, ℕ, ◌+◌, ◌%◌, ◌^◌, ◌<◌, ◌≤◌, [], ◌∷◌, ◌++◌, slice_index, slice_set, bit_or}
use mathlib.Core.Option.{some}
use lib.ListN.{get_elem?}
use Rattle.atomic_table.specs.Table.{State, Me, Act, stepped}
use Rattle.flp_tally.specs.declared.view.View.{View}
use Rattle.flp_tally.specs.declared.view.Entry.{Entry}
use Rattle.flp_tally.specs.Views.{MayAdd, kept_half, given_half, joined_view, spent_view}
use Rattle.flp_tally.specs.Rule.{claim_word, cell_word}
use Rattle.flp_tally.specs.Steps.{Claimed, Peeked, Added, Noted, Learned}
use Rattle.flp_tally.specs.Kinds.{SplitStep, JoinStep, ClaimStep, AddStep, NoteStep, PeekStep, LearnStep}

-- the seat id has the view of `me`, and a weight of at least 1
abbrev pub MayStep : State ℕ View → ℕ → Me ℕ View → Type 0
MayStep s id me = (get_elem? s.views id ≡ some me.0) × (1 ≤ me.0.weight)

-- the word i of the table
abbrev pub word_at : State ℕ View → ℕ → ℕ
word_at s i = slice_index s.words i

abbrev pub ClaimsAreSteps : Type 0
ClaimsAreSteps = (n r m id x : ℕ) (s : State ℕ View) (me : Me ℕ View) (w : View) (a : Act ℕ) → MayStep s id me → x < r → Claimed x (claim_word x) me.0 (word_at s (claim_word x)) w
    → ClaimStep n r m s (stepped s (claim_word x) (bit_or (word_at s (claim_word x)) (2 ^ (x % 64))) id me.1 w a)

abbrev pub PeeksAreSteps : Type 0
PeeksAreSteps = (n r m id x : ℕ) (s : State ℕ View) (me : Me ℕ View) (w : View) (a : Act ℕ) → MayStep s id me → x < r → Peeked x (claim_word x) me.0 (word_at s (claim_word x)) w
    → PeekStep n r m s (stepped s (claim_word x) (word_at s (claim_word x)) id me.1 w a)

abbrev pub AddsAreSteps : Type 0
AddsAreSteps = (n r m id : ℕ) (e : Entry) (s : State ℕ View) (me : Me ℕ View) (w : View) (a : Act ℕ) → MayStep s id me → MayAdd m me.0 e → Added e (cell_word r e.cell) e.amount me.0 w
    → AddStep n r m s (stepped s (cell_word r e.cell) ((word_at s (cell_word r e.cell) + e.amount) % 2 ^ 64) id me.1 w a)

abbrev pub NotesAreSteps : Type 0
NotesAreSteps = (n r m id : ℕ) (e : Entry) (s : State ℕ View) (me : Me ℕ View) (w : View) (a : Act ℕ) → MayStep s id me → MayAdd m me.0 e → Noted e 0 me.0 w → NoteStep n r m s (stepped s 0 (word_at s 0) id me.1 w a)

abbrev pub LearnsAreSteps : Type 0
LearnsAreSteps = (n r m id : ℕ) (s : State ℕ View) (me : Me ℕ View) (w : View) (a : Act ℕ) → MayStep s id me → Learned me.0 w → LearnStep n r m s (stepped s 0 (word_at s 0) id me.1 w a)

abbrev pub SplitsAreSteps : Type 0
SplitsAreSteps = (n r m id : ℕ) (s : State ℕ View) (v : View) → get_elem? s.views id ≡ some v → 2 ≤ v.weight
    → SplitStep n r m s record { words = s.words; homes = s.homes; views = slice_set s.views id (kept_half v) ++ given_half v ∷ [] }

abbrev pub JoinsAreSteps : Type 0
JoinsAreSteps = (n r m id other : ℕ) (s : State ℕ View) (v w : View) → get_elem? s.views id ≡ some v → get_elem? s.views other ≡ some w → other ≢ id → 1 ≤ v.weight → 1 ≤ w.weight
    → JoinStep n r m s record { words = s.words; homes = s.homes; views = slice_set (slice_set s.views id (joined_view v w)) other spent_view }
