-- What each step asks of the seat that takes it, and what it tells it: of the view before, the number found in the word and the view after.
use Rattle.std.specs.Prelude.{◌≡◌, ℕ, ◌+◌, ◌*◌, ◌%◌, ◌^◌, ◌<◌, ◌≤◌}
use Rattle.std.specs.Int.{bit_at}
use Rattle.atomic_table.specs.Seated.{TableId}
use Rattle.flp_tally.specs.declared.view.View.{View}
use Rattle.flp_tally.specs.declared.view.Entry.{Entry}
use Rattle.flp_tally.specs.declared.view.Shape.{Shape}
use Rattle.flp_tally.specs.Views.{times, NoneTwice, SeenIsClaimed, with_claimed, with_seen, with_missed, with_entry}
use Rattle.flp_tally.specs.Rule.{blocks, claim_word, cell_word}

-- The seat of the view v, whose place is in the table `held`, may step on the words of a tally.
pub record MayAct (table : TableId) (shape : Shape) (held : TableId) (v : View) : Type 0 where
  pub same : held ≡ table
  pub long : table.words ≡ 3 + blocks shape.reports + 2 * shape.elements
  pub weight : 1 ≤ v.weight

-- The bit of x is set where the seat has claimed or seen x. It is clear where the seat has all the weight and has not claimed x.
pub record Tells (v : View) (x bit : ℕ) : Type 0 where
  pub known : 1 ≤ times x v.claimed + times x v.seen → bit ≡ 1
  pub free : v.weight ≡ v.full → times x v.claimed ≡ 0 → bit ≡ 0

-- A step on the word with the bit of x: what it found, and the view after it, one for a bit that was clear and one for a bit that was set.
pub record Finds (x word found : ℕ) (v on_clear on_marked w : View) : Type 0 where
  pub place : word ≡ claim_word x
  pub tells : Tells v x (bit_at found (x % 64))
  pub clear : bit_at found (x % 64) ≡ 0 → w ≡ on_clear
  pub marked : bit_at found (x % 64) ≡ 1 → w ≡ on_marked

abbrev pub Claimed : ℕ → ℕ → View → ℕ → View → Type 0
Claimed x word v found w = Finds x word found v (with_claimed v x) (with_seen v x) w

abbrev pub Peeked : ℕ → ℕ → View → ℕ → View → Type 0
Peeked x word v found w = Finds x word found v (with_missed v x) (with_seen v x) w

-- A sum grew by the amount of the entry, in the entry's cell, and the entry joined added.
pub record Added (e : Entry) (word amount : ℕ) (v w : View) : Type 0 where
  pub place : word ≡ cell_word v.reports e.cell
  pub half : amount ≡ e.amount
  pub after : w ≡ with_entry v e

-- An entry with the amount 0 joined added at a load of word 0.
pub record Noted (e : Entry) (word : ℕ) (v w : View) : Type 0 where
  pub place : word ≡ 0
  pub nothing : e.amount ≡ 0
  pub after : w ≡ with_entry v e

-- A load of word 0 changes nothing, and shows what the rule says of the view.
pub record Learned (v w : View) : Type 0 where
  pub same : w ≡ v
  pub once : NoneTwice v.claimed
  pub whole : v.weight ≡ v.full → SeenIsClaimed v
  pub small : v.weight < 2 ^ 32
