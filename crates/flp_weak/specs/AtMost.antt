-- How many values of a query word are accepted, whatever the other query words are.
use Rattle.std.specs.Prelude.{ℕ, ◌≡◌, true, List, length, slice_set}
use Rattle.flp_count.specs.Count.{AtMost}
use Rattle.flp_field.specs.Word.{IsWord}
use Rattle.flp_syntax.specs.Tree.{Program}
use Rattle.flp_meaning.specs.Lengths.{lengths_of}
use Rattle.flp_meaning.specs.Verifier.{accepts}

-- the proof is accepted with this word in place of the query word of this number
pub record AcceptsWith (body : Program) (x joint proof query : List ℕ) (number word : ℕ) : Type 0 where
  pub is_word : IsWord word
  pub accepted : accepts body x joint proof (slice_set query number word) ≡ true

-- whatever the other query words are, at most so many words are accepted in this place
abbrev pub Bounded : Program → (x joint proof : List ℕ) → (number bound : ℕ) → Type 0
Bounded body x joint proof number bound =
    (query : List ℕ) → length query ≡ (lengths_of body).query → AtMost bound (AcceptsWith body x joint proof query number)
