-- The words that the places of a batch take, one after the other. From one word up to the parts of a place.
use Rattle.std.specs.Prelude.{ℕ, ◌+◌, ◌*◌, ◌≡◌, List, map, length, take, drop}
use Rattle.std.specs.List.{range_with_len}
use Rattle.flp_field.specs.Word.{word_power}
use Rattle.flp_plan.specs.declared.lengths.Lengths.{Lengths}

-- the words are powers of 7: the first, at index 0, has the exponent seed + 1, and each is 7 times the one before
abbrev pub sequence_word : (seed index : ℕ) → ℕ
sequence_word seed index = word_power 7 (seed + 1 + index)

-- so many of them, from this index on
abbrev pub sequence_words : (seed start count : ℕ) → List ℕ
sequence_words seed start count = map (sequence_word seed) (range_with_len start count)

-- the words of one share's part: its share of the encoding, and then of the proof
abbrev pub part_of : Lengths → ℕ
part_of lengths = lengths.meas + lengths.proof

-- how many words each place takes: the joint words, the seeds, the words of share 1, the query words
abbrev pub taken_by_place : Lengths → ℕ
taken_by_place lengths = lengths.joint + lengths.prove + part_of lengths + lengths.query

-- the words that a place takes, behind those of the places before
abbrev pub words_taken : Lengths → (seed place : ℕ) → List ℕ
words_taken lengths seed place = sequence_words seed (place * taken_by_place lengths) (taken_by_place lengths)

-- ---- its parts, in this order

abbrev pub joint_taken : Lengths → (taken : List ℕ) → List ℕ
joint_taken lengths taken = take lengths.joint taken

-- what follows the joint words
abbrev pub behind_joint : Lengths → (taken : List ℕ) → List ℕ
behind_joint lengths taken = drop lengths.joint taken

abbrev pub seeds_taken : Lengths → (taken : List ℕ) → List ℕ
seeds_taken lengths taken = take lengths.prove (behind_joint lengths taken)

-- what follows the seeds
abbrev pub behind_seeds : Lengths → (taken : List ℕ) → List ℕ
behind_seeds lengths taken = drop lengths.prove (behind_joint lengths taken)

abbrev pub share_taken : Lengths → (taken : List ℕ) → List ℕ
share_taken lengths taken = take (part_of lengths) (behind_seeds lengths taken)

abbrev pub query_taken : Lengths → (taken : List ℕ) → List ℕ
query_taken lengths taken = drop (part_of lengths) (behind_seeds lengths taken)

-- ---- one after the other

-- words were taken: where the first is at this index of the sequence, they are those that follow there, and the next is the one behind them
abbrev pub Takes : (next next' : ℕ) → (words : List ℕ) → Type 0
Takes next next' words =
    (seed start : ℕ) → next ≡ sequence_word seed start
    → (words ≡ sequence_words seed start (length words)) × (next' ≡ sequence_word seed (start + length words))
