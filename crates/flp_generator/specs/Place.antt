-- The record of a place. From its honest words up to its bytes.
use Rattle.std.specs.Prelude.{ℕ, ◌+◌, ◌-◌, ◌*◌, List, [], ◌∷◌, ◌++◌, Option, None, slice_index, set}
use Rattle.flp_field.specs.Word.{modulus, word_sum}
use Rattle.flp_share.specs.Shares.{shares_of}
use Rattle.flp_syntax.specs.declared.syntax.Params.{Params}
use Rattle.flp_syntax.specs.Tree.{Program}
use Rattle.flp_meaning.specs.Lengths.{check_words}
use Rattle.flp_meaning.specs.Proof.{honest_proof}
use Rattle.flp_plan.specs.Counted.{counted_lengths}
use Rattle.flp_report.specs.Layout.{word_bytes, record_bytes}
use Rattle.flp_generator.specs.declared.change.Change.{Change}
use Rattle.flp_generator.specs.declared.change.Change.TheVariants.{Nothing, Proof, Point, Word, Nonce}
use Rattle.flp_generator.specs.Sequence.{part_of, words_taken, joint_taken, seeds_taken, share_taken, query_taken}
use Rattle.flp_generator.specs.Input.{trial_encoding}
use Rattle.flp_generator.specs.Change.{change_at, nonce_place}

-- ---- the honest record

-- what is shared: an encoding, and the honest proof of it, whether or not its checks are 0
abbrev pub unshared_words : Program → (x taken : List ℕ) → List ℕ
unshared_words circuit x taken =
    x ++ honest_proof circuit x (joint_taken (counted_lengths circuit) taken) (seeds_taken (counted_lengths circuit) taken)

-- the words of a record of two shares, of which share 1 is taken, behind which stand the joint words and the query words
abbrev pub honest_words : Program → (x taken : List ℕ) → List ℕ
honest_words circuit x taken =
    shares_of 2 (unshared_words circuit x taken) (share_taken (counted_lengths circuit) taken)
    ++ (joint_taken (counted_lengths circuit) taken ++ query_taken (counted_lengths circuit) taken)

-- ---- and how it is changed

-- the number of the last proof word of share 0, and that of the point of gadget 0
abbrev pub last_proof_word : Program → ℕ
last_proof_word circuit = part_of (counted_lengths circuit) - 1

abbrev pub first_point : Program → ℕ
first_point circuit = 2 * part_of (counted_lengths circuit) + (counted_lengths circuit).joint + check_words circuit

-- the last proof word of share 0 is one more; or the point of gadget 0 is 1; or the first word is no word of the field
abbrev pub changed_words : Change → Program → (words : List ℕ) → List ℕ
changed_words Proof circuit words = set words (last_proof_word circuit) (word_sum (slice_index words (last_proof_word circuit)) 1)
changed_words Point circuit words = set words (first_point circuit) 1
changed_words Word circuit words = set words 0 modulus
changed_words Nothing circuit words = words
changed_words Nonce circuit words = words

-- ---- the record of a place

abbrev pub trial_words : Option Params → Program → (seed place : ℕ) → List ℕ
trial_words params circuit seed place =
    changed_words (change_at place) circuit
    (honest_words circuit (trial_encoding params (counted_lengths circuit).meas (seed + place)) (words_taken (counted_lengths circuit) seed place))

-- the seed, and then the place, 8 bytes each
abbrev pub trial_nonce : (seed place : ℕ) → List ℕ
trial_nonce seed place = word_bytes (seed ∷ nonce_place (change_at place) place ∷ [])

abbrev pub trial_record : Option Params → Program → (seed place : ℕ) → List ℕ
trial_record params circuit seed place = record_bytes (trial_nonce seed place) None (trial_words params circuit seed place)
