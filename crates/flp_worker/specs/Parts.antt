-- The parts of a record's words, which are numbered from 0 behind the nonce. From the words of one share up to the unshared values.
use Rattle.std.specs.Prelude.{ℕ, ◌+◌, ◌*◌, List, map}
use Rattle.std.specs.List.{range_with_len}
use Rattle.flp_field.specs.Sums.{sum_of_lists}
use Rattle.flp_meaning.specs.Proof.{words_at}
use Rattle.flp_report.specs.declared.shape.Shape.{Shape}
use Rattle.flp_report.specs.Shape.{part_words}
use Rattle.flp_report.specs.Record.{own_word}

-- the numbers of the shares, and of the proofs
abbrev pub share_numbers : Shape → List ℕ
share_numbers shape = range_with_len 0 shape.shares

abbrev pub proof_numbers : Shape → List ℕ
proof_numbers shape = range_with_len 0 shape.proofs

-- ---- what one share has

-- of the encoding
abbrev pub share_encoding : Shape → (words : List ℕ) → (share : ℕ) → List ℕ
share_encoding shape words share = words_at (share * part_words shape) shape.meas words

-- and of this proof
abbrev pub share_proof : Shape → (words : List ℕ) → (proof share : ℕ) → List ℕ
share_proof shape words proof share =
    words_at (share * part_words shape + (shape.meas + proof * shape.proof)) shape.proof words

-- ---- what no share has: the joint words and the query words of a proof

abbrev pub joint_words : Shape → (words : List ℕ) → (proof : ℕ) → List ℕ
joint_words shape words proof = words_at (own_word shape proof) shape.joint words

abbrev pub query_words : Shape → (words : List ℕ) → (proof : ℕ) → List ℕ
query_words shape words proof = words_at (own_word shape proof + shape.joint) shape.query words

-- ---- unshared: the sum of what the shares have, word by word

abbrev pub unshared_encoding : Shape → (words : List ℕ) → List ℕ
unshared_encoding shape words = sum_of_lists shape.meas (map (share_encoding shape words) (share_numbers shape))

abbrev pub unshared_proof : Shape → (words : List ℕ) → (proof : ℕ) → List ℕ
unshared_proof shape words proof = sum_of_lists shape.proof (map (share_proof shape words proof) (share_numbers shape))
