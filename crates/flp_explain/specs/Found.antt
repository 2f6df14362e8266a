-- What is found in a record, by its bytes: the encoding, and the weak word of each proof.
use Rattle.std.specs.Prelude.{ℕ, List, Option}
use Rattle.flp_syntax.specs.Tree.{Program}
use Rattle.flp_report.specs.declared.shape.Shape.{Shape}
use Rattle.flp_report.specs.Record.{words_in}
use Rattle.flp_weak.specs.declared.word.Weak.{Weak}
use Rattle.flp_weak.specs.WeakWord.{weak_of}
use Rattle.flp_worker.specs.Parts.{joint_words, unshared_encoding, unshared_proof}

-- the unshared encoding
abbrev pub encoding_in : Shape → (bytes : List ℕ) → List ℕ
encoding_in shape bytes = unshared_encoding shape (words_in shape bytes)

-- the weak word of this proof, unshared, for the unshared encoding under the proof's joint words. None where the encoding is valid under these
abbrev pub weak_among : Program → Shape → (words : List ℕ) → (proof : ℕ) → Option Weak
weak_among program shape words proof =
    weak_of program (unshared_encoding shape words) (joint_words shape words proof) (unshared_proof shape words proof)

unfoldable pub weak_in : Program → Shape → (bytes : List ℕ) → (proof : ℕ) → Option Weak
weak_in program shape bytes proof = weak_among program shape (words_in shape bytes) proof
