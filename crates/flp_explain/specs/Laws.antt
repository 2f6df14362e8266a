-- How many values of one query word let a record through whose encoding is not valid.
use Rattle.std.specs.Prelude.{ℕ, ◌≡◌, ◌+◌, ◌<◌, List, ◌++◌, length, take, slice_set, None, Some}
use Rattle.flp_field.specs.Word.{IsWord}
use Rattle.flp_syntax.specs.Tree.{Program}
use Rattle.flp_meaning.specs.Circuit.{IsValid}
use Rattle.flp_report.specs.declared.shape.Shape.{Shape}
use Rattle.flp_report.specs.Shape.{bytes_of, words_start}
use Rattle.flp_report.specs.Record.{words_in, own_word}
use Rattle.flp_report.specs.Words.{bad_word_in}
use Rattle.flp_report.specs.Layout.{word_bytes}
use Rattle.flp_policy.specs.declared.verdict.Verdict.TheVariants.{Accepted}
use Rattle.flp_weak.specs.declared.word.Weak.{Weak}
use Rattle.flp_count.specs.Count.{AtMost}
use Rattle.flp_weak.specs.Laws.{IsLow}
use Rattle.flp_worker.specs.Parts.{joint_words, unshared_encoding}
use Rattle.flp_worker.specs.Verdict.{verdict_of}
use Rattle.flp_explain.specs.Found.{weak_in}

-- where this query word of this proof stands among the record's words
abbrev pub query_word : Shape → (proof number : ℕ) → ℕ
query_word shape proof number = own_word shape proof + shape.joint + number

-- the record with this value in place of that word
abbrev pub with_query_word : Shape → (bytes : List ℕ) → (proof number value : ℕ) → List ℕ
with_query_word shape bytes proof number value =
    take (words_start shape) bytes ++ word_bytes (slice_set (words_in shape bytes) (query_word shape proof number) value)

-- the record is accepted with this value in that place, where its nonce is new
pub record AcceptsValue (program : Program) (shape : Shape) (bytes : List ℕ) (proof number value : ℕ) : Type 0 where
  pub is_word : IsWord value
  pub accepted : verdict_of program shape (with_query_word shape bytes proof number value) ≡ Accepted

-- a whole record of words of the field, whose encoding fails under the joint words of this proof
pub record IsFalseReport (program : Program) (shape : Shape) (bytes : List ℕ) (proof : ℕ) : Type 0 where
  pub size : length bytes ≡ bytes_of shape
  pub words : bad_word_in (words_in shape bytes) ≡ None
  pub inside : proof < shape.proofs
  pub fails : IsValid program (unshared_encoding shape (words_in shape bytes)) (joint_words shape (words_in shape bytes) proof) → ⊥

-- the proof has a weak word with a low bound, and the record is accepted with at most so many values in its place
pub record IsLimited (program : Program) (shape : Shape) (bytes : List ℕ) (proof : ℕ) : Type 0 where
  pub weak : Weak
  pub found : weak_in program shape bytes proof ≡ Some weak
  pub low : IsLow program weak
  pub few : AtMost weak.bound (AcceptsValue program shape bytes proof weak.word)

-- so it is of every false report
abbrev pub LimitsFalseReports : Program → Shape → Type 0
LimitsFalseReports program shape = (bytes : List ℕ) (proof : ℕ) → IsFalseReport program shape bytes proof → IsLimited program shape bytes proof
