-- What `explain` writes of a batch, from what is found of one proof and told of one encoding up to all lines. `joint` says whether
-- what joint words tell is asked for.
use Rattle.std.specs.Prelude.{ℕ, Bool, true, false, List, [], ◌++◌, Option, None, Some, codes, decimal}
use Rattle.std.specs.List.{flat_map}
use Rattle.flp_syntax.specs.declared.syntax.Params.{Params}
use Rattle.flp_syntax.specs.Tree.{Program}
use Rattle.flp_report.specs.declared.shape.Shape.{Shape}
use Rattle.flp_report.specs.Record.{nonce_in, words_in}
use Rattle.flp_report.specs.Words.{bad_word_in}
use Rattle.flp_policy.specs.declared.verdict.Verdict.TheVariants.{Malformed}
use Rattle.flp_weak.specs.declared.word.Weak.{Weak}
use Rattle.flp_joint.specs.declared.caught.Caught.{Caught}
use Rattle.flp_joint.specs.declared.caught.Caught.TheVariants.{Never, Word}
use Rattle.flp_joint.specs.Caught.{caught_in}
use Rattle.flp_worker.specs.Parts.{proof_numbers}
use Rattle.flp_batch.specs.Setting.{Setting}
use Rattle.flp_batch.specs.Lines.{Wording, lines_of}
use Rattle.flp_verdict.specs.Text.{spelled, line_with}
use Rattle.flp_explain.specs.Found.{weak_in, encoding_in}

-- how a word is told that limits something, with its bound
abbrev pub bounded_text : (word bound : ℕ) → List ℕ
bounded_text word bound = codes "word " ++ decimal word ++ codes " bound " ++ decimal bound

-- ---- of a proof

-- how the weak word of a proof is told. There is none where the encoding is valid
abbrev pub weak_text : Option Weak → List ℕ
weak_text None = codes "valid"
weak_text (Some weak) = bounded_text weak.word weak.bound

-- what is said of a proof, by its number
abbrev pub of_proof : (proof : ℕ) → Option Weak → List ℕ
of_proof proof found = decimal proof ++ codes " " ++ weak_text found

-- the line of a proof
abbrev pub proof_line : Program → Shape → (bytes : List ℕ) → (proof : ℕ) → List ℕ
proof_line program shape bytes proof = line_with (nonce_in bytes) (of_proof proof (weak_in program shape bytes proof))

-- ---- of an encoding

-- how it is told what joint words tell of words
abbrev pub caught_text : Option Caught → List ℕ
caught_text None = codes "none"
caught_text (Some Never) = codes "never"
caught_text (Some (Word word bound)) = bounded_text word bound

-- what is said of an encoding x, by the parameters of the circuit: of a circuit of the text's own, that it is one
abbrev pub of_encoding : Option Params → (x : List ℕ) → List ℕ
of_encoding None x = codes "body"
of_encoding (Some params) x = caught_text (caught_in params x)

-- the line of an encoding, where it is asked for
abbrev pub joint_lines : (joint : Bool) → Option Params → (nonce x : List ℕ) → List ℕ
joint_lines false params nonce x = []
joint_lines true params nonce x = line_with nonce (codes "joint " ++ of_encoding params x)

-- ---- of a record

-- one line for each proof, and then that of the encoding
abbrev pub whole_lines : (joint : Bool) → Setting → (bytes : List ℕ) → List ℕ
whole_lines joint by bytes =
    flat_map (proof_line by.circuit by.shape bytes) (proof_numbers by.shape)
    ++ joint_lines joint by.params (nonce_in bytes) (encoding_in by.shape bytes)

-- the lines of a record, by its least bad word: that of `verify` for this, or else those of the whole record
abbrev pub lines_by_word : (joint : Bool) → Setting → (bytes : List ℕ) → Option ℕ → List ℕ
lines_by_word joint by bytes (Some word) = line_with (nonce_in bytes) (spelled (Malformed word))
lines_by_word joint by bytes None = whole_lines joint by bytes

-- the lines of a record
unfoldable pub record_lines : (joint : Bool) → Setting → (bytes : List ℕ) → List ℕ
record_lines joint by bytes = lines_by_word joint by bytes (bad_word_in (words_in by.shape bytes))

-- ---- of a batch

-- the lines of a record are the same behind whatever records
abbrev pub explained_line : (joint : Bool) → Setting → (earlier : List (List ℕ)) → (report : List ℕ) → List ℕ
explained_line joint by earlier report = record_lines joint by report

-- those of all records, in their order
abbrev pub explained_lines : (joint : Bool) → Setting → (reports : List (List ℕ)) → List ℕ
explained_lines joint by reports = lines_of (explained_line joint by) reports

-- all that is written
abbrev pub words_by : (joint : Bool) → Setting → Wording
words_by joint by = record { line = explained_line joint by; text = explained_lines joint by }
