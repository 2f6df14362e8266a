-- What `prep` writes of a batch for one party, from the digits of a word up to all lines.
use Rattle.std.specs.Prelude.{ℕ, List, ◌++◌, codes}
use Rattle.std.specs.List.{flat_map}
use Rattle.hex.specs.Hex.{encode_lower}
use Rattle.byteorder.specs.Endian.{little_bytes}
use Rattle.flp_report.specs.Record.{nonce_in}
use Rattle.flp_policy.specs.declared.verdict.Verdict.{Verdict}
use Rattle.flp_policy.specs.declared.verdict.Verdict.TheVariants.{Accepted, Rejected}
use Rattle.flp_worker.specs.Parts.{proof_numbers}
use Rattle.flp_worker.specs.Verdict.{share_verifier}
use Rattle.flp_verdict.specs.Verdicts.{verdict_after}
use Rattle.flp_verdict.specs.Text.{spelled, line_with}
use Rattle.flp_batch.specs.Setting.{Setting}
use Rattle.flp_batch.specs.Lines.{Wording, lines_of}

-- the digits of a word: its 8 bytes, the lowest first, each in two hexadecimal digits
unfoldable pub word_digits : ℕ → List ℕ
word_digits word = encode_lower (little_bytes 8 word)

-- the digits of words, one word after another
abbrev pub digits_of : List ℕ → List ℕ
digits_of words = flat_map word_digits words

-- the digits of the verifier words that one party's share of a record has, proof after proof
abbrev pub verifier_digits : Setting → (party : ℕ) → (report : List ℕ) → List ℕ
verifier_digits by party report =
    flat_map (λ proof. digits_of (share_verifier by.circuit by.shape report party proof)) (proof_numbers by.shape)

-- the line of a record that was accepted or rejected: digits behind its nonce
abbrev pub prep_line : (nonce digits : List ℕ) → List ℕ
prep_line nonce digits = line_with nonce (codes "prep " ++ digits)

-- the line of a record with this verdict: of every other record that of `verify`
abbrev pub line_for : (nonce digits : List ℕ) → Verdict → List ℕ
line_for nonce digits Accepted = prep_line nonce digits
line_for nonce digits Rejected = prep_line nonce digits
line_for nonce digits verdict = line_with nonce (spelled verdict)

-- the line of a record behind earlier ones
abbrev pub prepared_line : (party : ℕ) → Setting → (earlier : List (List ℕ)) → (report : List ℕ) → List ℕ
prepared_line party by earlier report =
    line_for
    (nonce_in report)
    (verifier_digits by party report)
    (verdict_after by.circuit by.shape by.claims earlier report)

-- the lines of all records
abbrev pub prepared_lines : (party : ℕ) → Setting → (reports : List (List ℕ)) → List ℕ
prepared_lines party by reports = lines_of (prepared_line party by) reports

-- all that is written
abbrev pub words_by : (party : ℕ) → Setting → Wording
words_by party by = record { line = prepared_line party by; text = prepared_lines party by }
