-- The lines that are written of a batch's records, from a verdict up; and the line of the aggregate.
use Rattle.std.specs.Prelude.{ℕ, List, ◌++◌, codes, decimal}
use Rattle.std.specs.List.{flat_map}
use Rattle.hex.specs.Hex.{encode_lower}
use Rattle.flp_report.specs.Record.{nonce_in}
use Rattle.flp_policy.specs.declared.verdict.Verdict.{Verdict}
use Rattle.flp_policy.specs.declared.verdict.Verdict.TheVariants.{Accepted, Rejected, InDomain, Malformed, Replayed}
use Rattle.flp_verdict.specs.Verdicts.{Judged}

-- how a verdict is spelled
abbrev pub spelled : Verdict → List ℕ
spelled Accepted = codes "accepted"
spelled Rejected = codes "rejected"
spelled (InDomain proof gadget) = codes "domain " ++ decimal proof ++ codes " " ++ decimal gadget
spelled (Malformed word) = codes "malformed " ++ decimal word
spelled Replayed = codes "replayed"

-- how a line begins: a nonce in hexadecimal digits, and a space
abbrev pub line_head : (nonce : List ℕ) → List ℕ
line_head nonce = encode_lower nonce ++ codes " "

-- a line: the nonce of a record, and what is said of it
abbrev pub line_with : (nonce said : List ℕ) → List ℕ
line_with nonce said = line_head nonce ++ said ++ codes "\n"

-- the line of a record
abbrev pub line_of : Judged → List ℕ
line_of j = line_with (nonce_in j.report) (spelled j.verdict)

-- a line for each record, in their order
abbrev pub judged_lines : List Judged → List ℕ
judged_lines js = flat_map line_of js

-- numbers, with one space before each
abbrev pub spaced : List ℕ → List ℕ
spaced numbers = flat_map (λ n. codes " " ++ decimal n) numbers

-- the line of the aggregate
abbrev pub aggregate_line : List ℕ → List ℕ
aggregate_line aggregate = codes "aggregate" ++ spaced aggregate ++ codes "\n"
