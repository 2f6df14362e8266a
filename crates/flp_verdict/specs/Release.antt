-- What follows the lines of a batch's records where policies may withhold the aggregate, and where the claims are asked
-- for. From the policies' answers up.
use Rattle.std.specs.Prelude.{ℕ, List, [], ◌∷◌, ◌++◌, Option, None, Some, Bool, not, nat_le, if◌then◌else◌, codes, decimal, position, fold, map}
use Rattle.std.specs.Ordering.{nat_cmp}
use Rattle.std.specs.Cmp.Lexicographic.{slice_cmp}
use Rattle.std.specs.BTreeSet.{insert_key}
use Rattle.flp_syntax.specs.Tree.{Program}
use Rattle.flp_report.specs.declared.shape.Shape.{Shape}
use Rattle.flp_report.specs.Record.{nonce_in}
use Rattle.flp_known.specs.Claims.{claim_lines}
use Rattle.flp_policy.specs.Counts.{VerdictCounts, counts_of}
use Rattle.flp_verdict.specs.Verdicts.{judged, verdicts_of}
use Rattle.flp_verdict.specs.Totals.{count_of, aggregate_of}
use Rattle.flp_verdict.specs.Text.{aggregate_line, judged_lines}

-- what policies would answer of a bucket after so many more verdicts of each kind there, in their order
abbrev pub Answers : Type 0
Answers = VerdictCounts → ℕ → List Bool

-- the least policy that does not allow the release of a bucket with these verdicts, or none: policy 0 wants `least`
-- accepted reports, and the others are numbered from 1
abbrev pub refusal : (least : ℕ) → Answers → VerdictCounts → ℕ → Option ℕ
refusal least would counts bucket = position not (nat_le least counts.accepted ∷ would counts bucket)

-- ---- lines

-- the line with the number of accepted records
abbrev pub count_line : ℕ → List ℕ
count_line count = codes "count " ++ decimal count ++ codes "\n"

-- the line of the aggregate, or of the policy that withholds it
abbrev pub release_line : (withheld : Option ℕ) → (aggregate : List ℕ) → List ℕ
release_line None aggregate = aggregate_line aggregate
release_line (Some policy) aggregate = codes "withheld " ++ decimal policy ++ codes "\n"

-- the claims, where they are asked for
abbrev pub claims_out : (claims : Bool) → (nonces : List (List ℕ)) → List ℕ
claims_out claims nonces = if claims then claim_lines nonces else []

-- all that follows the lines of the records
abbrev pub ending_by : (count : ℕ) → (withheld : Option ℕ) → (aggregate : List ℕ) → (claims : Bool) → (nonces : List (List ℕ)) → List ℕ
ending_by count withheld aggregate claims nonces = count_line count ++ release_line withheld aggregate ++ claims_out claims nonces

-- ---- of a whole batch

-- the old claims, which rise, and the nonces of records, each at its place in the order of their bytes and once
abbrev pub known_after : (claims reports : List (List ℕ)) → List (List ℕ)
known_after claims reports = fold (insert_key (slice_cmp nat_cmp)) claims (map nonce_in reports)

-- the policy that withholds the aggregate of a batch, if one does: each is told all verdicts, and then asked
abbrev pub withheld_from : Program → Shape → (least : ℕ) → Answers → (claims reports : List (List ℕ)) → Option ℕ
withheld_from program shape least would claims reports =
    refusal least would (counts_of (verdicts_of program shape claims reports)) 0

-- what follows the lines of a batch's records, with its claims where they are asked for
abbrev pub released_of : Program → Shape → (least : ℕ) → Answers → (out : Bool) → (claims reports : List (List ℕ)) → List ℕ
released_of program shape least would out claims reports =
    ending_by (count_of (judged program shape claims reports)) (withheld_from program shape least would claims reports)
    (aggregate_of program shape (judged program shape claims reports)) out (known_after claims reports)

-- and the whole text
abbrev pub released_text : Program → Shape → (least : ℕ) → Answers → (out : Bool) → (claims reports : List (List ℕ)) → List ℕ
released_text program shape least would out claims reports =
    judged_lines (judged program shape claims reports) ++ released_of program shape least would out claims reports
