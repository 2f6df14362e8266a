-- The text that `trial` writes: how many records of a batch have each verdict, and the sum of the outs of the accepted ones.
-- From the lines up to the text of a circuit's trial.
use Rattle.std.specs.Prelude.{ℕ, List, ◌++◌, Option, codes}
use Rattle.flp_syntax.specs.declared.syntax.Params.{Params}
use Rattle.flp_syntax.specs.Tree.{Program}
use Rattle.flp_policy.specs.Counts.{VerdictCounts, counts_of}
use Rattle.flp_batch.specs.Setting.{Setting}
use Rattle.flp_verdict.specs.Verdicts.{judged, verdicts_of}
use Rattle.flp_verdict.specs.Totals.{aggregate_of}
use Rattle.flp_verdict.specs.Text.{aggregate_line}
use Rattle.flp_lengths.specs.Text.{number_line}
use Rattle.flp_generator.specs.Batch.{trial_records}
use Rattle.flp_generator.specs.Laws.{trial_setting}

-- a line for each kind of verdict, and the line of the aggregate
abbrev pub summary_lines : VerdictCounts → (aggregate : List ℕ) → List ℕ
summary_lines counts aggregate =
    number_line (codes "accepted") counts.accepted
    ++ number_line (codes "rejected") counts.rejected
    ++ number_line (codes "domain") counts.in_domain
    ++ number_line (codes "malformed") counts.malformed
    ++ number_line (codes "replayed") counts.replayed
    ++ aggregate_line aggregate

-- how many of the records of a batch have each verdict
abbrev pub counts_by : Setting → (records : List (List ℕ)) → VerdictCounts
counts_by by records = counts_of (verdicts_of by.circuit by.shape by.claims records)

-- the sum of the outs of the accepted ones
abbrev pub aggregate_by : Setting → (records : List (List ℕ)) → List ℕ
aggregate_by by records = aggregate_of by.circuit by.shape (judged by.circuit by.shape by.claims records)

-- the text of a batch of these records
abbrev pub summary_text : Setting → (records : List (List ℕ)) → List ℕ
summary_text by records = summary_lines (counts_by by records) (aggregate_by by records)

-- the text of a circuit's trial: that of the batch that is made from the seed. The number of workers is not in it
abbrev pub trial_text : Option Params → Program → (seed reports : ℕ) → List ℕ
trial_text params circuit seed reports = summary_text (trial_setting params circuit) (trial_records params circuit seed reports)
