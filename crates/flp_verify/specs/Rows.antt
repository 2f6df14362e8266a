-- The rows that the places of a batch bring to its sums, from the verdict on one record up.
use Rattle.std.specs.Prelude.{ℕ, List, Option, Some, None, if◌then◌else◌}
use Rattle.flp_policy.specs.declared.verdict.Verdict.{Verdict}
use Rattle.flp_policy.specs.Verdicts.{is_accepted}
use Rattle.flp_worker.specs.Verdict.{outs_in}
use Rattle.flp_batch.specs.Setting.{Setting}
use Rattle.flp_verdict.specs.Laws.{report_at, verdict_at}

-- the row of a record with this verdict: its outs where it counts, and else none
abbrev pub row_for : Verdict → (outs : List ℕ) → Option (List ℕ)
row_for verdict outs = if is_accepted verdict then Some outs else None

-- the row of the record at a place
abbrev pub row_in : Setting → (reports : List (List ℕ)) → (place : ℕ) → Option (List ℕ)
row_in by reports place =
    row_for (verdict_at by.circuit by.shape by.claims reports place) (outs_in by.circuit by.shape (report_at reports place))
