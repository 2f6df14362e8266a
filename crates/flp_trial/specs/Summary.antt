-- What the summary of a batch says of it.
use Rattle.std.specs.Prelude.{ℕ, ◌≡◌, List}
use Rattle.flp_batch.specs.Setting.{Setting}
use Rattle.flp_verify.specs.declared.counted.Summary.{Summary}
use Rattle.flp_verify.specs.Numbers.{counts_in}
use Rattle.flp_trial.specs.Text.{counts_by, aggregate_by}

-- how many of its records have each verdict, and the sum of the outs of the accepted ones
pub record Summarizes (by : Setting) (records : List (List ℕ)) (summary : Summary) : Type 0 where
  pub numbers : counts_in summary.numbers ≡ counts_by by records
  pub totals : summary.totals ≡ aggregate_by by records
