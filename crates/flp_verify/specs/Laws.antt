-- What the totals of a tally are to the batch whose rows were added to it, and what is printed of a batch that was counted.
use Rattle.std.specs.Prelude.{◌≡◌, ℕ, ◌<◌, List, ◌++◌, Bool, length}
use Rattle.flp_meaning.specs.Gadgets.{out_count}
use Rattle.flp_tally.specs.Rows.{rows_entries, AreSums}
use Rattle.flp_pool.specs.Work.{rows_of}
use Rattle.flp_pool.specs.Range.{EachOnce}
use Rattle.flp_known.specs.Known.{known_in}
use Rattle.flp_policy.specs.Counts.{counts_of}
use Rattle.flp_batch.specs.Setting.{Setting}
use Rattle.flp_verdict.specs.Verdicts.{verdicts_of}
use Rattle.flp_verdict.specs.Totals.{aggregate_of}
use Rattle.flp_verdict.specs.Release.{Answers, known_after, withheld_from, released_of}
use Rattle.flp_verify.specs.Text.{judged_by}
use Rattle.flp_verify.specs.Rows.{row_in}
use Rattle.flp_verify.specs.declared.counted.Counted.{Counted}
use Rattle.flp_verify.specs.Numbers.{counts_in}
use Rattle.flp_verify.specs.Counted.{withheld_by, totals_in, ending_of}

-- where the entries are the rows of a batch's places, each place's once and in whatever order, their sums are the
-- aggregate of the batch
abbrev pub TotalsAreAggregate : Type 0
TotalsAreAggregate =
    (by : Setting) (reports : List (List ℕ)) (places totals : List ℕ) → EachOnce 0 (length reports) places
    → AreSums (rows_entries (rows_of (row_in by reports) places)) totals → length totals ≡ out_count by.circuit
    → totals ≡ aggregate_of by.circuit by.shape (judged_by by reports)

-- records that follow change no row of the places before them
abbrev pub RowsStay : Type 0
RowsStay =
    (by : Setting) (reports more : List (List ℕ)) (place : ℕ) → place < length reports
    → row_in by (reports ++ more) place ≡ row_in by reports place

-- ---- a batch that was counted

-- what is known of a batch of these records: how many have each verdict, the nonces behind it, who withholds its
-- aggregate, and that the seat has claimed each place once and no other, and added exactly the rows of these places
pub record IsCounted (by : Setting) (least : ℕ) (would : Answers) (reports : List (List ℕ)) (counted : Counted) : Type 0 where
  pub numbers : counts_in counted.numbers ≡ counts_of (verdicts_of by.circuit by.shape by.claims reports)
  pub known : known_in counted.known ≡ known_after by.claims reports
  pub end : withheld_by counted.end ≡ withheld_from by.circuit by.shape least would by.claims reports
  pub outs : counted.outs ≡ out_count by.circuit
  pub once : EachOnce 0 (length reports) counted.seat.view.claimed
  pub rows : counted.seat.view.added ≡ rows_entries (rows_of (row_in by reports) counted.seat.view.claimed)

-- then what is printed of it is what follows the lines of the batch
abbrev pub EndingIsReleased : Type 0
EndingIsReleased =
    (by : Setting) (least : ℕ) (would : Answers) (reports : List (List ℕ)) (counted : Counted) (claims : Bool) → IsCounted by least would reports counted
    → AreSums counted.seat.view.added (totals_in counted)
    → ending_of counted claims ≡ released_of by.circuit by.shape least would claims by.claims reports
