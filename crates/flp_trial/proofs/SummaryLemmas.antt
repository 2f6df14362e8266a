-- A batch that lies in memory, verified and summed up: what is known of it, and why that can fail.
use Rattle.std.proofs.Common.{◌≡◌, ◌≢◌, ℕ, ◌++◌, List, length, Option, Some, None, Result, Ok, Err, refl, sym, ap, subst, ◌∙◌, arith, append-nil}
use Rattle.std.specs.Prelude.{IfOk, IfErr}
use Rattle.std.specs.Io.KnownBytes.{Consumes, IsAtEnd}
use Rattle.std.proofs.lemmas.List.FromFn.{length-map-range_with_len}
use Rattle.flp_io.specs.Faults.{Rose}
use Rattle.flp_syntax.specs.declared.syntax.Params.{Params}
use Rattle.flp_meaning.specs.Gadgets.{out_count}
use Rattle.flp_tally.specs.declared.view.Entry.{Entry}
use Rattle.flp_tally.specs.Rows.{total_of, AreSums}
use Rattle.flp_batch.specs.declared.fault.EngineFault.{EngineFault}
use Rattle.flp_batch.specs.declared.fault.EngineFault.TheVariants.{Memory, Read, Write, Batch, Circuit}
use Rattle.flp_batch.specs.Ends.{Ends}
use Rattle.flp_batch.specs.Setting.{Setting}
use Rattle.flp_batch.specs.Format.{batches}
use Rattle.flp_batch.specs.File.{IsBatch, IsFault, HasSetting}
use Rattle.flp_verdict.specs.Release.{Answers}
use Rattle.flp_verify.specs.declared.counted.Counted.{Counted}
use Rattle.flp_verify.specs.declared.counted.Summary.{Summary}
use Rattle.flp_verify.specs.Numbers.{counts_in}
use Rattle.flp_verify.specs.Counted.{IsSummary, totals_in}
use Rattle.flp_verify.specs.Laws.{TotalsAreAggregate, IsCounted}
use Rattle.flp_verify.specs.Reply.{Counts, records_on}
use Rattle.flp_trial.specs.Summary.{Summarizes}

-- ---- what is known of it

-- what the engine's summary says of the records that were counted
Summarizes-counted : TotalsAreAggregate → (by : Setting) (least : ℕ) (would : Answers) (records : List (List ℕ)) (counted : Counted) (summary : Summary)
    → IsCounted by least would records counted → AreSums counted.seat.view.added (totals_in counted) → IsSummary counted summary → Summarizes by records summary
Summarizes-counted law by least would records counted summary is sums closed =
    let size : length (totals_in counted) ≡ out_count by.circuit = length-map-range_with_len (λ (e : ℕ). total_of e counted.seat.view.added) 0 counted.outs ∙ is.outs in
    record {
      numbers = ap counts_in closed.numbers ∙ is.numbers;
      totals = closed.totals ∙ law by records counted.seat.view.claimed (totals_in counted) is.once (subst (λ (es : List Entry). AreSums es (totals_in counted)) is.rows sums) size;
    }

-- bytes that were read to their end are all that there were
whole-read : (bytes read : List ℕ) (left' : Option (List ℕ)) → Consumes (Some bytes) left' read → IsAtEnd left' → read ≡ bytes
whole-read bytes read None gone ended = absurd gone
whole-read bytes read (Some rest) gone ended = sym (gone ∙ (ap (λ (l : List ℕ). read ++ l) ended ∙ append-nil read))

-- what is known of all files, at batches
abbrev pub SettingIsOne : Type 0
SettingIsOne =
    (bytes : List ℕ) (params others : Option Params) (setting other : Setting) → HasSetting (batches None) bytes params setting
    → HasSetting (batches None) bytes others other → (params ≡ others) × (setting ≡ other)

abbrev pub NoBatchHasFault : Type 0
NoBatchHasFault = (bytes : List ℕ) (params : Option Params) (setting : Setting) (fault : EngineFault) → IsBatch None bytes params setting → IsFault (batches None) bytes fault → ⊥

-- of a batch with this setting, where it is the whole input
pub summary-of : SettingIsOne → TotalsAreAggregate → (bytes : List ℕ) (params : Option Params) (by : Setting) (least : ℕ) (would asked : Answers) (counted : Counted) (summary : Summary)
    (left' taken taken' : Option (List ℕ)) → IsBatch None bytes params by → Counts least would asked counted (Some bytes) left' taken taken'
    → AreSums counted.seat.view.added (totals_in counted) → IsSummary counted summary → Summarizes by (records_on bytes by) summary
summary-of one law bytes params by least would asked counted summary left' taken taken' is all sums closed =
    let whole = all.whole in
    let read : whole.bytes ≡ bytes = whole-read bytes whole.bytes left' whole.read whole.ended in
    let same : whole.setting ≡ by = (one bytes whole.params params whole.setting by (subst (λ (b : List ℕ). HasSetting (batches None) b whole.params whole.setting) read whole.is_batch.has) is.has).1 in
    let made : Summarizes whole.setting (records_on whole.bytes whole.setting) summary = Summarizes-counted law whole.setting least would (records_on whole.bytes whole.setting) counted summary all.counted_is sums closed in
    subst (λ (s : Setting). Summarizes s (records_on bytes s) summary) same (subst (λ (b : List ℕ). Summarizes whole.setting (records_on b whole.setting) summary) read made)

-- the summary that closing the tally answers
pub summary-closed : (by : Setting) (records : List (List ℕ)) (counted : Counted) (result : Result Summary EngineFault)
    → (AreSums counted.seat.view.added (totals_in counted) → (summary : Summary) → IsSummary counted summary → Summarizes by records summary)
    → IfOk result (λ summary. IsSummary counted summary) → (result ≢ Err Memory → AreSums counted.seat.view.added (totals_in counted)) → IfOk result (Summarizes by records)
summary-closed by records counted (Ok summary) says closed sums = says (sums (λ is. let no : ⊥ = cc in no)) summary closed
summary-closed by records counted (Err fault) says closed sums = tt

-- ---- why it fails

-- a count that stays at 0 did not rise
no-rise : Rose 0 0 → ⊥
no-rise rose = omega (arith, rose)

-- where neither stream fails, the only fault of a batch is want of memory
pub fault-of : {T : Type 0} (takes : Option (List ℕ) → Option (List ℕ) → Type 0) → NoBatchHasFault → (bytes : List ℕ) (params : Option Params) (by : Setting) (left' : Option (List ℕ)) (result : Result T EngineFault)
    → IsBatch None bytes params by → Ends (IsFault (batches None)) takes (Some bytes) left' 0 0 0 0 result
    → IfErr result (λ fault. fault ≡ Memory)
fault-of takes never bytes params by left' (Ok value) is ends = tt
fault-of takes never bytes params by left' (Err Memory) is ends = refl
fault-of takes never bytes params by left' (Err Read) is ends = absurd (no-rise (ends.read refl))
fault-of takes never bytes params by left' (Err Write) is ends = absurd (no-rise (ends.write refl))
fault-of takes never bytes params by left' (Err (Batch fault)) is ends = absurd (never bytes params by (Batch fault) is ends.fault)
fault-of takes never bytes params by left' (Err (Circuit fault)) is ends = absurd (never bytes params by (Circuit fault) is ends.fault)
