-- What is made is a batch of its circuit.
use Rattle.std.proofs.Common.{ℕ, ◌≡◌, ◌<◌, ◌≤◌, List, length, get_or, Bool, true, false, cond, ltb, Option, None, Some, refl, arith}
use Rattle.std.specs.List.{All, range_with_len}
use Rattle.std.proofs.lemmas.Bool.{le-ltb, ltb-false}
use Rattle.std.proofs.lemmas.List.Elements.{All-map}
use Rattle.std.proofs.lemmas.List.FromFn.{length-map-range_with_len}
use Rattle.flp_syntax.specs.declared.syntax.Params.{Params}
use Rattle.flp_syntax.specs.Tree.{Program}
use Rattle.flp_load.specs.Loaded.{IsLoaded}
use Rattle.flp_load.specs.Laws.{LoadedIsBounded}
use Rattle.flp_load.proofs.AnswerLemmas.{read_parsed}
use Rattle.flp_report.specs.Shape.{bytes_of, width_of}
use Rattle.flp_report.specs.Layout.{IsWritable}
use Rattle.flp_report.specs.Batch.{large_fault}
use Rattle.flp_batch.specs.Setting.{IsShapeBehind}
use Rattle.flp_batch.specs.Format.{newest_read}
use Rattle.flp_batch.proofs.WrittenLemmas.{batch_written}
use Rattle.flp_jobs.proofs.SettingLemmas.{circuit-of, outs-few}
use Rattle.flp_generator.specs.Place.{trial_record}
use Rattle.flp_generator.specs.Batch.{trial_shape, trial_header, trial_records, trial_size, too_large}
use Rattle.flp_generator.specs.Laws.{TrialsAreBatches}
use Rattle.flp_generator.proofs.RecordLemmas.{length-record}

-- ---- sizes

-- a text that is loaded is not too long
pub loaded-short : (text : List ℕ) (params : Option Params) (circuit : Program) → IsLoaded text params circuit → length text ≤ 65536
loaded-short text params circuit loaded = (read_parsed text params circuit loaded.read).1.1.0

-- neither test finds a size above its limit
two-none : (a b : Bool) (m n : ℕ) → cond a (Some m) (cond b (Some n) None) ≡ None → (a ≡ false) × (b ≡ false)
two-none true b m n none = cc
two-none false true m n none = cc
two-none false false m n none = (refl, refl)

pub small-record : (circuit : Program) (text reports : ℕ) → too_large circuit text reports ≡ None → bytes_of (trial_shape circuit) ≤ 16777216
small-record circuit text reports none =
    let size = trial_size circuit text reports in
    ltb-false 16777216 (bytes_of (trial_shape circuit))
    (two-none (ltb 16777216 (bytes_of (trial_shape circuit))) (ltb 1073741824 size) (bytes_of (trial_shape circuit)) size none).0

-- ---- the batch

pub trials_are_batches : LoadedIsBounded → TrialsAreBatches
trials_are_batches bounded text params circuit seed reports loaded few none =
    let outs : width_of (trial_shape circuit) ≤ 65536 = omega (arith, outs-few text params circuit loaded) in
    let small : large_fault (trial_shape circuit) 0 ≡ None =
    rw (le-ltb 16777216 (bytes_of (trial_shape circuit)) (small-record circuit (length text) reports none), le-ltb 65536 (width_of (trial_shape circuit)) outs) refl in
    let writable : IsWritable newest_read None (trial_header text reports) = record {
      newest_is = omega arith;
      limits = record {
        least_version = omega arith;
        most_version = omega arith;
        least_shares = omega arith;
        most_shares = omega arith;
        least_proofs = omega arith;
        most_proofs = omega arith;
        own_share = tt;
        text = loaded-short text params circuit loaded;
        least_buckets = omega arith;
        most_buckets = omega arith;
        one_bucket = λ _. refl;
      };
      claims = omega arith;
      reports = few;
    } in
    let fits : IsShapeBehind (trial_header text reports) circuit (trial_shape circuit) = record {
      version = refl;
      shares = refl;
      proofs = refl;
      buckets = refl;
      meas = refl;
      joint = refl;
      query = refl;
      proof = refl;
      outs = refl;
    } in
    let sizes : All (λ (r : List ℕ). length r ≡ bytes_of (trial_shape circuit)) (trial_records params circuit seed reports) =
    All-map (λ (r : List ℕ). length r ≡ bytes_of (trial_shape circuit)) (trial_record params circuit seed) (range_with_len 0 reports)
    (λ (k d : ℕ) (below : k < length (range_with_len 0 reports)). length-record params circuit (circuit-of text params circuit loaded) (bounded text params circuit loaded) seed (get_or (range_with_len 0 reports) k d)) in
    let count : length (trial_records params circuit seed reports) ≡ reports = length-map-range_with_len (trial_record params circuit seed) 0 reports in
    let written =
    batch_written None (record { shares = 2; proofs = 1; text = text; jobs = reports }) params circuit (trial_shape circuit) (trial_records params circuit seed reports)
    writable loaded fits small sizes count in
    record { is_batch = written.is_batch; records = written.records_are }
