-- The batch of trials of a circuit, and when it is too large.
use Rattle.std.specs.Prelude.{ℕ, ◌+◌, ◌*◌, ◌≡◌, ◌≤◌, nat_lt, if◌then◌else◌, List, ◌++◌, map, Option, None, Some}
use native.Mathlib.Bridge.{IsLe, le_by_compare}
use Rattle.std.specs.List.{range_with_len, concat}
use Rattle.flp_syntax.specs.declared.syntax.Params.{Params}
use Rattle.flp_syntax.specs.Tree.{Program}
use Rattle.flp_plan.specs.Counted.{counted_lengths}
use Rattle.flp_report.specs.declared.header.Header.{Header}
use Rattle.flp_report.specs.declared.shape.Shape.{Shape}
use Rattle.flp_report.specs.Shape.{bytes_of}
use Rattle.flp_report.specs.Layout.{head_bytes}
use Rattle.flp_generator.specs.declared.fault.GeneratorFault.{GeneratorFault}
use Rattle.flp_generator.specs.declared.fault.GeneratorFault.TheVariants.{Memory, TooLarge}
use Rattle.flp_generator.specs.Place.{trial_record}

-- few shares and proofs
pub few-shares : 2 ≤ 16
unfolding IsLe
few-shares = le_by_compare 2 16 tt

pub few-proofs : 1 ≤ 16
unfolding IsLe
few-proofs = le_by_compare 1 16 tt

-- two shares and one proof, behind a head of version 1
abbrev pub trial_shape : Program → Shape
trial_shape circuit = record {
  version = 1;
  shares = 2;
  proofs = 1;
  buckets = 1;
  meas = (counted_lengths circuit).meas;
  joint = (counted_lengths circuit).joint;
  query = (counted_lengths circuit).query;
  proof = (counted_lengths circuit).proof;
  outs = (counted_lengths circuit).outs;
  few_shares = few-shares;
  few_proofs = few-proofs;
}

-- no old claims, and so many reports
abbrev pub trial_header : (text : List ℕ) → (reports : ℕ) → Header
trial_header text reports = record { version = 1; shares = 2; proofs = 1; text = text; claims = 0; reports = reports; buckets = 1 }

-- the records of all places
abbrev pub trial_records : Option Params → Program → (seed reports : ℕ) → List (List ℕ)
trial_records params circuit seed reports = map (trial_record params circuit seed) (range_with_len 0 reports)

-- the batch of trials of this text, whose circuit is this
abbrev pub trial_batch : (text : List ℕ) → Option Params → Program → (seed reports : ℕ) → List ℕ
trial_batch text params circuit seed reports =
    head_bytes (trial_header text reports) ++ concat (trial_records params circuit seed reports)

-- ---- its size

-- the bytes of the batch, where its text has this length
abbrev pub trial_size : Program → (text reports : ℕ) → ℕ
trial_size circuit text reports = 32 + text + reports * bytes_of (trial_shape circuit)

-- the first size above its limit: that of a record, and then that of the batch
abbrev pub too_large : Program → (text reports : ℕ) → Option ℕ
too_large circuit text reports =
    if nat_lt 16777216 (bytes_of (trial_shape circuit)) then Some (bytes_of (trial_shape circuit))
    else (if nat_lt 1073741824 (trial_size circuit text reports) then Some (trial_size circuit text reports) else None)

-- why no batch is made: it is too large, by this size; or else there is no memory for it
abbrev pub IsGeneratorFault : Program → (text reports : ℕ) → GeneratorFault → Type 0
IsGeneratorFault circuit text reports (TooLarge bytes) = too_large circuit text reports ≡ Some bytes
IsGeneratorFault circuit text reports Memory = too_large circuit text reports ≡ None
