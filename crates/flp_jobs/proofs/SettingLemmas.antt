-- What a loaded text says of the jobs behind it.
use Rattle.std.proofs.Common.{◌≡◌, ℕ, ◌≤◌, Bool, List, length, Option, Some, None, refl, arith}
use Rattle.flp_syntax.specs.declared.syntax.Params.{Params}
use Rattle.flp_syntax.specs.declared.syntax.Params.TheVariants.{Count, Sum, SumVec, Histogram, Multihot}
use Rattle.flp_syntax.specs.Tree.{Program}
use Rattle.flp_circuits.specs.Sizes.{Fits, input_len_of, meas_len_of}
use Rattle.flp_circuits.specs.Standard.{standard_program}
use Rattle.flp_circuits.proofs.Fitting.{fitting}
use Rattle.flp_plan.specs.Counted.{counted_lengths}
use Rattle.flp_plan.proofs.PassedLemmas.{passed, passed_outs}
use Rattle.flp_load.specs.Loaded.{IsRead, IsLoaded}
use Rattle.flp_load.proofs.StandardLemmas as load
use Rattle.flp_report.specs.declared.header.JobHeader.{JobHeader}
use Rattle.flp_batch.specs.JobSetting.{JobSetting, IsJobShapeBehind}
use Rattle.flp_jobs.specs.Setting.{IsCircuitOf, IsSetting}

-- a measurement has few numbers
pub input-few : (params : Params) → Fits params → input_len_of params ≤ 65536
input-few Count fits = omega arith
input-few (Sum max) fits = omega arith
input-few (SumVec length bits chunk) fits = (fitting (SumVec length bits chunk) fits).1.0
input-few (Histogram length chunk) fits = omega arith
input-few (Multihot length weight chunk) fits = (fitting (Multihot length weight chunk) fits).1.0

-- the words of an encoding
pub meas-standard : (params : Params) → (standard_program params).meas ≡ meas_len_of params
meas-standard params = load.meas-standard params

-- a loaded circuit has few outs
pub outs-few : (text : List ℕ) (params : Option Params) (circuit : Program) → IsLoaded text params circuit → (counted_lengths circuit).outs ≤ 65536
outs-few text params circuit loaded =
    let totals = loaded.checked.0 in
    let p = passed circuit totals loaded.checked.1 in
    omega (arith, passed_outs circuit totals p, p.within.outs)

-- the circuit that a text is read as
circuit-read : (text : List ℕ) (params : Option Params) (circuit : Program) → IsRead text params circuit → IsCircuitOf params circuit
circuit-read text (Some params) circuit read = (read.1, read.2)
circuit-read text None circuit read = tt

pub circuit-of : (text : List ℕ) (params : Option Params) (circuit : Program) → IsLoaded text params circuit → IsCircuitOf params circuit
circuit-of text params circuit loaded = circuit-read text params circuit loaded.read

-- the setting of jobs behind a head
pub IsSetting-from : (writes : Bool) (header : JobHeader) (by : JobSetting) → IsCircuitOf by.params by.circuit → IsJobShapeBehind writes header by.params by.circuit by.shape
    → 2 ≤ header.shares → IsSetting by
IsSetting-from writes header by circuit fits some =
    record {
      header = header;
      circuit = circuit;
      some_shares = omega (arith, fits.of_record.shares);
      shape = record { of_record = fits.of_record; input = fits.input; prove = fits.prove; checked = fits.checked; written = refl };
    }
