-- No measurement of a job is refused for how many numbers it has.
use Rattle.std.proofs.Common.{◌≡◌, ℕ, suc, Bool, true, false, cond, List, [], ◌∷◌, length, Option, Some, None, nat_lt, nat_le, sym, ap, ◌∙◌, eq-eqb}
use Rattle.std.specs.Option.{option_or}
use Rattle.flp_syntax.specs.declared.syntax.Params.{Params}
use Rattle.flp_syntax.specs.declared.syntax.Params.TheVariants.{Count, Sum, SumVec, Histogram, Multihot}
use Rattle.flp_syntax.specs.Tree.{Program}
use Rattle.flp_circuits.specs.declared.fault.MeasFault.{MeasFault}
use Rattle.flp_circuits.specs.declared.fault.MeasFault.TheVariants as meas
use Rattle.flp_circuits.specs.Sizes.{input_len_of}
use Rattle.flp_circuits.specs.Encoding.{range_of, range_fault, weight_of, weight_fault, meas_fault}
use Rattle.flp_report.specs.JobParts.{input_in}
use Rattle.flp_report.proofs.WordsLemmas.{length-words}
use Rattle.flp_batch.specs.JobSetting.{JobSetting, input_count}
use Rattle.flp_jobs.specs.Setting.{IsSetting}
use Rattle.flp_jobs.specs.Encoding.{job_input}
use Rattle.flp_jobs.specs.Place.{input_fault, place_fault}
use Rattle.flp_jobs.proofs.PlaceLemmas.{refused_or-none}

-- a measurement is refused for its count
abbrev IsCounted : Option MeasFault → ℕ → Type 0
IsCounted fault count = fault ≡ Some (meas.Count count)

one-range : (inside : Bool) (place n count : ℕ) (rest : Option MeasFault) → (IsCounted rest count → ⊥) → IsCounted (cond inside rest (Some (meas.Range place n))) count → ⊥
one-range true place n count rest more is = more is
one-range false place n count rest more is = cc

range-counted : (range place count : ℕ) (input : List ℕ) → IsCounted (range_fault range place input) count → ⊥
range-counted range place count [] is = cc
range-counted range place count (n ∷ input) is =
    one-range (nat_lt n range) place n count (range_fault range (suc place) input) (range-counted range (suc place) count input) is

one-weight : (few : Bool) (weight count : ℕ) → IsCounted (cond few None (Some (meas.Weight weight))) count → ⊥
one-weight true weight count is = cc
one-weight false weight count is = cc

weight-counted : (params : Params) (count : ℕ) (input : List ℕ) → IsCounted (weight_fault params input) count → ⊥
weight-counted Count count input is = cc
weight-counted (Sum max) count input is = cc
weight-counted (SumVec length bits chunk) count input is = cc
weight-counted (Histogram length chunk) count input is = cc
weight-counted (Multihot length weight chunk) count input is = one-weight (nat_le (weight_of input) weight) (weight_of input) count is

either-counted : (first second : Option MeasFault) (count : ℕ) → (IsCounted first count → ⊥) → (IsCounted second count → ⊥) → IsCounted (option_or first second) count → ⊥
either-counted None second count one other is = other is
either-counted (Some fault) second count one other is = one is

meas-counted : (params : Params) (count : ℕ) (input : List ℕ) → length input ≡ input_len_of params → IsCounted (meas_fault params input) count → ⊥
meas-counted params count input size is =
    let many = eq-eqb (length input) (input_len_of params) size in
    let rest : Option MeasFault = option_or (range_fault (range_of params) 0 input) (weight_fault params input) in
    let turned : IsCounted rest count = sym (ap (λ (b : Bool). cond b rest (Some (meas.Count (length input)))) many) ∙ is in
    either-counted (range_fault (range_of params) 0 input) (weight_fault params input) count
    (range-counted (range_of params) 0 count input) (weight-counted params count input) turned

-- an input with as many numbers as the circuit takes
pub input-counted : (params : Option Params) (circuit : Program) (count : ℕ) (input : List ℕ) → length input ≡ input_count params circuit → IsCounted (input_fault params input) count → ⊥
input-counted (Some params) circuit count input size is = meas-counted params count input size is
input-counted None circuit count input size is = cc

-- that of a job is
pub job-counted : (by : JobSetting) (job : List ℕ) (count : ℕ) → IsSetting by → input_fault by.params (job_input by.shape job) ≡ Some (meas.Count count) → ⊥
job-counted by job count setting is =
    input-counted by.params by.circuit count (job_input by.shape job) (length-words by.shape.input (input_in by.shape job) ∙ setting.shape.input) is

-- so that at a good place it is not refused at all
pub input-taken : (by : JobSetting) (under job : List ℕ) → IsSetting by → place_fault by under job ≡ None → input_fault by.params (job_input by.shape job) ≡ None
input-taken by under job setting good = (refused_or-none _ _ (λ count. job-counted by job count setting) good).0
