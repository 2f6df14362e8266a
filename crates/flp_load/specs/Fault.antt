-- The first fault of a text, in the order of the passes: `parse`, the parameters, `check`, `compile`. From the whole down to its parts.
use Rattle.std.specs.Prelude.{ℕ, ◌≡◌, ◌≢◌, ◌⊎◌, List, Option, Some, Err}
use Rattle.flp_syntax.specs.declared.syntax.Params.{Params}
use Rattle.flp_syntax.specs.declared.fault.LangFault.{LangFault}
use Rattle.flp_syntax.specs.declared.fault.LangFault.TheVariants as lang
use Rattle.flp_syntax.specs.Tree.{Program, standard}
use Rattle.flp_lang.specs.Parsed.{IsParsed, IsParseFault}
use Rattle.flp_circuits.specs.declared.fault.ParamFault.{ParamFault}
use Rattle.flp_circuits.specs.declared.fault.ParamFault.TheVariants as param
use Rattle.flp_circuits.specs.Sizes.{first_refusal}
use Rattle.flp_check.specs.Verdict.{verdict}
use Rattle.flp_plan.specs.declared.fault.PlanFault.{PlanFault}
use Rattle.flp_plan.specs.declared.fault.PlanFault.TheVariants as plan
use Rattle.flp_plan.specs.Counted.{limit_fault}
use Rattle.flp_load.specs.declared.fault.CircuitFault.{CircuitFault}
use Rattle.flp_load.specs.declared.fault.CircuitFault.TheVariants.{Lang, Param, Plan}
use Rattle.flp_load.specs.declared.fault.LoadFault.{LoadFault}
use Rattle.flp_load.specs.declared.fault.LoadFault.TheVariants.{Memory, Circuit}
use Rattle.flp_load.specs.Loaded.{IsRead, IsChecked}

-- the text is read as a circuit in which `check` finds this fault
abbrev pub IsCheckFault : List ℕ → LangFault → Type 0
IsCheckFault text fault = (params : Option Params) × (circuit : Program) × IsRead text params circuit × (verdict circuit ≡ Err fault)

-- the text names a standard circuit whose parameters are refused by this fault
abbrev pub IsRefused : List ℕ → ParamFault → Type 0
IsRefused text fault = (params : Params) × IsParsed text (standard params) × (first_refusal params ≡ Some fault)

-- the text is read as a circuit in which `check` finds no fault, and whose plan would be too large
abbrev pub IsPlanFault : List ℕ → PlanFault → Type 0
IsPlanFault text fault = (params : Option Params) × (circuit : Program) × IsRead text params circuit × IsChecked circuit × (limit_fault circuit ≡ Some fault)

-- the first fault of a text, which is never want of memory
abbrev pub IsCircuitFault : List ℕ → CircuitFault → Type 0
IsCircuitFault text (Lang fault) = (fault ≢ lang.Memory) × (IsParseFault text fault ⊎ IsCheckFault text fault)
IsCircuitFault text (Param fault) = (fault ≢ param.Memory) × IsRefused text fault
IsCircuitFault text (Plan fault) = (fault ≢ plan.Memory) × IsPlanFault text fault

-- want of memory alone is free
abbrev pub IsLoadFault : List ℕ → LoadFault → Type 0
IsLoadFault text Memory = Unit {0}
IsLoadFault text (Circuit fault) = IsCircuitFault text fault
