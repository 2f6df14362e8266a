-- The words of a refused circuit, from names up to the words of each fault.
use Rattle.std.specs.Prelude.{ℕ, List, ◌++◌, codes}
use Rattle.flp_syntax.specs.declared.fault.LangFault.{LangFault}
use Rattle.flp_syntax.specs.declared.fault.LangFault.TheVariants as lang
use Rattle.flp_syntax.specs.declared.fault.Counted.{Counted}
use Rattle.flp_syntax.specs.declared.fault.Counted.TheVariants as counted
use Rattle.flp_circuits.specs.declared.fault.ParamFault.{ParamFault}
use Rattle.flp_circuits.specs.declared.fault.ParamFault.TheVariants as refused
use Rattle.flp_circuits.specs.declared.fault.Param.{Param}
use Rattle.flp_circuits.specs.declared.fault.Param.TheVariants as param
use Rattle.flp_plan.specs.declared.fault.PlanFault.{PlanFault}
use Rattle.flp_plan.specs.declared.fault.PlanFault.TheVariants as plan
use Rattle.flp_plan.specs.declared.fault.PlanCounted.{PlanCounted}
use Rattle.flp_plan.specs.declared.fault.PlanCounted.TheVariants as planned
use Rattle.flp_load.specs.declared.fault.CircuitFault.{CircuitFault}
use Rattle.flp_load.specs.declared.fault.CircuitFault.TheVariants as circuit
use Rattle.flp_lines.specs.Pieces.{named, numbered}

-- what a limit of a text counts
abbrev pub counted_name : Counted → List ℕ
counted_name counted.Meas = codes "meas"
counted_name counted.Joint = codes "joint"
counted_name counted.Gadgets = codes "gadgets"
counted_name counted.Arity = codes "arity"
counted_name counted.Degree = codes "degree"
counted_name counted.Visits = codes "visits"
counted_name counted.Calls = codes "calls"
counted_name counted.Checks = codes "checks"
counted_name counted.Outs = codes "outs"

-- a parameter of a standard circuit, or a number that its parameters give
abbrev pub param_name : Param → List ℕ
param_name param.Max = codes "max"
param_name param.Length = codes "length"
param_name param.Bits = codes "bits"
param_name param.Chunk = codes "chunk"
param_name param.Weight = codes "weight"
param_name param.Meas = codes "meas"
param_name param.Calls = codes "calls"

-- what a limit of a plan counts
abbrev pub planned_name : PlanCounted → List ℕ
planned_name planned.Wires = codes "wires"
planned_name planned.Terms = codes "terms"

-- the words of each fault; want of memory is none that a circuit has
abbrev pub lang_text : LangFault → List ℕ
lang_text lang.Memory = codes "memory"
lang_text (lang.TextLength length) = numbered (codes "text length ") length
lang_text (lang.Lex at) = numbered (codes "lex ") at
lang_text (lang.Syntax token) = numbered (codes "syntax ") token
lang_text (lang.Name token) = numbered (codes "name ") token
lang_text (lang.Twice token) = numbered (codes "twice ") token
lang_text (lang.NotLinear token) = numbered (codes "not linear ") token
lang_text (lang.Index token) = numbered (codes "index ") token
lang_text (lang.Arity token) = numbered (codes "arity ") token
lang_text (lang.Uncalled gadget) = numbered (codes "uncalled ") gadget
lang_text (lang.Limit which count) = named (codes "limit ") (counted_name which) count
lang_text (lang.Depth token) = numbered (codes "depth ") token

abbrev pub param_text : ParamFault → List ℕ
param_text refused.Memory = codes "memory"
param_text (refused.Zero which) = codes "zero " ++ param_name which
param_text (refused.TooLarge which value) = named (codes "too large ") (param_name which) value

abbrev pub plan_text : PlanFault → List ℕ
plan_text plan.Memory = codes "memory"
plan_text (plan.Limit which count) = named (codes "limit ") (planned_name which) count

abbrev pub circuit_text : CircuitFault → List ℕ
circuit_text (circuit.Lang fault) = lang_text fault
circuit_text (circuit.Param fault) = param_text fault
circuit_text (circuit.Plan fault) = plan_text fault
