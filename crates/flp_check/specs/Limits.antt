-- The limits on what a body declares, and on what must be there at the end of its unrolling.
use Rattle.std.specs.Prelude.{ℕ, zero, suc, ◌&&◌, nat_le, min, if◌then◌else◌, List, [], ◌∷◌, ◌++◌, length, Option, None, Some}
use Rattle.std.specs.List.{flat_map}
use Rattle.flp_syntax.specs.Tree.{Declaration, Program}
use Rattle.flp_syntax.specs.Scope.{declared_arity, declared_degree}
use Rattle.flp_syntax.specs.declared.fault.LangFault.{LangFault}
use Rattle.flp_syntax.specs.declared.fault.LangFault.TheVariants.{Uncalled, Limit}
use Rattle.flp_syntax.specs.declared.fault.Counted.{Counted}
use Rattle.flp_syntax.specs.declared.fault.Counted.TheVariants as counted

-- the first of the faults
abbrev pub first : List LangFault → Option LangFault
first [] = None
first (fault ∷ more) = Some fault

-- a count outside its limits
abbrev pub outside : Counted → ℕ → ℕ → ℕ → List LangFault
outside which low high count = if nat_le low count && nat_le count high then [] else Limit which count ∷ []

-- an arity or a degree as it is named: at most 2^64 - 1
abbrev pub named_count : ℕ → ℕ
named_count count = min count 18446744073709551615

-- a gadget's arity is 1 to 1,024, and its degree 1 to 8
abbrev pub gadget_faults : Declaration → List LangFault
gadget_faults decl = outside counted.Arity 1 1024 (named_count (declared_arity decl.kind)) ++ outside counted.Degree 1 8 (named_count (declared_degree decl.kind))

-- 1 to 65,536 words of an encoding, at most 65,536 joint words and 8 gadgets; then the gadgets in their order
abbrev pub declared_faults : Program → List LangFault
declared_faults body = outside counted.Meas 1 65536 body.meas ++ (outside counted.Joint 0 65536 body.joint ++ (outside counted.Gadgets 0 8 (length body.gadgets) ++ flat_map gadget_faults body.gadgets))

-- the gadgets without a call, the first of which has this number
abbrev pub uncalled_faults : ℕ → List ℕ → List LangFault
uncalled_faults gadget [] = []
uncalled_faults gadget (zero ∷ more) = Uncalled gadget ∷ uncalled_faults (suc gadget) more
uncalled_faults gadget (suc calls ∷ more) = uncalled_faults (suc gadget) more

-- at the end: each gadget was called, and there was a check and an output
abbrev pub closing_faults : List ℕ → ℕ → ℕ → List LangFault
closing_faults calls checks outs = uncalled_faults 0 calls ++ (outside counted.Checks 1 65536 checks ++ outside counted.Outs 1 65536 outs)
