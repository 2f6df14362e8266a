-- What loading promises of all texts.
use Rattle.std.specs.Prelude.{ℕ, ◌≡◌, List, Option, Some}
use Rattle.flp_syntax.specs.declared.syntax.Params.{Params}
use Rattle.flp_syntax.specs.Tree.{Program, standard}
use Rattle.flp_lang.specs.Parsed.{IsParsed}
use Rattle.flp_meaning.specs.ProofLaws.{IsBounded}
use Rattle.flp_circuits.specs.Sizes.{Fits}
use Rattle.flp_circuits.specs.Standard.{standard_program}
use Rattle.flp_load.specs.declared.fault.CircuitFault.{CircuitFault}
use Rattle.flp_load.specs.Loaded.{IsLoaded}
use Rattle.flp_load.specs.Fault.{IsCircuitFault}

abbrev pub OneCircuit : Type 0
OneCircuit =
    (text : List ℕ) (params others : Option Params) (circuit other : Program) → IsLoaded text params circuit → IsLoaded text others other
    → (params ≡ others) × (circuit ≡ other)

abbrev pub OneFault : Type 0
OneFault = (text : List ℕ) (fault other : CircuitFault) → IsCircuitFault text fault → IsCircuitFault text other → fault ≡ other

-- no text is loaded and refused
abbrev pub NeverBoth : Type 0
NeverBoth = (text : List ℕ) (params : Option Params) (circuit : Program) (fault : CircuitFault) → IsLoaded text params circuit → IsCircuitFault text fault → ⊥

-- a standard circuit is refused for nothing but its parameters
abbrev pub FittingIsLoaded : Type 0
FittingIsLoaded = (text : List ℕ) (params : Params) → IsParsed text (standard params) → Fits params → IsLoaded text (Some params) (standard_program params)

-- a loaded circuit is within the limits on gadgets and their calls
abbrev pub LoadedIsBounded : Type 0
LoadedIsBounded = (text : List ℕ) (params : Option Params) (circuit : Program) → IsLoaded text params circuit → IsBounded circuit
