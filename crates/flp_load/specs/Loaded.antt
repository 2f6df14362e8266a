-- The circuit that a text is loaded as. From the whole down to its parts.
use Rattle.std.specs.Prelude.{ℕ, ◌≡◌, List, Option, None, Some, Ok}
use Rattle.flp_syntax.specs.declared.syntax.Params.{Params}
use Rattle.flp_syntax.specs.Tree.{Program, standard, program}
use Rattle.flp_lang.specs.Parsed.{IsParsed}
use Rattle.flp_circuits.specs.Sizes.{Fits}
use Rattle.flp_circuits.specs.Standard.{standard_program}
use Rattle.flp_check.specs.Verdict.{Totals, verdict}
use Rattle.flp_plan.specs.Counted.{limit_fault}

-- the text names a standard circuit by these parameters, which fit, and the circuit is theirs; or the text is the circuit's own body
abbrev pub IsRead : List ℕ → Option Params → Program → Type 0
IsRead text (Some params) circuit = IsParsed text (standard params) × Fits params × (circuit ≡ standard_program params)
IsRead text None circuit = IsParsed text (program circuit)

-- `check` finds no fault in the circuit, and counts this
abbrev pub IsChecked : Program → Type 0
IsChecked circuit = (totals : Totals) × (verdict circuit ≡ Ok totals)

-- no pass finds a fault: the text is read, its circuit checked, and neither the wires nor the terms of a plan are too many
pub record IsLoaded (text : List ℕ) (params : Option Params) (circuit : Program) : Type 0 where
  pub read : IsRead text params circuit
  pub checked : IsChecked circuit
  pub small : limit_fault circuit ≡ None
