-- What the reading of a printed text gives.
use Rattle.std.specs.Prelude.{ℕ, ◌≡◌, List}
use Rattle.flp_lang.specs.Parsed.{IsParsed, IsParseFault}
use Rattle.flp_lang.specs.Bare.{bare}
use Rattle.flp_syntax.specs.Tree.{Text}
use Rattle.flp_syntax.specs.declared.fault.LangFault.{LangFault}
use Rattle.flp_syntax.specs.declared.fault.LangFault.TheVariants.{Memory}

-- the text is parsed, each circuit that it is parsed to is this one but for the token numbers, and its only fault is want of memory
pub record IsReadBack (circuit : Text) (printed : List ℕ) : Type 0 where
  pub found : (again : Text) × IsParsed printed again × (bare again ≡ bare circuit)
  pub same : (again : Text) → IsParsed printed again → bare again ≡ bare circuit
  pub no_fault : (fault : LangFault) → IsParseFault printed fault → fault ≡ Memory
