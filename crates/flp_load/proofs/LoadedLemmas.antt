-- A circuit that a text is loaded as is within the limits on gadgets and their calls.
use Rattle.std.proofs.Common.{ℕ, ◌≤◌, List, [], ◌∷◌, length, Option, None, Some, sym, subst, arith}
use Rattle.flp_syntax.specs.declared.syntax.Params.{Params}
use Rattle.flp_syntax.specs.declared.token.Token.{Token}
use Rattle.flp_syntax.specs.Tree.{Text, Program, standard, program}
use Rattle.flp_syntax.specs.WellFormed.{HasOne}
use Rattle.flp_lang.specs.Grammar.{IsBody, a_body, IsCircuit, a_standard, a_program}
use Rattle.flp_meaning.specs.ProofLaws.{IsBounded}
use Rattle.flp_circuits.specs.Standard.{standard_program}
use Rattle.flp_circuits.proofs.WellLemmas.{standard-well}
use Rattle.flp_plan.proofs.PassedLemmas.{passed_bounded}
use Rattle.flp_load.specs.Loaded.{IsRead, IsLoaded}

-- a body that is derived has a gadget
abbrev HasGadget : Text → Type 0
HasGadget (standard params) = Unit {0}
HasGadget (program body) = 1 ≤ length body.gadgets

gadget-derived : {k k' : ℕ} {s s' : List Token} {body : Program} → IsBody k s k' s' body → 1 ≤ length body.gadgets
gadget-derived (a_body first more stmts) = omega arith

has-gadget : {k k' : ℕ} {s s' : List Token} {text : Text} → IsCircuit k s k' s' text → HasGadget text
has-gadget (a_standard derived) = tt
has-gadget (a_program derived) = gadget-derived derived

some-one : {A : Type 0} (xs : List A) → HasOne xs → 1 ≤ length xs
some-one [] has = absurd has
some-one (x ∷ more) has = omega arith

some-gadget : (text : List ℕ) (params : Option Params) (circuit : Program) → IsRead text params circuit → 1 ≤ length circuit.gadgets
some-gadget text (Some params) circuit read =
    let P : Program → Type 0 = λ c. 1 ≤ length c.gadgets in
    subst P (sym read.2) (some-one (standard_program params).gadgets (standard-well params).0)
some-gadget text None circuit read = has-gadget read.2.0.1

pub bounded-loaded : (text : List ℕ) (params : Option Params) (circuit : Program) → IsLoaded text params circuit → IsBounded circuit
bounded-loaded text params circuit loaded = passed_bounded circuit loaded.checked.0 loaded.checked.1 (some-gadget text params circuit loaded.read)
