-- The gadgets of a circuit as a plan holds them, and how many words they take. From one gadget up.
use Rattle.std.specs.Prelude.{ℕ, ◌≡◌, ◌+◌, ◌-◌, ◌*◌, ◌^◌, ◌≤◌, List, length, Some, slice_get}
use Rattle.flp_gadget.specs.KindTree.{IsKind, kind_arity, kind_degree}
use Rattle.flp_syntax.specs.Tree.{Program}
use Rattle.flp_meaning.specs.Circuit.{kind_of}
use Rattle.flp_meaning.specs.Gadgets.{calls_made, log_of}
use Rattle.flp_plan.specs.declared.gadgets.GadgetUse.{GadgetUse}

-- a gadget's kind, its calls and the exponent of the size of its domain
pub record IsUse (circuit : Program) (gadget : ℕ) (held : GadgetUse) : Type 0 where
  pub kind : held.kind ≡ kind_of circuit gadget
  pub calls : held.calls ≡ calls_made circuit gadget
  pub log : held.log ≡ log_of circuit gadget

-- the gadgets of a circuit, in the order of their declarations
pub record AreUsesOf (circuit : Program) (uses : List GadgetUse) : Type 0 where
  pub count : length uses ≡ length circuit.gadgets
  pub each : (gadget : ℕ) (held : GadgetUse) → slice_get uses gadget ≡ Some held → IsUse circuit gadget held

pub record UseIsSmall (held : GadgetUse) : Type 0 where
  pub kind : IsKind held.kind
  pub log : held.log ≤ 12

abbrev pub proof_words_in : GadgetUse → ℕ
proof_words_in held = kind_arity held.kind + (kind_degree held.kind * (2 ^ held.log - 1) + 1)

abbrev pub verifier_words_in : GadgetUse → ℕ
verifier_words_in held = kind_arity held.kind + 1
