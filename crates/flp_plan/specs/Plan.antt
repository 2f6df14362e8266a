-- What a plan keeps beside its circuit: the code that stands for it, and what was counted. From a gadget up to the plan.
use Rattle.std.specs.Prelude.{ℕ, ◌≡◌, ◌<◌, List, length, slice_index}
use Rattle.flp_syntax.specs.Tree.{Program}
use Rattle.flp_meaning.specs.Gadgets.{call_count, call_number}
use Rattle.flp_emit.specs.declared.code.Code.{Code}
use Rattle.flp_emit.specs.Code.{Tied}
use Rattle.flp_plan.specs.declared.lengths.Lengths.{Lengths}
use Rattle.flp_plan.specs.declared.gadgets.GadgetUse.{GadgetUse}
use Rattle.flp_plan.specs.Uses.{AreUsesOf}
use Rattle.flp_plan.specs.Counted.{counted_lengths}
use Rattle.flp_plan.specs.Limits.{CircuitIsWithin}
use Rattle.flp_plan.specs.Keeps.{Keeps}

pub record IsPlanOf (circuit : Program) (code : Code) (held : List GadgetUse) (counted : List ℕ) (sizes : Lengths) : Type 0 where
  pub keeps : Keeps circuit
  pub limits : CircuitIsWithin circuit
  pub tied : Tied circuit code
  pub uses : AreUsesOf circuit held
  pub number_count : length counted ≡ call_count circuit
  pub numbers : (number : ℕ) → number < call_count circuit → slice_index counted number ≡ call_number circuit number
  pub lengths : sizes ≡ counted_lengths circuit
