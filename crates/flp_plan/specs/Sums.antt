-- How many words one gadget takes at most, and what gadgets take together.
use Rattle.std.specs.Prelude.{◌≡◌, ◌≤◌, List, sum_by}
use Rattle.flp_gadget.specs.KindTree.{kind_arity}
use Rattle.flp_plan.specs.declared.gadgets.Sums.{Sums}
use Rattle.flp_plan.specs.declared.gadgets.GadgetUse.{GadgetUse}
use Rattle.flp_plan.specs.Uses.{proof_words_in, verifier_words_in}

pub record ArePartsSmall (parts : Sums) : Type 0 where
  pub prove : parts.prove ≤ 1024
  pub proof : parts.proof ≤ 33785
  pub verifier : parts.verifier ≤ 1025

-- what gadgets take together
pub record AreSumsOf (uses : List GadgetUse) (sums : Sums) : Type 0 where
  pub prove : sums.prove ≡ sum_by (λ (held : GadgetUse). kind_arity held.kind) uses
  pub proof : sums.proof ≡ sum_by proof_words_in uses
  pub verifier : sums.verifier ≡ sum_by verifier_words_in uses
  pub few : sums.verifier ≤ 8200
