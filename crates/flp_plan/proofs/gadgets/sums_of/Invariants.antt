use Rattle.std.proofs.Common.{◌≡◌, ◌*◌, ◌≤◌, take}
use Rattle.std.specs.List.{sum_by}
use Rattle.flp_gadget.specs.KindTree.{kind_arity}
use Rattle.flp_plan.specs.declared.gadgets.GadgetUse.{GadgetUse}
use Rattle.flp_plan.specs.Uses.{proof_words_in, verifier_words_in}
use Rattle.flp_plan.proofs.gadgets.sums_of.Given as goal

-- the sums so far
abbrev pub invariant-loop-held : goal.invariant-loop-held
invariant-loop-held l = record {
  prove : l.sums.prove ≡ sum_by (λ (held : GadgetUse). kind_arity held.kind) (take l.held-index l.uses);
  proof : l.sums.proof ≡ sum_by proof_words_in (take l.held-index l.uses);
  verifier : l.sums.verifier ≡ sum_by verifier_words_in (take l.held-index l.uses);
  few_prove : l.sums.prove ≤ 1024 * l.held-index;
  few_proof : l.sums.proof ≤ 33785 * l.held-index;
  few_verifier : l.sums.verifier ≤ 1025 * l.held-index;
}
