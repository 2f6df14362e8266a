use Rattle.std.proofs.Common.{◌≡◌, ℕ, ◌*◌, ◌<◌, List, take}
use Rattle.std.specs.Prelude.{None}
use Rattle.std.specs.List.{range_with_len, flat_map, list_all}
use Rattle.flp_plan.specs.Counted.{counted_lengths}
use Rattle.flp_plan.specs.View.{publics_of}
use Rattle.flp_worker.specs.Verdict.{proof_holds, gadget_inside, verifiers_for}
use Rattle.flp_worker.proofs.verify.verify_proofs.Given as goal

abbrev pub invariant-loop-proof : goal.invariant-loop-proof
invariant-loop-proof l = record {
  again : l.challenge.sizes ≡ l.fn.challenge.sizes;
  hold : l.hold ≡ list_all (proof_holds l.plan.circuit l.words.shape l.words.all.now) (range_with_len 0 l.proof);
  outside : (k : ℕ) → k < l.proof → gadget_inside l.plan.circuit l.words.shape l.words.all.now k ≡ None;
  publics : 0 < l.proof → (joint : List ℕ) × (l.challenge.publics ≡ publics_of l.plan joint);
  verifiers : take (l.proof * (l.words.shape.shares * (counted_lengths l.plan.circuit).verifier)) l.verifiers
      ≡ flat_map (verifiers_for l.plan.circuit l.words.shape l.words.all.now) (range_with_len 0 l.proof);
}
