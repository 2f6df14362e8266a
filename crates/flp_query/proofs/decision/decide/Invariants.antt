use Rattle.std.proofs.Common.{◌≡◌, ◌+◌, true}
use Rattle.std.specs.List.{range_with_len, list_all}
use Rattle.flp_meaning.specs.Lengths.{start_of, verifier_part}
use Rattle.flp_meaning.specs.Verifier.{gadget_holds}
use Rattle.flp_query.proofs.decision.decide.Given as goal

abbrev pub invariant-loop-gadget : goal.invariant-loop-gadget
invariant-loop-gadget l = record {
  start : l.start ≡ 1 + start_of (verifier_part l.plan.circuit) l.gadget;
  hold : list_all (gadget_holds l.plan.circuit l.verifier) (range_with_len 0 l.gadget) ≡ true;
}
