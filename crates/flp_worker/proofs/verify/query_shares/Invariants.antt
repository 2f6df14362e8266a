use Rattle.std.proofs.Common.{◌≡◌, ◌*◌, take}
use Rattle.std.specs.List.{range_with_len, flat_map}
use Rattle.flp_plan.specs.Counted.{counted_lengths}
use Rattle.flp_worker.specs.Verdict.{verifier_of_share}
use Rattle.flp_worker.proofs.verify.query_shares.Given as goal

abbrev pub invariant-loop-share : goal.invariant-loop-share
invariant-loop-share l = record {
  again : l.challenge ≡ l.fn.challenge;
  verifiers : take (l.share * (counted_lengths l.plan.circuit).verifier) l.verifiers
      ≡ flat_map (verifier_of_share l.plan.circuit l.words.shape l.words.all.now l.proof) (range_with_len 0 l.share);
}
