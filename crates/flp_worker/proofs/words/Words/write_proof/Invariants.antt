use Rattle.std.proofs.Common.{◌≡◌, map}
use Rattle.std.specs.List.{range_with_len}
use Rattle.flp_field.specs.Sums.{sum_of_lists}
use Rattle.flp_worker.specs.Parts.{share_proof}
use Rattle.flp_worker.proofs.words.Words.write_proof.Given as goal

abbrev pub invariant-loop-share : goal.invariant-loop-share
invariant-loop-share l = l.out ≡ sum_of_lists l.self.shape.proof (map (share_proof l.self.shape l.self.all.now l.proof) (range_with_len 0 l.share))
