use Rattle.std.proofs.Common.{◌≡◌, ℕ, map, ap, ◌∙◌, arith}
use Rattle.std.specs.List.{range_with_len}
use Rattle.flp_field.specs.Sums.{sum_of_lists}
use Rattle.flp_worker.specs.Parts.{share_proof}
use Rattle.flp_worker.proofs.AddingLemmas.{adds-share}
use Rattle.flp_worker.proofs.words.Words.write_proof.Goals as goal

pub loop-share-preserved : goal.loop-share-preserved
loop-share-preserved c =
    adds-share (share_proof c.args.self.now.shape c.args.self.now.all.now c.args.proof) c.args.self.now.shape.proof c.loop-share.share c.loop-share.out c.proof.result.now c.add_to.new.sum
    (omega (arith, c.loop-share.auto.out, c.requires.room)) c.add_to.ensures c.proof.ensures.words c.loop-share.invariant

pub returns : goal.returns
returns c =
    let all : c.loop-share.share ≡ c.args.self.now.shape.shares = omega arith in
    c.loop-share.invariant ∙ ap (λ (n : ℕ). sum_of_lists c.args.self.now.shape.proof (map (share_proof c.args.self.now.shape c.args.self.now.all.now c.args.proof) (range_with_len 0 n))) all
