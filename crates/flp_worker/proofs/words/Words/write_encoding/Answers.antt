use Rattle.std.proofs.Common.{◌≡◌, ℕ, map, ap, ◌∙◌, arith}
use Rattle.std.specs.List.{range_with_len}
use Rattle.flp_field.specs.Sums.{sum_of_lists}
use Rattle.flp_worker.specs.Parts.{share_encoding}
use Rattle.flp_worker.proofs.AddingLemmas.{adds-share}
use Rattle.flp_worker.proofs.words.Words.write_encoding.Goals as goal

pub loop-share-preserved : goal.loop-share-preserved
loop-share-preserved c =
    adds-share (share_encoding c.args.self.now.shape c.args.self.now.all.now) c.args.self.now.shape.meas c.loop-share.share c.loop-share.out c.encoding.result.now c.add_to.new.sum
    (omega (arith, c.loop-share.auto.out, c.requires)) c.add_to.ensures c.encoding.ensures.words c.loop-share.invariant

pub returns : goal.returns
returns c =
    let all : c.loop-share.share ≡ c.args.self.now.shape.shares = omega arith in
    c.loop-share.invariant ∙ ap (λ (n : ℕ). sum_of_lists c.args.self.now.shape.meas (map (share_encoding c.args.self.now.shape c.args.self.now.all.now) (range_with_len 0 n))) all
