use Rattle.std.proofs.Common.{ℕ, ◌≡◌, ◌+◌, ◌*◌, ◌≤◌, List, length, refl, ap, sym, subst, ◌∙◌, rules, arith}
use Rattle.flp_plan.specs.declared.lengths.Lengths.{Lengths}
use Rattle.flp_plan.specs.Counted.{counted_lengths}
use Rattle.flp_query.specs.Challenge.{Posed, IsPosed}
use Rattle.flp_worker.specs.Parts.{joint_words, query_words}
use Rattle.flp_worker.specs.Verdict.{verifier_of_share}
use Rattle.flp_worker.proofs.PrefixLemmas.{part-fits, part-within, flat-more}
use Rattle.flp_worker.proofs.PlaceLemmas.{length-verifier, own-verifier}
use Rattle.flp_worker.proofs.verify.query_shares.Goals as goal

pub loop-share-preserved : goal.loop-share-preserved
loop-share-preserved c =
    let n : ℕ = (counted_lengths c.args.plan.now.circuit).verifier in
    let k : ℕ = c.loop-share.share in
    let f : ℕ → List ℕ = verifier_of_share c.args.plan.now.circuit c.args.words.now.shape c.args.words.now.all.now c.args.proof in
    let same : c.lengths-size.result.verifier ≡ n = ap (λ (l : Lengths). l.verifier) c.lengths-size.ensures in
    let joint : List ℕ = joint_words c.args.words.now.shape c.args.words.now.all.now c.args.proof in
    let query : List ℕ = query_words c.args.words.now.shape c.args.words.now.all.now c.args.proof in
    let posed : IsPosed c.args.plan.now joint query c.args.words.now.shape.shares c.loop-share.challenge =
    subst (λ (held : Posed). IsPosed c.args.plan.now joint query c.args.words.now.shape.shares held) (sym c.loop-share.invariant.again) c.requires.posed in
    let own : c.answer.new.verifier ≡ f k =
    c.answer.ensures.verifier joint query c.args.words.now.shape.shares posed
    ∙ own-verifier c.args.plan.now.circuit c.args.words.now.shape c.args.words.now.all.now c.args.proof c.loop-share.share
    c.encoding.result.now c.proof.result.now query
    c.encoding.ensures.words c.proof.ensures.words refl in
    let long : length c.answer.new.verifier ≡ n =
    ap (λ (l : List ℕ). length l) own
    ∙ length-verifier c.args.plan.now.circuit c.args.words.now.shape c.args.words.now.all.now c.args.proof c.loop-share.share in
    let fits : k * n + n ≤ c.args.words.now.shape.shares * n = part-fits k c.args.words.now.shape.shares n c.loop-share-test.true in
    record {
      again = c.answer.ensures.again ∙ c.loop-share.invariant.again;
      verifiers =
          flat-more f c.loop-share.verifiers c.answer.new.verifier k c.lengths-size.result.verifier n _ same long
          (omega (arith, fits, c.loop-share.auto.verifiers, c.requires.room))
          c.loop-share.invariant.verifiers own;
    }

pub slice_bounds-answer-end : goal.slice_bounds-answer-end
slice_bounds-answer-end c =
    let fits : c.loop-share.share * c.lengths-size.result.verifier + c.lengths-size.result.verifier ≤ length c.loop-share.verifiers =
    part-within c.loop-share.share c.args.words.now.shape.shares c.lengths-size.result.verifier (counted_lengths c.args.plan.now.circuit).verifier (length c.loop-share.verifiers)
    c.loop-share-test.true (ap (λ (l : Lengths). l.verifier) c.lengths-size.ensures) (c.loop-share.auto.verifiers ∙ c.requires.room) in
    search rules
