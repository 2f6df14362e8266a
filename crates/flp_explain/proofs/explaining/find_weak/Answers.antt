use Rattle.std.proofs.Common.{ℕ, ◌∙◌, List, length, map, ap, ap₂}
use Rattle.flp_field.proofs.ListSums.{length-sum_of_lists}
use Rattle.flp_weak.specs.WeakWord.{weak_of}
use Rattle.flp_worker.specs.Parts.{share_numbers, share_encoding, joint_words, unshared_encoding}
use Rattle.flp_worker.specs.Words.{shape_held, words_held}
use Rattle.flp_explain.proofs.explaining.find_weak.Goals as goal

-- how long the unshared encoding is
pub weak_word-requires-clause-x : goal.weak_word-requires-clause-x
weak_word-requires-clause-x c =
    let shape = shape_held c.args.words.now in
    ap length c.requires.encoding
    ∙ (length-sum_of_lists shape.meas (map (share_encoding shape (words_held c.args.words.now)) (share_numbers shape)) ∙ c.requires.fits.meas)

pub returns-clause-found : goal.returns-clause-found
returns-clause-found c =
    let program = c.args.plan.now.circuit in
    let shape = shape_held c.args.words.now in
    let words = words_held c.args.words.now in
    c.weak_word.ensures.exact
    ∙ ap₂ (λ (x j : List ℕ). weak_of program x j c.write_proof.new.out) c.requires.encoding c.joint.ensures.words
    ∙ ap (λ (p : List ℕ). weak_of program (unshared_encoding shape words) (joint_words shape words c.args.proof) p) c.write_proof.ensures
