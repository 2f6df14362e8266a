use Rattle.std.proofs.Common.{◌∙◌, sym, ap, List, ℕ, drop}
use Rattle.std.proofs.lemmas.List.{take_rest}
use Rattle.flp_report.specs.Job.{free_words}
use Rattle.flp_report.proofs.WordsLemmas.{bad_from, bad_from-word, bad_from-bad}
use Rattle.flp_report.proofs.job.Job.bad_word.Goals as goal

pub returns-then-number_at-ge-MODULUS : goal.returns-then-number_at-ge-MODULUS
returns-then-number_at-ge-MODULUS c =
    let count = c.words-count.result in
    let free = free_words c.args.self.now.shape in
    let behind = take_rest c.args.self.now.bytes.now 16 in
    let bad = rw c.number_at.ensures at c.if-number_at-ge-MODULUS.true in
    sym (bad_from-bad c.loop-word.word count _ c.loop-word-test.true bad)
    ∙ (sym c.loop-word.invariant
    ∙ (ap (λ (b : List ℕ). bad_from free count b) behind
    ∙ ap (λ (n : ℕ). bad_from free n (drop 16 c.args.self.now.bytes.now)) c.words-count.ensures.words))

pub loop-word-preserved : goal.loop-word-preserved
loop-word-preserved c =
    let word = rw c.number_at.ensures at c.if-number_at-ge-MODULUS.false in
    c.loop-word.invariant ∙ bad_from-word c.loop-word.word c.words-count.result _ c.loop-word-test.true word
