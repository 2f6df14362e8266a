use Rattle.std.proofs.Common.{◌∙◌, sym, ap, List, ℕ, drop}
use Rattle.std.proofs.lemmas.List.{take_rest}
use Rattle.flp_report.specs.Shape.{words_start}
use Rattle.flp_report.specs.Words.{words, bad_word_in}
use Rattle.flp_report.proofs.WordsLemmas.{bad_from-word, bad_from-bad, bad_from-start}
use Rattle.flp_report.proofs.record.Record.bad_word.Goals as goal

pub returns-then-number_at-ge-MODULUS : goal.returns-then-number_at-ge-MODULUS
returns-then-number_at-ge-MODULUS c =
    let count = c.words-count.result in
    let behind = take_rest c.args.self.now.bytes.now c.start.result in
    let bad = rw c.number_at.ensures at c.if-number_at-ge-MODULUS.true in
    sym (bad_from-bad c.loop-word.word count _ c.loop-word-test.true bad)
    ∙ (sym c.loop-word.invariant
    ∙ (bad_from-start count _
    ∙ (ap (λ (b : List ℕ). bad_word_in (words count b)) (behind ∙ ap (λ (n : ℕ). drop n c.args.self.now.bytes.now) c.start.ensures.start)
    ∙ ap (λ (n : ℕ). bad_word_in (words n (drop (words_start c.args.self.now.shape) c.args.self.now.bytes.now))) c.words-count.ensures.words)))

pub loop-word-preserved : goal.loop-word-preserved
loop-word-preserved c =
    let word = rw c.number_at.ensures at c.if-number_at-ge-MODULUS.false in
    c.loop-word.invariant ∙ bad_from-word c.loop-word.word c.words-count.result _ c.loop-word-test.true word
