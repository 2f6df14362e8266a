use Rattle.std.proofs.Common.{ℕ, ◌≡◌, ◌<◌, length, ap, ◌∙◌, arith}
use Rattle.flp_field.specs.Word.{word_product}
use Rattle.flp_generator.specs.Sequence.{sequence_word}
use Rattle.flp_generator.proofs.SequenceLemmas.{one-taken, next-taken}
use Rattle.flp_generator.proofs.sequence.Sequence.take.Goals as goal

pub loop-word-preserved : goal.loop-word-preserved
loop-word-preserved c = λ (seed start : ℕ) (is : c.args.self.now.next ≡ sequence_word seed start).
    let before = c.loop-word.invariant seed start is in
    let inside : c.loop-word.word-index < length c.loop-word.words = omega arith in
    let seven : c.mul-self.result ≡ word_product c.loop-word.self.next 7 = c.mul-self.ensures ∙ ap (λ (n : ℕ). word_product c.loop-word.self.next n) c.seven-seven.ensures in (
      one-taken seed start c.loop-word.word-index c.loop-word.self.next c.loop-word.words inside before.0 before.1,
      seven ∙ next-taken seed start c.loop-word.word-index c.loop-word.self.next before.1,
    )
