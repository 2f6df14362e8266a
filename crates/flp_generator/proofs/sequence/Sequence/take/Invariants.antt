use Rattle.std.proofs.Common.{ℕ, ◌≡◌, ◌+◌, take}
use Rattle.flp_generator.specs.Sequence.{sequence_word, sequence_words}
use Rattle.flp_generator.proofs.sequence.Sequence.take.Given as goal

-- the words up to here were taken, and the next is the one behind them
abbrev pub invariant-loop-word : goal.invariant-loop-word
invariant-loop-word l =
    (seed start : ℕ) → l.fn.self.next ≡ sequence_word seed start
    → (take l.word-index l.words ≡ sequence_words seed start l.word-index) × (l.self.next ≡ sequence_word seed (start + l.word-index))
