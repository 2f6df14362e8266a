use Rattle.std.proofs.Common.{◌≡◌, ◌++◌, take}
use Rattle.flp_prep.specs.Text.{digits_of}
use Rattle.flp_prep.proofs.text.push_words.Given as goal

abbrev pub invariant-loop-word : goal.invariant-loop-word
invariant-loop-word l = l.line.items ≡ l.initial.line.items ++ digits_of (take l.word-index l.words)
