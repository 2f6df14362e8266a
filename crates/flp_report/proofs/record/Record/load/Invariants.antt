use Rattle.std.proofs.Common.{◌≡◌, take}
use Rattle.flp_report.specs.Words.{words}
use Rattle.flp_report.specs.Shape.{words_of}
use Rattle.flp_report.proofs.WordsLemmas.{bad_from}
use Rattle.flp_report.proofs.record.Record.load.Given as goal

abbrev pub invariant-loop-word : goal.invariant-loop-word
invariant-loop-word l =
    (take l.word l.out ≡ words l.word l.words) × (bad_from 0 (words_of l.self.shape) l.words ≡ bad_from l.word (words_of l.self.shape) l.words)
