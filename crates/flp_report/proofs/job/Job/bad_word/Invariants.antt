use Rattle.std.proofs.Common.{◌≡◌}
use Rattle.flp_report.specs.Job.{free_words}
use Rattle.flp_report.proofs.WordsLemmas.{bad_from}
use Rattle.flp_report.proofs.job.Job.bad_word.Given as goal

abbrev pub invariant-loop-word : goal.invariant-loop-word
invariant-loop-word l = bad_from (free_words l.self.shape) l.count l.words ≡ bad_from l.word l.count l.words
