use Rattle.std.proofs.Common.{◌≡◌}
use Rattle.flp_report.proofs.JobLemmas.{word_from}
use Rattle.flp_report.proofs.job.Jobs.bad_word.Given as goal

abbrev pub invariant-loop-place : goal.invariant-loop-place
invariant-loop-place l = word_from l.self.shape 0 l.self.count l.self.bytes.items ≡ word_from l.self.shape l.place l.self.count l.self.bytes.items
