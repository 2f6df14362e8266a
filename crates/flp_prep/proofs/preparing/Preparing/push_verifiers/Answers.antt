use Rattle.std.proofs.Common.{ℕ, List, ◌++◌, ap, ◌∙◌}
use Rattle.flp_verdict.specs.Judging.{verifier_of}
use Rattle.flp_verdict.proofs.BehindLemmas.{more-behind}
use Rattle.flp_prep.specs.Text.{digits_of}
use Rattle.flp_prep.proofs.preparing.Preparing.push_verifiers.Goals as goal

pub loop-proof-preserved : goal.loop-proof-preserved
loop-proof-preserved c =
    more-behind (λ proof. digits_of (verifier_of c.args.self.now.judging c.args.self.now.party proof)) c.loop-proof.proof _ _ _ c.loop-proof.invariant
    (c.in_ok-push_words.ensures ∙ ap (λ (words : List ℕ). c.loop-proof.line.items ++ digits_of words) c.verifier.ensures)
