use Rattle.std.proofs.Common.{◌≡◌, ◌++◌}
use Rattle.std.specs.List.{flat_map, range_with_len}
use Rattle.flp_verdict.specs.Judging.{verifier_of}
use Rattle.flp_prep.specs.Text.{digits_of}
use Rattle.flp_prep.proofs.preparing.Preparing.push_verifiers.Given as goal

abbrev pub invariant-loop-proof : goal.invariant-loop-proof
invariant-loop-proof l =
    l.line.items ≡ l.initial.line.items ++ flat_map (λ proof. digits_of (verifier_of l.self.judging l.self.party proof)) (range_with_len 0 l.proof)
