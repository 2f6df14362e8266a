use Rattle.std.proofs.Common.{◌+◌, ℕ, length, ◌∙◌, ap, ap₂, nat_lt, if◌then◌else◌, add_comm}
use Rattle.flp_syntax.specs.View.{program_of}
use Rattle.flp_check.specs.Verdict.{Totals}
use Rattle.flp_plan.proofs.PassedLemmas.{Passed, passed, passed_checks, passed_outs}
use Rattle.flp_plan.proofs.UseLemmas.{uses_arity, uses_proof, uses_verifier}
use Rattle.flp_plan.proofs.lengths.lengths_for.Goals as goal

pub returns : goal.returns
returns c =
    let body = program_of c.args.checked.now.body in
    let totals : Totals = record { calls = c.args.checked.now.calls; checks = c.args.checked.now.checks; outs = c.args.checked.now.outs } in
    let p : Passed body totals = passed body totals c.args.checked.now.passed in
    let prove = c.requires.sums.prove ∙ uses_arity body c.args.uses.now c.requires.uses in
    let proof = c.requires.sums.proof ∙ uses_proof body c.args.uses.now c.requires.uses in
    let verifier = ap (λ (n : ℕ). 1 + n) (c.requires.sums.verifier ∙ uses_verifier body c.args.uses.now c.requires.uses) in
    let words = c.check_words.ensures ∙ ap (λ (n : ℕ). if nat_lt 1 n then n else 0) (passed_checks body totals p) in
    let query = ap₂ (λ (a b : ℕ). a + b) c.requires.uses.count words ∙ add_comm (length body.gadgets) _ in
    let outs = passed_outs body totals p in
    λ i. record { meas = body.meas; joint = body.joint; prove = prove i; query = query i; proof = proof i; verifier = verifier i; outs = outs i }
