use Rattle.std.proofs.Common.{◌≡◌, ℕ, ◌<◌, List, Result, Ok, ◌⊎◌, inl, inr, refl, ap}
use Rattle.std.specs.List.{flat_map}
use Rattle.flp_report.specs.Record.{record_of}
use Rattle.flp_policy.specs.declared.verdict.Verdict.{Verdict}
use Rattle.flp_policy.specs.declared.verdict.Verdict.TheVariants.{Accepted, Rejected}
use Rattle.flp_worker.specs.Parts.{proof_numbers}
use Rattle.flp_batch.specs.Setting.{Setting}
use Rattle.std.proofs.lemmas.Result.{on_ok_weaker}
use Rattle.flp_verdict.specs.Judging.{record_shape_of, verifier_of}
use Rattle.flp_prep.specs.Text.{digits_of, verifier_digits}
use Rattle.flp_prep.specs.Preparing.{setting_of, party_of}
use Rattle.flp_prep.proofs.LineLemmas.{digits-same, line-made}
use Rattle.flp_prep.proofs.preparing.PreparingJudge.judge.Goals as goal

-- an answer with a verdict that is one of the two
answers : {E : Type 0} (v : Verdict) → (v ≡ Accepted) ⊎ (v ≡ Rejected)
    → (◌≡◌ {A = Result Verdict E} (Ok v) (Ok Accepted)) ⊎ (◌≡◌ {A = Result Verdict E} (Ok v) (Ok Rejected))
answers v (inl is) = inl (ap (λ (u : Verdict). Ok u) is)
answers v (inr is) = inr (ap (λ (u : Verdict). Ok u) is)

pub returns-clause-line : goal.returns-clause-line
returns-clause-line c =
    let by : Setting = setting_of c.args.self.now in
    let party : ℕ = party_of c.args.self.now in
    let report : List ℕ = record_of c.args.given.now in
    let judged = c.in_ok-verdict in
    let kept : List ℕ = flat_map (λ proof. digits_of (verifier_of c.judge.new.self party proof)) (proof_numbers (record_shape_of c.judge.new.self)) in
    let same : (judged.verdict ≡ Accepted) ⊎ (judged.verdict ≡ Rejected) → kept ≡ verifier_digits by party report =
    λ which.
    digits-same c.judge.new.self by party party report judged.ensures.alike.shape refl
    (λ (proof : ℕ) (below : proof < by.shape.proofs). judged.ensures.verifiers (answers judged.verdict which) party proof c.args.self.now.own_share below) in
    on_ok_weaker c.push_line_for.result (λ made earlier follows.
    line-made by party earlier report c.nonce.result.now kept _ _ judged.verdict c.clear.ensures.items made c.nonce.ensures
    (judged.ensures.verdict earlier follows) same) c.push_line_for.ensures
