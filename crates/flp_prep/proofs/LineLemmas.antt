-- The line of a record, and the lines of a walk.
use Rattle.std.proofs.Common.{◌≡◌, ℕ, ◌<◌, List, [], ◌++◌, ◌⊎◌, inl, inr, Result, Ok, Err, refl, ap, ap₂, ◌∙◌}
use Rattle.std.specs.Prelude.{IfOk}
use Rattle.std.specs.List.{flat_map}
use Rattle.flp_report.specs.declared.shape.Shape.{Shape}
use Rattle.flp_report.specs.Record.{nonce_in}
use Rattle.flp_policy.specs.declared.verdict.Verdict.{Verdict}
use Rattle.flp_policy.specs.declared.verdict.Verdict.TheVariants.{Accepted, Rejected, InDomain, Malformed, Replayed}
use Rattle.flp_worker.specs.Parts.{proof_numbers}
use Rattle.flp_worker.specs.Verdict.{share_verifier}
use Rattle.flp_batch.specs.Setting.{Setting}
use Rattle.flp_verdict.specs.declared.judging.Judging.{Judging}
use Rattle.flp_verdict.specs.Verdicts.{verdict_after}
use Rattle.flp_verdict.specs.Judging.{record_shape_of, verifier_of}
use Rattle.flp_prep.specs.Text.{digits_of, verifier_digits, prep_line, line_for, prepared_line, words_by}
use Rattle.flp_prep.specs.declared.preparing.Preparing.{Preparing}
use Rattle.flp_prep.specs.Preparing.{setting_of, party_of}
use Rattle.flp_prep.proofs.DigitLemmas.{flat_map-same}

-- what is kept of the party's share gives the digits of its verifier words
pub digits-same : (j : Judging) (by : Setting) (own party : ℕ) (report : List ℕ) → record_shape_of j ≡ by.shape → own ≡ party
    → ((proof : ℕ) → proof < by.shape.proofs → verifier_of j party proof ≡ share_verifier by.circuit by.shape report party proof)
    → flat_map (λ proof. digits_of (verifier_of j own proof)) (proof_numbers (record_shape_of j)) ≡ verifier_digits by party report
digits-same j by own party report shaped owned each =
    ap₂ (λ (s : Shape) (k : ℕ). flat_map (λ proof. digits_of (verifier_of j k proof)) (proof_numbers s)) shaped owned
    ∙ flat_map-same (λ proof. digits_of (verifier_of j party proof)) (λ proof. digits_of (share_verifier by.circuit by.shape report party proof)) by.shape.proofs
    (λ (proof : ℕ) (below : proof < by.shape.proofs). ap digits_of (each proof below))

-- the digits stand in the lines of accepted and rejected records alone
line_for-digits : (nonce digits digits' : List ℕ) (verdict : Verdict) → ((verdict ≡ Accepted) ⊎ (verdict ≡ Rejected) → digits ≡ digits')
    → line_for nonce digits verdict ≡ line_for nonce digits' verdict
line_for-digits nonce digits digits' Accepted same = ap (prep_line nonce) (same (inl refl))
line_for-digits nonce digits digits' Rejected same = ap (prep_line nonce) (same (inr refl))
line_for-digits nonce digits digits' (InDomain proof gadget) same = refl
line_for-digits nonce digits digits' (Malformed word) same = refl
line_for-digits nonce digits digits' Replayed same = refl

-- so what was made of a record is its line
pub line-made : (by : Setting) (party : ℕ) (earlier : List (List ℕ)) (report nonce digits empty line : List ℕ) (verdict : Verdict)
    → empty ≡ [] → line ≡ empty ++ line_for nonce digits verdict → nonce ≡ nonce_in report
    → verdict ≡ verdict_after by.circuit by.shape by.claims earlier report
    → ((verdict ≡ Accepted) ⊎ (verdict ≡ Rejected) → digits ≡ verifier_digits by party report)
    → line ≡ prepared_line party by earlier report
line-made by party earlier report nonce digits empty line verdict cleared made named judged same =
    made
    ∙ (ap (λ (l : List ℕ). l ++ line_for nonce digits verdict) cleared
    ∙ (line_for-digits nonce digits (verifier_digits by party report) verdict same
    ∙ ap₂ (λ (n : List ℕ) (v : Verdict). line_for n (verifier_digits by party report) v) named judged))

-- what is written of records is that of their setting
pub words-same : {E : Type 0} (made : Result Preparing E) (by : Setting) (party : ℕ) → IfOk made (λ p. setting_of p ≡ by) → IfOk made (λ p. party_of p ≡ party)
    → IfOk made (λ p. words_by (party_of p) (setting_of p) ≡ words_by party by)
words-same (Ok p) by party same own = ap₂ words_by own same
words-same (Err e) by party same own = tt
