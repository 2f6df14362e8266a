-- Sums of the verifiers of shares, and honest proofs.
use Rattle.std.proofs.Common.{ℕ, ◌≡◌, ◌+◌, ◌*◌, ◌%◌, List, [], ◌∷◌, length, map, ap, ap₂, sym, ◌∙◌, arith}
use Rattle.std.specs.Prelude.{Option, None, Some}
use Rattle.std.specs.List.{All, sum_by}
use Rattle.std.proofs.Math.Nat.{mul_comm}
use Rattle.std.proofs.lemmas.List.Elements.{All-map}
use Rattle.std.proofs.lemmas.List.Sums.{sum_by-cons}
use Rattle.std.proofs.lemmas.Simd.{map-map}
use Rattle.flp_field.specs.Word.{modulus}
use Rattle.flp_field.specs.Sums.{sum_of_lists}
use Rattle.flp_syntax.specs.Tree.{Program}
use Rattle.flp_meaning.specs.Lengths.{lengths_of}
use Rattle.flp_syntax.specs.Linear.{IsLinear}
use Rattle.flp_meaning.specs.LinearLaws.{ReportShare, HasSize, verifier_on, sum_of_shares}
use Rattle.flp_meaning.specs.Proof.{honest_proof}
use Rattle.flp_meaning.specs.Verifier.{in_domain, answer_from, gadget_in_domain, verifier_words, is_taken, decides}
use Rattle.flp_meaning.specs.ProofLaws.{IsBounded}
use Rattle.flp_meaning.proofs.Verifiers.{verifiers_sum_up}
use Rattle.flp_meaning.proofs.Honest.{honest_proof_is_accepted}
use Rattle.flp_query.specs.Unit.{share_unit}
use Rattle.flp_query.specs.Laws.{Report, sum_of_reports, verifier_with, VerifiersSumUp, RefusalsAreAlike, HonestIsTaken, SharedHonestIsTaken}
use Rattle.flp_query.proofs.UnitLemmas.{unit_is_inverse}

with_unit : ℕ → Report → ReportShare
with_unit unit share = record { x = share.x; proof = share.proof; unit = unit }

-- the units of so many shares add up to their number times the unit
units-sum : (unit : ℕ) (shares : List Report) → sum_by (λ (share : ReportShare). share.unit) (map (with_unit unit) shares) ≡ length shares * unit
unfolding with_unit
units-sum unit [] = omega arith
units-sum unit (share ∷ shares) =
    let rest : sum_by (λ (s : ReportShare). s.unit) (map (with_unit unit) shares) ≡ length shares * unit = units-sum unit shares in
    sum_by-cons (λ (s : ReportShare). s.unit) (with_unit unit share) (map (with_unit unit) shares)
    ∙ ap (λ n. unit + n) rest ∙ omega arith

pub verifiers_of_shares : (body : Program) → IsLinear body → VerifiersSumUp body
unfolding with_unit
verifiers_of_shares body linear joint query shares are =
    let count : ℕ = length shares in
    let unit : ℕ = share_unit count in
    let n : ℕ = body.meas in
    let m : ℕ = (lengths_of body).proof in
    let those : List ReportShare = map (with_unit unit) shares in
    let sized : All (HasSize n m) those =
    All-map (HasSize n m) (with_unit unit) shares
    (λ k d low. record { words = (are.lengths k d low).words; proofs = (are.lengths k d low).proof }) in
    let one : sum_by (λ (share : ReportShare). share.unit) those % modulus ≡ 1 =
    ap (λ (k : ℕ). k % modulus) (units-sum unit shares ∙ mul_comm count unit) ∙ (unit_is_inverse count are.some are.few).1 in
    let whole : sum_of_shares n m those ≡ with_unit 1 (sum_of_reports body shares) =
    ap₂ (λ (xs ps : List (List ℕ)). record { x = sum_of_lists n xs; proof = sum_of_lists m ps; unit = sum_by (λ (share : ReportShare). share.unit) those % modulus })
    (map-map (λ (share : ReportShare). share.x) (with_unit unit) shares) (map-map (λ (share : ReportShare). share.proof) (with_unit unit) shares)
    ∙ ap (λ (u : ℕ). with_unit u (sum_of_reports body shares)) one in
    ap (λ (lists : List (List ℕ)). sum_of_lists (lengths_of body).verifier lists) (sym (map-map (verifier_on body joint query) (with_unit unit) shares))
    ∙ sym (verifiers_sum_up body joint query n m those linear sized)
    ∙ ap (λ (share : ReportShare). verifier_on body joint query share) whole

-- a refusal does not depend on what would be written
refused : (found : Option ℕ) (words others : List ℕ) (gadget : ℕ) → answer_from found words ≡ in_domain gadget → answer_from found others ≡ in_domain gadget
refused None words others gadget same = cc
refused (Some g) words others gadget same = same

pub refusals_are_alike : (body : Program) → RefusalsAreAlike body
refusals_are_alike body joint query one other unit other_unit gadget same =
    refused (gadget_in_domain body query) (verifier_words body one.x joint one.proof query unit) (verifier_words body other.x joint other.proof query other_unit) gadget same

-- ---- honest proofs

pub honest_is_taken : (body : Program) → IsBounded body → HonestIsTaken body
honest_is_taken body bounded x joint seeds query good valid outside =
    sym (ap (λ answer. is_taken body (answer_from answer (verifier_words body x joint (honest_proof body x joint seeds) query 1))) outside)
    ∙ honest_proof_is_accepted body x joint seeds query bounded good valid outside

pub shared_honest_is_taken : (body : Program) → IsBounded body → IsLinear body → SharedHonestIsTaken body
shared_honest_is_taken body bounded linear x joint seeds query shares good valid outside are whole =
    ap (λ words. decides body words) (verifiers_of_shares body linear joint query shares are)
    ∙ ap (λ (report : Report). decides body (verifier_with body joint query 1 report)) whole
    ∙ honest_is_taken body bounded x joint seeds query good valid outside
