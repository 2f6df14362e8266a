-- Honest records: where no query point lies in a domain each proof holds, and so the record is accepted.
use Rattle.std.proofs.Common.{◌≡◌, ℕ, zero, suc, ◌+◌, ◌<◌, ◌≤◌, List, ◌∷◌, map, Bool, true, Option, Some, None, refl, sym, ap, subst, ◌∙◌, arith, inl, inr, ⊎_elim}
use Rattle.std.specs.Prelude.{◌⊎◌}
use Rattle.std.specs.List.{list_all, range_with_len}
use Rattle.flp_syntax.specs.Tree.{Program}
use Rattle.flp_meaning.specs.Verifier.{accepts}
use Rattle.flp_meaning.specs.ProofLaws.{IsBounded, HonestProofIsAccepted}
use Rattle.flp_report.specs.declared.shape.Shape.{Shape}
use Rattle.flp_report.specs.Record.{words_in}
use Rattle.flp_report.specs.Words.{bad_word_in}
use Rattle.flp_policy.specs.declared.verdict.Verdict.{Verdict}
use Rattle.flp_worker.specs.Parts.{joint_words, query_words, unshared_encoding}
use Rattle.flp_worker.specs.Verdict.{verdict_of, verdict_by, verdict_if, first_named, first_inside, gadget_inside, proof_holds, all_hold}
use Rattle.flp_verdict.specs.Laws.{report_at, IsHonestProof, IsHonest, IsHonestVerdict, AcceptsHonest}
use Rattle.flp_verdict.proofs.PlaceLemmas.{judges_once}

-- an honest proof holds where no query point lies in a domain
holds-honest : (program : Program) (shape : Shape) (report : List ℕ) (proof : ℕ) → HonestProofIsAccepted → IsBounded program → IsHonestProof program shape report proof
    → gadget_inside program shape (words_in shape report) proof ≡ None → proof_holds program shape (words_in shape report) proof ≡ true
holds-honest program shape report proof law bounded honest outside =
    let words = words_in shape report in
    let x = unshared_encoding shape words in
    let joint = joint_words shape words proof in
    let query = query_words shape words proof in
    ap (λ (p : List ℕ). accepts program x joint p query) honest.honest
    ∙ law program x joint honest.seeds query bounded honest.are_seeds honest.valid outside

-- so do all of them
all_hold-from : (test : ℕ → Bool) (start count : ℕ) → ((k : ℕ) → start ≤ k → k < start + count → test k ≡ true) → list_all test (range_with_len start count) ≡ true
all_hold-from test start zero each = refl
all_hold-from test start (suc count) each =
    let first : test start ≡ true = each start (omega arith) (omega arith) in
    let others : list_all test (range_with_len (start + 1) count) ≡ true =
    all_hold-from test (start + 1) count (λ (k : ℕ) (from : start + 1 ≤ k) (below : k < start + 1 + count). each k (omega arith) (omega arith)) in
    rw first others

-- what it means that a number is the first that is named
abbrev FirstNamed : (ℕ → Option ℕ) → (start count : ℕ) → Option (ℕ × ℕ) → Type 0
FirstNamed inside start count None = (k : ℕ) → start ≤ k → k < start + count → inside k ≡ None
FirstNamed inside start count (Some named) =
    (start ≤ named.0) × (named.0 < start + count) × (inside named.0 ≡ Some named.1) × ((k : ℕ) → start ≤ k → k < named.0 → inside k ≡ None)

at_or_above : (start k : ℕ) → start ≤ k → (k ≡ start) ⊎ (start + 1 ≤ k)
at_or_above zero zero from = inl refl
at_or_above zero (suc k) from = let above : 0 + 1 ≤ suc k = omega arith in inr above
at_or_above (suc start) zero from = absurd (omega arith)
at_or_above (suc start) (suc k) from =
    let less : start ≤ k = omega arith in
    ⊎_elim (λ (same : k ≡ start). inl (ap suc same))
    (λ (above : start + 1 ≤ k). let more : suc start + 1 ≤ suc k = omega arith in inr more)
    (at_or_above start k less)

-- one more number in front, for which none is named
FirstNamed-later : (inside : ℕ → Option ℕ) (start count : ℕ) (first : Option (ℕ × ℕ)) → inside start ≡ None
    → FirstNamed inside (start + 1) count first → FirstNamed inside start (suc count) first
FirstNamed-later inside start count None none later =
    λ (k : ℕ) (from : start ≤ k) (below : k < start + suc count).
    ⊎_elim
    (λ (same : k ≡ start). let P : ℕ → Type 0 = λ j. inside j ≡ None in subst P (sym same) none)
    (λ (above : start + 1 ≤ k). later k above (omega arith))
    (at_or_above start k from)
FirstNamed-later inside start count (Some named) none later = (
  omega (arith, later.0),
  omega (arith, later.1),
  later.2,
  λ (k : ℕ) (from : start ≤ k) (below : k < named.0).
      ⊎_elim
      (λ (same : k ≡ start). let P : ℕ → Type 0 = λ j. inside j ≡ None in subst P (sym same) none)
      (λ (above : start + 1 ≤ k). later.3 k above below)
      (at_or_above start k from),
)

by_head : (inside : ℕ → Option ℕ) (start count : ℕ) (head : Option ℕ) → inside start ≡ head
    → FirstNamed inside (start + 1) count (first_named (start + 1) (map inside (range_with_len (start + 1) count)))
    → FirstNamed inside start (suc count) (first_named start (head ∷ map inside (range_with_len (start + 1) count)))
by_head inside start count None is later =
    FirstNamed-later inside start count (first_named (start + 1) (map inside (range_with_len (start + 1) count))) is later
by_head inside start count (Some gadget) is later =
    let here : start < start + suc count = omega arith in
    let from : start ≤ start = omega arith in
    (from, here, is, λ (k : ℕ) (above : start ≤ k) (below : k < start). absurd (omega arith))

first_named-means : (inside : ℕ → Option ℕ) (start count : ℕ) → FirstNamed inside start count (first_named start (map inside (range_with_len start count)))
first_named-means inside start zero = λ (k : ℕ) (from : start ≤ k) (below : k < start + 0). absurd (omega arith)
first_named-means inside start (suc count) = by_head inside start count (inside start) refl (first_named-means inside (start + 1) count)

-- the verdict on an honest record whose nonce is new, from the first gadget that is named
honest-by : (program : Program) (shape : Shape) (report : List ℕ) (inside : Option (ℕ × ℕ)) (hold : Bool)
    → FirstNamed (gadget_inside program shape (words_in shape report)) 0 shape.proofs inside
    → (((proof : ℕ) → proof < shape.proofs → gadget_inside program shape (words_in shape report) proof ≡ None) → hold ≡ true)
    → IsHonestVerdict program shape report (verdict_by None inside hold)
honest-by program shape report None hold first holds =
    let none : (proof : ℕ) → proof < shape.proofs → gadget_inside program shape (words_in shape report) proof ≡ None =
    λ (proof : ℕ) (below : proof < shape.proofs). first proof (omega arith) (omega arith) in
    let P : Bool → Type 0 = λ b. IsHonestVerdict program shape report (verdict_if b) in
    subst P (sym (holds none)) none
honest-by program shape report (Some named) hold first holds =
    (omega (arith, first.1), first.2, λ (earlier : ℕ) (below : earlier < named.0). first.3 earlier (omega arith) below)

honest-new : (program : Program) (shape : Shape) (report : List ℕ) → HonestProofIsAccepted → IsBounded program → bad_word_in (words_in shape report) ≡ None → IsHonest program shape report
    → IsHonestVerdict program shape report (verdict_of program shape report)
unfolding verdict_of
honest-new program shape report law bounded good honest =
    let words = words_in shape report in
    let inside = gadget_inside program shape words in
    let hold : ((proof : ℕ) → proof < shape.proofs → inside proof ≡ None) → all_hold program shape words ≡ true =
    λ none. all_hold-from (proof_holds program shape words) 0 shape.proofs
    (λ (k : ℕ) (from : 0 ≤ k) (below : k < 0 + shape.proofs).
    let less : k < shape.proofs = omega arith in
    holds-honest program shape report k law bounded (honest k less) (none k less)) in
    let P : Option ℕ → Type 0 = λ b. IsHonestVerdict program shape report (verdict_by b (first_inside program shape words) (all_hold program shape words)) in
    subst P (sym good)
    (honest-by program shape report (first_inside program shape words) (all_hold program shape words) (first_named-means inside 0 shape.proofs) hold)

pub accepts_honest : (program : Program) (shape : Shape) (claims reports : List (List ℕ)) → HonestProofIsAccepted → IsBounded program → AcceptsHonest program shape claims reports
accepts_honest program shape claims reports law bounded i below not_replayed good honest =
    let P : Verdict → Type 0 = λ v. IsHonestVerdict program shape (report_at reports i) v in
    subst P (sym ((judges_once program shape claims reports).alone i below not_replayed))
    (honest-new program shape (report_at reports i) law bounded good honest)
