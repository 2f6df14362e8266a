-- The sum of the shares' verifiers decides what the unshared proof decides.
use Rattle.std.proofs.Common.{ℕ, ◌≡◌, ◌+◌, ◌*◌, ◌<◌, ◌≤◌, List, [], ◌∷◌, length, get_or, map, refl, ap, ap₂, sym, subst, ◌∙◌, arith}
use Rattle.std.specs.Prelude.{Option, None}
use Rattle.std.proofs.lemmas.List.Elements.{All-map}
use Rattle.std.proofs.lemmas.List.FromFn.{length-map-range_with_len, length-range_with_len, get_or-range_with_len}
use Rattle.flp_field.specs.Sums.{parts_of, sum_of_lists, sum_of_parts}
use Rattle.flp_syntax.specs.Tree.{Program}
use Rattle.flp_meaning.specs.Lengths.{lengths_of}
use Rattle.flp_meaning.specs.Verifier.{answer_from, is_taken, decides}
use Rattle.flp_meaning.proofs.PartLemmas.{length-words_at}
use Rattle.flp_query.specs.Unit.{share_unit}
use Rattle.flp_query.specs.Laws.{Report, HasLengths, AreShares, sum_of_reports, verifier_with, VerifiersSumUp}
use Rattle.flp_report.specs.declared.shape.Shape.{Shape}
use Rattle.flp_report.specs.Shape.{part_words, words_of}
use Rattle.flp_worker.specs.Parts.{share_numbers, share_encoding, share_proof, joint_words, query_words, unshared_encoding, unshared_proof}
use Rattle.flp_worker.specs.Verdict.{verifier_of_share, verifiers_for, gadget_inside, proof_holds}
use Rattle.flp_worker.specs.Worker.{IsShapeOf}
use Rattle.flp_worker.proofs.PrefixLemmas.{part-fits}
use Rattle.flp_worker.proofs.PlaceLemmas.{parts-flat, length-verifier}

map-map : {A B C : Type 0} (f : A → B) (g : B → C) (xs : List A) → map g (map f xs) ≡ map (λ x. g (f x)) xs
map-map f g [] = refl
map-map f g (x ∷ xs) = ap (λ l. g (f x) ∷ l) (map-map f g xs)

-- what a share has of a record, as a report of its own
report_of : Shape → (words : List ℕ) → (proof share : ℕ) → Report
report_of shape words proof share = record { x = share_encoding shape words share; proof = share_proof shape words proof share }

reports_of : Shape → (words : List ℕ) → (proof : ℕ) → List Report
reports_of shape words proof = map (report_of shape words proof) (share_numbers shape)

-- the part of a share, and in it the encoding and each proof, stand within all words
part-inside : (shape : Shape) (words : List ℕ) (share : ℕ) → length words ≡ words_of shape → share < shape.shares
    → share * part_words shape + (shape.meas + shape.proofs * shape.proof) ≤ length words
part-inside shape words share all below =
    let fits : share * part_words shape + part_words shape ≤ shape.shares * part_words shape = part-fits share shape.shares (part_words shape) below in
    omega (arith, fits, all)

length-encoding : (shape : Shape) (words : List ℕ) (share : ℕ) → length words ≡ words_of shape → share < shape.shares
    → length (share_encoding shape words share) ≡ shape.meas
length-encoding shape words share all below =
    let fits = part-inside shape words share all below in
    length-words_at (share * part_words shape) shape.meas words (omega (arith, fits))

length-proof : (shape : Shape) (words : List ℕ) (proof share : ℕ) → length words ≡ words_of shape → share < shape.shares → proof < shape.proofs
    → length (share_proof shape words proof share) ≡ shape.proof
length-proof shape words proof share all below inside =
    let fits = part-inside shape words share all below in
    let within : proof * shape.proof + shape.proof ≤ shape.proofs * shape.proof = part-fits proof shape.proofs shape.proof inside in
    length-words_at (share * part_words shape + (shape.meas + proof * shape.proof)) shape.proof words (omega (arith, fits, within))

has_lengths : (program : Program) (shape : Shape) (words : List ℕ) (proof share : ℕ) → IsShapeOf program shape → length words ≡ words_of shape
    → proof < shape.proofs → share < shape.shares → HasLengths program (report_of shape words proof share)
unfolding report_of
has_lengths program shape words proof share fits all inside below = record {
  words = length-encoding shape words share all below ∙ fits.meas;
  proof = length-proof shape words proof share all below inside ∙ fits.proof;
}

count_of_reports : (shape : Shape) (words : List ℕ) (proof : ℕ) → length (reports_of shape words proof) ≡ shape.shares
unfolding reports_of
count_of_reports shape words proof = length-map-range_with_len (report_of shape words proof) 0 shape.shares

are_shares : (program : Program) (shape : Shape) (words : List ℕ) (proof : ℕ) → IsShapeOf program shape → length words ≡ words_of shape
    → proof < shape.proofs → AreShares program (reports_of shape words proof)
unfolding reports_of
are_shares program shape words proof fits all inside =
    let count = count_of_reports shape words proof in
    record {
      some = omega (arith, fits.some_shares, count);
      few = omega (arith, fits.few_shares, count);
      lengths =
          All-map (HasLengths program) (report_of shape words proof) (share_numbers shape)
          (λ k d low.
          let below : k < shape.shares = omega (arith, length-range_with_len 0 shape.shares) in
          let own : get_or (share_numbers shape) k d ≡ 0 + k = get_or-range_with_len 0 shape.shares k d below in
          let same : k ≡ 0 + k = omega arith in
          subst (λ (share : ℕ). HasLengths program (report_of shape words proof share)) (same ∙ sym own)
          (has_lengths program shape words proof k fits all inside below));
    }

-- the verifiers of the shares are those of these reports
verifiers-are : (program : Program) (shape : Shape) (words : List ℕ) (proof : ℕ)
    → parts_of shape.shares (lengths_of program).verifier (verifiers_for program shape words proof)
    ≡ map (verifier_with program (joint_words shape words proof) (query_words shape words proof) (share_unit (length (reports_of shape words proof)))) (reports_of shape words proof)
unfolding reports_of report_of
verifiers-are program shape words proof =
    let joint : List ℕ = joint_words shape words proof in
    let query : List ℕ = query_words shape words proof in
    parts-flat (verifier_of_share program shape words proof) (lengths_of program).verifier 0 shape.shares (length-verifier program shape words proof)
    ∙ sym (map-map (report_of shape words proof) (verifier_with program joint query (share_unit shape.shares)) (share_numbers shape))
    ∙ ap (λ (n : ℕ). map (verifier_with program joint query (share_unit n)) (reports_of shape words proof)) (sym (count_of_reports shape words proof))

-- the sum of these reports is the unshared one
sum-is : (program : Program) (shape : Shape) (words : List ℕ) (proof : ℕ) → IsShapeOf program shape
    → sum_of_reports program (reports_of shape words proof) ≡ record { x = unshared_encoding shape words; proof = unshared_proof shape words proof }
unfolding reports_of report_of
sum-is program shape words proof fits =
    let one : sum_of_lists program.meas (map (λ (share : Report). share.x) (reports_of shape words proof)) ≡ unshared_encoding shape words =
    ap₂ (λ (n : ℕ) (lists : List (List ℕ)). sum_of_lists n lists) (sym fits.meas)
    (map-map (report_of shape words proof) (λ (share : Report). share.x) (share_numbers shape)) in
    let two : sum_of_lists (lengths_of program).proof (map (λ (share : Report). share.proof) (reports_of shape words proof)) ≡ unshared_proof shape words proof =
    ap₂ (λ (n : ℕ) (lists : List (List ℕ)). sum_of_lists n lists) (sym fits.proof)
    (map-map (report_of shape words proof) (λ (share : Report). share.proof) (share_numbers shape)) in
    ap₂ (λ (xs ps : List ℕ). record { x = xs; proof = ps }) one two

pub sum-decides : (program : Program) (shape : Shape) (words : List ℕ) (proof : ℕ) → IsShapeOf program shape → length words ≡ words_of shape
    → proof < shape.proofs → VerifiersSumUp program → gadget_inside program shape words proof ≡ None
    → decides program (sum_of_parts shape.shares (lengths_of program).verifier (verifiers_for program shape words proof)) ≡ proof_holds program shape words proof
sum-decides program shape words proof fits all inside sums outside =
    let joint : List ℕ = joint_words shape words proof in
    let query : List ℕ = query_words shape words proof in
    let unshared : List ℕ = verifier_with program joint query 1 (record { x = unshared_encoding shape words; proof = unshared_proof shape words proof }) in
    ap (λ (lists : List (List ℕ)). decides program (sum_of_lists (lengths_of program).verifier lists)) (verifiers-are program shape words proof)
    ∙ ap (λ (l : List ℕ). decides program l) (sums joint query (reports_of shape words proof) (are_shares program shape words proof fits all inside))
    ∙ ap (λ (r : Report). decides program (verifier_with program joint query 1 r)) (sum-is program shape words proof fits)
    ∙ sym (ap (λ (answer : Option ℕ). is_taken program (answer_from answer unshared)) outside)
