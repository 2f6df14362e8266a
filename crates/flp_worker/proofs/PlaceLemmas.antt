-- Lists of one length after one another, and where the verifier of a share stands among all.
use Rattle.std.proofs.Common.{ℕ, zero, suc, ◌≡◌, ◌+◌, ◌*◌, ◌<◌, ◌≤◌, List, ◌∷◌, length, map, refl, ap, ap₂, sym, subst, ◌∙◌, arith}
use Rattle.std.specs.List.{range_with_len, flat_map}
use Rattle.std.proofs.lemmas.List.{take_all}
use Rattle.flp_field.specs.Sums.{parts_of}
use Rattle.flp_field.proofs.ListParts.{parts_of-append}
use Rattle.flp_field.proofs.ListSums.{sum-alike}
use Rattle.flp_syntax.specs.Tree.{Program}
use Rattle.flp_meaning.specs.Lengths.{lengths_of}
use Rattle.flp_meaning.specs.Proof.{words_at}
use Rattle.flp_meaning.specs.Verifier.{verifier_words}
use Rattle.flp_meaning.proofs.PartLemmas.{words-parts, length-parts}
use Rattle.flp_meaning.proofs.Verifiers.{verifiers_have_length}
use Rattle.flp_query.specs.Unit.{share_unit}
use Rattle.flp_report.specs.declared.shape.Shape.{Shape}
use Rattle.flp_worker.specs.Parts.{share_encoding, share_proof, joint_words, query_words}
use Rattle.flp_worker.specs.Verdict.{verifier_of_share, verifiers_for, verifiers_of}
use Rattle.flp_worker.proofs.PrefixLemmas.{part-fits}

-- lists of one length are the parts of what they are together
pub parts-flat : (f : ℕ → List ℕ) (n a count : ℕ) → ((k : ℕ) → length (f k) ≡ n) → parts_of count n (flat_map f (range_with_len a count)) ≡ map f (range_with_len a count)
parts-flat f n a zero sizes = refl
parts-flat f n a (suc count) sizes =
    parts_of-append count n (f a) (flat_map f (range_with_len (a + 1) count)) (sizes a)
    ∙ ap (λ (l : List (List ℕ)). f a ∷ l) (parts-flat f n (a + 1) count sizes)

-- how long they are together
pub length-flat : (f : ℕ → List ℕ) (n count : ℕ) → ((k : ℕ) → length (f k) ≡ n) → length (flat_map f (range_with_len 0 count)) ≡ count * n
length-flat f n count sizes = length-parts f (λ (k : ℕ). n) 0 count (λ k below. sizes k) ∙ sum-alike n 0 count

-- words of one of them
pub words-flat : (f : ℕ → List ℕ) (n count one off few : ℕ) → ((k : ℕ) → length (f k) ≡ n) → one < count → off + few ≤ n
    → words_at (one * n + off) few (flat_map f (range_with_len 0 count)) ≡ words_at off few (f one)
words-flat f n count one off few sizes below fits =
    let own : 0 + one ≡ one = omega arith in
    ap (λ (start : ℕ). words_at (start + off) few (flat_map f (range_with_len 0 count))) (sym (sum-alike n 0 one))
    ∙ words-parts f (λ (k : ℕ). n) 0 count one off few (λ k inside. sizes k) below fits
    ∙ ap (λ (k : ℕ). words_at off few (f k)) own

-- ---- verifiers

-- a share's verifier has the circuit's length
pub length-verifier : (program : Program) (shape : Shape) (words : List ℕ) (proof share : ℕ)
    → length (verifier_of_share program shape words proof share) ≡ (lengths_of program).verifier
length-verifier program shape words proof share =
    verifiers_have_length program (joint_words shape words proof) (query_words shape words proof)
    (record { x = share_encoding shape words share; proof = share_proof shape words proof share; unit = share_unit shape.shares })

pub length-for : (program : Program) (shape : Shape) (words : List ℕ) (proof : ℕ)
    → length (verifiers_for program shape words proof) ≡ shape.shares * (lengths_of program).verifier
length-for program shape words proof =
    length-flat (verifier_of_share program shape words proof) (lengths_of program).verifier shape.shares (length-verifier program shape words proof)

-- what a query makes of these parts of a record's words
pub own-verifier : (program : Program) (shape : Shape) (words : List ℕ) (proof share : ℕ) (x own query : List ℕ) → x ≡ share_encoding shape words share
    → own ≡ share_proof shape words proof share → query ≡ query_words shape words proof
    → verifier_words program x (joint_words shape words proof) own query (share_unit shape.shares) ≡ verifier_of_share program shape words proof share
own-verifier program shape words proof share x own query is_x is_own is_query =
    let joint : List ℕ = joint_words shape words proof in
    ap₂ (λ (a b : List ℕ). verifier_words program a joint b query (share_unit shape.shares)) is_x is_own
    ∙ ap (λ (q : List ℕ). verifier_words program (share_encoding shape words share) joint (share_proof shape words proof share) q (share_unit shape.shares)) is_query

-- where it stands among those of all shares and proofs
pub verifier-stands : (program : Program) (shape : Shape) (words : List ℕ) (share proof : ℕ) → share < shape.shares → proof < shape.proofs
    → words_at ((proof * shape.shares + share) * (lengths_of program).verifier) (lengths_of program).verifier (verifiers_of program shape words)
    ≡ verifier_of_share program shape words proof share
verifier-stands program shape words share proof below inside =
    let n : ℕ = (lengths_of program).verifier in
    let start : (proof * shape.shares + share) * n ≡ proof * (shape.shares * n) + share * n = omega arith in
    let fits : share * n + n ≤ shape.shares * n = part-fits share shape.shares n below in
    let first : share * n ≡ share * n + 0 = omega arith in
    let whole : 0 + n ≤ n = omega arith in
    let long : length (verifier_of_share program shape words proof share) ≤ n =
    subst (λ (m : ℕ). m ≤ n) (sym (length-verifier program shape words proof share)) (omega arith) in
    ap (λ (s : ℕ). words_at s n (verifiers_of program shape words)) start
    ∙ words-flat (verifiers_for program shape words) (shape.shares * n) shape.proofs proof (share * n) n (length-for program shape words) inside fits
    ∙ ap (λ (s : ℕ). words_at s n (verifiers_for program shape words proof)) first
    ∙ words-flat (verifier_of_share program shape words proof) n shape.shares share 0 n (length-verifier program shape words proof) below whole
    ∙ take_all n (verifier_of_share program shape words proof share) long
