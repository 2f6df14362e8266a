-- Lists with a word for each wire: what a gadget has of them.
use Rattle.std.proofs.Common.{ℕ, zero, suc, ◌≡◌, ◌+◌, ◌-◌, ◌<◌, ◌≤◌, List, ◌++◌, length, take, drop, replicate, refl, ap, ap₂, sym, ◌∙◌, arith}
use Rattle.std.specs.List.{All, range_with_len, flat_map, sum_by}
use Rattle.std.specs.Prelude.{slice_index}
use Rattle.std.proofs.Math.Seq.{take-add}
use Rattle.std.proofs.lemmas.List.{take_all, drop-replicate, take-replicate, get_or-replicate}
use Rattle.std.proofs.lemmas.List.Elements.{All-nil, All-append, All-take, All-drop}
use Rattle.flp_field.specs.Word.{IsWord, AreWords}
use Rattle.flp_syntax.specs.Tree.{Program}
use Rattle.flp_meaning.specs.Gadgets.{gadgets_of, arity_of}
use Rattle.flp_meaning.specs.Lengths.{start_of}
use Rattle.flp_meaning.specs.Proof.{words_at, seeds_for}
use Rattle.flp_meaning.specs.ProofLaws.{AreSeeds}
use Rattle.flp_meaning.proofs.PartLemmas.{length-words_at, words-parts, length-parts}
use Rattle.flp_meaning.proofs.StartLemmas.{start-more, start-inside, flat-more}

-- the same parts make the same list
pub flat-same : (f g : ℕ → List ℕ) (a n : ℕ) → ((k : ℕ) → k < a + n → f k ≡ g k) → flat_map f (range_with_len a n) ≡ flat_map g (range_with_len a n)
flat-same f g a zero same = refl
flat-same f g a (suc n) same =
    ap₂ (λ (x y : List ℕ). x ++ y) (same a (omega arith)) (flat-same f g (a + 1) n (λ k below. same k (omega arith)))

All-flat : (P : ℕ → Type 0) (f : ℕ → List ℕ) (a n : ℕ) → ((k : ℕ) → k < a + n → All P (f k)) → All P (flat_map f (range_with_len a n))
All-flat P f a zero each = All-nil P
All-flat P f a (suc n) each =
    All-append P (f a) (flat_map f (range_with_len (a + 1) n)) (each a (omega arith))
    (All-flat P f (a + 1) n (λ (k : ℕ) (below : k < a + 1 + n). each k (omega arith)))

-- a list of words of which each gadget has as many as it has inputs
pub are-seeds : (body : Program) (part : ℕ → List ℕ) → ((g : ℕ) → length (part g) ≡ arity_of body g) → ((g : ℕ) → AreWords (part g))
    → AreSeeds body (flat_map part (gadgets_of body))
are-seeds body part sizes words =
    record {
      words = All-flat IsWord part 0 (length body.gadgets) (λ k below. words k);
      size = length-parts part (arity_of body) 0 (length body.gadgets) (λ k below. sizes k);
    }

-- what a gadget has of it
pub part-at : (body : Program) (part : ℕ → List ℕ) (g : ℕ) → ((k : ℕ) → length (part k) ≡ arity_of body k) → g < length body.gadgets
    → seeds_for body (flat_map part (gadgets_of body)) g ≡ part g
part-at body part g sizes inside =
    let n : ℕ = arity_of body g in
    let own : 0 + g ≡ g = omega arith in
    let none : start_of (arity_of body) g + 0 ≡ start_of (arity_of body) g = omega arith in
    let fits : 0 + n ≤ arity_of body (0 + g) = let e : arity_of body (0 + g) ≡ n = ap (arity_of body) own in omega arith in
    let long : length (part g) ≡ n = sizes g in
    ap (λ k. words_at k n (flat_map part (gadgets_of body))) (sym none)
    ∙ words-parts part (arity_of body) 0 (length body.gadgets) g 0 n (λ k below. sizes k) inside fits
    ∙ ap (λ k. words_at 0 n (part k)) own
    ∙ take_all n (part g) (omega arith)

parts-front : (body : Program) (words : List ℕ) (n : ℕ) → flat_map (seeds_for body words) (range_with_len 0 n) ≡ take (start_of (arity_of body) n) words
parts-front body words zero = refl
parts-front body words (suc n) =
    let next : suc n ≡ n + 1 = omega arith in
    let here : 0 + n ≡ n = omega arith in
    let start : ℕ = start_of (arity_of body) n in
    ap (λ k. flat_map (seeds_for body words) (range_with_len 0 k)) next
    ∙ flat-more (seeds_for body words) 0 n
    ∙ ap₂ (λ (l : List ℕ) (k : ℕ). l ++ seeds_for body words k) (parts-front body words n) here
    ∙ sym (take-add start (arity_of body n) words)
    ∙ ap (λ k. take k words) (sym (start-more (arity_of body) n))
    ∙ ap (λ k. take (start_of (arity_of body) k) words) (sym next)

-- it is what the gadgets have of it, one after another
pub parts-whole : (body : Program) (words : List ℕ) → AreSeeds body words → flat_map (seeds_for body words) (gadgets_of body) ≡ words
parts-whole body words good =
    let size : length words ≡ sum_by (arity_of body) (gadgets_of body) = good.size in
    parts-front body words (length body.gadgets) ∙ take_all (start_of (arity_of body) (length body.gadgets)) words (omega arith)

-- as many words as it has inputs
pub length-part : (body : Program) (words : List ℕ) (g : ℕ) → AreSeeds body words → g < length body.gadgets → length (seeds_for body words g) ≡ arity_of body g
length-part body words g good inside =
    let fits : start_of (arity_of body) g + arity_of body g ≤ sum_by (arity_of body) (range_with_len 0 (length body.gadgets)) =
    start-inside (arity_of body) g (length body.gadgets) inside in
    let size : length words ≡ sum_by (arity_of body) (gadgets_of body) = good.size in
    length-words_at (start_of (arity_of body) g) (arity_of body g) words (omega arith)

pub part-words : (body : Program) (words : List ℕ) (g : ℕ) → AreSeeds body words → AreWords (seeds_for body words g)
part-words body words g good =
    All-take IsWord (arity_of body g) (drop (start_of (arity_of body) g) words) (All-drop IsWord (start_of (arity_of body) g) words good.words)

-- of zeros it has zeros
pub part-of-zeros : (body : Program) (n g input : ℕ) → start_of (arity_of body) g + arity_of body g ≤ n → input < arity_of body g
    → slice_index (seeds_for body (replicate n 0) g) input ≡ 0
part-of-zeros body n g input fits low =
    let start : ℕ = start_of (arity_of body) g in
    ap (λ (l : List ℕ). slice_index (take (arity_of body g) l) input) (drop-replicate start n 0)
    ∙ ap (λ (l : List ℕ). slice_index l input) (take-replicate (arity_of body g) (n - start) 0 (omega arith))
    ∙ get_or-replicate (arity_of body g) input 0 0 low
