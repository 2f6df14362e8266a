-- Lists that are parts one after another: where each part stands.
use Rattle.std.proofs.Common.{ℕ, zero, suc, min, ◌≡◌, ◌+◌, ◌-◌, ◌<◌, ◌≤◌, List, ◌++◌, length, take, drop, refl, ap, sym, subst, ◌∙◌, arith, length-append, length-take, length-drop}
use Rattle.std.specs.List.{range_with_len, flat_map, sum_by}
use Rattle.std.proofs.lemmas.List.{take-append-le, drop-append-le}
use Rattle.std.proofs.Math.Seq.{drop-append-add}
use Rattle.std.proofs.lemmas.List.Sums.{sum_by-cons}
use Rattle.flp_meaning.specs.Proof.{words_at}

-- a part ends before all parts do
pub part_inside : (size : ℕ → ℕ) (a g n : ℕ) → g < n → sum_by size (range_with_len a g) + size (a + g) ≤ sum_by size (range_with_len a n)
part_inside size a g zero low = absurd (omega arith)
part_inside size a zero (suc n) low =
    let first : size (a + 0) ≡ size a = let same : a + 0 ≡ a = omega arith in ap size same in
    let all : sum_by size (range_with_len a (suc n)) ≡ size a + sum_by size (range_with_len (a + 1) n) = sum_by-cons size a (range_with_len (a + 1) n) in
    let none : sum_by size (range_with_len a 0) ≡ 0 = refl in
    omega arith
part_inside size a (suc g) (suc n) low =
    let h : sum_by size (range_with_len (a + 1) g) + size (a + 1 + g) ≤ sum_by size (range_with_len (a + 1) n) =
    part_inside size (a + 1) g n (omega arith) in
    let same : size (a + 1 + g) ≡ size (a + suc g) = let e : a + 1 + g ≡ a + suc g = omega arith in ap size e in
    let front : sum_by size (range_with_len a (suc g)) ≡ size a + sum_by size (range_with_len (a + 1) g) = sum_by-cons size a (range_with_len (a + 1) g) in
    let all : sum_by size (range_with_len a (suc n)) ≡ size a + sum_by size (range_with_len (a + 1) n) = sum_by-cons size a (range_with_len (a + 1) n) in
    omega arith

-- so many words are there
pub length-words_at : (start count : ℕ) (words : List ℕ) → start + count ≤ length words → length (words_at start count words) ≡ count
length-words_at start count words enough =
    let cut : length (take count (drop start words)) ≡ min count (length (drop start words)) = length-take count (drop start words) in
    let left : length (drop start words) ≡ length words - start = length-drop start words in
    omega arith

-- words within a part
pub words-parts : (part : ℕ → List ℕ) (size : ℕ → ℕ) (a n g off count : ℕ) → ((k : ℕ) → k < a + n → length (part k) ≡ size k) → g < n
    → off + count ≤ size (a + g)
    → words_at (sum_by size (range_with_len a g) + off) count (flat_map part (range_with_len a n)) ≡ words_at off count (part (a + g))
words-parts part size a zero g off count sizes low fits = absurd (omega arith)
words-parts part size a (suc n) zero off count sizes low fits =
    let own : a + 0 ≡ a = omega arith in
    let long : length (part a) ≡ size a = sizes a (omega arith) in
    let same : size (a + 0) ≡ size a = ap size own in
    let rest : List ℕ = flat_map part (range_with_len (a + 1) n) in
    let left : length (drop off (part a)) ≡ length (part a) - off = length-drop off (part a) in
    let none : 0 + off ≡ off = omega arith in
    ap (λ k. take count (drop k (part a ++ rest))) none
    ∙ ap (λ l. take count l) (drop-append-le off (part a) rest (omega arith))
    ∙ take-append-le count (drop off (part a)) rest (omega arith)
    ∙ ap (λ k. take count (drop off (part k))) (sym own)
words-parts part size a (suc n) (suc g) off count sizes low fits =
    let rest : List ℕ = flat_map part (range_with_len (a + 1) n) in
    let next : a + 1 + g ≡ a + suc g = omega arith in
    let front : sum_by size (range_with_len a (suc g)) ≡ size a + sum_by size (range_with_len (a + 1) g) = sum_by-cons size a (range_with_len (a + 1) g) in
    let long : length (part a) ≡ size a = sizes a (omega arith) in
    let far : sum_by size (range_with_len a (suc g)) + off ≡ length (part a) + (sum_by size (range_with_len (a + 1) g) + off) = omega arith in
    let fits_too : off + count ≤ size (a + 1 + g) = subst (λ k. off + count ≤ size k) (sym next) fits in
    ap (λ k. take count (drop k (part a ++ rest))) far
    ∙ ap (λ l. take count l) (drop-append-add (part a) rest (sum_by size (range_with_len (a + 1) g) + off))
    ∙ words-parts part size (a + 1) n g off count (λ k below. sizes k (omega arith)) (omega arith) fits_too
    ∙ ap (λ k. words_at off count (part k)) next

-- all parts together
pub length-parts : (part : ℕ → List ℕ) (size : ℕ → ℕ) (a n : ℕ) → ((k : ℕ) → k < a + n → length (part k) ≡ size k)
    → length (flat_map part (range_with_len a n)) ≡ sum_by size (range_with_len a n)
length-parts part size a zero sizes = refl
length-parts part size a (suc n) sizes =
    let rest : List ℕ = flat_map part (range_with_len (a + 1) n) in
    let h : length rest ≡ sum_by size (range_with_len (a + 1) n) = length-parts part size (a + 1) n (λ k below. sizes k (omega arith)) in
    let long : length (part a) ≡ size a = sizes a (omega arith) in
    let all : sum_by size (range_with_len a (suc n)) ≡ size a + sum_by size (range_with_len (a + 1) n) = sum_by-cons size a (range_with_len (a + 1) n) in
    let both : length (part a ++ rest) ≡ length (part a) + length rest = length-append (part a) rest in
    omega arith
