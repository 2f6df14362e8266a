-- Parts of lists: that a part of a sum is the sum of the parts, and lists of one length after one another.
use Rattle.std.proofs.Common.{ℕ, zero, suc, ◌≡◌, ◌+◌, ◌*◌, ◌<◌, ◌≤◌, List, ◌++◌, length, map, ap, sym, ◌∙◌, arith}
use Rattle.std.specs.List.{All, range_with_len, flat_map, sum_by}
use Rattle.std.proofs.lemmas.List.{take_all, take_at}
use Rattle.std.proofs.lemmas.List.Elements.{All-nil, All-append}
use Rattle.std.proofs.lemmas.Simd.{map-map}
use Rattle.flp_field.specs.Sums.{parts_of, sum_of_lists, sum_of_parts}
use Rattle.flp_field.proofs.ListParts.{parts_of-numbers, parts_of-take}
use Rattle.flp_field.proofs.ListSums.{sum-alike, sum_has_parts}
use Rattle.flp_field.proofs.WordLists.{words_at-words_at}
use Rattle.flp_meaning.specs.Proof.{words_at}
use Rattle.flp_meaning.proofs.PartLemmas.{words-parts}

-- the sum of what is cut out of each part at the same place is cut out there of the sum
pub sum-cut : (words : List ℕ) (start : ℕ → ℕ) (count size off n : ℕ) → ((part : ℕ) → start part ≡ part * size + off) → off + n ≤ size
    → sum_of_lists n (map (λ part. words_at (start part) n words) (range_with_len 0 count)) ≡ words_at off n (sum_of_parts count size words)
sum-cut words start count size off n stands fits =
    let cut : List ℕ → List ℕ = λ l. words_at off n l in
    let part : ℕ → List ℕ = λ k. words_at (k * size) size words in
    let own : (k : ℕ) → words_at (start k) n words ≡ cut (part k) =
    λ (k : ℕ). ap (λ (s : ℕ). words_at s n words) (stands k) ∙ sym (words_at-words_at (k * size) size off n words fits) in
    let each : (λ (k : ℕ). words_at (start k) n words) ≡ (λ (k : ℕ). cut (part k)) = λ i k. own k i in
    ap (λ (f : ℕ → List ℕ). sum_of_lists n (map f (range_with_len 0 count))) each
    ∙ (ap (λ (lists : List (List ℕ)). sum_of_lists n lists) (sym (map-map cut part (range_with_len 0 count)))
    ∙ (ap (λ (lists : List (List ℕ)). sum_of_lists n (map cut lists)) (sym (parts_of-numbers count size words))
    ∙ sym (sum_has_parts size off n (parts_of count size words) fits)))

-- the sum of the first parts does not depend on what follows them
pub sum_of_parts-front : (count size : ℕ) (front rest : List ℕ) → length front ≡ count * size → sum_of_parts count size (front ++ rest) ≡ sum_of_parts count size front
sum_of_parts-front count size front rest long =
    ap (λ (lists : List (List ℕ)). sum_of_lists size lists)
    (sym (parts_of-take count size (front ++ rest)) ∙ ap (λ (words : List ℕ). parts_of count size words) (take_at front rest (count * size) long))

-- ---- lists of one length after one another

-- one of them
pub flat-one : (f : ℕ → List ℕ) (n count one : ℕ) → ((k : ℕ) → k < count → length (f k) ≡ n) → one < count
    → words_at (one * n) n (flat_map f (range_with_len 0 count)) ≡ f one
flat-one f n count one sizes below =
    let place : one * n ≡ sum_by (λ (k : ℕ). n) (range_with_len 0 one) + 0 = omega (arith, sum-alike n 0 one) in
    let own : 0 + one ≡ one = omega arith in
    let long : length (f one) ≤ n = omega (arith, sizes one below) in
    ap (λ (start : ℕ). words_at start n (flat_map f (range_with_len 0 count))) place
    ∙ words-parts f (λ (k : ℕ). n) 0 count one 0 n (λ (k : ℕ) (inside : k < 0 + count). sizes k (omega arith)) below (omega arith)
    ∙ ap (λ (k : ℕ). words_at 0 n (f k)) own
    ∙ take_all n (f one) long

-- what holds of the elements of each holds of all
pub All-flat : (P : ℕ → Type 0) (f : ℕ → List ℕ) (first count : ℕ) → ((k : ℕ) → k < first + count → All P (f k)) → All P (flat_map f (range_with_len first count))
All-flat P f first zero each = All-nil P
All-flat P f first (suc count) each =
    All-append P (f first) (flat_map f (range_with_len (first + 1) count)) (each first (omega arith))
    (All-flat P f (first + 1) count (λ (k : ℕ) (below : k < first + 1 + count). each k (omega arith)))
