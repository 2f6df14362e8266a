-- The measurements of the places are encoded: they have the circuit's count of numbers, each in range, and no more ones than the weight.
use Rattle.std.proofs.Common.{ℕ, zero, suc, ◌+◌, ◌%◌, ◌^◌, ◌<◌, ◌≤◌, ◌≡◌, Bool, true, false, cond, ltb, List, [], ◌∷◌, length, map, None, All, sum, refl, sym, ap, ◌∙◌, arith, ⊎_elim}
use Rattle.std.specs.List.{range_with_len}
use Rattle.std.proofs.Math.Nat.{add-mod_right, mod-eq_of_lt}
use Rattle.std.proofs.lemmas.Bool.{lt-ltb, le-ltb, le-leb, eq-eqb, cases_lt}
use Rattle.std.proofs.lemmas.Nat.{pow_pos}
use Rattle.std.proofs.lemmas.List.Elements.{All-head, All-tail, All-map, All-nil, All-cons}
use Rattle.std.proofs.lemmas.List.FromFn.{length-map-range_with_len, sum_by-map-range_with_len_more}
use Rattle.std.proofs.lemmas.List.Sums.{sum_by-cons}
use Rattle.flp_syntax.specs.declared.syntax.Params.{Params}
use Rattle.flp_syntax.specs.declared.syntax.Params.TheVariants.{Count, Sum, SumVec, Histogram, Multihot}
use Rattle.flp_circuits.specs.Sizes.{input_len_of, Fits}
use Rattle.flp_circuits.specs.Encoding.{range_of, range_fault, weight_of, weight_fault, meas_fault}
use Rattle.flp_circuits.proofs.EncodingLemmas.{weight_of-bits}
use Rattle.flp_circuits.proofs.Fitting.{fitting}
use Rattle.flp_generator.specs.Input.{residues, ones_below, measurement}

-- ---- what is not refused

range-none : (range place : ℕ) (input : List ℕ) → All (λ n. n < range) input → range_fault range place input ≡ None
range-none range place [] below = refl
range-none range place (n ∷ more) below =
    let first = All-head (λ n. n < range) n more below in
    let rest = range-none range (suc place) more (All-tail (λ n. n < range) n more below) in
    rw (lt-ltb n range first) rest

not_refused : (params : Params) (input : List ℕ) → length input ≡ input_len_of params → All (λ n. n < range_of params) input → weight_fault params input ≡ None → meas_fault params input ≡ None
not_refused params input count below light = rw (eq-eqb (length input) (input_len_of params) count, range-none (range_of params) 0 input below) light

one-below : (range n : ℕ) → n < range → All (λ n. n < range) (n ∷ [])
one-below range n below = All-cons (λ n. n < range) n [] below (All-nil (λ n. n < range))

residues-below : (modulo count k : ℕ) → 0 < modulo → All (λ n. n < modulo) (residues modulo count k)
residues-below modulo count k some =
    All-map (λ n. n < modulo) (λ j. (k + j) % modulo) (range_with_len 0 count) (λ (i d : ℕ) (below : i < length (range_with_len 0 count)). omega arith)

-- ---- how many are 1

-- 1 where the number modulo the count is below this
abbrev hit : (count below : ℕ) → ℕ → ℕ
hit count below j = cond (ltb (j % count) below) 1 0

-- that of so many numbers from this one on
abbrev hits : (count below first many : ℕ) → List ℕ
hits count below first many = map (hit count below) (range_with_len first many)

hit-bit : (count below j : ℕ) → hit count below j < 2
hit-bit count below j = bit (ltb (j % count) below)
  where
    bit : (b : Bool) → cond b 1 0 < 2
    bit true = omega arith
    bit false = omega arith

-- k added to each number is k added to the first
hits-moved : (count below k first many : ℕ) → map (λ j. hit count below (j + k)) (range_with_len first many) ≡ hits count below (first + k) many
hits-moved count below k first zero = refl
hits-moved count below k first (suc many) =
    let next : (first + 1) + k ≡ (first + k) + 1 = omega arith in
    ap (λ (l : List ℕ). hit count below (first + k) ∷ l)
    (hits-moved count below k (first + 1) many ∙ ap (λ (a : ℕ). hits count below a many) next)

-- as many from the next number on are as many
hits-turned : (count below k : ℕ) → sum (hits count below (k + 1) count) ≡ sum (hits count below k count)
hits-turned count below k =
    let f = hit count below in
    let id = λ (n : ℕ). n in
    let more : sum (hits count below k (count + 1)) ≡ sum (hits count below k count) + f (k + count) =
    sum_by-map-range_with_len_more id f k count (k + count) refl in
    let plus : hits count below k (count + 1) ≡ f k ∷ hits count below (k + 1) count =
    ap (λ (n : ℕ). hits count below k n) (let e : count + 1 ≡ suc count = omega arith in e) in
    let cons : sum (f k ∷ hits count below (k + 1) count) ≡ f k + sum (hits count below (k + 1) count) = sum_by-cons id (f k) (hits count below (k + 1) count) in
    let same : f (k + count) ≡ f k = ap (λ (n : ℕ). cond (ltb n below) 1 0) (add-mod_right k count) in
    let both : f k + sum (hits count below (k + 1) count) ≡ sum (hits count below k count) + f k =
    sym cons ∙ (ap sum (sym plus) ∙ (more ∙ ap (λ (n : ℕ). sum (hits count below k count) + n) same)) in
    omega (arith, both)

hits-all : (count below k : ℕ) → sum (hits count below k count) ≡ sum (hits count below 0 count)
hits-all count below zero = refl
hits-all count below (suc k) =
    let e : suc k ≡ k + 1 = omega arith in
    ap (λ (n : ℕ). sum (hits count below n count)) e ∙ (hits-turned count below k ∙ hits-all count below k)

-- of the first numbers, those that are hit are the numbers below
hits-first : (count below m : ℕ) → m ≤ count → (sum (hits count below 0 m) ≤ m) × (sum (hits count below 0 m) ≤ below)
hits-first count below zero few = (omega arith, omega arith)
hits-first count below (suc m) few =
    let f = hit count below in
    let before = hits-first count below m (omega arith) in
    let e : suc m ≡ m + 1 = omega arith in
    let inside : m % count ≡ m = mod-eq_of_lt few in
    let here : f m ≡ cond (ltb m below) 1 0 = ap (λ (n : ℕ). cond (ltb n below) 1 0) inside in
    let more : sum (hits count below 0 (suc m)) ≡ sum (hits count below 0 m) + cond (ltb m below) 1 0 =
    ap (λ (n : ℕ). sum (hits count below 0 n)) e
    ∙ (sum_by-map-range_with_len_more (λ (n : ℕ). n) f 0 m m (omega arith) ∙ ap (λ (n : ℕ). sum (hits count below 0 m) + n) here) in
    ⊎_elim
    (λ (low : m < below).
    let all : sum (hits count below 0 (suc m)) ≡ sum (hits count below 0 m) + 1 = more ∙ ap (λ (b : Bool). sum (hits count below 0 m) + cond b 1 0) (lt-ltb m below low) in
    (omega (arith, all, before.0), omega (arith, all, before.0, low)))
    (λ (high : below ≤ m).
    let all : sum (hits count below 0 (suc m)) ≡ sum (hits count below 0 m) + 0 = more ∙ ap (λ (b : Bool). sum (hits count below 0 m) + cond b 1 0) (le-ltb m below high) in
    (omega (arith, all, before.0), omega (arith, all, before.1)))
    (cases_lt m below)

ones-are : (count below k : ℕ) → ones_below count below k ≡ hits count below k count
ones-are count below k =
    let e : 0 + k ≡ k = omega arith in
    hits-moved count below k 0 count ∙ ap (λ (first : ℕ). hits count below first count) e

ones-bits : (count below k : ℕ) → All (λ n. n < 2) (ones_below count below k)
ones-bits count below k =
    All-map (λ n. n < 2) (λ j. hit count below (j + k)) (range_with_len 0 count) (λ (i d : ℕ) (inside : i < _). hit-bit count below _)

ones-few : (count below k : ℕ) → weight_of (ones_below count below k) ≤ below
ones-few count below k =
    let all = weight_of-bits (ones_below count below k) (ones-bits count below k) in
    let same : sum (ones_below count below k) ≡ sum (hits count below 0 count) = ap sum (ones-are count below k) ∙ hits-all count below k in
    omega (arith, all, same, (hits-first count below count (omega arith)).1)

-- ---- the measurements

pub measured : (params : Params) (k : ℕ) → Fits params → meas_fault params (measurement params k) ≡ None
measured Count k fits = not_refused Count (k % 2 ∷ []) refl (one-below 2 (k % 2) (omega arith)) refl
measured (Sum max) k fits = not_refused (Sum max) (k % suc max ∷ []) refl (one-below (suc max) (k % suc max) (omega arith)) refl
measured (SumVec count bits chunk) k fits =
    not_refused (SumVec count bits chunk) (residues (2 ^ bits) count k) (length-map-range_with_len (λ j. (k + j) % 2 ^ bits) 0 count)
    (residues-below (2 ^ bits) count k (pow_pos bits)) refl
measured (Histogram count chunk) k fits =
    let some : 0 < count = (fitting (Histogram count chunk) fits).0.0 in
    not_refused (Histogram count chunk) (k % count ∷ []) refl (one-below count (k % count) (omega arith)) refl
measured (Multihot count weight chunk) k fits =
    let ones = ones_below count (k % suc weight) k in
    let few : weight_of ones ≤ weight = omega (arith, ones-few count (k % suc weight) k) in
    not_refused (Multihot count weight chunk) ones (length-map-range_with_len (λ j. hit count (k % suc weight) (j + k)) 0 count)
    (ones-bits count (k % suc weight) k) (rw (le-leb (weight_of ones) weight few) refl)
