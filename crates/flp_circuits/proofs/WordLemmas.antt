-- Words of lists, and sums over them.
use Rattle.std.proofs.Common.{ℕ, zero, suc, ◌+◌, ◌-◌, ◌*◌, ◌/◌, ◌%◌, ◌^◌, ◌<◌, ◌≤◌, ◌≡◌, List, [], ◌∷◌, ◌++◌, length, map, All, sum, sym, ap, ap₂, ◌∙◌, refl, ⊎_elim, mul_assoc, arith}
use Rattle.std.specs.List.{sum_by, flat_map}
use Rattle.std.proofs.lemmas.Bool.{cases_lt}
use Rattle.std.proofs.lemmas.List.{get_or_append_left, get_or-append_right, get_or_past}
use Rattle.std.proofs.lemmas.List.Elements.{All-nil, All-cons, All-append, All-get_or}
use Rattle.std.proofs.lemmas.List.Sums.{sum_by-cons}
use Rattle.flp_syntax.specs.Scope.{numbers_from}
use Rattle.flp_circuits.specs.Bits.{bits_of}
use Rattle.flp_circuits.specs.Formulas.{word, sum_below, number_at}
use Rattle.flp_circuits.proofs.BitLemmas.{two_pow, length-bits_of}

-- ---- functions of the numbers of a range

pub sum_by-on : (f g : ℕ → ℕ) (start count : ℕ) → ((i : ℕ) → start ≤ i → i < start + count → f i ≡ g i) → sum_by f (numbers_from start count) ≡ sum_by g (numbers_from start count)
sum_by-on f g start zero same = refl
sum_by-on f g start (suc count) same =
    sum_by-cons f start (numbers_from (suc start) count)
    ∙ ap₂ (λ (a b : ℕ). a + b) (same start (omega arith) (omega arith)) (sum_by-on f g (suc start) count (λ i low high. same i (omega arith) (omega arith)))
    ∙ sym (sum_by-cons g start (numbers_from (suc start) count))

pub map-on : (f g : ℕ → ℕ) (start count : ℕ) → ((i : ℕ) → start ≤ i → i < start + count → f i ≡ g i) → map f (numbers_from start count) ≡ map g (numbers_from start count)
map-on f g start zero same = refl
map-on f g start (suc count) same =
    ap₂ (λ (a : ℕ) (b : List ℕ). a ∷ b) (same start (omega arith) (omega arith)) (map-on f g (suc start) count (λ i low high. same i (omega arith) (omega arith)))

pub sum_by-suc : (f : ℕ → ℕ) (start count : ℕ) → sum_by f (numbers_from (suc start) count) ≡ sum_by (λ i. f (suc i)) (numbers_from start count)
sum_by-suc f start zero = refl
sum_by-suc f start (suc count) =
    sum_by-cons f (suc start) (numbers_from (suc (suc start)) count) ∙ ap (λ (x : ℕ). f (suc start) + x) (sum_by-suc f (suc start) count)
    ∙ sym (sum_by-cons (λ (i : ℕ). f (suc i)) start (numbers_from (suc start) count))

pub map-suc : (f : ℕ → ℕ) (start count : ℕ) → map f (numbers_from (suc start) count) ≡ map (λ i. f (suc i)) (numbers_from start count)
map-suc f start zero = refl
map-suc f start (suc count) = ap (λ (more : List ℕ). f (suc start) ∷ more) (map-suc f (suc start) count)

-- the first summand apart
pub sum_below-suc : (f : ℕ → ℕ) (count : ℕ) → sum_below (suc count) f ≡ f 0 + sum_below count (λ i. f (suc i))
sum_below-suc f count = sum_by-cons f 0 (numbers_from 1 count) ∙ ap (λ (x : ℕ). f 0 + x) (sum_by-suc f 0 count)

pub sum_by-double : (f : ℕ → ℕ) (list : List ℕ) → sum_by (λ i. 2 * f i) list ≡ 2 * sum_by f list
sum_by-double f [] = refl
sum_by-double f (i ∷ more) =
    let first : sum_by (λ i. 2 * f i) (i ∷ more) ≡ 2 * f i + sum_by (λ i. 2 * f i) more = sum_by-cons (λ (i : ℕ). 2 * f i) i more in
    let rest : sum_by (λ i. 2 * f i) more ≡ 2 * sum_by f more = sum_by-double f more in
    let whole : sum_by f (i ∷ more) ≡ f i + sum_by f more = sum_by-cons f i more in
    omega arith

pub sum_by-none : (list : List ℕ) → sum_by (λ i. 0) list ≡ 0
sum_by-none [] = refl
sum_by-none (i ∷ more) = sum_by-cons (λ (i : ℕ). 0) i more ∙ (let same : 0 + sum_by (λ (i : ℕ). 0) more ≡ sum_by (λ (i : ℕ). 0) more = omega arith in same) ∙ sum_by-none more

-- ---- the words of a list

pub sum_words : (xs : List ℕ) → sum_below (length xs) (word xs) ≡ sum xs
sum_words [] = refl
sum_words (x ∷ xs) =
    sum_below-suc (word (x ∷ xs)) (length xs) ∙ ap (λ (k : ℕ). x + k) (sum_words xs) ∙ sym (sum_by-cons (λ (n : ℕ). n) x xs)

pub map_words : (xs : List ℕ) → map (word xs) (numbers_from 0 (length xs)) ≡ xs
map_words [] = refl
map_words (x ∷ xs) = ap (λ (more : List ℕ). x ∷ more) (map-suc (word (x ∷ xs)) 0 (length xs) ∙ map_words xs)

pub word-left : (xs ys : List ℕ) (i : ℕ) → i < length xs → word (xs ++ ys) i ≡ word xs i
word-left xs ys i h = get_or_append_left xs ys 0 i h

pub word-right : (xs ys : List ℕ) (n i : ℕ) → length xs ≡ n → word (xs ++ ys) (n + i) ≡ word ys i
word-right xs ys n i h =
    let back : n + i - n ≡ i = omega arith in
    get_or-append_right xs ys n (n + i) 0 h (omega arith) ∙ ap (word ys) back

-- a word of lists of one length, joined
pub word-flat_map : (f : ℕ → List ℕ) (b : ℕ) → ((n : ℕ) → length (f n) ≡ b) → (xs : List ℕ) (i j : ℕ) → i < length xs → j < b → word (flat_map f xs) (i * b + j) ≡ word (f (word xs i)) j
word-flat_map f b long [] i j h k = absurd (omega arith)
word-flat_map f b long (x ∷ xs) zero j h k =
    let here : 0 * b + j ≡ j = omega arith in
    ap (word (flat_map f (x ∷ xs))) here ∙ word-left (f x) (flat_map f xs) j (omega (arith, long x))
word-flat_map f b long (x ∷ xs) (suc i) j h k =
    let there : suc i * b + j ≡ b + (i * b + j) = omega arith in
    ap (word (flat_map f (x ∷ xs))) there ∙ word-right (f x) (flat_map f xs) b (i * b + j) (long x) ∙ word-flat_map f b long xs i j (omega arith) k

-- ---- bits

-- every word of a list is below 2, those past its end too
pub word-bit : (xs : List ℕ) → All (λ n. n < 2) xs → (i : ℕ) → word xs i < 2
word-bit xs bits i =
    ⊎_elim (λ (h : i < length xs). All-get_or (λ n. n < 2) xs i 0 h bits) (λ (h : length xs ≤ i). omega (arith, get_or_past xs i 0 h)) (cases_lt i (length xs))

pub bits_of-bits : (count n : ℕ) → All (λ n. n < 2) (bits_of count n)
bits_of-bits zero n = All-nil (λ n. n < 2)
bits_of-bits (suc count) n = All-cons (λ n. n < 2) (n % 2) (bits_of count (n / 2)) (omega arith) (bits_of-bits count (n / 2))

pub flat_map-bits : (count : ℕ) (xs : List ℕ) → All (λ n. n < 2) (flat_map (bits_of count) xs)
flat_map-bits count [] = All-nil (λ n. n < 2)
flat_map-bits count (x ∷ xs) = All-append (λ n. n < 2) (bits_of count x) (flat_map (bits_of count) xs) (bits_of-bits count x) (flat_map-bits count xs)

-- the number that bits make is the number whose bits they are
pub number-bits_of : (count n : ℕ) → n < 2 ^ count → sum_below count (λ i. 2 ^ i * word (bits_of count n) i) ≡ n
number-bits_of zero n h = let none : n ≡ 0 = omega arith in sym none
number-bits_of (suc count) n h =
    let half : n / 2 < 2 ^ count = (let d : n < 2 * 2 ^ count = rw two_pow at h in omega arith) in
    let rest : sum_below count (λ i. 2 ^ i * word (bits_of count (n / 2)) i) ≡ n / 2 = number-bits_of count (n / 2) half in
    let shifted : sum_below count (λ i. 2 ^ suc i * word (bits_of count (n / 2)) i) ≡ sum_below count (λ i. 2 * (2 ^ i * word (bits_of count (n / 2)) i)) =
    sum_by-on (λ i. 2 ^ suc i * word (bits_of count (n / 2)) i) (λ i. 2 * (2 ^ i * word (bits_of count (n / 2)) i)) 0 count (λ i low high. ap (λ (k : ℕ). k * word (bits_of count (n / 2)) i) (two_pow i) ∙ mul_assoc 2 (2 ^ i) (word (bits_of count (n / 2)) i)) in
    let doubled : sum_below count (λ i. 2 * (2 ^ i * word (bits_of count (n / 2)) i)) ≡ 2 * sum_below count (λ i. 2 ^ i * word (bits_of count (n / 2)) i) = sum_by-double (λ i. 2 ^ i * word (bits_of count (n / 2)) i) (numbers_from 0 count) in
    let first : sum_below (suc count) (λ i. 2 ^ i * word (bits_of (suc count) n) i) ≡ 1 * (n % 2) + sum_below count (λ i. 2 ^ suc i * word (bits_of count (n / 2)) i) = sum_below-suc (λ i. 2 ^ i * word (bits_of (suc count) n) i) count in
    first ∙ ap (λ (k : ℕ). 1 * (n % 2) + k) (shifted ∙ doubled ∙ ap (λ (k : ℕ). 2 * k) rest) ∙ (let whole : 1 * (n % 2) + 2 * (n / 2) ≡ n = omega arith in whole)

-- the number at the front of a list, and behind a front
pub number_at-front : (count n : ℕ) (ys : List ℕ) → n < 2 ^ count → number_at (bits_of count n ++ ys) 0 count ≡ n
number_at-front count n ys h =
    sum_by-on (λ i. 2 ^ i * word (bits_of count n ++ ys) (0 + i)) (λ i. 2 ^ i * word (bits_of count n) i) 0 count (λ i low high.
    let here : 0 + i ≡ i = omega arith in
    let long = length-bits_of count n in
    ap (λ (k : ℕ). 2 ^ i * word (bits_of count n ++ ys) k) here ∙ ap (λ (w : ℕ). 2 ^ i * w) (word-left (bits_of count n) ys i (omega arith)))
    ∙ number-bits_of count n h

pub number_at-behind : (xs : List ℕ) (start count n : ℕ) → length xs ≡ start → n < 2 ^ count → number_at (xs ++ bits_of count n) start count ≡ n
number_at-behind xs start count n long h =
    sum_by-on (λ i. 2 ^ i * word (xs ++ bits_of count n) (start + i)) (λ i. 2 ^ i * word (bits_of count n) i) 0 count (λ i low high.
    ap (λ (w : ℕ). 2 ^ i * w) (word-right xs (bits_of count n) start i long))
    ∙ number-bits_of count n h
