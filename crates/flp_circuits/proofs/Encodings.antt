-- Why encodings are valid, and why their outs are vectors.
use Rattle.std.proofs.Common.{ℕ, zero, suc, ◌+◌, ◌-◌, ◌*◌, ◌%◌, ◌^◌, ◌<◌, ◌≤◌, ◌≡◌, leb, List, [], ◌∷◌, ◌++◌, length, map, replicate, All, sum, None, sym, ap, ap₂, subst, ◌∙◌, refl, lit<, arith}
use Rattle.std.specs.List.{flat_map}
use Rattle.std.proofs.lemmas.Bool.{leb-true}
use Rattle.std.proofs.lemmas.List.{append-nil, length-append, length-replicate}
use Rattle.std.proofs.lemmas.List.Elements.{All-nil, All-cons, All-append, All-replicate, All-get_or}
use Rattle.std.proofs.lemmas.List.Sums.{sum_by-cons, sum_by-append}
use Rattle.std.proofs.lemmas.List.Folds.{sum_by-replicate}
use Rattle.std.proofs.Math.Nat.{pow-le-pow_right}
use Rattle.flp_field.specs.Word.{modulus}
use Rattle.flp_field.proofs.Congruence.{Same, same_mul, same_eq, word_mod}
use Rattle.flp_syntax.specs.declared.syntax.Params.{Params}
use Rattle.flp_syntax.specs.declared.syntax.Params.TheVariants.{Count, Sum, SumVec, Histogram, Multihot}
use Rattle.flp_syntax.specs.Scope.{numbers_from}
use Rattle.flp_meaning.specs.Circuit.{outs_of, IsValid}
use Rattle.flp_circuits.specs.Bits.{bit_length, headroom, bits_of}
use Rattle.flp_circuits.specs.Sizes.{Fits, meas_len_of, quotient_up, parameters, counts, first_zero, first_too_large}
use Rattle.flp_circuits.specs.Encoding.{the_number, one_at, vector_of, encoding_of, meas_fault, range_of}
use Rattle.flp_circuits.specs.Standard.{standard_program}
use Rattle.flp_circuits.specs.Formulas.{word, minus, sum_below, bit_check, number_at, range_sum, formula_of}
use Rattle.flp_circuits.proofs.BitLemmas.{bit_length-is, headroom-is, length-bits_of}
use Rattle.flp_circuits.proofs.EncodingLemmas.{IsTaken, taken, cond_none, option_or_none, multihot_light}
use Rattle.flp_circuits.proofs.WordLemmas.{sum_by-on, map-on, sum_by-none, sum_words, map_words, word-left, word-flat_map, word-bit, bits_of-bits, flat_map-bits, number-bits_of, number_at-front, number_at-behind}
use Rattle.flp_circuits.proofs.Directly.{sum_by-same}
use Rattle.flp_circuits.proofs.Programs.{checks_are, outs_are, outs_formula, sum_vec_outs, word_outs}

-- ---- bits make the range checks 0

bit_zero : (w : ℕ) → w < 2 → minus (w * w) w % modulus ≡ 0
bit_zero zero h = refl
bit_zero (suc zero) h = refl
bit_zero (suc (suc w)) h = absurd (omega arith)

product_zero : (w : ℕ) → w < 2 → Same (w * minus w 1) 0
product_zero zero h = refl
product_zero (suc zero) h = refl
product_zero (suc (suc w)) h = absurd (omega arith)

range_zero : (x joint : List ℕ) (calls chunk : ℕ) → ((i : ℕ) → word x i < 2) → range_sum x joint calls chunk % modulus ≡ 0
range_zero x joint calls chunk bits =
    sum_by-same (λ c. sum_below chunk (λ j. word joint c ^ (j + 1) * (word x (c * chunk + j) * minus (word x (c * chunk + j)) 1))) (λ c. 0) (λ c.
    sum_by-same (λ j. word joint c ^ (j + 1) * (word x (c * chunk + j) * minus (word x (c * chunk + j)) 1)) (λ j. 0) (λ j.
    same_mul (word joint c ^ (j + 1)) (word joint c ^ (j + 1)) (word x (c * chunk + j) * minus (word x (c * chunk + j)) 1) 0 refl (product_zero (word x (c * chunk + j)) (bits (c * chunk + j)))
    ∙ (let none : word joint c ^ (j + 1) * 0 ≡ 0 = omega arith in same_eq _ _ none)) (numbers_from 0 chunk)
    ∙ same_eq _ _ (sum_by-none (numbers_from 0 chunk))) (numbers_from 0 calls)
    ∙ same_eq _ _ (sum_by-none (numbers_from 0 calls))

-- a + b balances b + a
balanced : (f a b : ℕ) → b ≡ a + f → minus (f + a) b % modulus ≡ 0
balanced f a b e = rw e (omega arith)

-- ---- the encodings

-- the place of a bucket
one_at-length : (length_ place : ℕ) → place < length_ → length (one_at length_ place) ≡ length_
one_at-length n place h =
    length-append (replicate place 0) (1 ∷ replicate (n - suc place) 0) ∙ ap₂ (λ (a b : ℕ). a + suc b) (length-replicate place 0) (length-replicate (n - suc place) 0) ∙ (let whole : place + suc (n - suc place) ≡ n = omega arith in whole)

one_at-sum : (n place : ℕ) → sum (one_at n place) ≡ 1
one_at-sum n place =
    let front : sum (replicate place 0) ≡ place * 0 = sum_by-replicate (λ (k : ℕ). k) place 0 in
    let back : sum (replicate (n - suc place) 0) ≡ (n - suc place) * 0 = sum_by-replicate (λ (k : ℕ). k) (n - suc place) 0 in
    let one : sum (1 ∷ replicate (n - suc place) 0) ≡ 1 + sum (replicate (n - suc place) 0) = sum_by-cons (λ (k : ℕ). k) 1 (replicate (n - suc place) 0) in
    sum_by-append (λ (k : ℕ). k) (replicate place 0) (1 ∷ replicate (n - suc place) 0) ∙ (let whole : sum (replicate place 0) + sum (1 ∷ replicate (n - suc place) 0) ≡ 1 = omega arith in whole)

one_at-bits : (n place : ℕ) → All (λ n. n < 2) (one_at n place)
one_at-bits n place =
    All-append (λ n. n < 2) (replicate place 0) (1 ∷ replicate (n - suc place) 0) (All-replicate (λ n. n < 2) place 0 (lit< tt))
    (All-cons (λ n. n < 2) 1 (replicate (n - suc place) 0) (lit< tt) (All-replicate (λ n. n < 2) (n - suc place) 0 (lit< tt)))

one_at-total : (n place : ℕ) → place < n → sum_below n (word (one_at n place)) ≡ 1
one_at-total n place h =
    ap (λ (k : ℕ). sum_below k (word (one_at n place))) (sym (one_at-length n place h)) ∙ sum_words (one_at n place) ∙ one_at-sum n place

-- a number of a measurement is in range
number_in_range : (params : Params) (input : List ℕ) → IsTaken params input → 0 < length input → the_number input < range_of params
number_in_range params input h some = All-get_or (λ n. n < range_of params) input 0 0 some h.in_range

-- the raised number has the bits of its bit length
raised : (max n : ℕ) → n ≤ max → n + headroom max < 2 ^ bit_length max
raised max n h = omega (arith, headroom-is max, (bit_length-is max).0)

plain_below : (max n : ℕ) → n ≤ max → n < 2 ^ bit_length max
plain_below max n h = omega (arith, (bit_length-is max).0)

abbrev IsZero : ℕ → Type 0
IsZero value = value ≡ 0

one_zero : (v : ℕ) → v ≡ 0 → All (λ value. value ≡ 0) (v ∷ [])
one_zero v h = All-cons (λ value. value ≡ 0) v [] h (All-nil (λ value. value ≡ 0))

two_zero : (v w : ℕ) → v ≡ 0 → w ≡ 0 → All (λ value. value ≡ 0) (v ∷ w ∷ [])
two_zero v w h k = All-cons (λ value. value ≡ 0) v (w ∷ []) h (one_zero w k)

bits_zero : (x : List ℕ) → ((i : ℕ) → word x i < 2) → (list : List ℕ) → All (λ value. value ≡ 0) (map (bit_check x) list)
bits_zero x bits [] = All-nil (λ value. value ≡ 0)
bits_zero x bits (i ∷ more) = All-cons (λ value. value ≡ 0) (bit_check x i) (map (bit_check x) more) (bit_zero (word x i) (bits i)) (bits_zero x bits more)

pub formulas_zero : (params : Params) (input joint : List ℕ) → IsTaken params input → All (λ value. value ≡ 0) (formula_of params (encoding_of params input) joint)
formulas_zero Count input joint h =
    one_zero _ (bit_zero (the_number input) (number_in_range Count input h (omega (arith, h.count))))
formulas_zero (Sum max) input joint h =
    let n = the_number input in
    let b = bit_length max in
    let within : n ≤ max = omega (arith, number_in_range (Sum max) input h (omega (arith, h.count))) in
    let x = encoding_of (Sum max) input in
    let bits = word-bit x (All-append (λ n. n < 2) (bits_of b n) (bits_of b (n + headroom max)) (bits_of-bits b n) (bits_of-bits b (n + headroom max))) in
    let low : number_at x 0 b ≡ n = number_at-front b n (bits_of b (n + headroom max)) (plain_below max n within) in
    let high : number_at x b b ≡ n + headroom max = number_at-behind (bits_of b n) b b (n + headroom max) (length-bits_of b n) (raised max n within) in
    All-append (λ value. value ≡ 0) (map (bit_check x) (numbers_from 0 (2 * b))) (minus (headroom max + number_at x 0 b) (number_at x b b) % modulus ∷ []) (bits_zero x bits (numbers_from 0 (2 * b)))
    (one_zero _ (balanced (headroom max) (number_at x 0 b) (number_at x b b) (high ∙ ap (λ (k : ℕ). k + headroom max) (sym low))))
formulas_zero (SumVec length bits chunk) input joint h =
    one_zero _ (range_zero (flat_map (bits_of bits) input) joint (quotient_up (length * bits) chunk) chunk (word-bit (flat_map (bits_of bits) input) (flat_map-bits bits input)))
formulas_zero (Histogram buckets chunk) input joint h =
    let place = the_number input in
    let within : place < buckets = number_in_range (Histogram buckets chunk) input h (omega (arith, h.count)) in
    let total : sum_below buckets (word (one_at buckets place)) ≡ 1 = one_at-total buckets place within in
    two_zero _ _ (range_zero (one_at buckets place) joint (quotient_up buckets chunk) chunk (word-bit (one_at buckets place) (one_at-bits buckets place))) (ap (λ (k : ℕ). minus k 1 % modulus) total)
formulas_zero (Multihot count weight chunk) input joint h =
    let b = bit_length weight in
    let raised_sum = sum input + headroom weight in
    let x = input ++ bits_of b raised_sum in
    let light : sum input ≤ weight = multihot_light count weight chunk input h in
    let bits = word-bit x (All-append (λ n. n < 2) input (bits_of b raised_sum) h.in_range (bits_of-bits b raised_sum)) in
    let long : length input ≡ count = h.count in
    let low : sum_below count (word x) ≡ sum input =
    sum_by-on (word x) (word input) 0 count (λ i low high. word-left input (bits_of b raised_sum) i (omega arith)) ∙ ap (λ (k : ℕ). sum_below k (word input)) (sym long) ∙ sum_words input in
    let high : number_at x count b ≡ raised_sum = number_at-behind input count b raised_sum long (raised weight (sum input) light) in
    two_zero _ _ (range_zero x joint (quotient_up (count + b) chunk) chunk bits) (balanced (headroom weight) (sum_below count (word x)) (number_at x count b) (high ∙ ap (λ (k : ℕ). k + headroom weight) (sym low)))

pub encodings_are_valid : (params : Params) (input joint : List ℕ) → meas_fault params input ≡ None → IsValid (standard_program params) (encoding_of params input) joint
encodings_are_valid params input joint judged =
    subst (All (λ value. value ≡ 0)) (sym (checks_are params (encoding_of params input) joint)) (formulas_zero params input joint (taken params input judged))

-- ---- outs

sum_fits : (max : ℕ) → Fits (Sum max) → max < 2 ^ 63
sum_fits max h =
    let parts = option_or_none (first_zero (parameters (Sum max))) (first_too_large (parameters (Sum max) ++ counts (Sum max))) h in
    let most = cond_none (leb max 9223372036854775807) None _ parts.1 in
    omega (arith, leb-true max 9223372036854775807 most.0)

sum_vec_fits : (length bits chunk : ℕ) → Fits (SumVec length bits chunk) → bits ≤ 63
sum_vec_fits length bits chunk h =
    let parts = option_or_none (first_zero (parameters (SumVec length bits chunk))) (first_too_large (parameters (SumVec length bits chunk) ++ counts (SumVec length bits chunk))) h in
    let first = cond_none (leb length 65536) _ _ parts.1 in
    let second = cond_none (leb bits 63) _ _ first.1 in
    leb-true bits 63 second.0

below_word : (n bits : ℕ) → n < 2 ^ bits → bits ≤ 63 → n % modulus ≡ n
below_word n bits h k =
    let top : 2 ^ bits ≤ 2 ^ 63 = pow-le-pow_right {n = 2} (lit< tt) k in
    word_mod n (omega arith)

bit_word : (n : ℕ) → n < 2 → n % modulus ≡ n
bit_word n h = word_mod n (omega arith)

word_outs-bits : (x : List ℕ) → ((i : ℕ) → word x i < 2) → (count : ℕ) (xs ys : List ℕ) → x ≡ xs ++ ys → length xs ≡ count → word_outs count x ≡ xs
unfolding word_outs
word_outs-bits x bits count xs ys e long =
    map-on (λ i. word x i % modulus) (word xs) 0 count (λ i low high. bit_word (word x i) (bits i) ∙ ap (λ (list : List ℕ). word list i) e ∙ word-left xs ys i (omega arith))
    ∙ ap (λ (k : ℕ). map (word xs) (numbers_from 0 k)) (sym long) ∙ map_words xs

pub formulas_outs : (params : Params) (input : List ℕ) → Fits params → IsTaken params input → outs_formula params (encoding_of params input) ≡ vector_of params input
unfolding outs_formula sum_vec_outs
formulas_outs Count input fits h = ap (λ (v : ℕ). v ∷ []) (bit_word (the_number input) (number_in_range Count input h (omega (arith, h.count))))
formulas_outs (Sum max) input fits h =
    let n = the_number input in
    let b = bit_length max in
    let within : n ≤ max = omega (arith, number_in_range (Sum max) input h (omega (arith, h.count))) in
    let low : number_at (encoding_of (Sum max) input) 0 b ≡ n = number_at-front b n (bits_of b (n + headroom max)) (plain_below max n within) in
    ap (λ (v : ℕ). v % modulus ∷ []) low ∙ ap (λ (v : ℕ). v ∷ []) (word_mod n (omega (arith, sum_fits max fits)))
formulas_outs (SumVec count bits chunk) input fits h =
    let x = flat_map (bits_of bits) input in
    let long : length input ≡ count = h.count in
    map-on (λ i. sum_below bits (λ j. 2 ^ j * word x (i * bits + j)) % modulus) (word input) 0 count (λ i low high.
    let in_range : word input i < 2 ^ bits = All-get_or (λ n. n < 2 ^ bits) input i 0 (omega arith) h.in_range in
    ap (λ (v : ℕ). v % modulus)
    (sum_by-on (λ j. 2 ^ j * word x (i * bits + j)) (λ j. 2 ^ j * word (bits_of bits (word input i)) j) 0 bits (λ j least most.
    ap (λ (w : ℕ). 2 ^ j * w) (word-flat_map (bits_of bits) bits (length-bits_of bits) input i j (omega arith) (omega arith)))
    ∙ number-bits_of bits (word input i) in_range)
    ∙ below_word (word input i) bits in_range (sum_vec_fits count bits chunk fits))
    ∙ ap (λ (k : ℕ). map (word input) (numbers_from 0 k)) (sym long) ∙ map_words input
formulas_outs (Histogram buckets chunk) input fits h =
    let place = the_number input in
    let within : place < buckets = number_in_range (Histogram buckets chunk) input h (omega (arith, h.count)) in
    word_outs-bits (one_at buckets place) (word-bit (one_at buckets place) (one_at-bits buckets place)) buckets (one_at buckets place) [] (sym (append-nil (one_at buckets place))) (one_at-length buckets place within)
formulas_outs (Multihot count weight chunk) input fits h =
    let b = bit_length weight in
    let raised_sum = sum input + headroom weight in
    let x = input ++ bits_of b raised_sum in
    word_outs-bits x (word-bit x (All-append (λ n. n < 2) input (bits_of b raised_sum) h.in_range (bits_of-bits b raised_sum))) count input (bits_of b raised_sum) refl h.count

pub outs_are_vectors : (params : Params) (input : List ℕ) → Fits params → meas_fault params input ≡ None → outs_of (standard_program params) (encoding_of params input) ≡ vector_of params input
outs_are_vectors params input fits judged = outs_are params (encoding_of params input) ∙ formulas_outs params input fits (taken params input judged)

-- ---- lengths

length-flat_map : (bits : ℕ) (xs : List ℕ) → length (flat_map (bits_of bits) xs) ≡ length xs * bits
length-flat_map bits [] = (let none : 0 ≡ 0 * bits = omega arith in none)
length-flat_map bits (x ∷ xs) =
    length-append (bits_of bits x) (flat_map (bits_of bits) xs) ∙ ap₂ (λ (a b : ℕ). a + b) (length-bits_of bits x) (length-flat_map bits xs) ∙ (let whole : bits + length xs * bits ≡ suc (length xs) * bits = omega arith in whole)

lengths_taken : (params : Params) (input : List ℕ) → IsTaken params input → length (encoding_of params input) ≡ meas_len_of params
lengths_taken Count input h = refl
lengths_taken (Sum max) input h =
    let b = bit_length max in
    length-append (bits_of b (the_number input)) (bits_of b (the_number input + headroom max)) ∙ ap₂ (λ (m n : ℕ). m + n) (length-bits_of b (the_number input)) (length-bits_of b (the_number input + headroom max)) ∙ (let whole : b + b ≡ 2 * b = omega arith in whole)
lengths_taken (SumVec count bits chunk) input h = length-flat_map bits input ∙ ap (λ (k : ℕ). k * bits) h.count
lengths_taken (Histogram buckets chunk) input h = one_at-length buckets (the_number input) (number_in_range (Histogram buckets chunk) input h (omega (arith, h.count)))
lengths_taken (Multihot count weight chunk) input h =
    length-append input (bits_of (bit_length weight) (sum input + headroom weight)) ∙ ap₂ (λ (m n : ℕ). m + n) h.count (length-bits_of (bit_length weight) (sum input + headroom weight))

pub encodings_have_length : (params : Params) (input : List ℕ) → meas_fault params input ≡ None → length (encoding_of params input) ≡ meas_len_of params
encodings_have_length params input judged = lengths_taken params input (taken params input judged)
