-- Which words pass the checks that no joint word enters.
use Rattle.std.proofs.Common.{ℕ, suc, ◌+◌, ◌-◌, ◌*◌, ◌/◌, ◌%◌, ◌^◌, ◌<◌, ◌≤◌, ◌≡◌, ◌↔◌, IsTrue, lit<, Bool, true, false, cond, eqb, ltb, Option, None, Some, IsNone, is_some, List, [], ◌∷◌, ◌++◌, length, take, drop, map, sum, position, sym, subst, ap, ap₂, ◌∙◌, refl, length-drop, ⊎_elim, arith}
use Rattle.std.specs.Option.{option_map, option_and_then}
use Rattle.std.proofs.Math.Nat.{pow-le-pow_right, pow-succ'}
use Rattle.std.proofs.lemmas.Bool.{eqb-true, eq-eqb, cases_lt, false≢true}
use Rattle.std.proofs.lemmas.List.{length-take-le, take-append-drop}
use Rattle.std.proofs.lemmas.List.Elements.{All-nil, All-cons, All-head, All-tail, All-take, All-drop}
use Rattle.flp_field.specs.Word.{modulus, AreWords, word_sum}
use Rattle.flp_poly.specs.Polynomial.{value_at}
use Rattle.flp_syntax.specs.declared.syntax.Params.{Params}
use Rattle.flp_syntax.specs.declared.syntax.Params.TheVariants.{Count, Sum, SumVec, Histogram, Multihot}
use Rattle.flp_syntax.specs.Scope.{numbers_from}
use Rattle.flp_circuits.specs.Bits.{bit_length, headroom, bits_of}
use Rattle.flp_circuits.specs.Laws.{BitLengthsAreLeast}
use Rattle.flp_circuits.specs.Sizes.{Fits, meas_len_of}
use Rattle.flp_circuits.specs.Encoding.{weight_of}
use Rattle.flp_circuits.specs.Formulas.{word, minus, sum_below, bit_check, number_at, formula_of}
use Rattle.flp_circuits.proofs.EncodingLemmas.{taken, weight_of-bits}
use Rattle.flp_circuits.proofs.Encodings.{formulas_zero}
use Rattle.flp_circuits.proofs.Fitting.{fitting, bit_length-some}
use Rattle.flp_circuits.proofs.WordLemmas.{sum_words, number_at-front, number_at-behind}
use Rattle.flp_joint.specs.Decoding.{AreBits, IsEncoding}
use Rattle.flp_joint.specs.declared.caught.Caught.{Caught}
use Rattle.flp_joint.specs.declared.caught.Caught.TheVariants.{Never, Word}
use Rattle.flp_joint.specs.Caught.{are_zero, chunk_of, range_checks, fixed_checks, least_call, caught_in}
use Rattle.flp_joint.proofs.BitLemmas.{number_in, length_limit, headroom_is, headroom_small, two_limit}
use Rattle.flp_joint.proofs.PlaceLemmas.{weight-le-length}
use Rattle.flp_joint.proofs.EncodingLemmas.{encoding-bits, count_is, sum_iff, sum_vec_is, histogram_iff, multihot_iff, sum_limit, weight_limit}
use Rattle.flp_joint.proofs.CheckLemmas.{AllZero, all_zero, zero_all, tests_same, balance, balanced, bit_from_check, bits_of_words, zero_each, bits_from_none, none_from_bits, sum_front, number_behind}

-- ---- an encoding passes

pub fixed_from_encoding : (params : Params) (x : List ℕ) → IsEncoding params x → AllZero (fixed_checks params x)
fixed_from_encoding params x (input, e) =
    All-drop (λ value. value ≡ 0) (range_checks params) (formula_of params x [])
    (subst (λ (l : List ℕ). AllZero (formula_of params l [])) e.words (formulas_zero params input [] (taken params input e.taken)))

-- ---- bits that pass are an encoding

-- the headroom of a number but 0 is below half of the power of its bit length
headroom_half : BitLengthsAreLeast → (n : ℕ) → 0 < n → n < 2 ^ 63 → headroom n < 2 ^ 62
headroom_half lengths n some limit =
    let b = bit_length n in
    let few : bit_length n ≤ 63 = length_limit lengths n limit in
    let one : 1 ≤ bit_length n = bit_length-some n some in
    let next : bit_length n ≡ suc (bit_length n - 1) = omega arith in
    let power : 2 ^ bit_length n ≡ 2 * 2 ^ (bit_length n - 1) = ap (λ (k : ℕ). 2 ^ k) next ∙ pow-succ' 2 (bit_length n - 1) in
    let top : 2 ^ (bit_length n - 1) ≤ 2 ^ 62 = pow-le-pow_right {n = 2} (lit< tt) (let c : bit_length n - 1 ≤ 62 = omega arith in c) in
    ⊎_elim
    (λ (lt : n < 2 ^ (bit_length n - 1)). absurd (let small : bit_length n ≤ bit_length n - 1 = (lengths n).1 (bit_length n - 1) lt in omega arith))
    (λ (ge : 2 ^ (bit_length n - 1) ≤ n). omega (arith, headroom_is lengths n))
    (cases_lt n (2 ^ (bit_length n - 1)))

-- bits of which so many stand in front, and what number the others are
record Split (x : List ℕ) (front count : ℕ) : Type 0 where
  number : ℕ
  below : number < 2 ^ count
  front_size : length (take front x) ≡ front
  back_size : length (drop front x) ≡ count
  is : bits_of count number ≡ drop front x

split : (x : List ℕ) (front count : ℕ) → AreBits x → length x ≡ front + count → Split x front count
split x front count all long =
    let back : length (drop front x) ≡ count = length-drop front x ∙ (let left : length x - front ≡ count = omega arith in left) in
    let made = number_in (drop front x) (All-drop (λ n. n < 2) front x all) in
    record {
      number = made.0;
      below = subst (λ (k : ℕ). made.0 < 2 ^ k) back made.1;
      front_size = length-take-le front x (omega arith);
      back_size = back;
      is = ap (λ (k : ℕ). bits_of k made.0) (sym back) ∙ made.2;
    }

number_at_back : (x : List ℕ) (front count : ℕ) (s : Split x front count) → number_at x front count ≡ s.number
number_at_back x front count s =
    ap (λ (l : List ℕ). number_at l front count) (sym (ap (λ (l : List ℕ). take front x ++ l) s.is ∙ take-append-drop front x))
    ∙ number_at-behind (take front x) front count s.number s.front_size s.below

sum_from_fixed : BitLengthsAreLeast → (max : ℕ) (x : List ℕ) → 0 < max → max < 2 ^ 63 → length x ≡ 2 * bit_length max → AreBits x → minus (headroom max + number_at x 0 (bit_length max)) (number_at x (bit_length max) (bit_length max)) % modulus ≡ 0 → IsEncoding (Sum max) x
sum_from_fixed lengths max x some limit long all e =
    let b = bit_length max in
    let s = split x b b all (omega arith) in
    let first = number_in (take b x) (All-take (λ n. n < 2) b x all) in
    let n_below : first.0 < 2 ^ b = subst (λ (k : ℕ). first.0 < 2 ^ k) s.front_size first.1 in
    let n_is : bits_of b first.0 ≡ take b x = ap (λ (k : ℕ). bits_of k first.0) (sym s.front_size) ∙ first.2 in
    let n_at : number_at x 0 b ≡ first.0 =
    ap (λ (l : List ℕ). number_at l 0 b) (sym (ap (λ (l : List ℕ). l ++ drop b x) n_is ∙ take-append-drop b x)) ∙ number_at-front b first.0 (drop b x) n_below in
    let same : (headroom max + first.0) % modulus ≡ s.number % modulus =
    ap (λ (k : ℕ). (headroom max + k) % modulus) (sym n_at) ∙ balance (headroom max + number_at x 0 b) (number_at x b b) e ∙ ap (λ (k : ℕ). k % modulus) (number_at_back x b b s) in
    let few : b ≤ 63 = length_limit lengths max limit in
    let equal : first.0 + headroom max ≡ s.number =
    omega (arith, same, headroom_half lengths max some limit, two_limit first.0 b few n_below, two_limit s.number b few s.below) in
    subst (IsEncoding (Sum max)) (take-append-drop b x)
    ((sum_iff lengths max (take b x) (drop b x) first.0 s.number s.front_size s.back_size n_below n_is s.below s.is).0 equal)

multihot_from_fixed : BitLengthsAreLeast → (count weight chunk : ℕ) (x : List ℕ) → count ≤ 65536 → weight ≤ 65536 → length x ≡ count + bit_length weight → AreBits x → minus (headroom weight + sum_below count (word x)) (number_at x count (bit_length weight)) % modulus ≡ 0 → IsEncoding (Multihot count weight chunk) x
multihot_from_fixed lengths count weight chunk x few light long all e =
    let b = bit_length weight in
    let s = split x count b all long in
    let bits : AreBits (take count x) = All-take (λ n. n < 2) count x all in
    let total : sum_below count (word x) ≡ weight_of (take count x) =
    ap (λ (l : List ℕ). sum_below count (word l)) (sym (take-append-drop count x)) ∙ sum_front (take count x) (drop count x) count s.front_size ∙ sym (weight_of-bits (take count x) bits) in
    let same : (headroom weight + weight_of (take count x)) % modulus ≡ s.number % modulus =
    ap (λ (k : ℕ). (headroom weight + k) % modulus) (sym total) ∙ balance (headroom weight + sum_below count (word x)) (number_at x count b) e ∙ ap (λ (k : ℕ). k % modulus) (number_at_back x count b s) in
    let limit : weight < 2 ^ 63 = omega arith in
    let equal : weight_of (take count x) + headroom weight ≡ s.number =
    omega (arith, same, headroom_small lengths weight limit, weight-le-length (take count x), s.front_size, two_limit s.number b (length_limit lengths weight limit) s.below) in
    subst (IsEncoding (Multihot count weight chunk)) (take-append-drop count x)
    ((multihot_iff lengths count weight chunk (take count x) (drop count x) s.number s.front_size bits s.below s.is).0 equal)

histogram_from_fixed : (count chunk : ℕ) (x : List ℕ) → count ≤ 65536 → length x ≡ count → AreBits x → minus (sum_below count (word x)) 1 % modulus ≡ 0 → IsEncoding (Histogram count chunk) x
histogram_from_fixed count chunk x few long all e =
    let total : sum_below count (word x) ≡ weight_of x = ap (λ (k : ℕ). sum_below k (word x)) (sym long) ∙ sum_words x ∙ sym (weight_of-bits x all) in
    let same : weight_of x % modulus ≡ 1 % modulus = ap (λ (k : ℕ). k % modulus) (sym total) ∙ balance (sum_below count (word x)) 1 e in
    let one : weight_of x ≡ 1 = omega (arith, same, weight-le-length x) in
    (histogram_iff count chunk x long all).0 one

one_check : (v : ℕ) → AllZero (v ∷ []) → v ≡ 0
one_check v h = All-head (λ value. value ≡ 0) v [] h

-- the last of several checks
last_check : (xs : List ℕ) (v : ℕ) → AllZero (xs ++ v ∷ []) → v ≡ 0
last_check [] v h = one_check v h
last_check (w ∷ xs) v h = last_check xs v (All-tail (λ value. value ≡ 0) w (xs ++ v ∷ []) h)

pub encoding_from_fixed : BitLengthsAreLeast → (params : Params) (x : List ℕ) → Fits params → length x ≡ meas_len_of params → AreBits x → AllZero (fixed_checks params x) → IsEncoding params x
encoding_from_fixed lengths Count x fits long all h = count_is x long all
encoding_from_fixed lengths (Sum max) x fits long all h =
    let some : 0 < max = (fitting (Sum max) fits).0.0 in
    sum_from_fixed lengths max x some (sum_limit max fits) long all
    (last_check (map (bit_check x) (numbers_from 0 (2 * bit_length max))) (minus (headroom max + number_at x 0 (bit_length max)) (number_at x (bit_length max) (bit_length max)) % modulus) h)
encoding_from_fixed lengths (SumVec count bits chunk) x fits long all h = sum_vec_is count bits chunk x long all
encoding_from_fixed lengths (Histogram count chunk) x fits long all h =
    let few : count ≤ 65536 = (fitting (Histogram count chunk) fits).1.0 in
    histogram_from_fixed count chunk x few long all (one_check (minus (sum_below count (word x)) 1 % modulus) h)
encoding_from_fixed lengths (Multihot count weight chunk) x fits long all h =
    let limit = weight_limit count weight chunk fits in
    multihot_from_fixed lengths count weight chunk x limit.0 limit.1 long all
    (one_check (minus (headroom weight + sum_below count (word x)) (number_at x count (bit_length weight)) % modulus) h)

-- ---- the words of a count and of a sum that pass are bits

bits_from_checks : (x : List ℕ) (count : ℕ) → length x ≡ count → AreWords x → AllZero (map (bit_check x) (numbers_from 0 count)) → AreBits x
bits_from_checks x count long words h =
    bits_of_words x (λ i low. bit_from_check (word x i) (words i 0 low) (zero_each (bit_check x) 0 count h i (omega arith) (omega arith)))

front_checks : (xs : List ℕ) (v : ℕ) → AllZero (xs ++ v ∷ []) → AllZero xs
front_checks [] v h = All-nil (λ value. value ≡ 0)
front_checks (w ∷ xs) v h =
    All-cons (λ value. value ≡ 0) w xs (All-head (λ value. value ≡ 0) w (xs ++ v ∷ []) h) (front_checks xs v (All-tail (λ value. value ≡ 0) w (xs ++ v ∷ []) h))

pub count_bits : (x : List ℕ) → length x ≡ 1 → AreWords x → AllZero (fixed_checks Count x) → AreBits x
count_bits x long words h = bits_from_checks x 1 long words h

pub sum_bits : (max : ℕ) (x : List ℕ) → length x ≡ 2 * bit_length max → AreWords x → AllZero (fixed_checks (Sum max) x) → AreBits x
sum_bits max x long words h =
    bits_from_checks x (2 * bit_length max) long words
    (front_checks (map (bit_check x) (numbers_from 0 (2 * bit_length max))) (minus (headroom max + number_at x 0 (bit_length max)) (number_at x (bit_length max) (bit_length max)) % modulus) h)

-- ---- what joint words tell

map_none : (f : ℕ → Caught) (o : Option ℕ) → option_map f o ≡ None → o ≡ None
map_none f None e = refl
map_none f (Some place) e = cc

either_none : (b : Bool) (o : Option Caught) (c : Caught) → cond b o (Some c) ≡ None → (b ≡ true) × (o ≡ None)
either_none true o c e = (refl, e)
either_none false o c e = cc

bits_from_call : (chunk : ℕ) (x : List ℕ) → least_call chunk x ≡ None → AreBits x
bits_from_call chunk x e = bits_from_none x (map_none (λ place. Word (place / chunk) chunk) (position (λ w. ltb 1 w) x) e)

bits_caught : (params : Params) (x : List ℕ) → length x ≡ meas_len_of params → AreWords x → AllZero (fixed_checks params x) → option_and_then (λ chunk. least_call chunk x) (chunk_of params) ≡ None → AreBits x
bits_caught Count x long words h e = count_bits x long words h
bits_caught (Sum max) x long words h e = sum_bits max x long words h
bits_caught (SumVec count bits chunk) x long words h e = bits_from_call chunk x e
bits_caught (Histogram count chunk) x long words h e = bits_from_call chunk x e
bits_caught (Multihot count weight chunk) x long words h e = bits_from_call chunk x e

no_call : (params : Params) (x : List ℕ) → AreBits x → option_and_then (λ chunk. least_call chunk x) (chunk_of params) ≡ None
no_call params x all = by_chunk (chunk_of params)
  where
    by_chunk : (o : Option ℕ) → option_and_then (λ chunk. least_call chunk x) o ≡ None
    by_chunk None = refl
    by_chunk (Some chunk) = ap (option_map (λ place. Word (place / chunk) chunk)) (none_from_bits x all)

-- nothing is caught exactly where the words are an encoding
pub none_iff : BitLengthsAreLeast → (params : Params) (x : List ℕ) → Fits params → length x ≡ meas_len_of params → AreWords x → (caught_in params x ≡ None) ↔ IsEncoding params x
none_iff lengths params x fits long words = (
  λ (e : caught_in params x ≡ None).
      let parts = either_none (are_zero (fixed_checks params x)) (option_and_then (λ chunk. least_call chunk x) (chunk_of params)) Never e in
      let zero = all_zero (fixed_checks params x) parts.0 in
      encoding_from_fixed lengths params x fits long (bits_caught params x long words zero parts.1) zero,
  λ (whole : IsEncoding params x).
      ap (λ (b : Bool). cond b (option_and_then (λ chunk. least_call chunk x) (chunk_of params)) (Some Never)) (zero_all (fixed_checks params x) (fixed_from_encoding params x whole))
      ∙ no_call params x (encoding-bits params x whole),
)

pub none_test : BitLengthsAreLeast → (params : Params) (x : List ℕ) → Fits params → length x ≡ meas_len_of params → AreWords x → IsNone (caught_in params x) ↔ IsEncoding params x
none_test lengths params x fits long words =
    let iff = none_iff lengths params x fits long words in
    (λ (h : IsNone (caught_in params x)). iff.0 (none_of (caught_in params x) h), λ (whole : IsEncoding params x). ap is_some (iff.1 whole))
  where
    none_of : (o : Option Caught) → IsNone o → o ≡ None
    none_of None h = refl
    none_of (Some c) h = absurd (false≢true (sym h))

-- ---- tests

same_test : (v a b : ℕ) → (a ≡ b → v ≡ 0) → (v ≡ 0 → a ≡ b) → eqb a b ≡ are_zero (v ∷ [])
same_test v a b to from = tests_same (a ≡ b) (eqb a b) (are_zero (v ∷ [])) (eqb-true a b, eq-eqb a b) (λ h. from (one_check v (all_zero (v ∷ []) h))) (λ e. zero_all (v ∷ []) (All-cons (λ value. value ≡ 0) v [] (to e) (All-nil (λ value. value ≡ 0))))

-- the test of a histogram's sum
pub histogram_total : (count chunk : ℕ) (x : List ℕ) → length x ≡ count → eqb (sum x % modulus) 1 ≡ are_zero (fixed_checks (Histogram count chunk) x)
histogram_total count chunk x long =
    let total : sum_below count (word x) ≡ sum x = ap (λ (k : ℕ). sum_below k (word x)) (sym long) ∙ sum_words x in
    same_test (minus (sum_below count (word x)) 1 % modulus) (sum x % modulus) 1
    (λ (e : sum x % modulus ≡ 1). balanced (sum_below count (word x)) 1 (ap (λ (k : ℕ). k % modulus) total ∙ e))
    (λ (e : minus (sum_below count (word x)) 1 % modulus ≡ 0). ap (λ (k : ℕ). k % modulus) (sym total) ∙ balance (sum_below count (word x)) 1 e)

-- the test of a bounded multi-hot vector's parts
pub multihot_total : (count weight chunk : ℕ) (x numbers bits : List ℕ) → length x ≡ count + bit_length weight → numbers ≡ take count x → bits ≡ drop count x → eqb (word_sum (sum numbers % modulus) (headroom weight)) (value_at bits 2) ≡ are_zero (fixed_checks (Multihot count weight chunk) x)
multihot_total count weight chunk x numbers bits long numbers_is bits_is =
    let b = bit_length weight in
    let front : length numbers ≡ count = ap length numbers_is ∙ length-take-le count x (omega arith) in
    let back : length bits ≡ b = ap length bits_is ∙ length-drop count x ∙ (let left : length x - count ≡ bit_length weight = omega arith in left) in
    let whole : numbers ++ bits ≡ x = ap₂ (λ (a b : List ℕ). a ++ b) numbers_is bits_is ∙ take-append-drop count x in
    let low : sum_below count (word x) ≡ sum numbers = ap (λ (l : List ℕ). sum_below count (word l)) (sym whole) ∙ sum_front numbers bits count front in
    let high : number_at x count b % modulus ≡ value_at bits 2 = ap (λ (l : List ℕ). number_at l count b % modulus) (sym whole) ∙ number_behind numbers bits count b front back in
    let raised : word_sum (sum numbers % modulus) (headroom weight) ≡ (headroom weight + sum_below count (word x)) % modulus =
    (let moved : (sum numbers % modulus + headroom weight) % modulus ≡ (headroom weight + sum numbers) % modulus = omega arith in moved) ∙ ap (λ (k : ℕ). (headroom weight + k) % modulus) (sym low) in
    same_test (minus (headroom weight + sum_below count (word x)) (number_at x count b) % modulus) (word_sum (sum numbers % modulus) (headroom weight)) (value_at bits 2)
    (λ e. balanced (headroom weight + sum_below count (word x)) (number_at x count b) (sym raised ∙ e ∙ sym high))
    (λ e. raised ∙ balance (headroom weight + sum_below count (word x)) (number_at x count b) e ∙ high)

-- the encodings of a count and of a sum are the words that pass
pub count_passes : BitLengthsAreLeast → (x : List ℕ) (result : Bool) → Fits Count → length x ≡ 1 → AreWords x → (IsTrue result ↔ IsEncoding Count x) → result ≡ are_zero (fixed_checks Count x)
count_passes lengths x result fits long words is =
    tests_same (IsEncoding Count x) result (are_zero (fixed_checks Count x)) is
    (λ h. let zero = all_zero (fixed_checks Count x) h in encoding_from_fixed lengths Count x fits long (count_bits x long words zero) zero)
    (λ whole. zero_all (fixed_checks Count x) (fixed_from_encoding Count x whole))

pub sum_passes : BitLengthsAreLeast → (max : ℕ) (x : List ℕ) (result : Bool) → Fits (Sum max) → length x ≡ 2 * bit_length max → AreWords x → (IsTrue result ↔ IsEncoding (Sum max) x) → result ≡ are_zero (fixed_checks (Sum max) x)
sum_passes lengths max x result fits long words is =
    tests_same (IsEncoding (Sum max) x) result (are_zero (fixed_checks (Sum max) x)) is
    (λ h. let zero = all_zero (fixed_checks (Sum max) x) h in encoding_from_fixed lengths (Sum max) x fits long (sum_bits max x long words zero) zero)
    (λ whole. zero_all (fixed_checks (Sum max) x) (fixed_from_encoding (Sum max) x whole))
