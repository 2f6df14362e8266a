-- Bit lengths, and lists of bits.
use Rattle.std.proofs.Common.{ℕ, zero, suc, ◌+◌, ◌-◌, ◌*◌, ◌/◌, ◌%◌, ◌^◌, ◌<◌, ◌≤◌, ◌≡◌, ltb, lit<, List, [], ◌∷◌, ◌++◌, length, take, sym, ap, ◌∙◌, refl, ⊎_elim, add-one, append_assoc, append-nil, arith}
use Rattle.std.proofs.Math.Nat.{pow-succ', mul-le-mul_right, pow-le-pow_right}
use Rattle.std.proofs.Math.Pow.{pow-lt}
use Rattle.std.proofs.Math.ListN.{set, length-set}
use Rattle.std.proofs.lemmas.List.{take_all, take_more_set}
use Rattle.std.proofs.lemmas.Nat.{one_shl}
use Rattle.std.proofs.lemmas.Bool.{cases_lt, cond_both, ltb-true, ltb-false}
use Rattle.flp_circuits.specs.Bits.{exponent_above, bit_length, headroom, bits_of, IsBitLength}

-- 2 ^ n, by doubling
pub two_pow : (n : ℕ) → 2 ^ suc n ≡ 2 * 2 ^ n
two_pow n = pow-succ' 2 n

pub below_pow : (n : ℕ) → n < 2 ^ n
below_pow zero = lit< tt
below_pow (suc n) = rw (two_pow n) (omega (arith, below_pow n))

-- a number from 2 ^ i on and below 2 ^ j
pub exponents_apart : (n i j : ℕ) → 2 ^ i ≤ n → n < 2 ^ j → i < j
exponents_apart n i j low top =
    ⊎_elim (λ (h : i < j). h) (λ (h : j ≤ i). absurd (⊎_elim (λ (lt : j < i). let up : 2 ^ j < 2 ^ i = pow-lt lt in let r : ⊥ = omega arith in r) (λ (ge : i ≤ j). let same : i ≡ j = omega arith in let even : 2 ^ i ≡ 2 ^ j = ap (λ (k : ℕ). 2 ^ k) same in let r : ⊥ = omega arith in r) (cases_lt j i))) (cases_lt i j)

pub exponent_above-is : (n exponent more : ℕ) → n < 2 ^ (exponent + more) → ((k : ℕ) → n < 2 ^ k → exponent ≤ k) → IsBitLength n (exponent_above n exponent more)
exponent_above-is n e zero top low = (let same : e + 0 ≡ e = omega arith in rw same at top, low)
exponent_above-is n e (suc more) top low =
    cond_both (ltb n (2 ^ e)) e (exponent_above n (suc e) more) (IsBitLength n) (λ lt. (ltb-true n (2 ^ e) lt, low)) (λ ge.
    let from : 2 ^ e ≤ n = ltb-false n (2 ^ e) ge in
    let same : e + suc more ≡ suc e + more = omega arith in
    exponent_above-is n (suc e) more (rw same at top) (λ k h. exponents_apart n e k from h))

pub bit_length-is : (n : ℕ) → IsBitLength n (bit_length n)
unfolding bit_length
bit_length-is n = exponent_above-is n 0 n (let same : 0 + n ≡ n = omega arith in rw same (below_pow n)) (λ k h. omega arith)

-- there is but one bit length
pub bit_length-of : (n length : ℕ) → IsBitLength n length → length ≡ bit_length n
bit_length-of n length h =
    let is = bit_length-is n in
    let up : length ≤ bit_length n = h.1 (bit_length n) is.0 in
    let down : bit_length n ≤ length = is.1 length h.0 in
    omega arith

-- the bit length of a number below 2 ^ k
pub bit_length-below : (n k : ℕ) → n < 2 ^ k → bit_length n ≤ k
bit_length-below n k h = (bit_length-is n).1 k h

-- a number and its headroom are the greatest number of that bit length
pub headroom-is : (n : ℕ) → n + headroom n ≡ 2 ^ bit_length n - 1
unfolding headroom
headroom-is n = let top : n < 2 ^ bit_length n = (bit_length-is n).0 in omega arith

pub length-bits_of : (count n : ℕ) → length (bits_of count n) ≡ count
length-bits_of zero n = refl
length-bits_of (suc count) n = ap suc (length-bits_of count (n / 2))

-- one more bit is dropped
pub drops_bit : (n rest bits : ℕ) → 0 < rest → (rest * 2 ^ bits ≤ n) × (n < (rest + 1) * 2 ^ bits) × ((k : ℕ) → n < 2 ^ k → bits ≤ k) → (rest / 2 * 2 ^ (bits + 1) ≤ n) × (n < (rest / 2 + 1) * 2 ^ (bits + 1)) × ((k : ℕ) → n < 2 ^ k → bits + 1 ≤ k)
drops_bit n rest bits some h =
    let doubled : 2 ^ (bits + 1) ≡ 2 * 2 ^ bits = rw add-one (two_pow bits) in
    let halved : rest ≡ 2 * (rest / 2) + rest % 2 = omega arith in
    let bit : rest % 2 * 2 ^ bits ≤ 1 * 2 ^ bits = mul-le-mul_right (2 ^ bits) (let b : rest % 2 ≤ 1 = omega arith in b) in
    let low : rest * 2 ^ bits ≤ n = h.0 in
    let product : rest * 2 ^ bits ≡ (2 * (rest / 2) + rest % 2) * 2 ^ bits = ap (λ (x : ℕ). x * 2 ^ bits) halved in
    let top : n < (rest + 1) * 2 ^ bits = h.1 in
    let from : 2 ^ bits ≤ n = omega (arith, mul-le-mul_right (2 ^ bits) (let one : 1 ≤ rest = omega arith in one)) in
    (rw doubled (omega arith), rw doubled (omega arith), λ k lt. let apart : bits < k = exponents_apart n bits k from lt in omega arith)

-- no bits are left
pub dropped-all : (n rest bits : ℕ) → rest ≤ 0 → (n < (rest + 1) * 2 ^ bits) → ((k : ℕ) → n < 2 ^ k → bits ≤ k) → bits ≡ bit_length n
dropped-all n rest bits none top low =
    let zero : rest ≡ 0 = omega arith in
    let top_zero : n < (0 + 1) * 2 ^ bits = rw zero at top in
    bit_length-of n bits (omega arith, low)

-- one more bit is written
pub bits_of-more : (out : List ℕ) (i rest : ℕ) (all : List ℕ) → i < length out → take i out ++ bits_of (length out - i) rest ≡ all → take (i + 1) (set out i (rest % 2)) ++ bits_of (length (set out i (rest % 2)) - (i + 1)) (rest / 2) ≡ all
bits_of-more out i rest all h e =
    let left : length out - i ≡ suc (length out - (i + 1)) = omega arith in
    let here : take i out ++ (rest % 2 ∷ bits_of (length out - (i + 1)) (rest / 2)) ≡ all = rw left at e in
    rw (take_more_set out i (rest % 2) h, length-set out i (rest % 2), append_assoc) here

-- all bits are written
pub bits_of-all : (out : List ℕ) (i rest : ℕ) (all : List ℕ) → length out ≤ i → take i out ++ bits_of (length out - i) rest ≡ all → out ≡ all
bits_of-all out i rest all h e =
    let left : length out - i ≡ 0 = omega arith in
    let here : take i out ++ [] ≡ all = rw left at e in
    sym (take_all i out h) ∙ sym (append-nil (take i out)) ∙ here

-- the shift that makes a power of two
pub shifted : (n : ℕ) → n < 2 ^ 63 → (1 * 2 ^ bit_length n) % 18446744073709551616 ≡ 2 ^ bit_length n
shifted n h = let below : bit_length n < 64 = omega (arith, bit_length-below n 63 h) in one_shl (bit_length n) 64 below

-- the greatest number of a bit length is below 2 ^ 63 where the number is
pub headroom-below : (n : ℕ) → n < 2 ^ 63 → n + headroom n < 2 ^ 63
headroom-below n h =
    let small : bit_length n ≤ 63 = bit_length-below n 63 h in
    let top : 2 ^ bit_length n ≤ 2 ^ 63 = pow-le-pow_right {n = 2} (lit< tt) small in
    let some : n < 2 ^ bit_length n = (bit_length-is n).0 in
    omega (arith, headroom-is n)
