-- Checks that are 0, and words that are bits.
use Rattle.std.proofs.Common.{ℕ, zero, suc, ◌+◌, ◌*◌, ◌%◌, ◌^◌, ◌<◌, ◌≤◌, ◌≡◌, ◌↔◌, IsTrue, Bool, true, false, ◌&&◌, cond, eqb, ltb, Option, None, Some, List, [], ◌∷◌, ◌++◌, length, map, All, sum, position, sym, subst, ap, ◌∙◌, refl, mul_assoc, ⊎_elim, arith}
use Rattle.std.specs.List.{position_from}
use Rattle.std.proofs.lemmas.Bool.{eqb-true, eq-eqb, ltb-false, le-ltb, cases_lt, false≢true}
use Rattle.std.proofs.lemmas.List.Elements.{All-nil, All-cons, All-head, All-tail}
use Rattle.std.proofs.lemmas.Iterator.Adapters.{position_from-zero}
use Rattle.flp_field.specs.Word.{modulus}
use Rattle.flp_field.proofs.Congruence.{Same, same_cancel, same_eq}
use Rattle.flp_field.proofs.Order.{no_zero_divisors}
use Rattle.flp_poly.specs.Polynomial.{value_at}
use Rattle.flp_poly.proofs.Horner.{horner, value_at-horner}
use Rattle.flp_syntax.specs.Scope.{numbers_from}
use Rattle.flp_circuits.specs.Formulas.{word, minus, sum_below, number_at}
use Rattle.flp_circuits.proofs.WordLemmas.{sum_by-on, sum_below-suc, sum_by-double, sum_words, word-left, word-right}
use Rattle.flp_joint.specs.Decoding.{AreBits}
use Rattle.flp_joint.specs.Caught.{are_zero}
use Rattle.flp_joint.proofs.BitLemmas.{two_more}

-- ---- lists of checks

abbrev pub AllZero : List ℕ → Type 0
AllZero checks = All (λ value. value ≡ 0) checks

both : (a b : Bool) → (a && b) ≡ true → (a ≡ true) × (b ≡ true)
both true b e = (refl, e)
both false b e = absurd (false≢true e)

pub all_zero : (checks : List ℕ) → are_zero checks ≡ true → AllZero checks
all_zero [] h = All-nil (λ value. value ≡ 0)
all_zero (v ∷ more) h =
    let parts = both (eqb v 0) (are_zero more) h in
    All-cons (λ value. value ≡ 0) v more (eqb-true v 0 parts.0) (all_zero more parts.1)

pub zero_all : (checks : List ℕ) → AllZero checks → are_zero checks ≡ true
zero_all [] h = refl
zero_all (v ∷ more) h =
    ap (λ (b : Bool). b && are_zero more) (eq-eqb v 0 (All-head (λ value. value ≡ 0) v more h)) ∙ zero_all more (All-tail (λ value. value ≡ 0) v more h)

-- two tests of one fact answer the same
pub tests_same : (P : Type 0) (a b : Bool) → (IsTrue a ↔ P) → (b ≡ true → P) → (P → b ≡ true) → a ≡ b
tests_same P true b a_is b_true b_back = sym (b_back (a_is.0 refl))
tests_same P false true a_is b_true b_back = a_is.1 (b_true refl)
tests_same P false false a_is b_true b_back = refl

-- ---- differences that are 0

pub balance : (a b : ℕ) → minus a b % modulus ≡ 0 → a % modulus ≡ b % modulus
balance a b e = omega arith

pub balanced : (a b : ℕ) → a % modulus ≡ b % modulus → minus a b % modulus ≡ 0
balanced a b e = omega arith

-- a word whose check is 0 is a bit
pub bit_from_check : (w : ℕ) → w < modulus → minus (w * w) w % modulus ≡ 0 → w < 2
bit_from_check zero h e = omega arith
bit_from_check (suc k) h e =
    let product : suc k * suc k ≡ suc k * k + suc k = omega arith in
    let same : Same (suc k * k + suc k) (0 + suc k) = sym (same_eq (suc k * suc k) (suc k * k + suc k) product) ∙ balance (suc k * suc k) (suc k) e ∙ (let plain : Same (suc k) (0 + suc k) = omega arith in plain) in
    let none : suc k * k % modulus ≡ 0 = same_cancel (suc k * k) 0 (suc k) same in
    ⊎_elim (λ (a : suc k ≡ 0). omega arith) (λ (b : k ≡ 0). omega arith) (no_zero_divisors (suc k) k h (omega arith) none)

-- a list of bits by its words
pub bits_of_words : (x : List ℕ) → ((i : ℕ) → i < length x → word x i < 2) → AreBits x
bits_of_words [] h = All-nil (λ n. n < 2)
bits_of_words (w ∷ more) h =
    All-cons (λ n. n < 2) w more (h 0 (omega arith)) (bits_of_words more (λ i low. h (suc i) (omega arith)))

pub zero_each : (f : ℕ → ℕ) (start count : ℕ) → AllZero (map f (numbers_from start count)) → (i : ℕ) → start ≤ i → i < start + count → f i ≡ 0
zero_each f start zero h i low high = absurd (omega arith)
zero_each f start (suc count) h i low high =
    ⊎_elim (λ (lt : start < i). zero_each f (suc start) count (All-tail (λ value. value ≡ 0) (f start) (map f (numbers_from (suc start) count)) h) i (omega arith) (omega arith))
    (λ (ge : i ≤ start). let same : start ≡ i = omega arith in subst (λ (k : ℕ). f k ≡ 0) same (All-head (λ value. value ≡ 0) (f start) (map f (numbers_from (suc start) count)) h))
    (cases_lt start i)

-- ---- the first word that is no bit

passed_over : (b : Bool) (i : ℕ) (o : Option ℕ) → cond b (Some i) o ≡ None → (b ≡ false) × (o ≡ None)
passed_over true i o e = cc
passed_over false i o e = (refl, e)

none_other : (x : List ℕ) (i : ℕ) → position_from (λ w. ltb 1 w) i x ≡ None → AreBits x
none_other [] i e = All-nil (λ n. n < 2)
none_other (w ∷ more) i e =
    let parts = passed_over (ltb 1 w) i (position_from (λ w. ltb 1 w) (i + 1) more) e in
    let few : w ≤ 1 = ltb-false 1 w parts.0 in
    All-cons (λ n. n < 2) w more (omega arith) (none_other more (i + 1) parts.1)

pub bits_from_none : (x : List ℕ) → position (λ w. ltb 1 w) x ≡ None → AreBits x
bits_from_none x e = none_other x 0 (sym (position_from-zero (λ w. ltb 1 w) x) ∙ e)

bits_other : (x : List ℕ) (i : ℕ) → AreBits x → position_from (λ w. ltb 1 w) i x ≡ None
bits_other [] i h = refl
bits_other (w ∷ more) i h =
    ap (λ (b : Bool). cond b (Some i) (position_from (λ w. ltb 1 w) (i + 1) more)) (le-ltb 1 w (let small : w < 2 = All-head (λ n. n < 2) w more h in let few : w ≤ 1 = omega arith in few))
    ∙ bits_other more (i + 1) (All-tail (λ n. n < 2) w more h)

pub none_from_bits : (x : List ℕ) → AreBits x → position (λ w. ltb 1 w) x ≡ None
none_from_bits x h = position_from-zero (λ w. ltb 1 w) x ∙ bits_other x 0 h

-- ---- sums and numbers of words

pub sum_front : (xs ys : List ℕ) (count : ℕ) → length xs ≡ count → sum_below count (word (xs ++ ys)) ≡ sum xs
sum_front xs ys count size =
    sum_by-on (word (xs ++ ys)) (word xs) 0 count (λ i low high. word-left xs ys i (omega arith))
    ∙ ap (λ (k : ℕ). sum_below k (word xs)) (sym size) ∙ sum_words xs

digits : (ys : List ℕ) → sum_below (length ys) (λ i. 2 ^ i * word ys i) ≡ horner ys 2
digits [] = refl
digits (y ∷ ys) =
    let shifted : sum_below (length ys) (λ i. 2 ^ suc i * word ys i) ≡ sum_below (length ys) (λ i. 2 * (2 ^ i * word ys i)) =
    sum_by-on (λ i. 2 ^ suc i * word ys i) (λ i. 2 * (2 ^ i * word ys i)) 0 (length ys) (λ i low high. ap (λ (k : ℕ). k * word ys i) (two_more i) ∙ mul_assoc 2 (2 ^ i) (word ys i)) in
    let doubled : sum_below (length ys) (λ i. 2 * (2 ^ i * word ys i)) ≡ 2 * sum_below (length ys) (λ i. 2 ^ i * word ys i) = sum_by-double (λ i. 2 ^ i * word ys i) (numbers_from 0 (length ys)) in
    let first : sum_below (suc (length ys)) (λ i. 2 ^ i * word (y ∷ ys) i) ≡ 1 * y + sum_below (length ys) (λ i. 2 ^ suc i * word ys i) = sum_below-suc (λ i. 2 ^ i * word (y ∷ ys) i) (length ys) in
    first ∙ ap (λ (k : ℕ). 1 * y + k) (shifted ∙ doubled ∙ ap (λ (k : ℕ). 2 * k) (digits ys)) ∙ (let whole : 1 * y + 2 * horner ys 2 ≡ y + 2 * horner ys 2 = omega arith in whole)

-- the number behind a front is the value at 2
pub number_behind : (xs ys : List ℕ) (start count : ℕ) → length xs ≡ start → length ys ≡ count → number_at (xs ++ ys) start count % modulus ≡ value_at ys 2
number_behind xs ys start count front back =
    ap (λ (k : ℕ). k % modulus)
    (sum_by-on (λ i. 2 ^ i * word (xs ++ ys) (start + i)) (λ i. 2 ^ i * word ys i) 0 count (λ i low high. ap (λ (w : ℕ). 2 ^ i * w) (word-right xs ys start i front))
    ∙ ap (λ (k : ℕ). sum_below k (λ i. 2 ^ i * word ys i)) (sym back) ∙ digits ys)
    ∙ sym (value_at-horner ys 2)
