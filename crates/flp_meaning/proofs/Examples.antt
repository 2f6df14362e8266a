-- The worked examples. What has no root of unity in it is computed; the wires of Count are polynomials through two values.
use Rattle.std.proofs.Common.{ℕ, zero, suc, ◌≡◌, ◌+◌, ◌*◌, ◌%◌, ◌^◌, ◌<◌, ◌≤◌, List, [], ◌∷◌, ◌++◌, length, map, refl, ap, ap₂, sym, ◌∙◌, arith, ⊎_elim}
use Rattle.std.specs.List.{range_with_len}
use Rattle.std.proofs.lemmas.List.Elements.{All-cons}
use Rattle.flp_field.specs.Word.{modulus, IsWord, AreWords, word_power}
use Rattle.flp_field.specs.Order.{HasOrder}
use Rattle.flp_field.specs.Domain.{alpha}
use Rattle.flp_field.proofs.RootsOfUnity.{alpha-order, alpha-word}
use Rattle.flp_field.proofs.Order.{no_zero_divisors}
use Rattle.flp_field.proofs.Powers.{pow-one}
use Rattle.std.proofs.Math.Nat.{pow-suc}
use Rattle.std.proofs.lemmas.Bool.{cases_lt}
use Rattle.flp_poly.specs.Polynomial.{value_at, values_on, poly_product}
use Rattle.flp_poly.specs.Interpolation.{interpolated}
use Rattle.flp_poly.proofs.Interpolation.{interpolation_exists, interpolation_unique}
use Rattle.flp_meaning.specs.Circuit.{checks_of, with_answers}
use Rattle.flp_meaning.specs.Gadgets.{ceil_log}
use Rattle.flp_meaning.specs.Proof.{answers_in, honest_proof}
use Rattle.flp_meaning.specs.Verifier.{verifier, query_of, is_taken, check_of}
use Rattle.flp_meaning.specs.Examples.{count_circuit, CountExample, CubeExample, HalfExample, HistogramExample}

pub cube_example : CubeExample
unfolding ceil_log
cube_example = record { lengths = refl; inputs = refl }

pub half_example : HalfExample
half_example = refl

pub histogram_example : HistogramExample
unfolding ceil_log
histogram_example = record { lengths = refl; wires = refl; terms = refl; two_ones = refl; other_words = refl; outs = refl }

-- ---- Count: the root of unity of size 2 is -1

-- a word whose square is 1 and which is not 1
root_of_one : (a : ℕ) → a < modulus → (a * a) % modulus ≡ 1 → (a ≡ 1 → ⊥) → a ≡ 18446744069414584320
root_of_one zero low one other = absurd (omega arith)
root_of_one (suc b) low one other =
    ⊎_elim
    (λ (small : suc b + 1 < modulus).
    let square : suc b * suc b ≡ (suc b + 1) * b + 1 = omega arith in
    let none : ((suc b + 1) * b) % modulus ≡ 0 =
    let step : ((suc b + 1) * b + 1) % modulus ≡ 1 = ap (λ (x : ℕ). x % modulus) (sym square) ∙ one in
    omega arith in
    ⊎_elim
    (λ (first : suc b + 1 ≡ 0). absurd (omega arith))
    (λ (second : b ≡ 0). absurd (other (omega arith)))
    (no_zero_divisors (suc b + 1) b small (omega arith) none))
    (λ (large : modulus ≤ suc b + 1). omega arith)
    (cases_lt (suc b + 1) modulus)

root_of_two : alpha 2 ≡ 18446744069414584320
root_of_two =
    let order : HasOrder (alpha 2) 2 = alpha-order 1 (omega arith) in
    let low : alpha 2 < modulus = alpha-word 1 (omega arith) in
    let square : alpha 2 ^ 2 ≡ alpha 2 * alpha 2 = pow-suc (alpha 2) 1 ∙ ap (λ (x : ℕ). x * alpha 2) (pow-one (alpha 2)) in
    root_of_one (alpha 2) low
    (ap (λ (x : ℕ). x % modulus) (sym square) ∙ order.returns)
    (λ is. order.first 1 (omega arith) (omega arith) (ap (λ (x : ℕ). word_power x 1) is))

-- the polynomial through two values
through : (values coefficients : List ℕ) → AreWords values → AreWords coefficients → length values ≡ 2 → length coefficients ≡ 2
    → map (λ t. value_at coefficients t) (1 ∷ 18446744069414584320 ∷ []) ≡ values → interpolated values ≡ coefficients
through values coefficients are_words words size count agrees =
    let own : values_on 2 coefficients ≡ values =
    ap (λ (a : ℕ). map (λ t. value_at coefficients t) (map (λ k. word_power a k) (range_with_len 0 2))) root_of_two ∙ agrees in
    interpolation_unique 1 (interpolated values) coefficients values (omega arith) size
    (interpolation_exists 1 values (omega arith) are_words size)
    (record { words = words; size = count ∙ sym size; agrees = ap (λ n. values_on n coefficients) size ∙ own })

two_words : (a b : ℕ) → a < modulus → b < modulus → AreWords (a ∷ b ∷ [])
two_words a b low_a low_b = All-cons IsWord a (b ∷ []) low_a (All-cons IsWord b [] low_b (λ k d low. absurd (omega arith)))

first_wire : interpolated (3 ∷ 1 ∷ []) ≡ 2 ∷ 1 ∷ []
first_wire = through (3 ∷ 1 ∷ []) (2 ∷ 1 ∷ []) (two_words 3 1 (omega arith) (omega arith)) (two_words 2 1 (omega arith) (omega arith)) refl refl refl

second_wire : interpolated (5 ∷ 1 ∷ []) ≡ 3 ∷ 2 ∷ []
second_wire = through (5 ∷ 1 ∷ []) (3 ∷ 2 ∷ []) (two_words 5 1 (omega arith) (omega arith)) (two_words 3 2 (omega arith) (omega arith)) refl refl refl

wire_of_ones : interpolated (1 ∷ 1 ∷ []) ≡ 1 ∷ 0 ∷ []
wire_of_ones = through (1 ∷ 1 ∷ []) (1 ∷ 0 ∷ []) (two_words 1 1 (omega arith) (omega arith)) (two_words 1 0 (omega arith) (omega arith)) refl refl refl

-- the verifier at 2, from the wires and the answer
verifier_of_count : (x unit : ℕ) (polynomial answers first second : List ℕ) → List ℕ
verifier_of_count x unit polynomial answers first second =
    check_of count_circuit (checks_of count_circuit (with_answers (x ∷ []) [] unit answers)) (2 ∷ [])
    ∷ value_at first 2 ∷ value_at second 2 ∷ value_at polynomial 2 ∷ []

honest_count : honest_proof count_circuit (1 ∷ []) [] (3 ∷ 5 ∷ []) ≡ 3 ∷ 5 ∷ 6 ∷ 7 ∷ 2 ∷ []
unfolding ceil_log
honest_count = ap₂ (λ (p q : List ℕ). 3 ∷ 5 ∷ poly_product p q ++ []) first_wire second_wire

answers_of_count : answers_in count_circuit (3 ∷ 5 ∷ 6 ∷ 7 ∷ 2 ∷ []) ≡ 1 ∷ []
unfolding ceil_log
answers_of_count = ap (λ (a : ℕ). value_at (6 ∷ 7 ∷ 2 ∷ []) (word_power a 1) ∷ []) root_of_two

answers_of_ones : answers_in count_circuit (1 ∷ 1 ∷ 1 ∷ 1 ∷ 1 ∷ []) ≡ 1 ∷ []
unfolding ceil_log
answers_of_ones = ap (λ (a : ℕ). value_at (1 ∷ 1 ∷ 1 ∷ []) (word_power a 1) ∷ []) root_of_two

count_at_2 : query_of count_circuit (1 ∷ []) [] (3 ∷ 5 ∷ 6 ∷ 7 ∷ 2 ∷ []) (2 ∷ []) 1 ≡ verifier (0 ∷ 4 ∷ 7 ∷ 28 ∷ [])
unfolding ceil_log verifier_of_count
count_at_2 =
    ap (λ answers. verifier (verifier_of_count 1 1 (6 ∷ 7 ∷ 2 ∷ []) answers (interpolated (3 ∷ 1 ∷ [])) (interpolated (5 ∷ 1 ∷ [])))) answers_of_count
    ∙ ap₂ (λ (p q : List ℕ). verifier (verifier_of_count 1 1 (6 ∷ 7 ∷ 2 ∷ []) (1 ∷ []) p q)) first_wire second_wire

ones_at_2 : query_of count_circuit (1 ∷ []) [] (1 ∷ 1 ∷ 1 ∷ 1 ∷ 1 ∷ []) (2 ∷ []) 9223372034707292161 ≡ verifier (0 ∷ 1 ∷ 1 ∷ 7 ∷ [])
unfolding ceil_log verifier_of_count
ones_at_2 =
    ap (λ answers. verifier (verifier_of_count 1 9223372034707292161 (1 ∷ 1 ∷ 1 ∷ []) answers (interpolated (1 ∷ 1 ∷ [])) (interpolated (1 ∷ 1 ∷ [])))) answers_of_ones
    ∙ ap (λ (p : List ℕ). verifier (verifier_of_count 1 9223372034707292161 (1 ∷ 1 ∷ 1 ∷ []) (1 ∷ []) p p)) wire_of_ones

pub count_example : CountExample
unfolding ceil_log
count_example = record {
  lengths = refl;
  wires = refl;
  terms = refl;
  checks = refl;
  proof = honest_count;
  verifier_at_2 = count_at_2;
  accepted = ap (λ answer. is_taken count_circuit answer) count_at_2;
  share = ones_at_2;
}
