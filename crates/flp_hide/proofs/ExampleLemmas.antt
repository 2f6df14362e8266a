-- Count at the point 0.
use Rattle.std.proofs.Common.{ℕ, ◌≡◌, ◌+◌, ◌*◌, ◌%◌, ◌<◌, ◌≤◌, [], ◌∷◌, refl, ap, ap₂, sym, subst, ◌∙◌, arith}
use Rattle.std.specs.Prelude.{None, slice_index}
use Rattle.std.proofs.lemmas.List.Elements.{All-cons, All-nil}
use Rattle.flp_field.specs.Word.{modulus, IsWord, AreWords, word_power, word_product}
use Rattle.flp_field.proofs.SumLemmas.{sum_to, sum_to-suc}
use Rattle.flp_poly.specs.Polynomial.{value_at}
use Rattle.flp_poly.specs.Interpolation.{inverse_root, inverse_size, interpolated}
use Rattle.flp_poly.specs.Weights.{ones_at, weight, weights}
use Rattle.flp_poly.proofs.WeightLemmas.{weights_give_value, get_or-weights}
use Rattle.flp_gadget.specs.KindTree.{IsKind}
use Rattle.flp_meaning.specs.Circuit.{kind_of, IsValid}
use Rattle.flp_meaning.specs.Gadgets.{ceil_log, calls_made}
use Rattle.flp_meaning.specs.Verifier.{gadget_in_domain}
use Rattle.flp_meaning.specs.ProofLaws.{IsBounded, AreSeeds}
use Rattle.flp_meaning.specs.Examples.{count_circuit}
use Rattle.flp_hide.specs.Wires.{all_wires_at, reseeded}
use Rattle.flp_hide.specs.Laws.{honest_verifier}
use Rattle.flp_hide.specs.Examples.{CountExample}
use Rattle.flp_hide.proofs.SeedLemmas.{reseeded_has_same_wires, seeds_are_unique}
use Rattle.flp_hide.proofs.VerifierLemmas.{honest-verifier}

-- both weights of the domain of two points at 0 are the half
weight-half : (i : ℕ) → weight 2 0 i ≡ 9223372034707292161
unfolding weight
weight-half i =
    let nothing : 0 * word_power (inverse_root 2) i ≡ 0 = omega arith in
    ap (λ (z : ℕ). word_product (inverse_size 2) (ones_at 2 (z % modulus))) nothing

-- so the value at 0 is half the sum
half-sum : (a b : ℕ) → value_at (interpolated (a ∷ b ∷ [])) 0 ≡ (9223372034707292161 * (a + b)) % modulus
half-sum a b =
    let half : ℕ = 9223372034707292161 in
    let product : ℕ → ℕ = λ k. slice_index (weights 2 0) k * slice_index (a ∷ b ∷ []) k in
    let first : product 0 ≡ half * a = ap (λ (w : ℕ). w * a) (get_or-weights 2 0 0 (omega arith) ∙ weight-half 0) in
    let second : product 1 ≡ half * b = ap (λ (w : ℕ). w * b) (get_or-weights 2 0 1 (omega arith) ∙ weight-half 1) in
    let one : sum_to product 1 ≡ sum_to product 0 + product 0 = sum_to-suc product 0 in
    let two : sum_to product 2 ≡ sum_to product 1 + product 1 = sum_to-suc product 1 in
    let none : sum_to product 0 ≡ 0 = refl in
    let whole : sum_to product 2 ≡ half * (a + b) = omega arith in
    weights_give_value 0 (a ∷ b ∷ []) ∙ ap (λ (s : ℕ). s % modulus) whole

two_words : (a b : ℕ) → a < modulus → b < modulus → AreWords (a ∷ b ∷ [])
two_words a b low_a low_b = All-cons IsWord a (b ∷ []) low_a (All-cons IsWord b [] low_b (All-nil IsWord))

wires_of_one : all_wires_at count_circuit (1 ∷ []) [] (3 ∷ 5 ∷ []) (0 ∷ []) ≡ 2 ∷ 3 ∷ []
unfolding ceil_log
wires_of_one = ap₂ (λ (v w : ℕ). v ∷ w ∷ []) (half-sum 3 1) (half-sum 5 1)

wires_of_zero : all_wires_at count_circuit (0 ∷ []) [] (4 ∷ 6 ∷ []) (0 ∷ []) ≡ 2 ∷ 3 ∷ []
unfolding ceil_log
wires_of_zero = ap₂ (λ (v w : ℕ). v ∷ w ∷ []) (half-sum 4 0) (half-sum 6 0)

bounded : IsBounded count_circuit
bounded = record {
  some_gadget = omega arith;
  kinds = λ gadget inside.
      let first : 0 ≡ gadget = omega arith in
      let product : IsKind (kind_of count_circuit 0) = record { parts = tt; few_inputs = omega arith } in
      subst (λ g. IsKind (kind_of count_circuit g)) first product;
  few_calls = λ gadget inside.
      let first : 0 ≡ gadget = omega arith in
      subst (λ g. calls_made count_circuit g ≤ 4095) first (omega arith);
}

outside : gadget_in_domain count_circuit (0 ∷ []) ≡ None
unfolding ceil_log
outside = refl

seeds_of_one : AreSeeds count_circuit (3 ∷ 5 ∷ [])
seeds_of_one = record { words = two_words 3 5 (omega arith) (omega arith); size = refl }

seeds_of_zero : AreSeeds count_circuit (4 ∷ 6 ∷ [])
seeds_of_zero = record { words = two_words 4 6 (omega arith) (omega arith); size = refl }

valid_one : IsValid count_circuit (1 ∷ []) []
valid_one = All-cons (λ value. value ≡ 0) 0 [] refl (All-nil (λ value. value ≡ 0))

valid_zero : IsValid count_circuit (0 ∷ []) []
valid_zero = All-cons (λ value. value ≡ 0) 0 [] refl (All-nil (λ value. value ≡ 0))

verifier_of_one : honest_verifier count_circuit (1 ∷ []) [] (3 ∷ 5 ∷ []) (0 ∷ []) ≡ 0 ∷ 2 ∷ 3 ∷ 6 ∷ []
unfolding ceil_log
verifier_of_one =
    honest-verifier count_circuit (1 ∷ []) [] (3 ∷ 5 ∷ []) (0 ∷ []) bounded seeds_of_one valid_one outside
    ∙ ap₂ (λ (v w : ℕ). 0 ∷ v ∷ w ∷ word_product v w ∷ []) (half-sum 3 1) (half-sum 5 1)

verifier_of_zero : honest_verifier count_circuit (0 ∷ []) [] (4 ∷ 6 ∷ []) (0 ∷ []) ≡ 0 ∷ 2 ∷ 3 ∷ 6 ∷ []
unfolding ceil_log
verifier_of_zero =
    honest-verifier count_circuit (0 ∷ []) [] (4 ∷ 6 ∷ []) (0 ∷ []) bounded seeds_of_zero valid_zero outside
    ∙ ap₂ (λ (v w : ℕ). 0 ∷ v ∷ w ∷ word_product v w ∷ []) (half-sum 4 0) (half-sum 6 0)

pub count_example : CountExample
count_example =
    let to_zero = reseeded_has_same_wires count_circuit bounded (1 ∷ []) (0 ∷ []) [] (0 ∷ []) (3 ∷ 5 ∷ []) outside seeds_of_one in
    let to_one = reseeded_has_same_wires count_circuit bounded (0 ∷ []) (1 ∷ []) [] (0 ∷ []) (4 ∷ 6 ∷ []) outside seeds_of_zero in
    record {
      wires_of_one = wires_of_one;
      wires_of_zero = wires_of_zero;
      reseeded_to_zero =
          seeds_are_unique count_circuit bounded (0 ∷ []) [] (0 ∷ []) (reseeded count_circuit (1 ∷ []) (0 ∷ []) [] (0 ∷ []) (3 ∷ 5 ∷ [])) (4 ∷ 6 ∷ []) outside
          to_zero.0 seeds_of_zero (to_zero.1 ∙ wires_of_one ∙ sym wires_of_zero);
      reseeded_to_one =
          seeds_are_unique count_circuit bounded (1 ∷ []) [] (0 ∷ []) (reseeded count_circuit (0 ∷ []) (1 ∷ []) [] (0 ∷ []) (4 ∷ 6 ∷ [])) (3 ∷ 5 ∷ []) outside
          to_one.0 seeds_of_one (to_one.1 ∙ wires_of_zero ∙ sym wires_of_one);
      verifier_of_one = verifier_of_one;
      verifier_of_zero = verifier_of_zero;
    }
