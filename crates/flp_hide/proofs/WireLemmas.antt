-- The value of one wire at a point: its seed times the weight of the first point, and a rest that no seed enters. So there is one seed for each value.
use Rattle.std.proofs.Common.{ℕ, suc, ◌≡◌, ◌+◌, ◌-◌, ◌*◌, ◌%◌, ◌<◌, List, ◌∷◌, length, refl, ap, sym, ◌∙◌, arith}
use Rattle.std.specs.Prelude.{slice_index}
use Rattle.std.proofs.lemmas.Nat.{pow_pos}
use Rattle.flp_field.specs.Word.{modulus, word_difference, word_product}
use Rattle.flp_field.specs.Sums.{sum_of_products, dot_product}
use Rattle.flp_field.proofs.Congruence.{Same, same_add, same_mul, same_mod, same_cancel, eq_from_same, mod_word}
use Rattle.flp_field.proofs.Order.{group_size_is, same_cancel_mul, has_inverse, inverse_by_power, inverse_unique}
use Rattle.flp_field.proofs.SumLemmas.{sum_to, sum_to-first}
use Rattle.flp_poly.specs.Polynomial.{value_at}
use Rattle.flp_poly.specs.Interpolation.{interpolated}
use Rattle.flp_poly.specs.Weights.{weight, weights}
use Rattle.flp_poly.proofs.WeightLemmas.{weights_give_value, get_or-weights, length-weights}
use Rattle.flp_ntt.specs.PointFormula.{word_inverse}
use Rattle.flp_syntax.specs.Tree.{Program}
use Rattle.flp_meaning.specs.Meaning.{Call}
use Rattle.flp_meaning.specs.Gadgets.{log_of, size_of, calls_to}
use Rattle.flp_meaning.specs.Wires.{inputs_at, wire_values}
use Rattle.flp_meaning.proofs.WireLemmas.{length-wire_values}
use Rattle.flp_query.proofs.WireLemmas.{products-zeros}

-- what the inputs of the calls give
pub rest_of : Program → List Call → (gadget input t : ℕ) → ℕ
rest_of body calls gadget input t =
    sum_to
    (λ k. slice_index (weights (size_of body gadget) t) (suc k) * slice_index (inputs_at input (calls_to gadget calls)) k)
    (size_of body gadget - 1)

-- the first product apart
products-first : (size t first : ℕ) (more : List ℕ) → 0 < size
    → sum_of_products (weights size t) (first ∷ more)
    ≡ weight size t 0 * first + sum_to (λ k. slice_index (weights size t) (suc k) * slice_index more k) (size - 1)
products-first size t first more some =
    let product : ℕ → ℕ = λ k. slice_index (weights size t) k * slice_index (first ∷ more) k in
    let count : length (weights size t) ≡ suc (size - 1) = length-weights size t ∙ omega arith in
    ap (λ n. sum_to product n) count
    ∙ sum_to-first product (size - 1)
    ∙ ap (λ w. w * first + sum_to (λ k. slice_index (weights size t) (suc k) * slice_index more k) (size - 1)) (get_or-weights size t 0 some)

pub wire-value : (body : Program) (calls : List Call) (seeds : List ℕ) (gadget input t : ℕ)
    → value_at (interpolated (wire_values body calls seeds gadget input)) t
    ≡ (weight (size_of body gadget) t 0 * slice_index seeds input + rest_of body calls gadget input t) % modulus
unfolding rest_of
wire-value body calls seeds gadget input t =
    let size : ℕ = size_of body gadget in
    let more : List ℕ = inputs_at input (calls_to gadget calls) in
    let values : List ℕ = wire_values body calls seeds gadget input in
    weights_give_value t values
    ∙ ap (λ n. dot_product (weights n t) values) (length-wire_values body calls seeds gadget input)
    ∙ ap (λ s. s % modulus) (products-zeros (weights size t) (slice_index seeds input ∷ more) size (length-weights size t))
    ∙ ap (λ s. s % modulus) (products-first size t (slice_index seeds input) more (pow_pos (log_of body gadget)))

-- ---- one seed for each value

pub seed-unique : (w s other rest : ℕ) → 0 < w → w < modulus → s < modulus → other < modulus
    → (w * s + rest) % modulus ≡ (w * other + rest) % modulus → s ≡ other
seed-unique w s other rest some low s_word other_word same =
    let inverse = has_inverse w some low in
    eq_from_same s other s_word other_word
    (same_cancel_mul s other w inverse.0 inverse.2 (same_cancel (w * s) (w * other) rest same))

inverse-word : (w : ℕ) → word_inverse w < modulus
unfolding word_inverse
inverse-word w = mod_word _

-- a word times its inverse
times-inverse : (w : ℕ) → 0 < w → w < modulus → Same (w * word_inverse w) 1
unfolding word_inverse
times-inverse w some low = inverse_by_power w 18446744069414584319 (sym group_size_is) some low

-- no other word has this product
pub inverse-is : (w inverse : ℕ) → 0 < w → w < modulus → inverse < modulus → word_product inverse w ≡ 1 → inverse ≡ word_inverse w
inverse-is w inverse some low word product =
    inverse_unique w inverse (word_inverse w) word (inverse-word w)
    ((let turned : w * inverse ≡ inverse * w = omega arith in ap (λ (n : ℕ). n % modulus) turned) ∙ product)
    (times-inverse w some low)

-- a difference and the rest
difference-rest : (high rest : ℕ) → high < modulus → (word_difference high (rest % modulus) + rest) % modulus ≡ high
difference-rest high rest word = omega arith

pub seed-exists : (w high low rest : ℕ) → 0 < w → w < modulus → high < modulus → low ≡ rest % modulus
    → (w * word_product (word_difference high low) (word_inverse w) + rest) % modulus ≡ high
seed-exists w high low rest some word high_word is =
    let d : ℕ = word_difference high low in
    let i : ℕ = word_inverse w in
    let turned : w * (d * i) ≡ d * (w * i) = omega arith in
    let one : d * 1 ≡ d = omega arith in
    let back : Same (w * word_product d i) d =
    same_mul w w (word_product d i) (d * i) refl (same_mod (d * i))
    ∙ ap (λ (x : ℕ). x % modulus) turned
    ∙ same_mul d d (w * i) 1 refl (times-inverse w some word)
    ∙ ap (λ (x : ℕ). x % modulus) one in
    same_add (w * word_product d i) d rest rest back refl
    ∙ ap (λ (l : ℕ). (word_difference high l + rest) % modulus) is
    ∙ difference-rest high rest high_word
