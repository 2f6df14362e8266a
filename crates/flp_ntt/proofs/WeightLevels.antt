-- The weights of a domain by levels: those of a size from those of half the size at the square of the point. From one
-- place up to all, and what the program computes.
use Rattle.std.proofs.Common.{ℕ, suc, zero, ◌≡◌, ◌+◌, ◌-◌, ◌*◌, ◌%◌, ◌^◌, ◌<◌, ◌≤◌, List, ◌++◌, length, get_or, arith, ap, ap₂, sym, ◌∙◌, refl, ⊎_elim, slice_set, get_or-set_same}
use Rattle.std.proofs.Math.Nat.{pow-suc, pow-zero, mul_comm}
use Rattle.std.proofs.lemmas.Nat.{pow-add, mul-pow}
use Rattle.std.proofs.lemmas.Bool.{cases_lt}
use Rattle.std.proofs.lemmas.List.{get_or_append_left, get_or-append_right}
use Rattle.std.proofs.lemmas.List.FromFn.{fill_by_all}
use Rattle.flp_field.specs.Word.{modulus}
use Rattle.flp_field.specs.Order.{HasOrder}
use Rattle.flp_field.specs.Domain.{alpha}
use Rattle.flp_field.proofs.Congruence.{Same, same_add, same_mul, same_pow, same_mod, mod_word, word_mod}
use Rattle.flp_field.proofs.Powers.{square-pow}
use Rattle.flp_field.proofs.Order.{inverse_unique}
use Rattle.flp_field.proofs.RootsOfUnity.{alpha-order}
use Rattle.flp_field.proofs.SumLemmas.{sum_to-suc}
use Rattle.flp_poly.specs.Interpolation.{inverse_root, inverse_size}
use Rattle.flp_poly.specs.Weights.{ones_along, weight, weights}
use Rattle.flp_poly.proofs.Interpolation.{power_sum, inverse-times}
use Rattle.flp_poly.proofs.WeightLemmas.{ones_along-is, power_sum-same, power_sum-double}
use Rattle.flp_ntt.proofs.Sizes.{power_halved}

-- ---- one place

-- the point of a level, at the squares
squared_point : (point root q s k : ℕ) → q ≡ (point * point) % modulus → s ≡ (root * root) % modulus
    → Same (q * s ^ k) (point * root ^ k * (point * root ^ k))
squared_point point root q s k q_is s_is =
    let turned : point * point * (root ^ k * root ^ k) ≡ point * root ^ k * (point * root ^ k) = omega arith in
    same_mul q (point * point) (s ^ k) (root ^ k * root ^ k)
    (ap (λ (x : ℕ). x % modulus) q_is ∙ same_mod (point * point))
    (same_pow s (root * root) k (ap (λ (x : ℕ). x % modulus) s_is ∙ same_mod (root * root))
    ∙ ap (λ (x : ℕ). x % modulus) (mul-pow root root k))
    ∙ ap (λ (x : ℕ). x % modulus) turned

-- a part of a level, by the point that it serves
part_is : (h scale w u z : ℕ) → w ≡ (scale * power_sum u h) % modulus → Same u (z * z)
    → Same (w * (1 + z)) (scale * power_sum z (h + h))
part_is h scale w u z w_is square =
    let grouped : scale * power_sum (z * z) h * (1 + z) ≡ scale * ((1 + z) * power_sum (z * z) h) = omega arith in
    same_mul w (scale * power_sum (z * z) h) (1 + z) (1 + z)
    (ap (λ (x : ℕ). x % modulus) w_is ∙ same_mod (scale * power_sum u h)
    ∙ same_mul scale scale (power_sum u h) (power_sum (z * z) h) refl (power_sum-same u (z * z) h square)) refl
    ∙ ap (λ (x : ℕ). x % modulus) (grouped ∙ ap (λ (x : ℕ). scale * x) (sym (power_sum-double z h)))

plus_product : (w z : ℕ) → Same (w + (w * z) % modulus) (w * (1 + z))
plus_product w z = let spread : w * (1 + z) ≡ w + w * z = omega arith in
    same_add w w ((w * z) % modulus) (w * z) refl (same_mod (w * z)) ∙ ap (λ (x : ℕ). x % modulus) (sym spread)

-- a difference is the sum with -1 times what is taken off
minus_is : (w x : ℕ) → Same (w + (modulus - x % modulus)) (w + (modulus - 1) * x)
minus_is w x = omega arith

minus_product : (w z : ℕ) → Same (w + (modulus - (w * z) % modulus)) (w * (1 + (modulus - 1) * z))
minus_product w z =
    let spread : w * (1 + (modulus - 1) * z) ≡ w + (modulus - 1) * (w * z) = omega arith in
    minus_is w (w * z) ∙ ap (λ (x : ℕ). x % modulus) (sym spread)

low_place : (h scale root point q s w k : ℕ) → q ≡ (point * point) % modulus → s ≡ (root * root) % modulus
    → w ≡ ones_along h scale s q k
    → (w + (w * (point * root ^ k)) % modulus) % modulus ≡ ones_along (h + h) scale root point k
low_place h scale root point q s w k q_is s_is w_is =
    plus_product w (point * root ^ k)
    ∙ part_is h scale w (q * s ^ k) (point * root ^ k) (w_is ∙ ones_along-is h scale s q k)
    (squared_point point root q s k q_is s_is)
    ∙ sym (ones_along-is (h + h) scale root point k)

-- half a turn further the point is the negation
negated_point : (h root point k : ℕ) → root ^ h % modulus ≡ modulus - 1
    → Same ((modulus - 1) * (point * root ^ k)) (point * root ^ (h + k))
negated_point h root point k half =
    let turned : (modulus - 1) * (point * root ^ k) ≡ point * ((modulus - 1) * root ^ k) = omega arith in
    let minus : Same (modulus - 1) (root ^ h) = sym (half ∙ refl) in
    ap (λ (x : ℕ). x % modulus) turned
    ∙ same_mul point point ((modulus - 1) * root ^ k) (root ^ (h + k)) refl
    (same_mul (modulus - 1) (root ^ h) (root ^ k) (root ^ k) minus refl
    ∙ ap (λ (x : ℕ). x % modulus) (sym (pow-add root h k)))

-- its square is the same
negated_square : (z y : ℕ) → Same ((modulus - 1) * z) y → Same (z * z) (y * y)
negated_square z y e =
    let minus : ℕ = modulus - 1 in
    let grouped : (modulus - 1) * z * ((modulus - 1) * z) ≡ (modulus - 1) * (modulus - 1) * (z * z) = omega arith in
    let one : Same ((modulus - 1) * (modulus - 1)) 1 = refl in
    let left : 1 * (z * z) ≡ z * z = omega arith in
    ap (λ (x : ℕ). x % modulus) (sym left)
    ∙ same_mul 1 ((modulus - 1) * (modulus - 1)) (z * z) (z * z) (sym one) refl
    ∙ ap (λ (x : ℕ). x % modulus) (sym grouped)
    ∙ same_mul ((modulus - 1) * z) y ((modulus - 1) * z) y e e

high_place : (h scale root point q s w k : ℕ) → q ≡ (point * point) % modulus → s ≡ (root * root) % modulus
    → root ^ h % modulus ≡ modulus - 1 → w ≡ ones_along h scale s q k
    → (w + (modulus - (w * (point * root ^ k)) % modulus)) % modulus ≡ ones_along (h + h) scale root point (h + k)
high_place h scale root point q s w k q_is s_is half w_is =
    let negated : Same ((modulus - 1) * (point * root ^ k)) (point * root ^ (h + k)) =
    negated_point h root point k half in
    minus_product w (point * root ^ k)
    ∙ same_mul w w (1 + (modulus - 1) * (point * root ^ k)) (1 + point * root ^ (h + k)) refl
    (same_add 1 1 ((modulus - 1) * (point * root ^ k)) (point * root ^ (h + k)) refl negated)
    ∙ part_is h scale w (q * s ^ k) (point * root ^ (h + k)) (w_is ∙ ones_along-is h scale s q k)
    (squared_point point root q s k q_is s_is
    ∙ negated_square (point * root ^ k) (point * root ^ (h + k)) negated)
    ∙ sym (ones_along-is (h + h) scale root point (h + k))

-- ---- a level

-- what a level has and what it makes of it
pub record IsSpread (h scale root point q s : ℕ) (parts low high : List ℕ) : Type 0 where
  pub point_is : q ≡ (point * point) % modulus
  pub root_is : s ≡ (root * root) % modulus
  pub half_turn : root ^ h % modulus ≡ modulus - 1
  pub parts_size : length parts ≡ h
  pub low_size : length low ≡ h
  pub parts_are : (k : ℕ) → k < h → get_or parts k 0 ≡ ones_along h scale s q k
  pub low_is : (k : ℕ) → k < length parts
      → get_or low k 0 ≡ (get_or parts k 0 + (get_or parts k 0 * (point * root ^ k)) % modulus) % modulus
  pub high_is : (k : ℕ) → k < length parts
      → get_or high k 0 ≡ (get_or parts k 0 + (modulus - (get_or parts k 0 * (point * root ^ k)) % modulus)) % modulus

spread_place : (h scale root point q s : ℕ) (parts low high : List ℕ) → IsSpread h scale root point q s parts low high
    → (k : ℕ) → k < h + h → get_or (low ++ high) k 0 ≡ ones_along (h + h) scale root point k
spread_place h scale root point q s parts low high i k below =
    let size : length parts ≡ h = i.parts_size in
    let low_size : length low ≡ h = i.low_size in
    ⊎_elim
    (λ (l : k < h).
    get_or_append_left low high 0 k (omega arith) ∙ i.low_is k (omega arith)
    ∙ low_place h scale root point q s (get_or parts k 0) k i.point_is i.root_is (i.parts_are k l))
    (λ (l : h ≤ k).
    let place : h + (k - h) ≡ k = omega arith in
    get_or-append_right low high h k 0 low_size l ∙ i.high_is (k - h) (omega arith)
    ∙ high_place h scale root point q s (get_or parts (k - h) 0) (k - h) i.point_is i.root_is i.half_turn
    (i.parts_are (k - h) (omega arith))
    ∙ ap (λ (n : ℕ). ones_along (h + h) scale root point n) place) (cases_lt k h)

-- a size is its half, twice
pub doubled_half : (log : ℕ) → 0 < log → 2 ^ (log - 1) + 2 ^ (log - 1) ≡ 2 ^ log
doubled_half log some = let halved : 2 ^ log ≡ 2 ^ (log - 1) * 2 = power_halved log some in omega arith

pub spread_level : (log scale root point q s : ℕ) (parts low high : List ℕ) → 0 < log
    → IsSpread (2 ^ (log - 1)) scale root point q s parts low high → (k : ℕ) → k < 2 ^ log
    → get_or (low ++ high) k 0 ≡ ones_along (2 ^ log) scale root point k
spread_level log scale root point q s parts low high some i k below =
    let double : 2 ^ (log - 1) + 2 ^ (log - 1) ≡ 2 ^ log = doubled_half log some in
    spread_place (2 ^ (log - 1)) scale root point q s parts low high i k (omega arith)
    ∙ ap (λ (n : ℕ). ones_along n scale root point k) double

-- the power of the point
pub spread_power : (log point q power : ℕ) → 0 < log → q ≡ (point * point) % modulus
    → power ≡ q ^ (2 ^ (log - 1)) % modulus → power ≡ point ^ (2 ^ log) % modulus
spread_power log point q power some q_is is =
    is
    ∙ same_pow q (point * point) (2 ^ (log - 1)) (ap (λ (x : ℕ). x % modulus) q_is ∙ same_mod (point * point))
    ∙ ap (λ (x : ℕ). x % modulus)
    (square-pow point (2 ^ (log - 1)) ∙ ap (λ (n : ℕ). point ^ n) (doubled_half log some))

-- the power 0 alone
one_power : (z : ℕ) → power_sum z 1 ≡ 1
one_power z = sum_to-suc (λ (j : ℕ). z ^ j) 0 ∙ ap (λ (x : ℕ). 0 + x) (pow-zero z)

-- the only place
pub spread_end : (log scale root point k : ℕ) (out : List ℕ) → log ≡ 0 → length out ≡ 2 ^ log → scale < modulus
    → k < 2 ^ log → get_or (slice_set out 0 scale) k 0 ≡ ones_along (2 ^ log) scale root point k
spread_end zero scale root point k out none size word below =
    let first : k ≡ 0 = omega arith in
    let one : power_sum (point * root ^ k) 1 ≡ 1 = one_power (point * root ^ k) in
    let product : scale ≡ scale * 1 = omega arith in
    ap (λ (i : ℕ). get_or (slice_set out 0 scale) i 0) first
    ∙ get_or-set_same out 0 scale 0 (omega arith)
    ∙ sym (word_mod scale word)
    ∙ ap (λ (x : ℕ). x % modulus) (product ∙ ap (λ (x : ℕ). scale * x) (sym one))
    ∙ sym (ones_along-is 1 scale root point k)
spread_end (suc log) scale root point k out none size word below = absurd (omega arith)

pub power_end : (log point : ℕ) → log ≡ 0 → point < modulus → point ≡ point ^ (2 ^ log) % modulus
power_end zero point none word =
    let single : point ^ 1 ≡ point ^ 0 * point = pow-suc point 0 in
    let start : point ^ 0 * point ≡ 1 * point = ap (λ (x : ℕ). x * point) (pow-zero point) in
    let left : 1 * point ≡ point = omega arith in
    sym (ap (λ (x : ℕ). x % modulus) (single ∙ start ∙ left) ∙ word_mod point word)
power_end (suc log) point none word = absurd (omega arith)

-- ---- what the program starts with

pub weights_from : (n log scale root t : ℕ) (out : List ℕ) → length out ≡ n → n ≡ 2 ^ log → scale ≡ inverse_size n
    → root ≡ inverse_root (2 ^ log) → ((k : ℕ) → k < 2 ^ log → get_or out k 0 ≡ ones_along (2 ^ log) scale root t k)
    → out ≡ weights n t
unfolding weight
weights_from n log scale root t out count size scale_is root_is at =
    fill_by_all (weight n t) out n 0 count
    (λ (k : ℕ) (below : k < n).
    at k (omega arith)
    ∙ ap₂ (λ (s r : ℕ). ones_along (2 ^ log) s r t k) scale_is root_is
    ∙ ap (λ (m : ℕ). ones_along m (inverse_size n) (inverse_root m) t k) (sym size))

-- a word whose product with the root is 1 is the inverse root
pub inverse_root_from : (log q : ℕ) → log ≤ 32 → q < modulus → (q * alpha (2 ^ log)) % modulus ≡ 1
    → q ≡ inverse_root (2 ^ log)
inverse_root_from log q small word one =
    let order : HasOrder (alpha (2 ^ log)) (2 ^ log) = alpha-order log small in
    inverse_unique (alpha (2 ^ log)) q (inverse_root (2 ^ log)) word (mod_word (alpha (2 ^ log) ^ (2 ^ log - 1)))
    (ap (λ (x : ℕ). x % modulus) (mul_comm (alpha (2 ^ log)) q) ∙ one)
    (ap (λ (x : ℕ). x % modulus) (mul_comm (alpha (2 ^ log)) (inverse_root (2 ^ log)))
    ∙ inverse-times (alpha (2 ^ log)) (2 ^ log) order.positive order.returns)
