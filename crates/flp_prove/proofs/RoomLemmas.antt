-- The points on which a gadget is evaluated.
use Rattle.std.proofs.Common.{ℕ, suc, ◌≡◌, ◌*◌, ◌^◌, ◌<◌, ◌≤◌, refl, ap, ◌∙◌, arith, lit<, ⊎_elim}
use Rattle.std.specs.Int.{IsPowerOfTwo}
use Rattle.std.specs.Prelude.{max, ◌/◌}
use Rattle.std.proofs.Math.Nat.{pow-suc, pow-le-pow_right}
use Rattle.std.proofs.lemmas.Bool.{cases_lt}
use Rattle.flp_meaning.specs.Gadgets.{ceil_log}
use Rattle.flp_meaning.specs.ProofLaws.{LeastPower}

-- a power of two that is at least a number, and half of which is not, is the least one
pub least-is : (n p : ℕ) → LeastPower → 1 ≤ n → IsPowerOfTwo p → n ≤ p → p / 2 < max 1 n → p ≡ 2 ^ ceil_log n
least-is n p law some power enough tight =
    let k : ℕ = power.0 in
    let own : p ≡ 2 ^ k = power.1 in
    let least : ceil_log n ≤ k = (law n).1 k (omega arith) in
    let reached : n ≤ 2 ^ ceil_log n = (law n).0 in
    ⊎_elim
    (λ (less : ceil_log n < k).
    let next : 2 ^ suc (ceil_log n) ≤ 2 ^ k = pow-le-pow_right {n = 2} (lit< tt) less in
    let double : 2 ^ suc (ceil_log n) ≡ 2 ^ ceil_log n * 2 = pow-suc 2 (ceil_log n) in
    absurd (omega arith))
    (λ (more : k ≤ ceil_log n).
    let same : k ≡ ceil_log n = omega arith in
    own ∙ ap (λ (x : ℕ). 2 ^ x) same)
    (cases_lt (ceil_log n) k)

pub log-few : (n : ℕ) → LeastPower → n ≤ 32761 → ceil_log n ≤ 15
log-few n law few = let size : 2 ^ 15 ≡ 32768 = refl in (law n).1 15 (omega arith)

pub power-few : (log : ℕ) → log ≤ 15 → 2 ^ log ≤ 32768
power-few log small = pow-le-pow_right {n = 2} (lit< tt) small
