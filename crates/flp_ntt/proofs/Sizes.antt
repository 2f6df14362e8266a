-- Powers of two as sizes: their logarithm, and their half.
use Rattle.std.proofs.Common.{ℕ, suc, ◌≡◌, ◌-◌, ◌*◌, ◌^◌, ◌<◌, ◌≤◌, arith, ap, sym, ◌∙◌, ⊎_elim, lit<}
use Rattle.std.proofs.Math.Nat.{pow-suc, pow-le-pow_right}
use Rattle.std.proofs.lemmas.Nat.{pow_below}
use Rattle.std.proofs.lemmas.Bool.{cases_lt}

-- a size is twice its half
pub power_halved : (log : ℕ) → 0 < log → 2 ^ log ≡ 2 ^ (log - 1) * 2
power_halved log some =
    let whole : suc (log - 1) ≡ log = omega arith in
    ap (λ (x : ℕ). 2 ^ x) (sym whole) ∙ pow-suc 2 (log - 1)

-- the logarithm of a power of two by its bounds
pub log_is : (l r n : ℕ) → n ≡ 2 ^ l → 2 ^ r ≤ n → n < 2 * 2 ^ r → r ≡ l
log_is l r n size above below =
    ⊎_elim
    (λ (less : r < l).
    let next : 2 ^ suc r ≤ 2 ^ l = pow-le-pow_right {n = 2} (lit< tt) less in
    let double : 2 ^ suc r ≡ 2 ^ r * 2 = pow-suc 2 r in
    absurd (omega arith))
    (λ (more : l ≤ r).
    ⊎_elim (λ (over : l < r). let power : 2 ^ l < 2 ^ r = pow_below l r over in absurd (omega arith))
    (λ (same : r ≤ l). omega arith) (cases_lt l r)) (cases_lt r l)
