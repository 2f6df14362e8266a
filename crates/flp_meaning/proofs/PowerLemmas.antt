-- The first number that passes a test, and the least power of two that is at least a number.
use Rattle.std.proofs.Common.{ℕ, zero, suc, ◌≡◌, ◌+◌, ◌*◌, ◌^◌, ◌<◌, ◌≤◌, Bool, true, false, Option, None, Some, refl, sym, subst, ◌∙◌, arith, ⊎_elim, leb}
use Rattle.std.specs.Prelude.{if◌then◌else◌}
use Rattle.std.specs.Option.{unwrap_or}
use Rattle.std.proofs.lemmas.Bool.{false≢true, leb-true, le-leb, cases_lt}
use Rattle.std.proofs.Math.Nat.{pow-suc}
use Rattle.std.proofs.lemmas.Nat.{pow_pos}
use Rattle.flp_meaning.specs.Gadgets.{first_where, ceil_log}
use Rattle.flp_meaning.specs.ProofLaws.{IsFirst, FirstIsFound, LeastPower}

found_or_next : (test : ℕ → Bool) (start count : ℕ) (here : Bool) (rest : Option ℕ) → test start ≡ here → IsFirst test (suc start) count rest
    → IsFirst test start (suc count) (if here then Some start else rest)
found_or_next test start count true rest is h =
    (omega arith, omega arith, is, λ k low high. absurd (omega arith))
found_or_next test start count false None is h = λ k low high.
    ⊎_elim
    (λ (later : start < k). h k (omega arith) (omega arith))
    (λ (now : k ≤ start). let same : start ≡ k = omega arith in subst (λ i. test i ≡ false) same is)
    (cases_lt start k)
found_or_next test start count false (Some j) is h =
    let low : suc start ≤ j = h.0 in
    let high : j < suc start + count = h.1 in (
      omega arith,
      omega arith,
      h.2,
      λ k from below.
          ⊎_elim
          (λ (later : start < k). h.3 k (omega arith) below)
          (λ (now : k ≤ start). let same : start ≡ k = omega arith in subst (λ i. test i ≡ false) same is)
          (cases_lt start k),
    )

pub first_is_found : FirstIsFound
first_is_found test start zero = λ k low high. absurd (omega arith)
first_is_found test start (suc count) =
    found_or_next test start count (test start) (first_where test (suc start) count) refl (first_is_found test (suc start) count)

below_power : (n : ℕ) → n ≤ 2 ^ n
below_power zero = omega arith
below_power (suc n) =
    let h : n ≤ 2 ^ n = below_power n in
    let some : 1 ≤ 2 ^ n = pow_pos n in
    let step : 2 ^ suc n ≡ 2 ^ n * 2 = pow-suc 2 n in
    omega arith

least_of : (n : ℕ) (found : Option ℕ) → IsFirst (λ log. leb n (2 ^ log)) 0 (n + 1) found
    → (n ≤ 2 ^ unwrap_or found 0) × ((log : ℕ) → n ≤ 2 ^ log → unwrap_or found 0 ≤ log)
least_of n None h = absurd (false≢true (sym (h n (omega arith) (omega arith)) ∙ le-leb n (2 ^ n) (below_power n)))
least_of n (Some j) h = (
  leb-true n (2 ^ j) h.2,
  λ log enough.
      ⊎_elim
      (λ (low : log < j). absurd (false≢true (sym (h.3 log (omega arith) low) ∙ le-leb n (2 ^ log) enough)))
      (λ (high : j ≤ log). high)
      (cases_lt log j),
)

pub least_power : LeastPower
unfolding ceil_log
least_power n = least_of n (first_where (λ log. leb n (2 ^ log)) 0 (n + 1)) (first_is_found (λ log. leb n (2 ^ log)) 0 (n + 1))
