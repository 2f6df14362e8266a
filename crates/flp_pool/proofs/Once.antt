-- The numbers of a range, each counted once.
use Rattle.std.proofs.Common.{◌≡◌, ℕ, ◌+◌, ◌<◌, ◌≤◌, ◌≢◌, ◌⊎◌, inl, inr, arith}
use Rattle.std.proofs.lemmas.Bool.Decides.{nat_tests}
use mathlib.Core.Logic.{dite}
use native.Mathlib.Decide.{dec_le}
use Rattle.flp_pool.specs.Range.{once}

pub once_in : (lo hi x : ℕ) → lo ≤ x → x < hi → once lo hi x ≡ 1
once_in lo hi x a b = grind (arith, nat_tests)

pub once_below : (lo hi x : ℕ) → x < lo → once lo hi x ≡ 0
once_below lo hi x a = grind (arith, nat_tests)

pub once_above : (lo hi x : ℕ) → hi ≤ x → once lo hi x ≡ 0
once_above lo hi x a = grind (arith, nat_tests)

-- a number is in the range and counts 1, or outside and counts 0
pub once_where : (lo hi x : ℕ) → ((lo ≤ x) × (x < hi) × (once lo hi x ≡ 1)) ⊎ (once lo hi x ≡ 0)
once_where lo hi x = dite (dec_le lo x) (λ a. dite (dec_le hi x) (λ b. inr (once_above lo hi x b)) (λ b. inl (a, omega arith, once_in lo hi x a (omega arith)))) (λ a. inr (once_below lo hi x (omega arith)))

pub once_le : (lo hi x : ℕ) → once lo hi x ≤ 1
once_le lo hi x = grind (arith, nat_tests)

-- a range is its two parts
pub once_parts : (a b c x : ℕ) → a ≤ b → b ≤ c → once a b x + once b c x ≡ once a c x
once_parts a b c x p q = grind (arith, nat_tests)

pub once_empty : (a x : ℕ) → once a a x ≡ 0
once_empty a x = grind (arith, nat_tests)

pub once_other : (n x : ℕ) → x ≢ n → once n (n + 1) x ≡ 0
once_other n x ne = grind (arith, nat_tests)

pub once_round : (a b c x : ℕ) → a ≤ b → b ≤ c → once b c x + once a b x ≡ once a c x
once_round a b c x p q = let o = once_parts a b c x p q in omega arith
