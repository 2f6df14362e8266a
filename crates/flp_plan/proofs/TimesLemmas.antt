-- How often a number stands in a list. From one number up to all of them.
use Rattle.std.proofs.Common.{◌≡◌, ℕ, zero, suc, ◌+◌, ◌*◌, ◌<◌, ◌≤◌, ◌≢◌, Bool, true, false, List, [], ◌∷◌, ◌++◌, length, take, drop, get_or, eqb, refl, sym, ap, subst, arith, if◌then◌else◌, ◌==◌, inl, inr, ◌⊎◌}
use Rattle.std.proofs.lemmas.List.{take-append-drop}
use Rattle.std.proofs.lemmas.Bool.{cases_lt}
use Rattle.std.proofs.lemmas.Bool.Decides.{eqb_tells}
use Rattle.flp_meaning.specs.Gadgets.{times}
use Rattle.flp_plan.proofs.CallLemmas.{times_cons, times_joined}

-- 1 where a test holds, else 0
abbrev pub flag : Bool → ℕ
flag test = if test then 1 else 0

-- the front of a list has each number at most as often
pub times_front : (g k : ℕ) (xs : List ℕ) → times g (take k xs) ≤ times g xs
times_front g k xs =
    let split : times g (take k xs ++ drop k xs) ≡ times g (take k xs) + times g (drop k xs) = times_joined g (take k xs) (drop k xs) in
    let whole : times g (take k xs ++ drop k xs) ≡ times g xs = ap (times g) (take-append-drop k xs) in
    omega arith

pub one_if : (a b : ℕ) → a ≡ b → flag (a == b) ≡ 1
one_if a b same = by_test (a == b) (eqb_tells a b) where
  by_test : (test : Bool) → ((test ≡ true) × (a ≡ b)) ⊎ ((test ≡ false) × (a ≢ b)) → flag test ≡ 1
  by_test true told = refl
  by_test false (inl told) = cc
  by_test false (inr told) = absurd (told.1 same)

pub none_if : (a b : ℕ) → a ≢ b → flag (a == b) ≡ 0
none_if a b other = by_test (a == b) (eqb_tells a b) where
  by_test : (test : Bool) → ((test ≡ true) × (a ≡ b)) ⊎ ((test ≡ false) × (a ≢ b)) → flag test ≡ 0
  by_test true (inl told) = absurd (other told.1)
  by_test true (inr told) = cc
  by_test false told = refl

-- a number of a list stands in the front that ends with it
pub times_here : (xs : List ℕ) (k : ℕ) → k < length xs → 1 ≤ times (get_or xs k 0) (take (k + 1) xs)
times_here [] k below = absurd (omega arith)
times_here (x ∷ xs) zero below =
    let here : times x (x ∷ []) ≡ flag (x == x) + times x [] = times_cons x x [] in
    let own : flag (x == x) ≡ 1 = one_if x x refl in
    omega arith
times_here (x ∷ xs) (suc k) below =
    let g : ℕ = get_or xs k 0 in
    let front : times g (x ∷ take (k + 1) xs) ≡ flag (x == g) + times g (take (k + 1) xs) = times_cons g x (take (k + 1) xs) in
    let rest : 1 ≤ times g (take (k + 1) xs) = times_here xs k (omega arith) in
    let more : suc k + 1 ≡ suc (k + 1) = omega arith in
    subst (λ (n : ℕ). 1 ≤ times g (take n (x ∷ xs))) (sym more) (omega arith)

-- ---- all numbers below a bound

abbrev total : ℕ → List ℕ → ℕ
total zero xs = 0
total (suc n) xs = total n xs + times n xs

total_none : (n : ℕ) → total n [] ≡ 0
total_none zero = refl
total_none (suc n) = let rest : total n [] ≡ 0 = total_none n in omega arith

total_past : (n x : ℕ) (xs : List ℕ) → n ≤ x → total n (x ∷ xs) ≡ total n xs
total_past zero x xs past = refl
total_past (suc n) x xs past =
    let rest : total n (x ∷ xs) ≡ total n xs = total_past n x xs (omega arith) in
    let here : times n (x ∷ xs) ≡ flag (x == n) + times n xs = times_cons n x xs in
    let none : flag (x == n) ≡ 0 = none_if x n (λ (e : x ≡ n). omega arith) in
    omega arith

below_other : (x n : ℕ) → x < suc n → x ≢ n → x < n
below_other x n less other = elim (cases_lt x n) [ inl below ↦ below | inr past ↦ absurd (other (same past)) ] where
  same : n ≤ x → x ≡ n
  same past = omega arith

total_more : (n x : ℕ) (xs : List ℕ) → x < n → total n (x ∷ xs) ≡ 1 + total n xs
total_more zero x xs below = absurd (omega arith)
total_more (suc n) x xs below =
    total_step n x xs below (times_cons n x xs) (λ less. total_more n x xs less) (eqb_tells x n)
  where
    total_step : (n x : ℕ) (xs : List ℕ) → x < suc n → times n (x ∷ xs) ≡ flag (x == n) + times n xs
        → (x < n → total n (x ∷ xs) ≡ 1 + total n xs)
        → ((eqb x n ≡ true) × (x ≡ n)) ⊎ ((eqb x n ≡ false) × (x ≢ n)) → total n (x ∷ xs) + times n (x ∷ xs) ≡ 1 + (total n xs + times n xs)
    total_step n x xs below here rest (inl told) =
        let own : flag (x == n) ≡ 1 = one_if x n told.1 in
        let past : total n (x ∷ xs) ≡ total n xs = total_past n x xs (omega (arith, told.1)) in
        omega arith
    total_step n x xs below here rest (inr told) =
        let none : flag (x == n) ≡ 0 = none_if x n told.1 in
        let more : total n (x ∷ xs) ≡ 1 + total n xs = rest (below_other x n below told.1) in
        omega arith

total_all : (n : ℕ) (xs : List ℕ) → ((k : ℕ) → k < length xs → get_or xs k 0 < n) → length xs ≤ total n xs
total_all n [] below = omega arith
total_all n (x ∷ xs) below =
    let here : total n (x ∷ xs) ≡ 1 + total n xs = total_more n x xs (below 0 (omega arith)) in
    let rest : length xs ≤ total n xs = total_all n xs (λ k h. below (suc k) (omega arith)) in
    omega arith

total_few : (n b : ℕ) (xs : List ℕ) → ((g : ℕ) → g < n → times g xs ≤ b) → total n xs ≤ n * b
total_few zero b xs few = omega arith
total_few (suc n) b xs few =
    let rest : total n xs ≤ n * b = total_few n b xs (λ g h. few g (omega arith)) in
    let here : times n xs ≤ b = few n (omega arith) in
    let whole : suc n * b ≡ n * b + b = omega arith in
    omega arith

-- a list of numbers below a bound, in which each stands at most so often, is not longer
pub few_in_all : (n b : ℕ) (xs : List ℕ) → ((k : ℕ) → k < length xs → get_or xs k 0 < n) → ((g : ℕ) → g < n → times g xs ≤ b)
    → length xs ≤ n * b
few_in_all n b xs below few =
    let all : length xs ≤ total n xs = total_all n xs below in
    let some : total n xs ≤ n * b = total_few n b xs few in
    omega arith
