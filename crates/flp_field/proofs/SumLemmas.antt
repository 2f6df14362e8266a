-- Sums of a function over the first indexes.
use Rattle.std.proofs.Common.{ℕ, suc, zero, ◌≡◌, ◌+◌, ◌*◌, ◌%◌, ◌<◌, ◌≤◌, [], ◌∷◌, map, arith, ap, ap₂, sym, ◌∙◌, refl, ⊎_elim, add-one}
use Rattle.std.specs.List.{range_with_len, sum}
use Rattle.std.proofs.lemmas.Bool.{cases_eq, cases_lt}
use Rattle.std.proofs.lemmas.List.Sums.{sum_by-append}
use Rattle.std.proofs.lemmas.List.FromFn.{map-range_with_len_more}
use Rattle.flp_field.specs.Word.{modulus}
use Rattle.flp_field.proofs.Congruence.{Same, same_add}

-- f 0 and so on to f (n - 1)
abbrev pub sum_to : (ℕ → ℕ) → ℕ → ℕ
sum_to f n = sum (map f (range_with_len 0 n))

pub sum_to-suc : (f : ℕ → ℕ) (n : ℕ) → sum_to f (suc n) ≡ sum_to f n + f n
sum_to-suc f n =
    let single : sum (f n ∷ []) ≡ f n = omega arith in
    ap (λ (k : ℕ). sum_to f k) (sym (add-one n)) ∙ ap sum (map-range_with_len_more f 0 n n (omega arith))
    ∙ sum_by-append (λ (x : ℕ). x) (map f (range_with_len 0 n)) (f n ∷ [])
    ∙ ap (λ (k : ℕ). sum_to f n + k) single

-- the first summand apart
pub sum_to-first : (f : ℕ → ℕ) (n : ℕ) → sum_to f (suc n) ≡ f 0 + sum_to (λ (k : ℕ). f (suc k)) n
sum_to-first f zero = let last : sum_to f 1 ≡ sum_to f 0 + f 0 = sum_to-suc f 0 in omega arith
sum_to-first f (suc n) =
    let whole : sum_to f (suc (suc n)) ≡ sum_to f (suc n) + f (suc n) = sum_to-suc f (suc n) in
    let shorter : sum_to f (suc n) ≡ f 0 + sum_to (λ (k : ℕ). f (suc k)) n = sum_to-first f n in
    let shifted : sum_to (λ (k : ℕ). f (suc k)) (suc n) ≡ sum_to (λ (k : ℕ). f (suc k)) n + f (suc n) =
    sum_to-suc (λ (k : ℕ). f (suc k)) n in
    omega arith

pub sum_to-same : (f g : ℕ → ℕ) (n : ℕ) → ((k : ℕ) → k < n → f k ≡ g k) → sum_to f n ≡ sum_to g n
sum_to-same f g zero same = refl
sum_to-same f g (suc n) same =
    sum_to-suc f n
    ∙ ap₂ (λ (x y : ℕ). x + y) (sum_to-same f g n (λ (k : ℕ) (h : k < n). same k (omega arith))) (same n (omega arith))
    ∙ sym (sum_to-suc g n)

-- summands that are 0 change nothing
pub sum_to-flat : (f : ℕ → ℕ) (m n : ℕ) → m ≤ n → ((k : ℕ) → m ≤ k → k < n → f k ≡ 0) → sum_to f n ≡ sum_to f m
sum_to-flat f m zero below flat =
    let none : m ≡ 0 = omega arith in ap (λ (k : ℕ). sum_to f k) (sym none)
sum_to-flat f m (suc n) below flat =
    ⊎_elim (λ (whole : m ≡ suc n). ap (λ (k : ℕ). sum_to f k) (sym whole))
    (λ (other : m ≡ suc n → ⊥).
    ⊎_elim
    (λ (l : m < suc n).
    let rest : sum_to f n ≡ sum_to f m =
    sum_to-flat f m n (omega arith) (λ (k : ℕ) (h : m ≤ k) (i : k < n). flat k h (omega arith)) in
    let last : f n ≡ 0 = flat n (omega arith) (omega arith) in
    let whole : sum_to f (suc n) ≡ sum_to f n + f n = sum_to-suc f n in
    omega arith)
    (λ (l : suc n ≤ m). let whole : m ≡ suc n = omega arith in absurd (other whole)) (cases_lt m (suc n)))
    (cases_eq m (suc n))

pub sum_to-zero : (f : ℕ → ℕ) (n : ℕ) → ((k : ℕ) → k < n → f k ≡ 0) → sum_to f n ≡ 0
sum_to-zero f n flat = sum_to-flat f 0 n (omega arith) (λ (k : ℕ) (l : 0 ≤ k) (h : k < n). flat k h)

-- sums of two functions, and of a multiple

pub sum_to-plus : (f g : ℕ → ℕ) (n : ℕ) → sum_to (λ (k : ℕ). f k + g k) n ≡ sum_to f n + sum_to g n
sum_to-plus f g zero = refl
sum_to-plus f g (suc n) =
    let left : sum_to f (suc n) ≡ sum_to f n + f n = sum_to-suc f n in
    let right : sum_to g (suc n) ≡ sum_to g n + g n = sum_to-suc g n in
    let both : sum_to (λ (k : ℕ). f k + g k) (suc n) ≡ sum_to (λ (k : ℕ). f k + g k) n + (f n + g n) =
    sum_to-suc (λ (k : ℕ). f k + g k) n in
    let rest : sum_to (λ (k : ℕ). f k + g k) n ≡ sum_to f n + sum_to g n = sum_to-plus f g n in
    omega arith

pub sum_to-times : (a : ℕ) (f : ℕ → ℕ) (n : ℕ) → sum_to (λ (k : ℕ). a * f k) n ≡ a * sum_to f n
sum_to-times a f zero = omega arith
sum_to-times a f (suc n) =
    let last : sum_to f (suc n) ≡ sum_to f n + f n = sum_to-suc f n in
    let whole : sum_to (λ (k : ℕ). a * f k) (suc n) ≡ sum_to (λ (k : ℕ). a * f k) n + a * f n =
    sum_to-suc (λ (k : ℕ). a * f k) n in
    let rest : sum_to (λ (k : ℕ). a * f k) n ≡ a * sum_to f n = sum_to-times a f n in
    let spread : a * (sum_to f n + f n) ≡ a * sum_to f n + a * f n = omega arith in
    whole ∙ ap (λ (x : ℕ). x + a * f n) rest ∙ sym spread ∙ ap (λ (x : ℕ). a * x) (sym last)

-- summands that are the same words give the same word
pub sum_to-congruent : (f g : ℕ → ℕ) (n : ℕ) → ((k : ℕ) → k < n → Same (f k) (g k)) → Same (sum_to f n) (sum_to g n)
sum_to-congruent f g zero same = refl
sum_to-congruent f g (suc n) same =
    ap (λ (x : ℕ). x % modulus) (sum_to-suc f n)
    ∙ same_add (sum_to f n) (sum_to g n) (f n) (g n)
    (sum_to-congruent f g n (λ (k : ℕ) (h : k < n). same k (omega arith))) (same n (omega arith))
    ∙ ap (λ (x : ℕ). x % modulus) (sym (sum_to-suc g n))
