-- A map of n places into n values that takes no value twice reaches each value. Up to that claim, `all_reached`.
use Rattle.std.proofs.Common.{ℕ, suc, zero, ◌≡◌, ◌<◌, ◌≤◌, ◌⊎◌, cond, eqb, arith, sym, subst, ◌∙◌, inl, inr, ⊎_elim}
use Rattle.std.proofs.lemmas.Bool.{cases_eq, cases_lt, cond-true, cond-false, eq-eqb, ne_eqb}

-- each of the first n places has a value below m
abbrev pub IsBelow : (ℕ → ℕ) → ℕ → ℕ → Type 0
IsBelow f n m = (i : ℕ) → i < n → f i < m

-- no two of the first n places have one value
abbrev pub IsInjective : (ℕ → ℕ) → ℕ → Type 0
IsInjective f n = (i j : ℕ) → i < n → j < n → f i ≡ f j → i ≡ j

-- the map with the value y where the old one has the value m
abbrev pub replaced : (ℕ → ℕ) → ℕ → ℕ → ℕ → ℕ
replaced f m y i = cond (eqb (f i) m) y (f i)

replaced_at : (f : ℕ → ℕ) (m y i : ℕ) → f i ≡ m → replaced f m y i ≡ y
replaced_at f m y i e = cond-true (eqb (f i) m) y (f i) (eq-eqb (f i) m e)

replaced_off : (f : ℕ → ℕ) (m y i : ℕ) → (f i ≡ m → ⊥) → replaced f m y i ≡ f i
replaced_off f m y i ne = cond-false (eqb (f i) m) y (f i) (ne_eqb (f i) m ne)

-- where y is no value, replacing the top value by it leaves one value less
replaced-below : (f : ℕ → ℕ) (n m y : ℕ) → IsBelow f n (suc m) → y < suc m
    → ((i : ℕ) → i < n → f i ≡ y → ⊥) → IsBelow (replaced f m y) n m
replaced-below f n m y below y_below free i i_below =
    let under : f i < suc m = below i i_below in
    let other : f i ≡ y → ⊥ = free i i_below in
    ⊎_elim
    (λ (e : f i ≡ m).
    let at : replaced f m y i ≡ y = replaced_at f m y i e in
    ⊎_elim {C = replaced f m y i < m} (λ (k : y ≡ m). absurd (other (e ∙ sym k)))
    (λ (k : y ≡ m → ⊥).
    ⊎_elim (λ (l : y < m). omega arith)
    (λ (l : m ≤ y). let same : y ≡ m = omega arith in absurd (k same)) (cases_lt y m)) (cases_eq y m))
    (λ (ne : f i ≡ m → ⊥).
    let off : replaced f m y i ≡ f i = replaced_off f m y i ne in
    ⊎_elim (λ (l : f i < m). omega arith)
    (λ (l : m ≤ f i). let same : f i ≡ m = omega arith in absurd (ne same)) (cases_lt (f i) m))
    (cases_eq (f i) m)

replaced-injective : (f : ℕ → ℕ) (n m y : ℕ) → IsInjective f n
    → ((i : ℕ) → i < n → f i ≡ y → ⊥) → IsInjective (replaced f m y) n
replaced-injective f n m y injective free i j i_below j_below e =
    ⊎_elim
    (λ (at_i : f i ≡ m).
    ⊎_elim (λ (at_j : f j ≡ m). injective i j i_below j_below (at_i ∙ sym at_j))
    (λ (off_j : f j ≡ m → ⊥).
    absurd (free j j_below (sym (replaced_off f m y j off_j) ∙ sym e ∙ replaced_at f m y i at_i)))
    (cases_eq (f j) m))
    (λ (off_i : f i ≡ m → ⊥).
    ⊎_elim
    (λ (at_j : f j ≡ m).
    absurd (free i i_below (sym (replaced_off f m y i off_i) ∙ e ∙ replaced_at f m y j at_j)))
    (λ (off_j : f j ≡ m → ⊥).
    injective i j i_below j_below
    (sym (replaced_off f m y i off_i) ∙ e ∙ replaced_off f m y j off_j)) (cases_eq (f j) m))
    (cases_eq (f i) m)

-- n + 1 places have no n values
pub no_injection : (n : ℕ) (f : ℕ → ℕ) → IsBelow f (suc n) n → IsInjective f (suc n) → ⊥
no_injection zero f below injective =
    let none : f 0 < 0 = below 0 (omega arith) in omega arith
no_injection (suc n) f below injective =
    let free : (i : ℕ) → i < suc n → f i ≡ f (suc n) → ⊥ =
    λ (i : ℕ) (i_below : i < suc n) (e : f i ≡ f (suc n)).
    let same : i ≡ suc n = injective i (suc n) (omega arith) (omega arith) e in omega arith in
    no_injection n (replaced f n (f (suc n)))
    (replaced-below f (suc n) n (f (suc n)) (λ (i : ℕ) (h : i < suc n). below i (omega arith))
    (below (suc n) (omega arith)) free)
    (replaced-injective f (suc n) n (f (suc n))
    (λ (i j : ℕ) (h : i < suc n) (k : j < suc n). injective i j (omega arith) (omega arith)) free)

-- one of the first n places has the value y, or none has
search_below : (n : ℕ) (f : ℕ → ℕ) (y : ℕ) → ((k : ℕ) × (k < n) × (f k ≡ y)) ⊎ ((k : ℕ) → k < n → f k ≡ y → ⊥)
search_below zero f y = inr (λ (k : ℕ) (h : k < 0) (e : f k ≡ y). omega arith)
search_below (suc n) f y =
    ⊎_elim (λ (e : f n ≡ y). inl (n, omega arith, e))
    (λ (ne : f n ≡ y → ⊥).
    ⊎_elim (λ (found : (k : ℕ) × (k < n) × (f k ≡ y)). inl (found.0, omega arith, found.2))
    (λ (none : (k : ℕ) → k < n → f k ≡ y → ⊥).
    inr
    (λ (k : ℕ) (h : k < suc n) (e : f k ≡ y).
    ⊎_elim (λ (same : k ≡ n). ne (let P : ℕ → Type 0 = λ (x : ℕ). f x ≡ y in subst P same e))
    (λ (other : k ≡ n → ⊥).
    ⊎_elim (λ (l : k < n). none k l e)
    (λ (l : n ≤ k). other (omega arith)) (cases_lt k n)) (cases_eq k n)))
    (search_below n f y)) (cases_eq (f n) y)

-- the claim of this file
pub all_reached : (n : ℕ) (f : ℕ → ℕ) → IsBelow f n n → IsInjective f n → (y : ℕ) → y < n
    → (k : ℕ) × (k < n) × (f k ≡ y)
all_reached zero f below injective y y_below = absurd (omega arith)
all_reached (suc m) f below injective y y_below =
    ⊎_elim (λ (found : (k : ℕ) × (k < suc m) × (f k ≡ y)). found)
    (λ (none : (k : ℕ) → k < suc m → f k ≡ y → ⊥).
    absurd
    (no_injection m (replaced f m y) (replaced-below f (suc m) m y below y_below none)
    (replaced-injective f (suc m) m y injective none))) (search_below (suc m) f y)
