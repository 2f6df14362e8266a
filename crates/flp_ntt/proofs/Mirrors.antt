-- Numbers with their binary digits in reverse: by the lowest digit, which is the definition, and by the highest.
use Rattle.std.proofs.Common.{ℕ, suc, zero, ◌≡◌, ◌+◌, ◌-◌, ◌*◌, ◌/◌, ◌%◌, ◌^◌, ◌<◌, ◌≤◌, ◌⊎◌, arith, ap, ap₂, sym, subst, ◌∙◌, refl, ⊎_elim, inl, inr, lit<}
use Rattle.std.proofs.Math.Nat.{pow-suc}
use Rattle.std.proofs.lemmas.Bool.{cases_eq}
use Rattle.flp_ntt.specs.Levels.{reversed}

double : (log : ℕ) → 2 ^ suc log ≡ 2 ^ log * 2
double log = pow-suc 2 log

is_one : (d : ℕ) → d < 2 → (d ≡ 0 → ⊥) → d ≡ 1
is_one zero small some = absurd (some refl)
is_one (suc d) small some = omega arith

-- a digit times a number
digit_times : (d n : ℕ) → d < 2 → ((d ≡ 0) × (d * n ≡ 0)) ⊎ ((d ≡ 1) × (d * n ≡ n))
digit_times d n small =
    ⊎_elim
    (λ (none : d ≡ 0). inl (none, ap (λ (x : ℕ). x * n) none ∙ (omega arith)))
    (λ (some : d ≡ 0 → ⊥).
    let one : d ≡ 1 = is_one d small some in
    inr (one, ap (λ (x : ℕ). x * n) one ∙ (omega arith)))
    (cases_eq d 0)

pub reversed-below : (log k : ℕ) → reversed log k < 2 ^ log
reversed-below zero k = lit< tt
reversed-below (suc log) k =
    let rest : reversed log (k / 2) < 2 ^ log = reversed-below log (k / 2) in
    let power : 2 ^ suc log ≡ 2 ^ log * 2 = double log in
    ⊎_elim (λ (d : (k % 2 ≡ 0) × (k % 2 * 2 ^ log ≡ 0)). omega arith)
    (λ (d : (k % 2 ≡ 1) × (k % 2 * 2 ^ log ≡ 2 ^ log)). omega arith) (digit_times (k % 2) (2 ^ log) (omega arith))

-- the highest digit of a number is the lowest of its mirror
pub reversed-high : (log h k : ℕ) → h < 2 → k < 2 ^ log → reversed (suc log) (h * 2 ^ log + k) ≡ 2 * reversed log k + h
reversed-high zero h k small below =
    let whole : h * 1 + k ≡ h = omega arith in
    ap (λ (n : ℕ). n % 2 * 1 + 0) whole ∙ (omega arith)
reversed-high (suc log) h k small below =
    let power : 2 ^ suc log ≡ 2 ^ log * 2 = double log in
    let spread : h * 2 ^ suc log ≡ h * 2 ^ log * 2 = ap (λ (n : ℕ). h * n) power ∙ (omega arith) in
    let low : (h * 2 ^ suc log + k) % 2 ≡ k % 2 = omega arith in
    let high : (h * 2 ^ suc log + k) / 2 ≡ h * 2 ^ log + k / 2 = omega arith in
    let rest : reversed (suc log) (h * 2 ^ log + k / 2) ≡ 2 * reversed log (k / 2) + h =
    reversed-high log h (k / 2) small (omega arith) in
    let first : k % 2 * 2 ^ suc log ≡ 2 * (k % 2 * 2 ^ log) = ap (λ (n : ℕ). k % 2 * n) power ∙ (omega arith) in
    ap₂ (λ (a b : ℕ). a * 2 ^ suc log + reversed (suc log) b) low high ∙ (omega arith)

-- two mirrors give the number back
pub reversed-twice : (log k : ℕ) → k < 2 ^ log → reversed log (reversed log k) ≡ k
reversed-twice zero k below = omega arith
reversed-twice (suc log) k below =
    let power : 2 ^ suc log ≡ 2 ^ log * 2 = double log in
    let back : reversed log (reversed log (k / 2)) ≡ k / 2 = reversed-twice log (k / 2) (omega arith) in
    reversed-high log (k % 2) (reversed log (k / 2)) (omega arith) (reversed-below log (k / 2))
    ∙ ap (λ (n : ℕ). 2 * n + k % 2) back ∙ (omega arith)

-- ---- the mirror of the next number

-- the highest digit of the mirror is 0: it becomes 1
pub next_here : (log a rest : ℕ) → rest ≡ reversed (suc log) a → rest < 2 ^ log → rest + 2 ^ log ≡ reversed (suc log) (a + 1)
next_here log a rest mirror below =
    ⊎_elim
    (λ (d : (a % 2 ≡ 0) × (a % 2 * 2 ^ log ≡ 0)).
    let one : (a + 1) % 2 ≡ 1 = omega arith in
    let half : (a + 1) / 2 ≡ a / 2 = omega arith in
    let next : reversed (suc log) (a + 1) ≡ 1 * 2 ^ log + reversed log (a / 2) =
    ap₂ (λ (x y : ℕ). x * 2 ^ log + reversed log y) one half in
    omega arith)
    (λ (d : (a % 2 ≡ 1) × (a % 2 * 2 ^ log ≡ 2 ^ log)). absurd (omega arith))
    (digit_times (a % 2) (2 ^ log) (omega arith))

-- the highest digit of the mirror is 1: it becomes 0, and the carry goes on
pub next_below : (log a rest : ℕ) → rest ≡ reversed (suc log) a → a + 1 < 2 ^ suc log → 2 ^ log ≤ rest
    → (a / 2 + 1 < 2 ^ log) × (rest - 2 ^ log ≡ reversed log (a / 2))
    × (reversed log (a / 2 + 1) ≡ reversed (suc log) (a + 1))
next_below log a rest mirror inside above =
    let power : 2 ^ suc log ≡ 2 ^ log * 2 = double log in
    let under : reversed log (a / 2) < 2 ^ log = reversed-below log (a / 2) in
    ⊎_elim (λ (d : (a % 2 ≡ 0) × (a % 2 * 2 ^ log ≡ 0)). absurd (omega arith))
    (λ (d : (a % 2 ≡ 1) × (a % 2 * 2 ^ log ≡ 2 ^ log)).
    let none : (a + 1) % 2 ≡ 0 = omega arith in
    let half : (a + 1) / 2 ≡ a / 2 + 1 = omega arith in
    let next : reversed (suc log) (a + 1) ≡ 0 * 2 ^ log + reversed log (a / 2 + 1) =
    ap₂ (λ (x y : ℕ). x * 2 ^ log + reversed log y) none half in
    (omega arith, omega arith, omega arith)) (digit_times (a % 2) (2 ^ log) (omega arith))

-- a number at which the carry stands, with as many digits as the carry has not met
abbrev pub Carried : ℕ → ℕ → ℕ → ℕ → Type 0
Carried log mirror level rest =
    (k : ℕ) → k + 1 < 2 ^ log → mirror ≡ reversed log k
    → (a : ℕ) × (a + 1 < 2 ^ level) × (rest ≡ reversed level a) × (reversed level (a + 1) ≡ reversed log (k + 1))

pub carried_end : (log mirror level n rest digit : ℕ) → level ≡ suc n → digit ≡ 2 ^ n → rest < digit
    → Carried log mirror level rest → (k : ℕ) → k + 1 < 2 ^ log → mirror ≡ reversed log k
    → rest + digit ≡ reversed log (k + 1)
carried_end log mirror level n rest digit whole power below carried k inside is =
    let at : (a : ℕ) × (a + 1 < 2 ^ level) × (rest ≡ reversed level a) × (reversed level (a + 1) ≡ reversed log (k + 1)) =
    carried k inside is in
    ap (λ (x : ℕ). rest + x) power
    ∙ next_here n at.0 rest (at.2 ∙ ap (λ (x : ℕ). reversed x at.0) whole) (omega arith)
    ∙ ap (λ (x : ℕ). reversed x (at.0 + 1)) (sym whole) ∙ at.3

pub carried_on : (log mirror level n rest digit : ℕ) → level ≡ suc n → digit ≡ 2 ^ n → digit ≤ rest
    → Carried log mirror level rest → Carried log mirror n (rest - digit)
carried_on log mirror level n rest digit whole power above carried k inside is =
    let at : (a : ℕ) × (a + 1 < 2 ^ level) × (rest ≡ reversed level a) × (reversed level (a + 1) ≡ reversed log (k + 1)) =
    carried k inside is in
    let P : ℕ → Type 0 = λ (x : ℕ). at.0 + 1 < 2 ^ x in
    let next : (at.0 / 2 + 1 < 2 ^ n) × (rest - 2 ^ n ≡ reversed n (at.0 / 2))
    × (reversed n (at.0 / 2 + 1) ≡ reversed (suc n) (at.0 + 1)) =
    next_below n at.0 rest (at.2 ∙ ap (λ (x : ℕ). reversed x at.0) whole) (subst P whole at.1) (omega arith) in (
      at.0 / 2,
      next.0,
      ap (λ (x : ℕ). rest - x) power ∙ next.1,
      next.2 ∙ ap (λ (x : ℕ). reversed x (at.0 + 1)) (sym whole) ∙ at.3,
    )

pub reversed-zero : (log : ℕ) → reversed log 0 ≡ 0
reversed-zero zero = refl
reversed-zero (suc log) =
    let rest : reversed log 0 ≡ 0 = reversed-zero log in
    let nothing : 0 * 2 ^ log + 0 ≡ 0 = omega arith in
    ap (λ (x : ℕ). 0 * 2 ^ log + x) rest ∙ nothing
