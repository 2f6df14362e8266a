-- A level of the fast transform: the values of a polynomial at the even and the odd powers of a root are those of two
-- polynomials with half the coefficients at powers of its square. From polynomials with turned coefficients up.
use Rattle.std.proofs.Common.{ℕ, suc, zero, ◌≡◌, ◌+◌, ◌-◌, ◌*◌, ◌%◌, ◌^◌, ◌<◌, ◌≤◌, List, [], ◌∷◌, ◌++◌, length, get_or, arith, ap, ap₂, sym, subst, ◌∙◌, refl, ⊎_elim, add-one}
use Rattle.std.proofs.Math.Nat.{pow-suc, pow-zero, mul_comm}
use Rattle.std.proofs.lemmas.Nat.{pow-add, mul-pow}
use Rattle.std.proofs.lemmas.Bool.{cases_lt}
use Rattle.std.proofs.lemmas.List.{get_or_past, get_or_append_left, get_or-append_right}
use Rattle.flp_field.specs.Word.{modulus}
use Rattle.flp_field.proofs.Congruence.{Same, same_add, same_mul, same_pow, same_mod, word_mod}
use Rattle.flp_field.proofs.Powers.{pow-pow, one-pow, square-pow}
use Rattle.flp_poly.specs.Polynomial.{value_at}
use Rattle.flp_poly.proofs.Horner.{horner, value_at-horner, horner_same, horner_point, horner-append}
use Rattle.flp_poly.proofs.Products.{sum_of, scaled, horner-sum_of, horner-scaled, get_or-sum_of, get_or-scaled}
use Rattle.flp_ntt.specs.Levels.{reversed, HasHalfTurn}
use Rattle.flp_ntt.proofs.Mirrors.{reversed-high}

-- ---- coefficients times the powers of a word

pub twisted : ℕ → List ℕ → List ℕ
twisted r [] = []
twisted r (c ∷ cs) = c ∷ scaled r (twisted r cs)

horner-twisted : (r s : ℕ) (cs : List ℕ) → horner (twisted r cs) s ≡ horner cs (r * s)
unfolding twisted
horner-twisted r s [] = refl
horner-twisted r s (c ∷ cs) =
    let rest : horner (scaled r (twisted r cs)) s ≡ r * horner (twisted r cs) s = horner-scaled r (twisted r cs) s in
    let inner : horner (twisted r cs) s ≡ horner cs (r * s) = horner-twisted r s cs in
    let turned : s * (r * horner cs (r * s)) ≡ r * s * horner cs (r * s) = omega arith in
    ap (λ (x : ℕ). c + s * x) (rest ∙ ap (λ (x : ℕ). r * x) inner) ∙ ap (λ (x : ℕ). c + x) turned

get_or-twisted : (r : ℕ) (cs : List ℕ) (k : ℕ) → get_or (twisted r cs) k 0 ≡ r ^ k * get_or cs k 0
unfolding twisted
get_or-twisted r [] k = omega arith
get_or-twisted r (c ∷ cs) zero =
    let one : r ^ 0 * c ≡ 1 * c = ap (λ (x : ℕ). x * c) (pow-zero r) in omega arith
get_or-twisted r (c ∷ cs) (suc k) =
    let power : r ^ suc k * get_or cs k 0 ≡ r ^ k * r * get_or cs k 0 =
    ap (λ (x : ℕ). x * get_or cs k 0) (pow-suc r k) in
    let turned : r * (r ^ k * get_or cs k 0) ≡ r ^ k * r * get_or cs k 0 = omega arith in
    get_or-scaled r (twisted r cs) k ∙ ap (λ (x : ℕ). r * x) (get_or-twisted r cs k) ∙ turned ∙ sym power

-- ---- the two halves of a level

-- the halves of a polynomial's coefficients, and what a level makes of them
pub record IsLevel (n r : ℕ) (low high sums turns : List ℕ) : Type 0 where
  pub low_size : length low ≡ n
  pub high_size : length high ≡ n
  pub sums_size : length sums ≡ n
  pub turns_size : length turns ≡ n
  pub half_turn : r ^ n % modulus ≡ modulus - 1
  pub sums_are : (k : ℕ) → k < n → get_or sums k 0 ≡ (get_or low k 0 + get_or high k 0) % modulus
  pub turns_are : (k : ℕ) → k < n → Same (get_or turns k 0 + r ^ k * get_or high k 0) (r ^ k * get_or low k 0)

sums_same : (n r : ℕ) (low high sums turns : List ℕ) → IsLevel n r low high sums turns → (k : ℕ)
    → Same (get_or sums k 0) (get_or (sum_of low high) k 0)
sums_same n r low high sums turns h k =
    let parts : get_or (sum_of low high) k 0 ≡ get_or low k 0 + get_or high k 0 = get_or-sum_of low high k in
    ⊎_elim
    (λ (l : k < n).
    ap (λ (x : ℕ). x % modulus) (h.sums_are k l) ∙ same_mod (get_or low k 0 + get_or high k 0)
    ∙ ap (λ (x : ℕ). x % modulus) (sym parts))
    (λ (l : n ≤ k).
    let a : length sums ≡ n = h.sums_size in
    let b : length low ≡ n = h.low_size in
    let c : length high ≡ n = h.high_size in
    ap (λ (x : ℕ). x % modulus)
    (get_or_past sums k 0 (omega arith)
    ∙ sym (parts ∙ ap₂ (λ (x y : ℕ). x + y) (get_or_past low k 0 (omega arith)) (get_or_past high k 0 (omega arith)))))
    (cases_lt k n)

turns_same : (n r : ℕ) (low high sums turns : List ℕ) → IsLevel n r low high sums turns → (k : ℕ)
    → Same (get_or (sum_of turns (twisted r high)) k 0) (get_or (twisted r low) k 0)
turns_same n r low high sums turns h k =
    let parts : get_or (sum_of turns (twisted r high)) k 0 ≡ get_or turns k 0 + r ^ k * get_or high k 0 =
    get_or-sum_of turns (twisted r high) k ∙ ap (λ (x : ℕ). get_or turns k 0 + x) (get_or-twisted r high k) in
    let right : get_or (twisted r low) k 0 ≡ r ^ k * get_or low k 0 = get_or-twisted r low k in
    ⊎_elim
    (λ (l : k < n).
    ap (λ (x : ℕ). x % modulus) parts ∙ h.turns_are k l ∙ ap (λ (x : ℕ). x % modulus) (sym right))
    (λ (l : n ≤ k).
    let a : length turns ≡ n = h.turns_size in
    let b : length low ≡ n = h.low_size in
    let c : length high ≡ n = h.high_size in
    let none : get_or turns k 0 ≡ 0 = get_or_past turns k 0 (omega arith) in
    let left : r ^ k * get_or high k 0 ≡ r ^ k * 0 = ap (λ (x : ℕ). r ^ k * x) (get_or_past high k 0 (omega arith)) in
    let nothing : 0 + r ^ k * 0 ≡ r ^ k * 0 = omega arith in
    let last : r ^ k * get_or low k 0 ≡ r ^ k * 0 = ap (λ (x : ℕ). r ^ k * x) (get_or_past low k 0 (omega arith)) in
    ap (λ (x : ℕ). x % modulus)
    (parts ∙ ap₂ (λ (x y : ℕ). x + y) none left ∙ nothing ∙ sym (right ∙ last))) (cases_lt k n)

twice_is : (n : ℕ) → n * 2 ≡ n + n
twice_is n = omega arith

twice_of : (n : ℕ) → n + n ≡ n * 2
twice_of n = omega arith

-- a square of half a turn is a whole turn
even_turn : (r n e : ℕ) → r ^ n % modulus ≡ modulus - 1 → (r ^ (2 * e)) ^ n % modulus ≡ 1
even_turn r n e half =
    let exponent : 2 * e * n ≡ n * 2 * e = omega arith in
    let square : (modulus - 1) * (modulus - 1) % modulus ≡ 1 = refl in
    let turn : Same (r ^ (n * 2)) 1 =
    ap (λ (x : ℕ). x % modulus) (ap (λ (x : ℕ). r ^ x) (twice_is n) ∙ pow-add r n n)
    ∙ same_mul (r ^ n) (modulus - 1) (r ^ n) (modulus - 1) half half ∙ square in
    ap (λ (x : ℕ). x % modulus) (pow-pow r (2 * e) n ∙ ap (λ (x : ℕ). r ^ x) exponent ∙ sym (pow-pow r (n * 2) e))
    ∙ same_pow (r ^ (n * 2)) 1 e turn ∙ ap (λ (x : ℕ). x % modulus) (one-pow e)

-- powers of the square are even powers
square_point : (r q e : ℕ) → q ≡ (r * r) % modulus → Same (q ^ e) (r ^ (2 * e))
square_point r q e square =
    let exponent : e + e ≡ 2 * e = omega arith in
    same_pow q (r * r) e (ap (λ (x : ℕ). x % modulus) square ∙ same_mod (r * r))
    ∙ ap (λ (x : ℕ). x % modulus) (square-pow r e ∙ ap (λ (x : ℕ). r ^ x) exponent)

-- a polynomial in two halves, where the power of the point is known
halves_value : (low high : List ℕ) (n t w : ℕ) → length low ≡ n → Same (t ^ n) w
    → Same (horner (low ++ high) t) (horner low t + w * horner high t)
halves_value low high n t w size turn =
    ap (λ (x : ℕ). x % modulus)
    (horner-append low high t ∙ ap (λ (x : ℕ). horner low t + t ^ x * horner high t) size)
    ∙ same_add (horner low t) (horner low t) (t ^ n * horner high t) (w * horner high t) refl
    (same_mul (t ^ n) w (horner high t) (horner high t) turn refl)

-- the value at an even power
pub even_value : (n r q e : ℕ) (low high sums turns : List ℕ) → IsLevel n r low high sums turns → q ≡ (r * r) % modulus
    → value_at sums (q ^ e) ≡ value_at (low ++ high) (r ^ (2 * e))
even_value n r q e low high sums turns h square =
    let one : 1 * horner high (r ^ (2 * e)) ≡ horner high (r ^ (2 * e)) = omega arith in
    value_at-horner sums (q ^ e) ∙ horner_point sums (q ^ e) (r ^ (2 * e)) (square_point r q e square)
    ∙ horner_same sums (sum_of low high) (r ^ (2 * e)) (sums_same n r low high sums turns h)
    ∙ ap (λ (x : ℕ). x % modulus)
    (horner-sum_of low high (r ^ (2 * e)) ∙ ap (λ (x : ℕ). horner low (r ^ (2 * e)) + x) (sym one))
    ∙ sym (halves_value low high n (r ^ (2 * e)) 1 h.low_size (even_turn r n e h.half_turn))
    ∙ sym (value_at-horner (low ++ high) (r ^ (2 * e)))

odd_turn : (r n s : ℕ) → r ^ n % modulus ≡ modulus - 1 → s ^ n % modulus ≡ 1 → Same ((r * s) ^ n) (modulus - 1)
odd_turn r n s half full =
    let whole : (modulus - 1) * 1 ≡ modulus - 1 = refl in
    ap (λ (x : ℕ). x % modulus) (mul-pow r s n) ∙ same_mul (r ^ n) (modulus - 1) (s ^ n) 1 half full
    ∙ ap (λ (x : ℕ). x % modulus) whole

-- a difference by its sum
difference_is : (v a b : ℕ) → Same (v + b) a → Same v (a + (modulus - 1) * b)
difference_is v a b e = omega arith

-- the value at an odd power
pub odd_value : (n r q e : ℕ) (low high sums turns : List ℕ) → IsLevel n r low high sums turns → q ≡ (r * r) % modulus
    → value_at turns (q ^ e) ≡ value_at (low ++ high) (r ^ (2 * e + 1))
odd_value n r q e low high sums turns h square =
    let point : r ^ (2 * e + 1) ≡ r * r ^ (2 * e) =
    ap (λ (x : ℕ). r ^ x) (add-one (2 * e)) ∙ pow-suc r (2 * e) ∙ mul_comm (r ^ (2 * e)) r in
    let joined : Same (horner turns (r ^ (2 * e)) + horner high (r * r ^ (2 * e))) (horner low (r * r ^ (2 * e))) =
    ap (λ (x : ℕ). x % modulus)
    (sym
    (horner-sum_of turns (twisted r high) (r ^ (2 * e))
    ∙ ap (λ (x : ℕ). horner turns (r ^ (2 * e)) + x) (horner-twisted r (r ^ (2 * e)) high)))
    ∙ horner_same (sum_of turns (twisted r high)) (twisted r low) (r ^ (2 * e)) (turns_same n r low high sums turns h)
    ∙ ap (λ (x : ℕ). x % modulus) (horner-twisted r (r ^ (2 * e)) low) in
    value_at-horner turns (q ^ e) ∙ horner_point turns (q ^ e) (r ^ (2 * e)) (square_point r q e square)
    ∙ difference_is (horner turns (r ^ (2 * e))) (horner low (r * r ^ (2 * e))) (horner high (r * r ^ (2 * e))) joined
    ∙ sym
    (halves_value low high n (r * r ^ (2 * e)) (modulus - 1) h.low_size
    (odd_turn r n (r ^ (2 * e)) h.half_turn (even_turn r n e h.half_turn)))
    ∙ ap (λ (x : ℕ). horner (low ++ high) x % modulus) (sym point)
    ∙ sym (value_at-horner (low ++ high) (r ^ (2 * e + 1)))

-- ---- a level and the two transforms below it

pub level_joined : (log r q : ℕ) (low high sums turns x y : List ℕ) → IsLevel (2 ^ log) r low high sums turns
    → q ≡ (r * r) % modulus → length x ≡ 2 ^ log
    → ((k : ℕ) → k < 2 ^ log → get_or x k 0 ≡ value_at sums (q ^ reversed log k))
    → ((k : ℕ) → k < 2 ^ log → get_or y k 0 ≡ value_at turns (q ^ reversed log k)) → (k : ℕ) → k < 2 ^ suc log
    → get_or (x ++ y) k 0 ≡ value_at (low ++ high) (r ^ reversed (suc log) k)
level_joined log r q low high sums turns x y h square size at_x at_y k below =
    let power : 2 ^ suc log ≡ 2 ^ log * 2 = pow-suc 2 log in
    ⊎_elim
    (λ (l : k < 2 ^ log).
    let place : 0 * 2 ^ log + k ≡ k = omega arith in
    let mirror : 2 * reversed log k + 0 ≡ 2 * reversed log k = omega arith in
    get_or_append_left x y 0 k (omega arith) ∙ at_x k l
    ∙ even_value (2 ^ log) r q (reversed log k) low high sums turns h square
    ∙ ap (λ (e : ℕ). value_at (low ++ high) (r ^ e))
    (sym mirror ∙ sym (reversed-high log 0 k (omega arith) l) ∙ ap (λ (i : ℕ). reversed (suc log) i) place))
    (λ (l : 2 ^ log ≤ k).
    let inside : k - 2 ^ log < 2 ^ log = omega arith in
    let place : 1 * 2 ^ log + (k - 2 ^ log) ≡ k = omega arith in
    get_or-append_right x y (2 ^ log) k 0 size l ∙ at_y (k - 2 ^ log) inside
    ∙ odd_value (2 ^ log) r q (reversed log (k - 2 ^ log)) low high sums turns h square
    ∙ ap (λ (e : ℕ). value_at (low ++ high) (r ^ e))
    (sym (reversed-high log 1 (k - 2 ^ log) (omega arith) inside)
    ∙ ap (λ (i : ℕ). reversed (suc log) i) place)) (cases_lt k (2 ^ log))

-- the square of a root with half a turn has one at half the size
square_half_turn : (root log : ℕ) → HasHalfTurn root log → HasHalfTurn ((root * root) % modulus) (log - 1)
square_half_turn root log turn some =
    let less : suc (log - 1 - 1) ≡ log - 1 = omega arith in
    let double : 2 ^ (log - 1 - 1) + 2 ^ (log - 1 - 1) ≡ 2 ^ (log - 1) =
    twice_of (2 ^ (log - 1 - 1)) ∙ sym (pow-suc 2 (log - 1 - 1)) ∙ ap (λ (x : ℕ). 2 ^ x) less in
    same_pow ((root * root) % modulus) (root * root) (2 ^ (log - 1 - 1)) (same_mod (root * root))
    ∙ ap (λ (x : ℕ). x % modulus)
    (square-pow root (2 ^ (log - 1 - 1)) ∙ ap (λ (x : ℕ). root ^ x) double)
    ∙ turn (omega arith)

pub square_has_turn : (root square log : ℕ) → square ≡ (root * root) % modulus → HasHalfTurn root log
    → HasHalfTurn square (log - 1)
square_has_turn root square log is turn some =
    ap (λ (x : ℕ). x ^ (2 ^ (log - 1 - 1)) % modulus) is ∙ square_half_turn root log turn some

-- ---- one butterfly

pub butterfly_turn : (d w p a b : ℕ) → (d + b) % modulus ≡ a → w ≡ p % modulus → Same ((d * w) % modulus + p * b) (p * a)
butterfly_turn d w p a b difference twiddle =
    let spread : d * p + p * b ≡ p * (d + b) = omega arith in
    same_add ((d * w) % modulus) (d * p) (p * b) (p * b)
    (same_mod (d * w) ∙ same_mul d d w p refl (ap (λ (x : ℕ). x % modulus) twiddle ∙ same_mod p)) refl
    ∙ ap (λ (x : ℕ). x % modulus) spread
    ∙ same_mul p p (d + b) a refl (sym (same_mod (d + b)) ∙ ap (λ (x : ℕ). x % modulus) difference)

-- the next power of the root
pub twiddle_turn : (w r k : ℕ) → w ≡ r ^ k % modulus → (w * r) % modulus ≡ r ^ (k + 1) % modulus
twiddle_turn w r k e =
    let power : r ^ (k + 1) ≡ r ^ k * r = ap (λ (x : ℕ). r ^ x) (add-one k) ∙ pow-suc r k in
    same_mul w (r ^ k) r r (ap (λ (x : ℕ). x % modulus) e ∙ same_mod (r ^ k)) refl
    ∙ ap (λ (x : ℕ). x % modulus) (sym power)

-- the one coefficient of a constant is its value
pub constant_value : (cs : List ℕ) (t : ℕ) → length cs ≡ 1 → get_or cs 0 0 < modulus → get_or cs 0 0 ≡ value_at cs t
constant_value [] t size below = absurd (omega arith)
constant_value (c ∷ []) t size below =
    let value : horner (c ∷ []) t ≡ c = omega arith in
    sym (value_at-horner (c ∷ []) t ∙ ap (λ (x : ℕ). x % modulus) value ∙ word_mod c below)
constant_value (c ∷ d ∷ cs) t size below = absurd (omega arith)

-- the place of the only coefficient
pub only_value : (log k r : ℕ) (cs : List ℕ) → log ≡ 0 → length cs ≡ 2 ^ log → k < 2 ^ log
    → ((i : ℕ) (d : ℕ) → i < length cs → get_or cs i d < modulus) → get_or cs k 0 ≡ value_at cs (r ^ reversed log k)
only_value zero k r cs none size below words =
    let first : k ≡ 0 = omega arith in
    ap (λ (i : ℕ). get_or cs i 0) first
    ∙ constant_value cs (r ^ reversed 0 k) size (words 0 0 (omega arith))
only_value (suc log) k r cs none size below words = absurd (omega arith)

-- a level above some other: the halves of a slice, and the transforms of both
pub level_split : (log r q : ℕ) (values low high sums turns x y : List ℕ) → 0 < log → HasHalfTurn r log
    → values ≡ low ++ high → length low ≡ 2 ^ (log - 1) → length high ≡ 2 ^ (log - 1) → length sums ≡ 2 ^ (log - 1)
    → length turns ≡ 2 ^ (log - 1) → length x ≡ 2 ^ (log - 1) → q ≡ (r * r) % modulus
    → ((k : ℕ) → k < length low → get_or sums k 0 ≡ (get_or low k 0 + get_or high k 0) % modulus)
    → ((k : ℕ) → k < length low → Same (get_or turns k 0 + r ^ k * get_or high k 0) (r ^ k * get_or low k 0))
    → ((k : ℕ) → k < 2 ^ (log - 1) → get_or x k 0 ≡ value_at sums (q ^ reversed (log - 1) k))
    → ((k : ℕ) → k < 2 ^ (log - 1) → get_or y k 0 ≡ value_at turns (q ^ reversed (log - 1) k))
    → (k : ℕ) → k < 2 ^ log → get_or (x ++ y) k 0 ≡ value_at values (r ^ reversed log k)
level_split log r q values low high sums turns x y some turn joined a b c d e square sums_are turns_are at_x at_y k below =
    let whole : suc (log - 1) ≡ log = omega arith in
    let P : ℕ → Type 0 = λ (n : ℕ). k < 2 ^ n in
    level_joined (log - 1) r q low high sums turns x y
    record {
      low_size = a;
      high_size = b;
      sums_size = c;
      turns_size = d;
      half_turn = turn some;
      sums_are = λ (j : ℕ) (h : j < 2 ^ (log - 1)). sums_are j (omega arith);
      turns_are = λ (j : ℕ) (h : j < 2 ^ (log - 1)). turns_are j (omega arith);
    } square e at_x at_y k (subst P (sym whole) below)
    ∙ ap₂ (λ (l : List ℕ) (n : ℕ). value_at l (r ^ reversed n k)) (sym joined) whole
