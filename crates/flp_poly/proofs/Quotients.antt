-- Division by x - root: what it means coefficient by coefficient, the remainder, and that there is one quotient.
use Rattle.std.proofs.Common.{ℕ, suc, zero, ◌≡◌, ◌+◌, ◌-◌, ◌*◌, ◌%◌, ◌<◌, max, List, [], ◌∷◌, length, get_or, arith, ap, ap₂, sym, subst, ◌∙◌, refl}
use Rattle.std.proofs.lemmas.List.{ext_get_or}
use Rattle.flp_field.specs.Word.{modulus, AreWords, word_negation}
use Rattle.flp_field.proofs.Congruence.{Same, same_add, same_mul, same_mod, same_cancel, word_mod, eq_from_same, mod_word}
use Rattle.flp_poly.specs.Polynomial.{value_at, poly_sum, poly_product, minus_root, IsDivided}
use Rattle.flp_poly.proofs.Horner.{horner, value_at-horner}
use Rattle.flp_poly.proofs.Products.{scaled, product_of, convolution, get_or-sum_of, get_or-scaled, get_or-product_of, get_or-poly_sum, get_or-poly_product, length-poly_sum, length-poly_product, value_at-poly_sum, value_at-poly_product}

-- ---- coefficients

both : (a b x : ℕ) → (a + b) * x ≡ a * x + b * x
both a b x = omega arith

plus_zero : (x : ℕ) → x + 0 ≡ x
plus_zero x = omega arith

zero_plus : (x : ℕ) → 0 + x ≡ x
zero_plus x = omega arith

swapped : (a b : ℕ) → a + b ≡ b + a
swapped a b = omega arith

alone : (s r : ℕ) → s + r * 0 ≡ s
alone s r = omega arith

zero_of : (x : ℕ) → 0 * x ≡ 0
zero_of x = omega arith

-- a coefficient of a sum is a word
coefficient_word : (p q : List ℕ) (k : ℕ) → get_or (poly_sum p q) k 0 < modulus
coefficient_word p q k =
    let P : ℕ → Type 0 = λ (x : ℕ). x < modulus in
    subst P (sym (get_or-poly_sum p q k)) (mod_word (get_or p k 0 + get_or q k 0))

-- a word times x and its negation times x give 0
pub negated : (r x : ℕ) → r < modulus → Same (word_negation r * x + r * x) 0
negated r x below =
    let whole : modulus - r + r ≡ modulus = omega arith in
    let joined : (modulus - r) * x + r * x ≡ modulus * x = sym (both (modulus - r) r x) ∙ ap (λ (n : ℕ). n * x) whole in
    let nothing : Same (modulus * x) 0 = omega arith in
    same_add _ ((modulus - r) * x) (r * x) (r * x) (same_mul _ (modulus - r) x x (same_mod (modulus - r)) refl) refl
    ∙ ap (λ (n : ℕ). n % modulus) joined ∙ nothing

-- a single 0 has no coefficient but 0
nothing_after : (z k : ℕ) → z ≡ 0 → get_or (z ∷ []) k 0 ≡ 0
nothing_after z zero e = e
nothing_after z (suc k) e = refl

-- the coefficients of (n + x) times q
pub linear-zero : (n : ℕ) (q : List ℕ) → convolution (n ∷ 1 ∷ []) q 0 ≡ n * get_or q 0 0
linear-zero n q =
    sym (get_or-product_of (n ∷ 1 ∷ []) q 0)
    ∙ get_or-sum_of (scaled n q) (0 ∷ product_of (1 ∷ []) q) 0
    ∙ ap (λ (x : ℕ). x + 0) (get_or-scaled n q 0) ∙ (omega arith)

pub linear-suc : (n : ℕ) (q : List ℕ) (k : ℕ)
    → convolution (n ∷ 1 ∷ []) q (suc k) ≡ n * get_or q (suc k) 0 + get_or q k 0
linear-suc n q k =
    let inner : get_or (product_of (1 ∷ []) q) k 0 ≡ 1 * get_or q k 0 + 0 =
    get_or-sum_of (scaled 1 q) (0 ∷ []) k ∙ ap₂ (λ (x y : ℕ). x + y) (get_or-scaled 1 q k) (nothing_after 0 k refl) in
    let outer : get_or (product_of (n ∷ 1 ∷ []) q) (suc k) 0
    ≡ get_or (scaled n q) (suc k) 0 + get_or (product_of (1 ∷ []) q) k 0 =
    get_or-sum_of (scaled n q) (0 ∷ product_of (1 ∷ []) q) (suc k) in
    let first : get_or (scaled n q) (suc k) 0 ≡ n * get_or q (suc k) 0 = get_or-scaled n q (suc k) in
    sym (get_or-product_of (n ∷ 1 ∷ []) q (suc k)) ∙ outer ∙ ap₂ (λ (x y : ℕ). x + y) first inner ∙ (omega arith)

-- the right side of a division, coefficient by coefficient
pub divided-zero : (q : List ℕ) (r s : ℕ)
    → Same (get_or (poly_sum (poly_product (minus_root r) q) (s ∷ [])) 0 0) (word_negation r * get_or q 0 0 + s)
divided-zero q r s =
    ap (λ (x : ℕ). x % modulus)
    (get_or-poly_sum (poly_product (minus_root r) q) (s ∷ []) 0
    ∙ ap (λ (x : ℕ). (x + s) % modulus) (get_or-poly_product (minus_root r) q 0))
    ∙ same_mod (convolution (minus_root r) q 0 % modulus + s)
    ∙ same_add _ (word_negation r * get_or q 0 0) s s
    (same_mod (convolution (minus_root r) q 0) ∙ ap (λ (x : ℕ). x % modulus) (linear-zero (word_negation r) q)) refl

pub divided-suc : (q : List ℕ) (r s k : ℕ)
    → Same (get_or (poly_sum (poly_product (minus_root r) q) (s ∷ [])) (suc k) 0)
    (word_negation r * get_or q (suc k) 0 + get_or q k 0)
divided-suc q r s k =
    ap (λ (x : ℕ). x % modulus)
    (get_or-poly_sum (poly_product (minus_root r) q) (s ∷ []) (suc k)
    ∙ ap (λ (x : ℕ). (x + 0) % modulus) (get_or-poly_product (minus_root r) q (suc k)))
    ∙ same_mod (convolution (minus_root r) q (suc k) % modulus + 0)
    ∙ same_add _ (word_negation r * get_or q (suc k) 0 + get_or q k 0) 0 0
    (same_mod (convolution (minus_root r) q (suc k))
    ∙ ap (λ (x : ℕ). x % modulus) (linear-suc (word_negation r) q k)) refl
    ∙ ap (λ (x : ℕ). x % modulus) (plus_zero (word_negation r * get_or q (suc k) 0 + get_or q k 0))

-- Synthetic division: each coefficient of the quotient is the one above it times the root, plus the polynomial's
pub record IsSynthetic (poly quotient : List ℕ) (root remainder : ℕ) : Type 0 where
  pub size : length quotient + 1 ≡ length poly
  pub lowest : Same remainder (get_or poly 0 0 + root * get_or quotient 0 0)
  pub others : (k : ℕ) → k < length quotient
      → Same (get_or quotient k 0) (get_or poly (suc k) 0 + root * get_or quotient (suc k) 0)

divided_at : (poly q : List ℕ) (r s : ℕ) → AreWords poly → r < modulus → IsSynthetic poly q r s → (k : ℕ) → k < length poly
    → Same (get_or (poly_sum (poly_product (minus_root r) q) (s ∷ [])) k 0) (get_or poly k 0)
divided_at poly q r s words below h zero inside =
    let regrouped : word_negation r * get_or q 0 0 + (get_or poly 0 0 + r * get_or q 0 0)
    ≡ word_negation r * get_or q 0 0 + r * get_or q 0 0 + get_or poly 0 0 = omega arith in
    divided-zero q r s
    ∙ same_add (word_negation r * get_or q 0 0) (word_negation r * get_or q 0 0) s _ refl h.lowest
    ∙ ap (λ (x : ℕ). x % modulus) regrouped
    ∙ same_add _ 0 (get_or poly 0 0) (get_or poly 0 0) (negated r (get_or q 0 0) below) refl
    ∙ ap (λ (x : ℕ). x % modulus) (zero_plus (get_or poly 0 0))
divided_at poly q r s words below h (suc k) inside =
    let size : length q + 1 ≡ length poly = h.size in
    let regrouped : word_negation r * get_or q (suc k) 0 + (get_or poly (suc k) 0 + r * get_or q (suc k) 0)
    ≡ word_negation r * get_or q (suc k) 0 + r * get_or q (suc k) 0 + get_or poly (suc k) 0 = omega arith in
    divided-suc q r s k
    ∙ same_add (word_negation r * get_or q (suc k) 0) (word_negation r * get_or q (suc k) 0) (get_or q k 0) _ refl
    (h.others k (omega arith))
    ∙ ap (λ (x : ℕ). x % modulus) regrouped
    ∙ same_add _ 0 (get_or poly (suc k) 0) (get_or poly (suc k) 0) (negated r (get_or q (suc k) 0) below) refl
    ∙ ap (λ (x : ℕ). x % modulus) (zero_plus (get_or poly (suc k) 0))

-- synthetic division divides
pub divided_from : (poly q : List ℕ) (r s : ℕ) → AreWords poly → r < modulus → IsSynthetic poly q r s → IsDivided poly r q s
divided_from poly q r s words below h =
    let size : length q + 1 ≡ length poly = h.size in
    let product : length (poly_product (minus_root r) q) ≡ 2 + length q - 1 = length-poly_product (minus_root r) q in
    let whole : length (poly_sum (poly_product (minus_root r) q) (s ∷ []))
    ≡ max (length (poly_product (minus_root r) q)) 1 =
    length-poly_sum (poly_product (minus_root r) q) (s ∷ []) in
    ext_get_or 0 poly (poly_sum (poly_product (minus_root r) q) (s ∷ [])) (omega arith)
    (λ (k : ℕ) (inside : k < length poly).
    eq_from_same (get_or poly k 0) (get_or (poly_sum (poly_product (minus_root r) q) (s ∷ [])) k 0)
    (words k 0 inside) (coefficient_word (poly_product (minus_root r) q) (s ∷ []) k)
    (sym (divided_at poly q r s words below h k inside)))

-- ---- the remainder

first_is_value : (cs q : List ℕ) (r : ℕ) → length q ≡ length cs
    → ((k : ℕ) → k < length q → Same (get_or q k 0) (get_or cs k 0 + r * get_or q (suc k) 0))
    → Same (get_or q 0 0) (horner cs r)
first_is_value [] [] r size steps = refl
first_is_value [] (y ∷ q) r size steps = absurd (omega arith)
first_is_value (c ∷ cs) [] r size steps = absurd (omega arith)
first_is_value (c ∷ cs) (y ∷ q) r size steps =
    let rest : Same (get_or q 0 0) (horner cs r) =
    first_is_value cs q r (omega arith) (λ (k : ℕ) (h : k < length q). steps (suc k) (omega arith)) in
    steps 0 (omega arith) ∙ same_add c c (r * get_or q 0 0) (r * horner cs r) refl (same_mul r r _ _ refl rest)

-- the remainder of a synthetic division is the value
pub remainder_is_value : (poly q : List ℕ) (r s : ℕ) → IsSynthetic poly q r s → Same s (value_at poly r)
remainder_is_value [] q r s h = let size : length q + 1 ≡ 0 = h.size in absurd (omega arith)
remainder_is_value (c ∷ cs) q r s h =
    let size : length q + 1 ≡ length cs + 1 = h.size ∙ (omega arith) in
    let rest : Same (get_or q 0 0) (horner cs r) = first_is_value cs q r (omega arith) h.others in
    h.lowest ∙ same_add c c (r * get_or q 0 0) (r * horner cs r) refl (same_mul r r _ _ refl rest)
    ∙ sym (ap (λ (x : ℕ). x % modulus) (value_at-horner (c ∷ cs) r) ∙ same_mod (horner (c ∷ cs) r))

-- the value of x - root at the root is 0
minus_root-value : (r : ℕ) → r < modulus → value_at (minus_root r) r ≡ 0
minus_root-value r below =
    let one : word_negation r * 1 + r * 1 ≡ word_negation r + r * (1 + r * 0) = omega arith in
    value_at-horner (minus_root r) r ∙ ap (λ (x : ℕ). x % modulus) (sym one) ∙ negated r 1 below

-- the remainder of any division is the value
pub remainder_of_divided : (poly q : List ℕ) (r s : ℕ) → r < modulus → s < modulus → IsDivided poly r q s → s ≡ value_at poly r
remainder_of_divided poly q r s r_below s_below e =
    let single : value_at (s ∷ []) r ≡ s =
    value_at-horner (s ∷ []) r ∙ ap (λ (x : ℕ). x % modulus) (alone s r) ∙ word_mod s s_below in
    let gone : value_at (poly_product (minus_root r) q) r ≡ 0 =
    value_at-poly_product (minus_root r) q r
    ∙ ap (λ (x : ℕ). x * value_at q r % modulus) (minus_root-value r r_below)
    ∙ ap (λ (x : ℕ). x % modulus) (zero_of (value_at q r)) in
    sym
    (ap (λ (p : List ℕ). value_at p r) e ∙ value_at-poly_sum (poly_product (minus_root r) q) (s ∷ []) r
    ∙ ap₂ (λ (x y : ℕ). (x + y) % modulus) gone single ∙ ap (λ (x : ℕ). x % modulus) (zero_plus s)
    ∙ word_mod s s_below)

-- ---- one quotient

-- the quotient by x - r of a polynomial whose coefficients above the lowest are these
abbrev pub deflate : List ℕ → ℕ → List ℕ
deflate [] r = []
deflate (c ∷ cs) r = horner (c ∷ cs) r ∷ deflate cs r

pub length-deflate : (cs : List ℕ) (r : ℕ) → length (deflate cs r) ≡ length cs
length-deflate [] r = refl
length-deflate (c ∷ cs) r = ap suc (length-deflate cs r)

pub deflate-first : (cs : List ℕ) (r : ℕ) → get_or (deflate cs r) 0 0 ≡ horner cs r
deflate-first [] r = refl
deflate-first (c ∷ cs) r = refl

-- the same quotient, of words
abbrev pub quotient_words : List ℕ → ℕ → List ℕ
quotient_words [] r = []
quotient_words (c ∷ cs) r = horner (c ∷ cs) r % modulus ∷ quotient_words cs r

length-quotient_words : (cs : List ℕ) (r : ℕ) → length (quotient_words cs r) ≡ length cs
length-quotient_words [] r = refl
length-quotient_words (c ∷ cs) r = ap suc (length-quotient_words cs r)

quotient_words-words : (cs : List ℕ) (r : ℕ) → AreWords (quotient_words cs r)
quotient_words-words [] r k d inside = absurd (omega arith)
quotient_words-words (c ∷ cs) r zero d inside = mod_word (horner (c ∷ cs) r)
quotient_words-words (c ∷ cs) r (suc k) d inside = quotient_words-words cs r k d (omega arith)

quotient_words-first : (cs : List ℕ) (r : ℕ) → Same (get_or (quotient_words cs r) 0 0) (horner cs r)
quotient_words-first [] r = refl
quotient_words-first (c ∷ cs) r = same_mod (horner (c ∷ cs) r)

quotient_words-others : (cs : List ℕ) (r k : ℕ) → k < length cs
    → Same (get_or (quotient_words cs r) k 0) (get_or cs k 0 + r * get_or (quotient_words cs r) (suc k) 0)
quotient_words-others [] r k inside = absurd (omega arith)
quotient_words-others (c ∷ cs) r zero inside =
    same_mod (c + r * horner cs r)
    ∙ same_add c c _ _ refl (same_mul r r (horner cs r) _ refl (sym (quotient_words-first cs r)))
quotient_words-others (c ∷ cs) r (suc k) inside = quotient_words-others cs r k (omega arith)

-- each polynomial with a coefficient has a quotient
pub quotient_exists : (poly : List ℕ) (r : ℕ) → AreWords poly → r < modulus → 0 < length poly
    → (q : List ℕ) × AreWords q × (length q + 1 ≡ length poly) × IsDivided poly r q (value_at poly r)
quotient_exists [] r words below some = absurd (omega arith)
quotient_exists (c ∷ cs) r words below some =
    let size : length (quotient_words cs r) ≡ length cs = length-quotient_words cs r in
    let synthetic : IsSynthetic (c ∷ cs) (quotient_words cs r) r (value_at (c ∷ cs) r) =
    record {
      size = omega arith;
      lowest =
          ap (λ (x : ℕ). x % modulus) (value_at-horner (c ∷ cs) r) ∙ same_mod (horner (c ∷ cs) r)
          ∙ same_add c c _ _ refl (same_mul r r (horner cs r) _ refl (sym (quotient_words-first cs r)));
      others = λ (k : ℕ) (inside : k < length (quotient_words cs r)). quotient_words-others cs r k (omega arith);
    } in (
      quotient_words cs r,
      quotient_words-words cs r,
      omega arith,
      divided_from (c ∷ cs) (quotient_words cs r) r (value_at (c ∷ cs) r) words below synthetic,
    )

-- words whose every second sum is the same, from the end down
same_from_sums : (n : ℕ) (p q : List ℕ) → AreWords p → AreWords q → length p ≡ length q
    → ((k : ℕ) → Same (n * get_or p (suc k) 0 + get_or p k 0) (n * get_or q (suc k) 0 + get_or q k 0)) → p ≡ q
same_from_sums n [] [] p_words q_words size same = refl
same_from_sums n [] (y ∷ q) p_words q_words size same = absurd (omega arith)
same_from_sums n (x ∷ p) [] p_words q_words size same = absurd (omega arith)
same_from_sums n (x ∷ p) (y ∷ q) p_words q_words size same =
    let rest : p ≡ q =
    same_from_sums n p q (λ (k d : ℕ) (h : k < length p). p_words (suc k) d (omega arith))
    (λ (k d : ℕ) (h : k < length q). q_words (suc k) d (omega arith)) (omega arith) (λ (k : ℕ). same (suc k)) in
    let first : Same (n * get_or p 0 0 + x) (n * get_or q 0 0 + y) = same 0 in
    let common : n * get_or q 0 0 ≡ n * get_or p 0 0 = ap (λ (l : List ℕ). n * get_or l 0 0) (sym rest) in
    let turned : Same (x + n * get_or p 0 0) (y + n * get_or p 0 0) =
    ap (λ (k : ℕ). k % modulus) (swapped x (n * get_or p 0 0)) ∙ first
    ∙ ap (λ (k : ℕ). (k + y) % modulus) common ∙ ap (λ (k : ℕ). k % modulus) (swapped (n * get_or p 0 0) y) in
    let head : x ≡ y =
    eq_from_same x y (p_words 0 0 (omega arith)) (q_words 0 0 (omega arith))
    (same_cancel x y (n * get_or p 0 0) turned) in
    ap₂ (λ (a : ℕ) (l : List ℕ). a ∷ l) head rest

pub quotient_unique : (poly p q : List ℕ) (root r s : ℕ) → root < modulus → AreWords p → AreWords q → length p ≡ length q
    → IsDivided poly root p r → IsDivided poly root q s → p ≡ q
quotient_unique poly p q root r s below p_words q_words size left right =
    same_from_sums (word_negation root) p q p_words q_words size
    (λ (k : ℕ).
    sym (divided-suc p root r k) ∙ ap (λ (l : List ℕ). get_or l (suc k) 0 % modulus) (sym left ∙ right)
    ∙ divided-suc q root s k)
