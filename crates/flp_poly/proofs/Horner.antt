-- The value of a polynomial by Horner's rule, before the remainder is taken. From the rule up.
use Rattle.std.proofs.Common.{ℕ, suc, ◌≡◌, ◌+◌, ◌*◌, ◌%◌, ◌^◌, ◌<◌, ◌≤◌, List, [], ◌∷◌, ◌++◌, length, get_or, take, drop, arith, ap, ap₂, sym, ◌∙◌, refl, add-one, ◌-◌}
use Rattle.std.proofs.Math.Nat.{pow-suc, pow-zero}
use Rattle.std.proofs.lemmas.List.{at_drop_more, get_or_read, length-take-le, length-drop, drop-drop, take-append-drop, get_or-take}
use Rattle.flp_field.specs.Word.{modulus}
use Rattle.flp_field.specs.Domain.{powers_of}
use Rattle.flp_field.specs.Sums.{sum_of_products, dot_product}
use Rattle.flp_field.proofs.Congruence.{Same, same_add, same_mul, same_mod}
use Rattle.flp_field.proofs.RootsOfUnity.{get_or-powers_of}
use Rattle.flp_field.proofs.SumLemmas.{sum_to, sum_to-first, sum_to-same, sum_to-times, sum_to-congruent}
use Rattle.flp_poly.specs.Polynomial.{sum_of_terms, value_at}

abbrev pub horner : List ℕ → ℕ → ℕ
horner [] t = 0
horner (c ∷ cs) t = c + t * horner cs t

pub terms-horner : (i : ℕ) (cs : List ℕ) (t : ℕ) → sum_of_terms i cs t ≡ t ^ i * horner cs t
terms-horner i [] t = omega arith
terms-horner i (c ∷ cs) t =
    let rest : sum_of_terms (i + 1) cs t ≡ t ^ (i + 1) * horner cs t = terms-horner (i + 1) cs t in
    let power : t ^ (i + 1) ≡ t ^ i * t = ap (λ (k : ℕ). t ^ k) (add-one i) ∙ pow-suc t i in
    let turned : t ^ (i + 1) * horner cs t ≡ t ^ i * t * horner cs t = ap (λ (k : ℕ). k * horner cs t) power in
    rw (rest, turned) (omega arith)

pub value_at-horner : (cs : List ℕ) (t : ℕ) → value_at cs t ≡ horner cs t % modulus
value_at-horner cs t =
    let one : t ^ 0 * horner cs t ≡ horner cs t = ap (λ (k : ℕ). k * horner cs t) (pow-zero t) ∙ (omega arith) in
    ap (λ (k : ℕ). k % modulus) (terms-horner 0 cs t ∙ one)

-- the value is that of the coefficients modulo p, however long the list is
pub horner_same : (cs ds : List ℕ) (t : ℕ) → ((k : ℕ) → Same (get_or cs k 0) (get_or ds k 0))
    → Same (horner cs t) (horner ds t)
horner_same [] [] t same = refl
horner_same (c ∷ cs) [] t same =
    let rest : Same (horner cs t) 0 = horner_same cs [] t (λ (k : ℕ). same (suc k)) in
    let nothing : 0 + t * 0 ≡ 0 = omega arith in
    same_add c 0 (t * horner cs t) (t * 0) (same 0) (same_mul t t (horner cs t) 0 refl rest)
    ∙ ap (λ (k : ℕ). k % modulus) nothing
horner_same [] (d ∷ ds) t same =
    let rest : Same 0 (horner ds t) = horner_same [] ds t (λ (k : ℕ). same (suc k)) in
    let nothing : 0 ≡ 0 + t * 0 = omega arith in
    ap (λ (k : ℕ). k % modulus) nothing
    ∙ same_add 0 d (t * 0) (t * horner ds t) (same 0) (same_mul t t 0 (horner ds t) refl rest)
horner_same (c ∷ cs) (d ∷ ds) t same =
    same_add c d (t * horner cs t) (t * horner ds t) (same 0)
    (same_mul t t (horner cs t) (horner ds t) refl (horner_same cs ds t (λ (k : ℕ). same (suc k))))

-- the point may be taken modulo p
pub horner_point : (cs : List ℕ) (s t : ℕ) → Same s t → Same (horner cs s) (horner cs t)
horner_point [] s t e = refl
horner_point (c ∷ cs) s t e =
    same_add c c (s * horner cs s) (t * horner cs t) refl
    (same_mul s t (horner cs s) (horner cs t) e (horner_point cs s t e))

turned : (x t h : ℕ) → x + t * h ≡ h * t + x
turned x t h = omega arith

-- one turn of Horner's rule, from the last coefficient down
pub horner_step : (cs : List ℕ) (t left v x : ℕ) → 0 < left → left ≤ length cs → v ≡ horner (drop left cs) t % modulus
    → x ≡ get_or cs (left - 1) x → ((v * t) % modulus + x) % modulus ≡ horner (drop (left - 1) cs) t % modulus
horner_step cs t left v x some inside value read =
    let next : left - 1 + 1 ≡ left = omega arith in
    let here : x ≡ get_or cs (left - 1) 0 = get_or_read cs (left - 1) x (omega arith) read 0 in
    let opened : horner (drop (left - 1) cs) t ≡ get_or cs (left - 1) 0 + t * horner (drop (left - 1 + 1) cs) t =
    at_drop_more (λ (l : List ℕ). horner l t) cs (left - 1) 0 (omega arith) in
    let rest : get_or cs (left - 1) 0 + t * horner (drop (left - 1 + 1) cs) t ≡ horner (drop left cs) t * t + x =
    ap₂ (λ (a n : ℕ). a + t * horner (drop n cs) t) (sym here) next ∙ turned x t (horner (drop left cs) t) in
    same_add _ (horner (drop left cs) t * t) x x
    (same_mod (v * t)
    ∙ same_mul v (horner (drop left cs) t) t t
    (ap (λ (n : ℕ). n % modulus) value ∙ same_mod (horner (drop left cs) t)) refl) refl
    ∙ ap (λ (n : ℕ). n % modulus) (sym (opened ∙ rest))

-- a polynomial in two parts
pub horner-append : (cs ds : List ℕ) (t : ℕ) → horner (cs ++ ds) t ≡ horner cs t + t ^ length cs * horner ds t
horner-append [] ds t =
    let one : t ^ 0 * horner ds t ≡ 1 * horner ds t = ap (λ (k : ℕ). k * horner ds t) (pow-zero t) in
    omega arith
horner-append (c ∷ cs) ds t =
    let rest : t * horner (cs ++ ds) t ≡ t * (horner cs t + t ^ length cs * horner ds t) =
    ap (λ (k : ℕ). t * k) (horner-append cs ds t) in
    let power : t ^ suc (length cs) * horner ds t ≡ t ^ length cs * t * horner ds t =
    ap (λ (k : ℕ). k * horner ds t) (pow-suc t (length cs)) in
    omega arith

-- ---- by powers

power_out : (c t j : ℕ) → c * t ^ suc j ≡ t * (c * t ^ j)
power_out c t j = let power : c * t ^ suc j ≡ c * (t ^ j * t) = ap (λ (p : ℕ). c * p) (pow-suc t j) in omega arith

-- the value is the sum of the coefficients times the powers
horner-sum : (cs : List ℕ) (t : ℕ) → horner cs t ≡ sum_to (λ (j : ℕ). get_or cs j 0 * t ^ j) (length cs)
horner-sum [] t = refl
horner-sum (c ∷ cs) t =
    let rest : horner cs t ≡ sum_to (λ (j : ℕ). get_or cs j 0 * t ^ j) (length cs) = horner-sum cs t in
    let times : sum_to (λ (j : ℕ). t * (get_or cs j 0 * t ^ j)) (length cs)
    ≡ t * sum_to (λ (j : ℕ). get_or cs j 0 * t ^ j) (length cs) =
    sum_to-times t (λ (j : ℕ). get_or cs j 0 * t ^ j) (length cs) in
    let shifted : sum_to (λ (j : ℕ). get_or cs j 0 * t ^ suc j) (length cs)
    ≡ sum_to (λ (j : ℕ). t * (get_or cs j 0 * t ^ j)) (length cs) =
    sum_to-same (λ (j : ℕ). get_or cs j 0 * t ^ suc j) (λ (j : ℕ). t * (get_or cs j 0 * t ^ j)) (length cs)
    (λ (j : ℕ) (h : j < length cs). power_out (get_or cs j 0) t j) in
    let first : sum_to (λ (j : ℕ). get_or (c ∷ cs) j 0 * t ^ j) (suc (length cs))
    ≡ c * t ^ 0 + sum_to (λ (j : ℕ). get_or cs j 0 * t ^ suc j) (length cs) =
    sum_to-first (λ (j : ℕ). get_or (c ∷ cs) j 0 * t ^ j) (length cs) in
    let one : c * t ^ 0 ≡ c = ap (λ (p : ℕ). c * p) (pow-zero t) ∙ (omega arith) in
    ap (λ (s : ℕ). c + t * s) rest
    ∙ ap₂ (λ (a b : ℕ). a + b) (sym one) (sym (shifted ∙ times)) ∙ sym first

-- it is the inner product with the powers
pub dot-powers : (cs ps : List ℕ) (t : ℕ) → ((k : ℕ) → k < length cs → Same (get_or ps k 0) (t ^ k))
    → Same (sum_of_products cs ps) (horner cs t)
dot-powers cs ps t same =
    sum_to-congruent (λ (j : ℕ). get_or cs j 0 * get_or ps j 0) (λ (j : ℕ). get_or cs j 0 * t ^ j) (length cs)
    (λ (j : ℕ) (h : j < length cs).
    same_mul (get_or cs j 0) (get_or cs j 0) (get_or ps j 0) (t ^ j) refl (same j h))
    ∙ ap (λ (x : ℕ). x % modulus) (sym (horner-sum cs t))

-- a block more of Horner's rule
pub horner_block : (poly powers part low : List ℕ) (t left size v p d : ℕ) → size ≤ left → left ≤ length poly
    → size < length powers → powers ≡ powers_of t (length powers) → part ≡ take size (drop (left - size) poly)
    → low ≡ take size powers → v ≡ horner (drop left poly) t % modulus → d ≡ dot_product part low
    → p ≡ get_or powers size 0
    → ((v * p) % modulus + d) % modulus ≡ horner (drop (left - size) poly) t % modulus
horner_block poly powers part low t left size v p d inside long within powers_are part_is low_is v_is d_is p_is =
    let whole : left - size + size ≡ left = omega arith in
    let behind : length (drop (left - size) poly) ≡ length poly - (left - size) = length-drop (left - size) poly in
    let count : length part ≡ size =
    ap length part_is ∙ length-take-le size (drop (left - size) poly) (omega arith) in
    let joined : drop (left - size) poly ≡ part ++ drop left poly =
    sym (take-append-drop size (drop (left - size) poly))
    ∙ ap₂ (λ (l m : List ℕ). l ++ m) (sym part_is)
    (drop-drop size (left - size) poly ∙ ap (λ (n : ℕ). drop n poly) whole) in
    let power : (k : ℕ) → k < length powers → get_or powers k 0 ≡ t ^ k % modulus =
    λ (k : ℕ) (h : k < length powers).
    ap (λ (l : List ℕ). get_or l k 0) powers_are ∙ get_or-powers_of t (length powers) k 0 h in
    let p_power : Same p (t ^ size) =
    ap (λ (x : ℕ). x % modulus) (p_is ∙ power size within) ∙ same_mod (t ^ size) in
    let part_value : Same d (horner part t) =
    ap (λ (x : ℕ). x % modulus) d_is ∙ same_mod (sum_of_products part low)
    ∙ dot-powers part low t
    (λ (k : ℕ) (h : k < length part).
    ap (λ (x : ℕ). x % modulus)
    (ap (λ (l : List ℕ). get_or l k 0) low_is ∙ get_or-take size powers k 0 (omega arith) ∙ power k (omega arith))
    ∙ same_mod (t ^ k)) in
    let v_value : Same v (horner (drop left poly) t) =
    ap (λ (x : ℕ). x % modulus) v_is ∙ same_mod (horner (drop left poly) t) in
    let turned : horner (drop left poly) t * t ^ size + horner part t
    ≡ horner part t + t ^ size * horner (drop left poly) t = omega arith in
    same_add ((v * p) % modulus) (horner (drop left poly) t * t ^ size) d (horner part t)
    (same_mod (v * p) ∙ same_mul v (horner (drop left poly) t) p (t ^ size) v_value p_power) part_value
    ∙ ap (λ (x : ℕ). x % modulus)
    (turned
    ∙ sym
    (ap (λ (l : List ℕ). horner l t) joined ∙ horner-append part (drop left poly) t
    ∙ ap (λ (n : ℕ). horner part t + t ^ n * horner (drop left poly) t) count))
