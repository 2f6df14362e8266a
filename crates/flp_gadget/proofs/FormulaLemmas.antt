-- The coefficients of a kind's formula: how many there are, and that they are words.
use Rattle.std.proofs.Common.{ℕ, zero, suc, max, min, ◌≡◌, ◌+◌, ◌-◌, ◌*◌, ◌<◌, ◌≤◌, List, [], ◌∷◌, length, get_or, take, drop, arith, ap, ap₂, sym, subst, ◌∙◌}
use Rattle.std.specs.List.{All}
use Rattle.std.proofs.lemmas.List.{get_or_default}
use Rattle.std.proofs.lemmas.List.Elements.{All-take, All-drop}
use Rattle.flp_field.specs.Word.{modulus, AreWords}
use Rattle.flp_field.proofs.Congruence.{mod_word}
use Rattle.flp_poly.specs.Polynomial.{poly_sum, poly_product}
use Rattle.flp_poly.proofs.Products.{length-poly_sum, length-poly_product, get_or-poly_sum, get_or-poly_product}
use Rattle.flp_gadget.specs.Formulas.{nested, composed, total_over_groups}
use Rattle.flp_gadget.specs.LawProofs.{group_fits, rest_fits}
use Rattle.flp_gadget.specs.KindTree.{KindTree, Mul, Poly, Psum, kind_arity, kind_degree, formula_of, HasParts, IsKind}

-- ---- words

words_by : (cs : List ℕ) → ((k : ℕ) → get_or cs k 0 < modulus) → AreWords cs
words_by cs below k d inside =
    let P : ℕ → Type 0 = λ x. x < modulus in subst P (get_or_default cs k 0 d inside) (below k)

words-poly_sum : (p q : List ℕ) → AreWords (poly_sum p q)
words-poly_sum p q =
    words_by (poly_sum p q)
    (λ k. let P : ℕ → Type 0 = λ x. x < modulus in subst P (sym (get_or-poly_sum p q k)) (mod_word _))

words-poly_product : (p q : List ℕ) → AreWords (poly_product p q)
words-poly_product p q =
    words_by (poly_product p q)
    (λ k. let P : ℕ → Type 0 = λ x. x < modulus in subst P (sym (get_or-poly_product p q k)) (mod_word _))

words-composed : (cs p : List ℕ) → 2 ≤ length cs → AreWords (composed cs p)
words-composed [] p some = absurd (omega arith)
words-composed (c ∷ []) p some = absurd (omega arith)
words-composed (c ∷ d ∷ cs) p some = words-poly_sum (c ∷ []) (poly_product p (nested d cs p))

words-total : (formula : List (List ℕ) → List ℕ) (size count : ℕ) (ps : List (List ℕ)) → 1 ≤ count
    → AreWords (total_over_groups formula size count ps)
words-total formula size zero ps some = absurd (omega arith)
words-total formula size (suc count) ps some =
    words-poly_sum (formula (take size ps)) (total_over_groups formula size count (drop size ps))

words-parts : (tree : KindTree) (ps : List (List ℕ)) → HasParts tree → AreWords (formula_of tree ps)
words-parts Mul ps parts = words-poly_product (get_or ps 0 []) (get_or ps 1 [])
words-parts (Poly coeffs) ps parts = words-composed coeffs (get_or ps 0 []) parts.0
words-parts (Psum sub count) ps parts = words-total (formula_of sub) (kind_arity sub) count ps parts.0

pub words-formula : (tree : KindTree) (ps : List (List ℕ)) → IsKind tree → AreWords (formula_of tree ps)
words-formula tree ps kind = words-parts tree ps kind.parts

-- ---- how many

length-nested : (c : ℕ) (cs p : List ℕ) (n : ℕ) → length p ≡ suc n → length (nested c cs p) ≡ length cs * n + 1
length-nested c [] p n size = omega arith
length-nested c (d ∷ cs) p n size =
    let inner : length (nested d cs p) ≡ length cs * n + 1 = length-nested d cs p n size in
    let product : length (poly_product p (nested d cs p)) ≡ length p + length (nested d cs p) - 1 =
    length-poly_product p (nested d cs p) in
    let whole : length (poly_sum (c ∷ []) (poly_product p (nested d cs p)))
    ≡ max 1 (length (poly_product p (nested d cs p))) = length-poly_sum (c ∷ []) (poly_product p (nested d cs p)) in
    let more : length (d ∷ cs) * n ≡ n + length cs * n = omega arith in
    omega arith

length-composed : (cs p : List ℕ) (n : ℕ) → 2 ≤ length cs → length p ≡ suc n
    → length (composed cs p) ≡ (length cs - 1) * n + 1
length-composed [] p n some size = absurd (omega arith)
length-composed (c ∷ cs) p n some size =
    let less : length cs ≡ length (c ∷ cs) - 1 = omega arith in
    length-nested c cs p n size ∙ ap (λ k. k * n + 1) less

larger : (count k : ℕ) → max k (min count 1 * k) ≡ min (suc count) 1 * k
larger zero k = omega arith
larger (suc count) k =
    let here : min (suc count) 1 ≡ 1 = omega arith in
    let next : min (suc (suc count)) 1 ≡ 1 = omega arith in
    let once : max k (1 * k) ≡ 1 * k = omega arith in
    ap (λ m. max k (m * k)) here ∙ once ∙ ap (λ m. m * k) (sym next)

-- groups that give one number of coefficients each
length-total : (formula : List (List ℕ) → List ℕ) (size n k : ℕ)
    → ((ps : List (List ℕ)) → length ps ≡ size → All (λ p. length p ≡ n) ps → length (formula ps) ≡ k) → (count : ℕ)
    (ps : List (List ℕ)) → length ps ≡ count * size → All (λ p. length p ≡ n) ps
    → length (total_over_groups formula size count ps) ≡ min count 1 * k
length-total formula size n k same zero ps fits all = omega arith
length-total formula size n k same (suc count) ps fits all =
    let first : length (formula (take size ps)) ≡ k =
    same (take size ps) (group_fits size count ps fits) (All-take (λ p. length p ≡ n) size ps all) in
    let rest : length (total_over_groups formula size count (drop size ps)) ≡ min count 1 * k =
    length-total formula size n k same count (drop size ps) (rest_fits size count ps fits)
    (All-drop (λ p. length p ≡ n) size ps all) in
    length-poly_sum (formula (take size ps)) (total_over_groups formula size count (drop size ps))
    ∙ ap₂ max first rest ∙ larger count k

pub length-parts : (tree : KindTree) (ps : List (List ℕ)) (n : ℕ) → HasParts tree → length ps ≡ kind_arity tree
    → All (λ p. length p ≡ suc n) ps → length (formula_of tree ps) ≡ kind_degree tree * n + 1
length-parts Mul ps n parts fits all =
    let left : length (get_or ps 0 []) ≡ suc n = all 0 [] (omega arith) in
    let right : length (get_or ps 1 []) ≡ suc n = all 1 [] (omega arith) in
    let product : length (poly_product (get_or ps 0 []) (get_or ps 1 []))
    ≡ length (get_or ps 0 []) + length (get_or ps 1 []) - 1 = length-poly_product (get_or ps 0 []) (get_or ps 1 []) in
    omega arith
length-parts (Poly coeffs) ps n parts fits all =
    length-composed coeffs (get_or ps 0 []) n parts.0 (all 0 [] (omega arith))
length-parts (Psum sub count) ps n parts fits all =
    let some : min count 1 ≡ 1 = let at_least : 1 ≤ count = parts.0 in omega arith in
    let once : 1 * (kind_degree sub * n + 1) ≡ kind_degree sub * n + 1 = omega arith in
    length-total (formula_of sub) (kind_arity sub) (suc n) (kind_degree sub * n + 1)
    (λ qs size sizes. length-parts sub qs n parts.1 size sizes) count ps fits all
    ∙ ap (λ m. m * (kind_degree sub * n + 1)) some ∙ once

pub length-formula : (tree : KindTree) (ps : List (List ℕ)) (n : ℕ) → IsKind tree → 1 ≤ n → length ps ≡ kind_arity tree
    → All (λ p. length p ≡ n) ps → length (formula_of tree ps) ≡ kind_degree tree * (n - 1) + 1
length-formula tree ps zero kind some fits all = absurd (omega arith)
length-formula tree ps (suc n) kind some fits all =
    let less : n ≡ suc n - 1 = omega arith in
    length-parts tree ps n kind.parts fits all ∙ ap (λ k. kind_degree tree * k + 1) less
