-- The weight of the first point of a domain, which is not 0 at a point outside.
use Rattle.std.proofs.Common.{ℕ, ◌≡◌, ◌+◌, ◌*◌, ◌%◌, ◌^◌, ◌<◌, ◌≤◌, Bool, List, length, arith, ap, ap₂, get_or, sym, subst, ◌∙◌, refl, ⊎_elim}
use Rattle.std.specs.Prelude.{None, sum, ◌==◌}
use Rattle.std.proofs.lemmas.Bool.{cases_lt, false≢true, eq-eqb}
use Rattle.flp_field.specs.Word.{modulus, word_power}
use Rattle.flp_field.specs.Domain.{powers_of}
use Rattle.flp_field.proofs.Congruence.{Same, same_add, same_mul, mod_word}
use Rattle.flp_field.proofs.RootsOfUnity.{geometric}
use Rattle.flp_poly.specs.Interpolation.{inverse_root, inverse_size}
use Rattle.flp_poly.specs.Weights.{weight, weights}
use Rattle.flp_poly.proofs.Interpolation.{power_sum, start_power, inverse_size-times}
use Rattle.flp_poly.proofs.WeightLemmas.{weight-is, ones-power_sum, get_or-weights}
use Rattle.flp_syntax.specs.Tree.{Program}
use Rattle.flp_meaning.specs.Gadgets.{log_of, size_of}
use Rattle.flp_meaning.specs.Verifier.{point_of, gadget_in_domain}
use Rattle.flp_meaning.specs.ProofLaws.{IsBounded, IsFirst}
use Rattle.flp_meaning.proofs.PowerLemmas.{first_is_found}
use Rattle.flp_meaning.proofs.WireLemmas.{domains_hold}

-- where an inverse of the size times a sum is 0, the sum is 0
sum-none : (inverse size s : ℕ) → Same (inverse * size) 1 → Same (inverse * s) 0 → Same s 0
sum-none inverse size s unit none =
    let left : s ≡ 1 * s = omega arith in
    let turned : inverse * size * s ≡ size * (inverse * s) = omega arith in
    let nothing : size * 0 ≡ 0 = omega arith in
    ap (λ (x : ℕ). x % modulus) left ∙ same_mul 1 (inverse * size) s s (sym unit) refl
    ∙ ap (λ (x : ℕ). x % modulus) turned ∙ same_mul size size (inverse * s) 0 refl none
    ∙ ap (λ (x : ℕ). x % modulus) nothing

-- where the sum of the first powers is 0, the next power is 1
power-one : (t n : ℕ) → Same (power_sum t n) 0 → word_power t n ≡ 1
power-one t n none =
    let s : ℕ = sum (powers_of t n) in
    let gone : Same s 0 = ones-power_sum n t ∙ none in
    let nothing : t * 0 + 1 ≡ 1 = omega arith in
    let plain : 0 + t ^ n ≡ t ^ n = omega arith in
    let one : Same (t ^ n) 1 =
    sym (ap (λ (x : ℕ). x % modulus) plain) ∙ same_add 0 s (t ^ n) (t ^ n) (sym gone) refl
    ∙ sym (geometric t n)
    ∙ same_add (t * s) (t * 0) 1 1 (same_mul t t s 0 refl gone) refl ∙ ap (λ (x : ℕ). x % modulus) nothing in
    one

first-weight-some : (log t : ℕ) → log ≤ 32 → (word_power t (2 ^ log) ≡ 1 → ⊥) → 0 < weight (2 ^ log) t 0
first-weight-some log t small outside =
    let n : ℕ = 2 ^ log in
    ⊎_elim
    (λ (some : 0 < weight n t 0). some)
    (λ (low : weight n t 0 ≤ 0).
    let none : weight n t 0 ≡ 0 = omega arith in
    let product : Same (inverse_size n * power_sum t n) 0 =
    ap (λ (u : ℕ). (inverse_size n * power_sum u n) % modulus) (sym (start_power t (inverse_root n)))
    ∙ sym (weight-is n t 0) ∙ ap (λ (x : ℕ). x % modulus) none in
    absurd (outside (power-one t n (sum-none (inverse_size n) n (power_sum t n) (inverse_size-times log small) product))))
    (cases_lt 0 (weight n t 0))

-- it is a word
pub weight-word : (size t i : ℕ) → weight size t i < modulus
unfolding weight
weight-word size t i = mod_word _

-- no point lies in its domain
pub point-outside : (body : Program) (query : List ℕ) (gadget : ℕ) → gadget < length body.gadgets → gadget_in_domain body query ≡ None
    → word_power (point_of body query gadget) (size_of body gadget) ≡ 1 → ⊥
point-outside body query gadget inside outside in_domain =
    let test : ℕ → Bool = λ g. word_power (point_of body query g) (size_of body g) == 1 in
    let fails : IsFirst test 0 (length body.gadgets) None =
    subst (λ found. IsFirst test 0 (length body.gadgets) found) outside (first_is_found test 0 (length body.gadgets)) in
    false≢true (sym (fails gadget (omega arith) (omega arith)) ∙ eq-eqb _ _ in_domain)

pub weight-some : (body : Program) (query : List ℕ) (gadget : ℕ) → IsBounded body → gadget < length body.gadgets → gadget_in_domain body query ≡ None
    → 0 < weight (size_of body gadget) (point_of body query gadget) 0
weight-some body query gadget bounded inside outside =
    let small : log_of body gadget ≤ 12 = (domains_hold body gadget bounded inside).0 in
    first-weight-some (log_of body gadget) (point_of body query gadget) (omega arith) (point-outside body query gadget inside outside)

-- the first of the weights of a domain
pub weight-read : (ws : List ℕ) (size own_size t own_t first : ℕ) → ws ≡ weights size t → size ≡ own_size → t ≡ own_t → 0 < own_size
    → first ≡ get_or ws 0 0 → first ≡ weight own_size own_t 0
weight-read ws size own_size t own_t first are sized at some is =
    is ∙ ap (λ (l : List ℕ). get_or l 0 0) (are ∙ ap₂ (λ (n u : ℕ). weights n u) sized at) ∙ get_or-weights own_size own_t 0 some
