-- What the gadgets of a circuit take. From one gadget up to all of them.
use Rattle.std.proofs.Common.{◌≡◌, ℕ, zero, suc, ◌+◌, ◌-◌, ◌*◌, ◌^◌, ◌<◌, ◌≤◌, List, [], ◌∷◌, length, Some, refl, sym, ◌∙◌, ap, ap₂, arith, mul-le-mul, add-zero, zero-add, inl, inr}
use Rattle.std.specs.List.{sum_by, range_with_len, slice_get}
use Rattle.std.proofs.lemmas.List.Sums.{sum_by-cons}
use Rattle.std.proofs.lemmas.Bool.{cases_lt}
use Rattle.std.proofs.Math.Pow.{pow_mono}
use Rattle.flp_gadget.specs.KindTree.{kind_arity, kind_degree}
use Rattle.flp_syntax.specs.Tree.{Program}
use Rattle.flp_meaning.specs.Gadgets as gadgets
use Rattle.flp_meaning.specs.Gadgets.{gadgets_of, ceil_log, size_of, log_of}
use Rattle.flp_meaning.specs.Lengths.{proof_part, verifier_part}
use Rattle.flp_meaning.proofs.PowerLemmas.{least_power}
use Rattle.flp_plan.specs.declared.gadgets.GadgetUse.{GadgetUse}
use Rattle.flp_plan.specs.Uses.{AreUsesOf, proof_words_in, verifier_words_in}

pub small_power : (log : ℕ) → log ≤ 12 → 2 ^ log ≤ 4096
small_power log h = let most : 2 ^ log ≤ 2 ^ 12 = pow_mono h in omega arith

-- the least exponent that serves is the one
pub log_is : (n log : ℕ) → n ≤ 2 ^ log → ((k : ℕ) → k < log → 2 ^ k < n) → log ≡ ceil_log n
log_is n log enough below =
    let power = least_power n in
    let most : ceil_log n ≤ log = power.1 log enough in
    elim (cases_lt (ceil_log n) log) [
      | inl less ↦ absurd (omega (arith, below (ceil_log n) less, power.0))
      | inr not_less ↦ omega arith
    ]

pub coefficients_few : (degree size : ℕ) → degree ≤ 8 → size ≤ 4096 → degree * (size - 1) ≤ 32760
coefficients_few degree size low small =
    let less : size - 1 ≤ 4095 = omega arith in
    let all : degree * (size - 1) ≤ 8 * 4095 = mul-le-mul low less in omega arith

pub points_few : (arity size : ℕ) → arity ≤ 1024 → size ≤ 4096 → arity * size ≤ 4194304
points_few arity size few small =
    let all : arity * size ≤ 1024 * 4096 = mul-le-mul few small in omega arith

-- the sum over one number more
pub sum_more : (f : ℕ → ℕ) (n : ℕ) → sum_by f (range_with_len 0 (n + 1)) ≡ sum_by f (range_with_len 0 n) + f n
sum_more f n = sum_more_from f 0 n n (omega arith) where
  sum_more_from : (f : ℕ → ℕ) (a n j : ℕ) → a + n ≡ j → sum_by f (range_with_len a (n + 1)) ≡ sum_by f (range_with_len a n) + f j
  sum_more_from f a zero j e =
      let here : a ≡ j = omega arith in sum_by-cons f a [] ∙ ap (λ (n : ℕ). f n + 0) here ∙ (omega arith)
  sum_more_from f a (suc n) j e =
      let count : suc n + 1 ≡ suc (n + 1) = omega arith in
      let front : sum_by f (range_with_len a (suc n)) ≡ f a + sum_by f (range_with_len (a + 1) n) = sum_by-cons f a (range_with_len (a + 1) n) in
      let rest : sum_by f (range_with_len (a + 1) (n + 1)) ≡ sum_by f (range_with_len (a + 1) n) + f j = sum_more_from f (a + 1) n j (omega arith) in
      ap (λ (k : ℕ). sum_by f (range_with_len a k)) count
      ∙ sum_by-cons f a (range_with_len (a + 1) (n + 1))
      ∙ (omega arith)

-- a sum over the gadgets' numbers is one over the gadgets
pub uses_sum : (f : ℕ → ℕ) (g : GadgetUse → ℕ) (uses : List GadgetUse) (start : ℕ)
    → ((k : ℕ) (held : GadgetUse) → slice_get uses k ≡ Some held → f (start + k) ≡ g held)
    → sum_by g uses ≡ sum_by f (range_with_len start (length uses))
uses_sum f g [] start same = refl
uses_sum f g (held ∷ uses) start same =
    let later : (k : ℕ) (other : GadgetUse) → slice_get uses k ≡ Some other → f (start + 1 + k) ≡ g other =
    λ k other there. (let shift : start + 1 + k ≡ start + suc k = omega arith in ap f shift ∙ same (suc k) other there) in
    sum_by-cons g held uses
    ∙ ap₂ (λ (a b : ℕ). a + b) (sym (same 0 held refl) ∙ ap f (add-zero start)) (uses_sum f g uses (start + 1) later)
    ∙ sym (sum_by-cons f start (range_with_len (start + 1) (length uses)))

module _ (body : Program) (uses : List GadgetUse) (are : AreUsesOf body uses) where
  arity : (k : ℕ) (held : GadgetUse) → slice_get uses k ≡ Some held → gadgets.arity_of body k ≡ kind_arity held.kind
  arity k held there = ap kind_arity (sym (are.each k held there).kind)

  degree : (k : ℕ) (held : GadgetUse) → slice_get uses k ≡ Some held → gadgets.degree_of body k ≡ kind_degree held.kind
  degree k held there = ap kind_degree (sym (are.each k held there).kind)

  size : (k : ℕ) (held : GadgetUse) → slice_get uses k ≡ Some held → size_of body k ≡ 2 ^ held.log
  size k held there = ap (λ (log : ℕ). 2 ^ log) (sym (are.each k held there).log)

  over_gadgets : (f : ℕ → ℕ) (g : GadgetUse → ℕ) → ((k : ℕ) (held : GadgetUse) → slice_get uses k ≡ Some held → f k ≡ g held)
      → sum_by g uses ≡ sum_by f (gadgets_of body)
  over_gadgets f g same =
      uses_sum f g uses 0 (λ k held there. ap f (zero-add k) ∙ same k held there)
      ∙ ap (λ (n : ℕ). sum_by f (range_with_len 0 n)) are.count

  pub uses_arity : sum_by (λ (held : GadgetUse). kind_arity held.kind) uses ≡ sum_by (gadgets.arity_of body) (gadgets_of body)
  uses_arity = over_gadgets (gadgets.arity_of body) (λ held. kind_arity held.kind) arity

  pub uses_proof : sum_by proof_words_in uses ≡ sum_by (proof_part body) (gadgets_of body)
  uses_proof = over_gadgets (proof_part body) proof_words_in (λ k held there.
      ap₂ (λ (a b : ℕ). a + b) (arity k held there)
      (ap₂ (λ (d s : ℕ). d * (s - 1) + 1) (degree k held there) (size k held there)))

  pub uses_verifier : sum_by verifier_words_in uses ≡ sum_by (verifier_part body) (gadgets_of body)
  uses_verifier = over_gadgets (verifier_part body) verifier_words_in (λ k held there. ap (λ (a : ℕ). a + 1) (arity k held there))
