use Rattle.std.proofs.Common.{ℕ, ◌≡◌, ◌%◌, ◌^◌, ◌<◌, ◌≤◌, ◌∙◌, Bool, true, false, List, sym, subst, refl, length, ap, arith, lit<}
use Rattle.std.specs.List.{Contains}
use Rattle.std.proofs.Math.Nat.{pow-le-pow_right}
use Rattle.std.proofs.lemmas.Bool.{eqb-true, eqb-false}
use Rattle.flp_field.specs.Word.{modulus}
use Rattle.flp_field.specs.Domain.{domain}
use Rattle.flp_field.specs.Sums.{dot_product}
use Rattle.flp_poly.specs.Polynomial.{value_at}
use Rattle.flp_poly.specs.Interpolation.{Interpolates, interpolated}
use Rattle.flp_poly.specs.Weights.{weights}
use Rattle.flp_poly.proofs.Interpolation.{interpolation_exists, interpolation_unique}
use Rattle.flp_poly.proofs.WeightLemmas.{weights_give_value}
use Rattle.flp_ntt.proofs.Transforms.{inside_from, inside_to}
use Rattle.flp_ntt.proofs.interpolation.at_point.Goals as goal

pub weights-requires : goal.weights-requires
weights-requires c = (c.requires.size.0, c.requires.size.1, c.requires.room ∙ c.requires.size.2)

pub dot-requires-clause-few : goal.dot-requires-clause-few
dot-requires-clause-few c =
    let most : 2 ^ c.requires.size.0 ≤ 2 ^ 20 = pow-le-pow_right {n = 2} (lit< tt) c.requires.size.1 in
    let size : length c.args.values.now ≡ 2 ^ c.requires.size.0 = c.requires.size.2 in
    omega arith

pub returns-then-eq-clause-inside : goal.returns-then-eq-clause-inside
returns-then-eq-clause-inside c =
    let P : ℕ → Type 0 = λ (n : ℕ). n < modulus in
    let word : c.args.point < modulus = subst P c.value-word.ensures.same c.value-word.ensures.below in
    let one : c.weights.result ≡ 1 = eqb-true c.weights.result 1 (sym c.eq.ensures ∙ c.if-eq.true) in (
      λ (none : ◌≡◌ {A = Bool} false false).
          inside_from c.requires.size.0 (length c.args.values.now) c.args.point c.requires.size.1 c.requires.size.2 word
          (ap (λ (n : ℕ). c.args.point ^ n % modulus) (sym c.requires.room) ∙ sym c.weights.ensures.power ∙ one),
      λ (inside : Contains (domain (length c.args.values.now)) c.args.point). refl,
    )

pub returns-clause-inside : goal.returns-clause-inside
returns-clause-inside c =
    let P : ℕ → Type 0 = λ (n : ℕ). n < modulus in
    let word : c.args.point < modulus = subst P c.value-word.ensures.same c.value-word.ensures.below in
    let other : c.weights.result ≡ 1 → ⊥ = eqb-false c.weights.result 1 (sym c.eq.ensures ∙ c.if-eq.false) in (
      λ (some : ◌≡◌ {A = Bool} true false). cc,
      λ (inside : Contains (domain (length c.args.values.now)) c.args.point).
          absurd
          (other
          (c.weights.ensures.power ∙ ap (λ (n : ℕ). c.args.point ^ n % modulus) c.requires.room
          ∙ inside_to c.requires.size.0 (length c.args.values.now) c.args.point c.requires.size.1 c.requires.size.2 word
          inside)),
    )

value_of : (values room : List ℕ) (point value : ℕ) → value ≡ dot_product room values
    → room ≡ weights (length values) point → value ≡ value_at (interpolated values) point
value_of values room point value product is =
    product ∙ ap (λ (l : List ℕ). dot_product l values) is ∙ sym (weights_give_value point values)

pub returns-clause-value : goal.returns-clause-value
returns-clause-value c =
    value_of c.args.values.now c.weights.new.out c.args.point c.dot.result c.dot.ensures
    (c.weights.ensures.weights ∙ ap (λ (n : ℕ). weights n c.args.point) c.requires.room)

pub returns-clause-through : goal.returns-clause-through
returns-clause-through c =
    λ (coefficients : List ℕ) (through : Interpolates coefficients c.args.values.now).
    value_of c.args.values.now c.weights.new.out c.args.point c.dot.result c.dot.ensures
    (c.weights.ensures.weights ∙ ap (λ (n : ℕ). weights n c.args.point) c.requires.room)
    ∙ ap (λ (l : List ℕ). value_at l c.args.point)
    (interpolation_unique c.requires.size.0 (interpolated c.args.values.now) coefficients c.args.values.now (omega arith)
    c.requires.size.2
    (interpolation_exists c.requires.size.0 c.args.values.now (omega arith) c.words.ensures c.requires.size.2) through)
