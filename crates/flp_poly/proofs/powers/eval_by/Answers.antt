use Rattle.std.proofs.Common.{ℕ, ◌≡◌, ◌+◌, ◌-◌, ◌%◌, ◌∙◌, List, length, take, drop, arith, ap, sym, refl}
use Rattle.std.proofs.lemmas.List.{get_or_read, drop_all}
use Rattle.flp_field.specs.Word.{modulus}
use Rattle.flp_field.specs.Domain.{powers_of}
use Rattle.flp_poly.proofs.Horner.{horner, horner_block, value_at-horner}
use Rattle.flp_poly.proofs.powers.eval_by.Goals as goal

pub loop-left-init : goal.loop-left-init
loop-left-init c = record {
  inside = omega arith;
  value =
      λ (t : ℕ) (are : c.args.powers.now ≡ powers_of t (length c.args.powers.now)).
      ap (λ (l : List ℕ). horner l t % modulus) (sym (drop_all (length c.args.poly.now) c.args.poly.now (omega arith)));
}

pub loop-left-preserved : goal.loop-left-preserved
loop-left-preserved c =
    let count : c.loop-left.left - (c.loop-left.left - c.min-size.result) ≡ c.min-size.result = omega arith in
    record {
      inside = omega arith;
      value =
          λ (t : ℕ) (are : c.args.powers.now ≡ powers_of t (length c.args.powers.now)).
          c.add-value.ensures
          ∙ ap (λ (x : ℕ). (x + c.dot-part.result) % modulus) c.mul.ensures
          ∙ horner_block c.args.poly.now c.args.powers.now _ _ t c.loop-left.left c.min-size.result c.loop-left.value
          c.index-powers-size.result c.dot-part.result (omega arith) c.loop-left.invariant.inside (omega arith) are
          (ap (λ (n : ℕ). take n (drop (c.loop-left.left - c.min-size.result) c.args.poly.now)) count) refl
          (c.loop-left.invariant.value t are) c.dot-part.ensures
          (get_or_read c.args.powers.now c.min-size.result c.index-powers-size.result (omega arith)
          c.index-powers-size.is 0);
    }

pub returns : goal.returns
returns c =
    λ (t : ℕ) (are : c.args.powers.now ≡ powers_of t (length c.args.powers.now)).
    let none : c.loop-left.left ≡ 0 = omega arith in
    c.loop-left.invariant.value t are ∙ ap (λ (n : ℕ). horner (drop n c.args.poly.now) t % modulus) none
    ∙ sym (value_at-horner c.args.poly.now t)
