use Rattle.std.proofs.Common.{ℕ, ◌≡◌, ◌+◌, ◌%◌, ◌∙◌, ap, sym, arith, drop}
use Rattle.flp_field.specs.Word.{modulus}
use Rattle.flp_poly.proofs.Horner.{horner, horner_step, value_at-horner}
use Rattle.flp_poly.proofs.evaluation.eval.Goals as goal

pub loop-left-preserved : goal.loop-left-preserved
loop-left-preserved c = record {
  inside = omega arith;
  value =
      c.add-value.ensures ∙ ap (λ (x : ℕ). (x + c.index-poly-left.result) % modulus) c.mul.ensures
      ∙ horner_step c.args.poly.now c.args.at c.loop-left.left c.loop-left.value c.index-poly-left.result
      (omega arith) c.loop-left.invariant.inside c.loop-left.invariant.value c.index-poly-left.is;
}

pub returns : goal.returns
returns c =
    let done : c.loop-left.left ≡ 0 = omega arith in
    c.loop-left.invariant.value ∙ ap (λ (n : ℕ). horner (drop n c.args.poly.now) c.args.at % modulus) done
    ∙ sym (value_at-horner c.args.poly.now c.args.at)
