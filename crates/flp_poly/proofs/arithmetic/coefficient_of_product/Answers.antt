use Rattle.std.proofs.Common.{ℕ, ◌≡◌, ◌+◌, ◌%◌, ◌∙◌, ap, sym, arith}
use Rattle.flp_field.specs.Word.{modulus}
use Rattle.flp_field.proofs.SumLemmas.{sum_to}
use Rattle.flp_poly.proofs.Products.{summand, sum_before, sum_after, sum_turn}
use Rattle.flp_poly.proofs.arithmetic.coefficient_of_product.Goals as goal

pub loop-i-init : goal.loop-i-init
loop-i-init c =
    ap (λ (n : ℕ). n % modulus)
    (sym (sum_before c.args.a.now c.args.b.now c.args.k c.saturating_sub-first.result c.saturating_sub-first.ensures))

pub loop-i-preserved : goal.loop-i-preserved
loop-i-preserved c =
    c.add-sum.ensures ∙ ap (λ (x : ℕ). (c.loop-i.sum + x) % modulus) c.mul.ensures
    ∙ sum_turn c.args.a.now c.args.b.now c.args.k c.loop-i.i c.loop-i.sum c.index-a-i.result c.index-b-k.result
    (omega arith) (omega arith) c.index-a-i.is c.index-b-k.is c.loop-i.invariant

pub returns : goal.returns
returns c =
    let done : c.loop-i.i ≡ c.min-end.result = omega arith in
    c.loop-i.invariant
    ∙ ap (λ (n : ℕ). sum_to (λ (j : ℕ). summand c.args.a.now c.args.b.now c.args.k j) n % modulus) done
    ∙ ap (λ (n : ℕ). n % modulus)
    (sym (sum_after c.args.a.now c.args.b.now c.args.k c.min-end.result c.min-end.ensures))
