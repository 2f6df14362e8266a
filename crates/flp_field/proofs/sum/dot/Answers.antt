use Rattle.std.proofs.Common.{ℕ, ◌≡◌, ◌+◌, ◌*◌, ◌∙◌, arith, ap, ap₂, sym, get_or, add-one}
use Rattle.std.proofs.lemmas.List.{get_or_read}
use Rattle.flp_field.proofs.SumLemmas.{sum_to, sum_to-suc}
use Rattle.flp_field.proofs.sum.dot.Goals as goal

pub loop-k-preserved : goal.loop-k-preserved
loop-k-preserved c =
    let f : ℕ → ℕ = λ (j : ℕ). get_or c.args.a.now j 0 * get_or c.args.b.now j 0 in
    let a : c.index-a-k.result ≡ get_or c.args.a.now c.loop-k.k 0 =
    get_or_read c.args.a.now c.loop-k.k c.index-a-k.result (omega arith) c.index-a-k.is 0 in
    let b : c.index-b-k.result ≡ get_or c.args.b.now c.loop-k.k 0 =
    get_or_read c.args.b.now c.loop-k.k c.index-b-k.result (omega arith) c.index-b-k.is 0 in
    record {
      sum =
          c.add_product.ensures.sum
          ∙ ap₂ (λ (s p : ℕ). s + p) c.loop-k.invariant.sum (ap₂ (λ (x y : ℕ). x * y) a b)
          ∙ sym (ap (λ (n : ℕ). sum_to f n) (add-one c.loop-k.k) ∙ sum_to-suc f c.loop-k.k);
      below = omega (arith, c.add_product.ensures.below, c.loop-k.invariant.below);
    }
