use Rattle.std.proofs.Common.{ℕ, ◌+◌, ◌-◌, ◌<◌, length, arith}
use Rattle.std.proofs.lemmas.List.FromFn.{fill_by_all}
use Rattle.flp_poly.specs.Polynomial.{product_coefficient}
use Rattle.flp_poly.proofs.arithmetic.mul.Goals as goal

pub returns : goal.returns
returns c =
    fill_by_all (λ (k : ℕ). product_coefficient c.args.a.now c.args.b.now k) c.loop-k.out
    (length c.args.a.now + length c.args.b.now - 1) 0 (omega arith)
    (λ (k : ℕ) (h : k < length c.args.a.now + length c.args.b.now - 1). c.loop-k.invariant k (omega arith))
