use Rattle.std.proofs.Common.{ℕ, ◌^◌, ◌<◌, ◌∙◌, ap}
use Rattle.flp_poly.specs.Polynomial.{value_at}
use Rattle.flp_ntt.specs.Levels.{reversed}
use Rattle.flp_ntt.proofs.Mirrors.{reversed-below, reversed-twice}
use Rattle.flp_ntt.proofs.transform.transform.Goals as goal

pub returns : goal.returns
returns c =
    λ (k : ℕ) (below : k < 2 ^ c.args.log).
    c.reorder.ensures k below ∙ c.scatter.ensures (reversed c.args.log k) (reversed-below c.args.log k)
    ∙ ap (λ (n : ℕ). value_at c.args.values.now (c.args.root ^ n)) (reversed-twice c.args.log k below)
