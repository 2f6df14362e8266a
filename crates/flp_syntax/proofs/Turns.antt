-- The turns of a loop, one by one.
use Rattle.std.proofs.Common.{◌≡◌, ℕ, suc, ◌+◌, ◌-◌, ◌<◌, ◌≤◌, [], ◌∷◌, sym, ap, ◌∙◌, add-one, arith}
use Rattle.flp_syntax.specs.Scope.{numbers_from, turns}

-- no turn is left, and one is
pub turns_none : (from to : ℕ) → to ≤ from → turns from to ≡ []
turns_none from to h = let e : to - from ≡ 0 = omega arith in ap (numbers_from from) e

pub turns_next : (from to : ℕ) → from < to → turns from to ≡ from ∷ turns (from + 1) to
turns_next from to h =
    let e : to - from ≡ suc (to - (from + 1)) = omega arith in
    ap (numbers_from from) e ∙ ap (λ k. from ∷ numbers_from k (to - (from + 1))) (sym (add-one from))
