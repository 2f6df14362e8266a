use Rattle.std.proofs.Common.{ℕ, ◌≤◌, ◌^◌, ◌∙◌, ap, sym, subst}
use Rattle.flp_ntt.proofs.Sizes.{log_is}
use Rattle.flp_ntt.proofs.transform.log_of.Goals as goal

pub returns-clause-limit : goal.returns-clause-limit
returns-clause-limit c =
    let P : ℕ → Type 0 = λ (n : ℕ). n ≤ 20 in
    subst P
    (sym
    (log_is c.requires.0 c.ilog2.result c.args.size c.requires.2 c.ilog2.ensures.power_le
    c.ilog2.ensures.next_power_gt)) c.requires.1

pub returns-clause-power : goal.returns-clause-power
returns-clause-power c =
    c.requires.2
    ∙ ap (λ (n : ℕ). 2 ^ n)
    (sym
    (log_is c.requires.0 c.ilog2.result c.args.size c.requires.2 c.ilog2.ensures.power_le
    c.ilog2.ensures.next_power_gt))
