use Rattle.std.proofs.Common.{ℕ, ◌≡◌, ◌*◌, ◌%◌, ◌^◌, ◌≤◌, ◌∙◌, ap, arith, lit<}
use Rattle.std.proofs.Math.Nat.{pow-le-pow_right}
use Rattle.std.proofs.lemmas.Nat.{one_shl}
use Rattle.flp_meaning.specs.Gadgets.{log_of}
use Rattle.flp_plan.proofs.plan.Plan.domain_size.Goals as goal

shifted : (log : ℕ) → log ≤ 12 → (1 * 2 ^ log) % 18446744073709551616 ≡ 2 ^ log
shifted log small = one_shl log 64 (omega arith)

few_points : (log : ℕ) → log ≤ 12 → 2 ^ log ≤ 4096
few_points log small = pow-le-pow_right {n = 2} (lit< tt) small

pub returns-clause-points : goal.returns-clause-points
returns-clause-points c =
    let small : log_of c.args.self.now.circuit c.args.gadget ≤ 12 = (c.is_within_limits.ensures.gadgets c.args.gadget c.requires).small_domain in
    shifted c.log.result (omega arith) ∙ ap (λ (n : ℕ). 2 ^ n) c.log.ensures

pub returns-clause-few : goal.returns-clause-few
returns-clause-few c =
    let small : log_of c.args.self.now.circuit c.args.gadget ≤ 12 = (c.is_within_limits.ensures.gadgets c.args.gadget c.requires).small_domain in
    let same : (1 * 2 ^ c.log.result) % 18446744073709551616 ≡ 2 ^ c.log.result = shifted c.log.result (omega arith) in
    let few : 2 ^ c.log.result ≤ 4096 = few_points c.log.result (omega arith) in
    omega arith

pub returns-clause-power : goal.returns-clause-power
returns-clause-power c =
    let small : log_of c.args.self.now.circuit c.args.gadget ≤ 12 = (c.is_within_limits.ensures.gadgets c.args.gadget c.requires).small_domain in
    (c.log.result, omega arith, shifted c.log.result (omega arith))
