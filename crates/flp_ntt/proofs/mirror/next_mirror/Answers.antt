use Rattle.std.proofs.Common.{ℕ, suc, ◌≡◌, ◌-◌, ◌*◌, ◌%◌, ◌^◌, ◌<◌, ◌≤◌, arith, lit<}
use Rattle.std.proofs.Math.Nat.{pow-le-pow_right}
use Rattle.std.proofs.lemmas.Nat.{one_shl}
use Rattle.flp_ntt.proofs.Sizes.{power_halved}
use Rattle.flp_ntt.proofs.Mirrors.{carried_end, carried_on}
use Rattle.flp_ntt.proofs.mirror.next_mirror.Goals as goal

digit_is : (level log : ℕ) → level ≤ log → log < 64 → (1 * 2 ^ (level - 1)) % 18446744073709551616 ≡ 2 ^ (level - 1)
digit_is level log inside limit = one_shl (level - 1) 64 (omega arith)

within : (level log : ℕ) → level ≤ log → 2 ^ level ≤ 2 ^ log
within level log inside = pow-le-pow_right {n = 2} (lit< tt) inside

pub returns-then-rest-digit-clause-below : goal.returns-then-rest-digit-clause-below
returns-then-rest-digit-clause-below c =
    let digit : (1 * 2 ^ (c.loop-level.level - 1)) % 18446744073709551616 ≡ 2 ^ (c.loop-level.level - 1) =
    digit_is c.loop-level.level c.args.log c.loop-level.invariant.inside c.requires.limit in
    let power : 2 ^ c.loop-level.level ≡ 2 ^ (c.loop-level.level - 1) * 2 =
    power_halved c.loop-level.level c.loop-level-test.true in
    let less : 2 ^ c.loop-level.level ≤ 2 ^ c.args.log =
    within c.loop-level.level c.args.log c.loop-level.invariant.inside in
    omega arith

pub returns-then-rest-digit-clause-next : goal.returns-then-rest-digit-clause-next
returns-then-rest-digit-clause-next c =
    let whole : c.loop-level.level ≡ suc (c.loop-level.level - 1) = omega arith in
    carried_end c.args.log c.args.mirror c.loop-level.level (c.loop-level.level - 1) c.loop-level.rest
    (1 * 2 ^ (c.loop-level.level - 1) % 18446744073709551616) whole
    (digit_is c.loop-level.level c.args.log c.loop-level.invariant.inside c.requires.limit) c.if-rest-digit.true
    c.loop-level.invariant.carried

pub loop-level-preserved : goal.loop-level-preserved
loop-level-preserved c =
    let digit : (1 * 2 ^ (c.loop-level.level - 1)) % 18446744073709551616 ≡ 2 ^ (c.loop-level.level - 1) =
    digit_is c.loop-level.level c.args.log c.loop-level.invariant.inside c.requires.limit in
    let power : 2 ^ c.loop-level.level ≡ 2 ^ (c.loop-level.level - 1) * 2 =
    power_halved c.loop-level.level c.loop-level-test.true in
    let whole : c.loop-level.level ≡ suc (c.loop-level.level - 1) = omega arith in
    record {
      inside = omega arith;
      below = omega arith;
      carried =
          carried_on c.args.log c.args.mirror c.loop-level.level (c.loop-level.level - 1) c.loop-level.rest
          (1 * 2 ^ (c.loop-level.level - 1) % 18446744073709551616) whole digit c.if-rest-digit.false
          c.loop-level.invariant.carried;
    }
