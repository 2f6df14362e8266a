use Rattle.std.proofs.Common.{ℕ, ◌≡◌, ◌-◌, ◌*◌, ◌^◌, ◌<◌, arith, subst}
use Rattle.flp_field.specs.Word.{modulus}
use Rattle.flp_ntt.proofs.Sizes.{power_halved}
use Rattle.flp_ntt.proofs.Halves.{square_has_turn}
use Rattle.flp_ntt.proofs.WeightLevels.{spread_level, spread_power, spread_end, power_end}
use Rattle.flp_ntt.proofs.point_weights.+spread.Goals as goal

pub returns-then-log-eq0-clause-sums : goal.returns-then-log-eq0-clause-sums
returns-then-log-eq0-clause-sums t c =
    let P : ℕ → Type 0 = λ (n : ℕ). n < modulus in
    let word : c.args.scale < modulus = subst P c.value-scale.ensures.same c.value-scale.ensures.below in
    λ (k : ℕ) (below : k < 2 ^ c.args.log).
    spread_end c.args.log c.args.scale c.args.root c.args.point k c.args.out.now (omega arith) c.requires.size word below

pub returns-then-log-eq0-clause-power : goal.returns-then-log-eq0-clause-power
returns-then-log-eq0-clause-power t c =
    let P : ℕ → Type 0 = λ (n : ℕ). n < modulus in
    let word : c.args.point < modulus = subst P c.value-point.ensures.same c.value-point.ensures.below in
    power_end c.args.log c.args.point (omega arith) word

pub spread-power-requires : goal.spread-power-requires
spread-power-requires t c =
    let size : 2 ^ c.args.log ≡ 2 ^ (c.args.log - 1) * 2 = power_halved c.args.log (omega arith) in
    (omega arith, (omega arith, square_has_turn c.args.root c.mul-2.result c.args.log c.mul-2.ensures c.requires.turn))

pub turn-requires : goal.turn-requires
turn-requires t c =
    let size : 2 ^ c.args.log ≡ 2 ^ (c.args.log - 1) * 2 = power_halved c.args.log (omega arith) in
    omega arith

pub returns-clause-sums : goal.returns-clause-sums
returns-clause-sums t c =
    let size : 2 ^ c.args.log ≡ 2 ^ (c.args.log - 1) * 2 = power_halved c.args.log (omega arith) in
    spread_level c.args.log c.args.scale c.args.root c.args.point c.mul.result c.mul-2.result c.spread-power.new.out
    c.turn.new.low c.turn.new.high (omega arith)
    record {
      point_is = c.mul.ensures;
      root_is = c.mul-2.ensures;
      half_turn = c.requires.turn (omega arith);
      parts_size = omega arith;
      low_size = omega arith;
      parts_are = c.spread-power.ensures.sums;
      low_is = c.turn.ensures.sums;
      high_is = c.turn.ensures.differences;
    }

pub returns-clause-power : goal.returns-clause-power
returns-clause-power t c =
    spread_power c.args.log c.args.point c.mul.result c.spread-power.result (omega arith) c.mul.ensures
    c.spread-power.ensures.power
