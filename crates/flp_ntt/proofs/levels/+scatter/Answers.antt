use Rattle.std.proofs.Common.{◌≡◌, ◌-◌, ◌*◌, ◌^◌, arith}
use Rattle.flp_ntt.proofs.Sizes.{power_halved}
use Rattle.flp_ntt.proofs.Halves.{square_has_turn, level_split}
use Rattle.flp_ntt.proofs.levels.+scatter.Goals as goal

pub butterflies-requires : goal.butterflies-requires
butterflies-requires t c =
    let size : 2 ^ c.args.log ≡ 2 ^ (c.args.log - 1) * 2 = power_halved c.args.log (omega arith) in
    omega arith

pub scatter-requires : goal.scatter-requires
scatter-requires t c =
    let size : 2 ^ c.args.log ≡ 2 ^ (c.args.log - 1) * 2 = power_halved c.args.log (omega arith) in
    (omega arith, (omega arith, square_has_turn c.args.root c.mul-square.result c.args.log c.mul-square.ensures c.requires.turn))

pub scatter-requires-2 : goal.scatter-requires-2
scatter-requires-2 t c =
    let size : 2 ^ c.args.log ≡ 2 ^ (c.args.log - 1) * 2 = power_halved c.args.log (omega arith) in
    (omega arith, (omega arith, square_has_turn c.args.root c.mul-square.result c.args.log c.mul-square.ensures c.requires.turn))

pub returns : goal.returns
returns t c =
    let size : 2 ^ c.args.log ≡ 2 ^ (c.args.log - 1) * 2 = power_halved c.args.log (omega arith) in
    level_split c.args.log c.args.root c.mul-square.result c.args.values.now c.split_at_mut-low.result.0.now
    c.split_at_mut-low.result.1.now c.butterflies.new.low c.butterflies.new.high c.scatter.new.values
    c.scatter-2.new.values (omega arith) c.requires.turn c.split_at_mut-low.ensures.value (omega arith) (omega arith)
    (omega arith) (omega arith) (omega arith) c.mul-square.ensures c.butterflies.ensures.sums
    c.butterflies.ensures.turned c.scatter.ensures c.scatter-2.ensures
