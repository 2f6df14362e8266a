use Rattle.std.proofs.Common.{ℕ, ◌≡◌, ◌-◌, ◌%◌, ◌^◌, ◌<◌, ◌∙◌, length, arith, ap, sym}
use Rattle.flp_field.specs.Word.{modulus}
use Rattle.flp_ntt.proofs.Transforms.{inverse_half_turn}
use Rattle.flp_ntt.proofs.WeightLevels.{weights_from}
use Rattle.flp_ntt.proofs.point_weights.weights.Goals as goal

pub spread-requires-clause-turn : goal.spread-requires-clause-turn
spread-requires-clause-turn c =
    λ (some : 0 < c.log_of-log.result).
    ap (λ (r : ℕ). r ^ (2 ^ (c.log_of-log.result - 1)) % modulus) c.inverse_root-root.ensures
    ∙ inverse_half_turn c.log_of-log.result (omega arith) some

pub returns-clause-weights : goal.returns-clause-weights
returns-clause-weights c =
    let count : length c.spread.new.out ≡ length c.args.out.now = omega arith in
    weights_from (length c.args.out.now) c.log_of-log.result c.inverse_of_size.result c.inverse_root-root.result c.args.point
    c.spread.new.out count c.log_of-log.ensures.power c.inverse_of_size.ensures c.inverse_root-root.ensures
    c.spread.ensures.sums

pub returns-clause-power : goal.returns-clause-power
returns-clause-power c =
    c.spread.ensures.power ∙ ap (λ (n : ℕ). c.args.point ^ n % modulus) (sym c.log_of-log.ensures.power)
