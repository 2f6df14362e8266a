use Rattle.std.proofs.Common.{ℕ, ◌-◌, ◌%◌, ◌^◌, ◌<◌, ◌∙◌, ap, arith}
use Rattle.flp_field.specs.Word.{modulus}
use Rattle.flp_poly.specs.Polynomial.{value_at}
use Rattle.flp_ntt.proofs.Transforms.{root_half_turn, values_from}
use Rattle.flp_ntt.proofs.transform.forward.Goals as goal

pub transform-requires-clause-turn : goal.transform-requires-clause-turn
transform-requires-clause-turn c =
    λ (some : 0 < c.log_of-log.result).
    ap (λ (r : ℕ). r ^ (2 ^ (c.log_of-log.result - 1)) % modulus) c.root.ensures
    ∙ root_half_turn c.log_of-log.result (omega arith) some

pub returns : goal.returns
returns c =
    values_from (2 ^ c.log_of-log.result) c.args.values.now c.transform.new.values c.log_of-log.ensures.power (omega arith)
    (λ (k : ℕ) (below : k < 2 ^ c.log_of-log.result).
    c.transform.ensures k below ∙ ap (λ (r : ℕ). value_at c.args.values.now (r ^ k)) c.root.ensures)
