use Rattle.std.proofs.Common.{ℕ, ◌≡◌, ◌-◌, ◌%◌, ◌^◌, ◌<◌, ◌∙◌, List, ap, arith, length}
use Rattle.flp_field.specs.Word.{modulus}
use Rattle.flp_poly.specs.Polynomial.{value_at}
use Rattle.flp_poly.specs.Interpolation.{Interpolates, inverse_size}
use Rattle.flp_poly.proofs.Interpolation.{interpolation_unique}
use Rattle.flp_ntt.proofs.Transforms.{inverse_half_turn, interpolated_from, interpolates_from}
use Rattle.flp_ntt.proofs.transform.inverse.Goals as goal

pub transform-requires-clause-turn : goal.transform-requires-clause-turn
transform-requires-clause-turn c =
    λ (some : 0 < c.log_of-log.result).
    ap (λ (r : ℕ). r ^ (2 ^ (c.log_of-log.result - 1)) % modulus) c.inverse_root.ensures
    ∙ inverse_half_turn c.log_of-log.result (omega arith) some

-- the transform with the inverse root, over the size
pub returns-clause-coefficients : goal.returns-clause-coefficients
returns-clause-coefficients c =
    let count : length c.transform.new.values ≡ 2 ^ c.log_of-log.result = omega arith in
    interpolated_from (2 ^ c.log_of-log.result) c.inverse_of_size.result c.args.values.now c.transform.new.values
    c.scale.new.values c.log_of-log.ensures.power count
    (λ (k : ℕ) (below : k < 2 ^ c.log_of-log.result).
    c.transform.ensures k below ∙ ap (λ (r : ℕ). value_at c.args.values.now (r ^ k)) c.inverse_root.ensures)
    (c.inverse_of_size.ensures ∙ ap (λ (n : ℕ). inverse_size n) count) c.scale.ensures

pub returns-clause-interpolates : goal.returns-clause-interpolates
returns-clause-interpolates c =
    interpolates_from c.log_of-log.result c.args.values.now c.scale.new.values c.log_of-log.ensures.limit
    c.words.ensures c.log_of-log.ensures.power (returns-clause-coefficients c)

pub returns-clause-undoes : goal.returns-clause-undoes
returns-clause-undoes c =
    λ (coefficients : List ℕ) (h : Interpolates coefficients c.args.values.now).
    interpolation_unique c.log_of-log.result c.scale.new.values coefficients c.args.values.now (omega arith)
    c.log_of-log.ensures.power (returns-clause-interpolates c) h
