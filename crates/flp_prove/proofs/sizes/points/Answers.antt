use Rattle.std.proofs.Common.{ℕ, ◌≡◌, ◌^◌, ◌≤◌, ◌∙◌, ap, arith}
use Rattle.flp_meaning.specs.Gadgets.{ceil_log}
use Rattle.flp_meaning.specs.Lengths.{coefficient_count}
use Rattle.flp_prove.specs.Room.{points_of}
use Rattle.flp_prove.proofs.RoomLemmas.{least-is, log-few, power-few}
use Rattle.flp_prove.proofs.sizes.points.Goals as goal

pub returns-clause-points : goal.returns-clause-points
returns-clause-points c =
    least-is c.coefficients.result c.next_power_of_two.result c.least_numbers.ensures.power (omega (arith, c.coefficients.ensures.count))
    c.next_power_of_two.ensures.power c.next_power_of_two.ensures.lower_bound c.next_power_of_two.ensures.upper_bound
    ∙ ap (λ (n : ℕ). 2 ^ ceil_log n) c.coefficients.ensures.count

small : (n count : ℕ) → n ≡ count → n ≤ 32761 → count ≤ 32761
small n count same few = omega arith

pub returns-clause-few : goal.returns-clause-few
returns-clause-few c =
    let few : coefficient_count c.args.plan.now.circuit c.args.gadget ≤ 32761 = small _ _ c.coefficients.ensures.count c.coefficients.ensures.few in
    let most : points_of c.args.plan.now.circuit c.args.gadget ≤ 32768 = power-few _ (log-few _ c.least_numbers.ensures.power few) in
    omega (arith, returns-clause-points c, most)

pub returns-clause-transforms : goal.returns-clause-transforms
returns-clause-transforms c =
    let few : coefficient_count c.args.plan.now.circuit c.args.gadget ≤ 32761 = small _ _ c.coefficients.ensures.count c.coefficients.ensures.few in
    let log : ceil_log (coefficient_count c.args.plan.now.circuit c.args.gadget) ≤ 15 = log-few _ c.least_numbers.ensures.power few in
    (ceil_log (coefficient_count c.args.plan.now.circuit c.args.gadget), omega (arith, log), returns-clause-points c)
