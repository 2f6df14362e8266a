use Rattle.std.proofs.Common.{arith}
use Rattle.flp_gadget.specs.KindProofs.{limits_of_kind}
use Rattle.flp_plan.proofs.UseLemmas.{coefficients_few}
use Rattle.flp_plan.proofs.gadgets.parts_of.Goals as goal

pub overflow_cast-degree : goal.overflow_cast-degree
overflow_cast-degree c = let low = (limits_of_kind c.args.held.now.kind c.requires.kind).low_degree in omega arith

pub overflow_mul-result : goal.overflow_mul-result
overflow_mul-result c =
    let low = (limits_of_kind c.args.held.now.kind c.requires.kind).low_degree in
    let few = coefficients_few c.degree-degree.result c.domain_size-size.result (omega arith) c.domain_size-size.ensures.small in
    omega arith

pub overflow_add-result : goal.overflow_add-result
overflow_add-result c =
    let low = (limits_of_kind c.args.held.now.kind c.requires.kind).low_degree in
    let few = coefficients_few c.degree-degree.result c.domain_size-size.result (omega arith) c.domain_size-size.ensures.small in
    omega arith

pub overflow_add-result-2 : goal.overflow_add-result-2
overflow_add-result-2 c =
    let low = (limits_of_kind c.args.held.now.kind c.requires.kind).low_degree in
    let few = coefficients_few c.degree-degree.result c.domain_size-size.result (omega arith) c.domain_size-size.ensures.small in
    omega arith

pub returns-clause-small : goal.returns-clause-small
returns-clause-small c =
    let low = (limits_of_kind c.args.held.now.kind c.requires.kind).low_degree in
    let few = coefficients_few c.degree-degree.result c.domain_size-size.result (omega arith) c.domain_size-size.ensures.small in
    record { prove = omega arith; proof = omega arith; verifier = omega arith }
