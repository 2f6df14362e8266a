use Rattle.std.proofs.Common.{ℕ, ◌≡◌, ◌+◌, ◌*◌, ◌^◌, ◌∙◌, ap, ap₂, sym, subst, arith}
use Rattle.flp_gadget.specs.KindTree as tree
use Rattle.flp_gadget.specs.KindTree.{IsKind}
use Rattle.flp_syntax.specs.View.{program_of}
use Rattle.flp_meaning.specs.Gadgets.{arity_of, size_of}
use Rattle.flp_plan.proofs.PassedLemmas.{passed_gadget}
use Rattle.flp_plan.proofs.CompileLemmas.{totals_in, passed_in, declared_kind_is, declared_below}
use Rattle.flp_plan.proofs.UseLemmas.{points_few, sum_more}
use Rattle.flp_plan.proofs.gadgets.wire_points.Goals as goal

pub declared_inputs-inputs-requires : goal.declared_inputs-inputs-requires
declared_inputs-inputs-requires c =
    let below = declared_below c.args.checked.now.body c.as_slice-gadgets.result.now c.loop-gadget.gadget c.as_slice-gadgets.ensures c.loop-gadget-test.true in
    subst IsKind
    (declared_kind_is c.args.checked.now.body c.as_slice-gadgets.result.now c.loop-gadget.gadget c.index-gadgets-gadget.result c.as_slice-gadgets.ensures c.loop-gadget-test.true c.index-gadgets-gadget.is)
    (passed_gadget (program_of c.args.checked.now.body) (totals_in c.args.checked.now) (passed_in c.args.checked.now) c.loop-gadget.gadget below).kind

pub overflow_mul-points : goal.overflow_mul-points
overflow_mul-points c =
    let below = declared_below c.args.checked.now.body c.as_slice-gadgets.result.now c.loop-gadget.gadget c.as_slice-gadgets.ensures c.loop-gadget-test.true in
    let within = passed_gadget (program_of c.args.checked.now.body) (totals_in c.args.checked.now) (passed_in c.args.checked.now) c.loop-gadget.gadget below in
    let inputs : c.declared_inputs-inputs.result ≡ arity_of (program_of c.args.checked.now.body) c.loop-gadget.gadget =
    c.declared_inputs-inputs.ensures
    ∙ sym (ap tree.kind_arity (declared_kind_is c.args.checked.now.body c.as_slice-gadgets.result.now c.loop-gadget.gadget c.index-gadgets-gadget.result c.as_slice-gadgets.ensures c.loop-gadget-test.true c.index-gadgets-gadget.is)) in
    let few = points_few c.declared_inputs-inputs.result c.domain_size-size.result (omega (arith, within.few_inputs)) c.domain_size-size.ensures.small in
    omega arith

pub overflow_add-points : goal.overflow_add-points
overflow_add-points c =
    let below = declared_below c.args.checked.now.body c.as_slice-gadgets.result.now c.loop-gadget.gadget c.as_slice-gadgets.ensures c.loop-gadget-test.true in
    let within = passed_gadget (program_of c.args.checked.now.body) (totals_in c.args.checked.now) (passed_in c.args.checked.now) c.loop-gadget.gadget below in
    let inputs : c.declared_inputs-inputs.result ≡ arity_of (program_of c.args.checked.now.body) c.loop-gadget.gadget =
    c.declared_inputs-inputs.ensures
    ∙ sym (ap tree.kind_arity (declared_kind_is c.args.checked.now.body c.as_slice-gadgets.result.now c.loop-gadget.gadget c.index-gadgets-gadget.result c.as_slice-gadgets.ensures c.loop-gadget-test.true c.index-gadgets-gadget.is)) in
    let few = points_few c.declared_inputs-inputs.result c.domain_size-size.result (omega (arith, within.few_inputs)) c.domain_size-size.ensures.small in
    let eight = (passed_in c.args.checked.now).within.gadgets in
    omega (arith, c.loop-gadget.invariant.few, eight)

pub loop-gadget-preserved : goal.loop-gadget-preserved
loop-gadget-preserved c =
    let body = program_of c.args.checked.now.body in
    let gadget : ℕ = c.loop-gadget.gadget in
    let below = declared_below c.args.checked.now.body c.as_slice-gadgets.result.now gadget c.as_slice-gadgets.ensures c.loop-gadget-test.true in
    let within = passed_gadget body (totals_in c.args.checked.now) (passed_in c.args.checked.now) gadget below in
    let inputs : c.declared_inputs-inputs.result ≡ arity_of body gadget =
    c.declared_inputs-inputs.ensures
    ∙ sym (ap tree.kind_arity (declared_kind_is c.args.checked.now.body c.as_slice-gadgets.result.now gadget c.index-gadgets-gadget.result c.as_slice-gadgets.ensures c.loop-gadget-test.true c.index-gadgets-gadget.is)) in
    let few = points_few c.declared_inputs-inputs.result c.domain_size-size.result (omega (arith, within.few_inputs)) c.domain_size-size.ensures.small in
    record {
      points =
          ap₂ (λ (front last : ℕ). front + last) c.loop-gadget.invariant.points
          (ap₂ (λ (a s : ℕ). a * s) inputs (c.domain_size-size.ensures.size ∙ ap (λ (log : ℕ). 2 ^ log) c.domain_log-log.ensures.log))
          ∙ sym (sum_more (λ other. arity_of body other * size_of body other) gadget);
      few = omega (arith, c.loop-gadget.invariant.few);
    }
