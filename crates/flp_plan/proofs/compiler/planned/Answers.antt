use Rattle.std.proofs.Common.{◌∙◌, List, length, ap, sym, arith}
use Rattle.flp_syntax.specs.View.{program_of}
use Rattle.flp_plan.specs.declared.gadgets.GadgetUse.{GadgetUse}
use Rattle.flp_plan.proofs.PassedLemmas.{passed_fits}
use Rattle.flp_plan.proofs.CompileLemmas.{totals_in, passed_in, calls_within, calls_few, is_plan, some_gadget_in}
use Rattle.flp_plan.proofs.compiler.planned.Goals as goal

pub emit-requires : goal.emit-requires
emit-requires c = passed_fits (program_of c.args.checked.body) (totals_in c.args.checked) (passed_in c.args.checked)

pub call_numbers-requires-clause-within : goal.call_numbers-requires-clause-within
call_numbers-requires-clause-within c =
    calls_within c.args.checked c.in_ok-code.code c.as_slice.result.now c.len.result c.in_ok-code.ensures c.as_slice.ensures
    (c.len.ensures ∙ sym c.deref.ensures.len ∙ ap (λ (l : List GadgetUse). length l) c.deref.ensures.value ∙ c.requires.uses.count)

pub call_numbers-requires-clause-few : goal.call_numbers-requires-clause-few
call_numbers-requires-clause-few c =
    let few = calls_few c.args.checked c.in_ok-code.code c.as_slice.result.now c.in_ok-code.ensures c.as_slice.ensures c.requires.small (some_gadget_in c.args.checked) in
    omega arith

pub invariant_of-result : goal.invariant_of-result
invariant_of-result c =
    is_plan c.args.checked c.in_ok-code.code c.as_slice.result.now c.args.gadgets.items c.in_ok-numbers.numbers.items c.lengths_for-lengths.result
    c.in_ok-code.ensures c.as_slice.ensures c.requires.uses c.in_ok-numbers.ensures c.lengths_for-lengths.ensures c.requires.small (some_gadget_in c.args.checked)
