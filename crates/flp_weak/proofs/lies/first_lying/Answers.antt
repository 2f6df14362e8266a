use Rattle.std.proofs.Common.{◌∙◌, length, sym, arith}
use Rattle.flp_query.proofs.DomainLemmas.{first-here, first-more}
use Rattle.flp_weak.specs.WeakWord.{gadget_lies}
use Rattle.flp_weak.proofs.lies.first_lying.Goals as goal

pub returns-then-gadget_lies-clause-gadget : goal.returns-then-gadget_lies-clause-gadget
returns-then-gadget_lies-clause-gadget c joint same =
    sym
    (c.loop-gadget.invariant.goes_on joint same
    ∙ first-here (gadget_lies c.args.plan.now.circuit c.args.reading.now.x.now joint c.args.proof.now) c.loop-gadget.gadget (length c.args.plan.now.circuit.gadgets)
    (omega (arith, c.gadgets-gadget-end.ensures, c.loop-gadget-test.true)) (sym (c.gadget_lies.ensures.lies joint same) ∙ c.if-gadget_lies.true))

pub loop-gadget-preserved : goal.loop-gadget-preserved
loop-gadget-preserved c = record {
  again = c.gadget_lies.ensures.again ∙ c.loop-gadget.invariant.again;
  goes_on = λ joint same.
      c.loop-gadget.invariant.goes_on joint same
      ∙ first-more (gadget_lies c.args.plan.now.circuit c.args.reading.now.x.now joint c.args.proof.now) c.loop-gadget.gadget (length c.args.plan.now.circuit.gadgets)
      (omega (arith, c.gadgets-gadget-end.ensures, c.loop-gadget-test.true)) (sym (c.gadget_lies.ensures.lies joint same) ∙ c.if-gadget_lies.false);
}
