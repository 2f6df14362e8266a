use Rattle.std.proofs.Common.{sym, ◌∙◌}
use Rattle.std.specs.Prelude.{Some}
use Rattle.flp_meaning.proofs.FailingLemmas.{failing-inside}
use Rattle.flp_weak.proofs.WeakLemmas.{inside_lying, none-answer, bounded-answer, weak_of-none, weak_of-some}
use Rattle.flp_weak.proofs.word.WeakRoom.weak_word.Goals as goal

pub weakest-requires-clause-check : goal.weakest-requires-clause-check
weakest-requires-clause-check c =
    failing-inside c.args.plan.now.circuit c.args.x.now c.args.joint.now c.in_ok-check.check (sym c.failing_check.ensures.check ∙ c.in_ok-check.was)

pub weakest-requires-clause-lying : goal.weakest-requires-clause-lying
weakest-requires-clause-lying c = inside_lying c.args.plan.now.circuit c.args.x.now c.args.joint.now c.args.proof.now c.lying_gadget-lying.result c.lying_gadget-lying.ensures.gadget

pub returns-in_err-check-clause-exact : goal.returns-in_err-check-clause-exact
returns-in_err-check-clause-exact c =
    c.from_residual.ensures
    ∙ weak_of-none c.args.plan.now.circuit c.args.x.now c.args.joint.now c.args.proof.now (sym c.in_err-check.was ∙ c.failing_check.ensures.check)

pub returns-in_err-check-clause-none : goal.returns-in_err-check-clause-none
returns-in_err-check-clause-none c =
    none-answer c.args.plan.now.circuit c.args.x.now c.args.joint.now c.args.proof.now c.from_residual.result c.valid_has_none.ensures (returns-in_err-check-clause-exact c)

pub returns-clause-exact : goal.returns-clause-exact
returns-clause-exact c =
    weak_of-some c.args.plan.now.circuit c.args.x.now c.args.joint.now c.args.proof.now c.in_ok-check.check c.lying_gadget-lying.result c.weakest.result
    (sym c.in_ok-check.was ∙ c.failing_check.ensures.check) c.lying_gadget-lying.ensures.gadget c.weakest.ensures

pub returns-clause-none : goal.returns-clause-none
returns-clause-none c =
    none-answer c.args.plan.now.circuit c.args.x.now c.args.joint.now c.args.proof.now (Some c.weakest.result) c.valid_has_none.ensures (returns-clause-exact c)

pub returns-clause-bounded : goal.returns-clause-bounded
returns-clause-bounded c =
    bounded-answer c.args.plan.now.circuit c.args.x.now c.args.joint.now c.args.proof.now (Some c.weakest.result) c.counted_soundness.ensures.bounded
    (record { words = c.words.ensures; size = c.requires.proof }) (returns-clause-exact c)
