use Rattle.std.proofs.Common.{ℕ, ◌≡◌, ◌<◌, length, take, refl, ap, ◌∙◌, arith}
use Rattle.std.proofs.lemmas.List.{length-take-le}
use Rattle.flp_poly.specs.Polynomial.{values_on}
use Rattle.flp_meaning.specs.Gadgets.{call_number, call_count}
use Rattle.flp_query.proofs.WireLemmas.{number-fits}
use Rattle.flp_query.proofs.AnswerLemmas.{answers-more, answers-all}
use Rattle.flp_query.proofs.answers.write_answers.Goals as goal

pub loop-gadget-preserved : goal.loop-gadget-preserved
loop-gadget-preserved c =
    let size : ℕ = c.domain_size.result in
    let long : length (take size c.loop-gadget.points) ≡ size = length-take-le size c.loop-gadget.points (omega (arith, c.domain_size.ensures.few)) in
    answers-more c.args.plan.now.circuit c.args.proof.now c.polynomial.result.now c.values_of.new.out c.loop-gadget.answers c.write_answers_of.new.answers c.loop-gadget.gadget size
    (λ (call : ℕ) inside own.
    number-fits c.args.plan.now.circuit c.is_within_limits.ensures c.loop-gadget.gadget call (call_number c.args.plan.now.circuit call) size (omega arith) (omega arith) own refl c.domain_size.ensures.points)
    c.domain_size.ensures.points c.polynomial.ensures
    (c.values_of.ensures ∙ ap (λ (n : ℕ). values_on n c.polynomial.result.now) long) c.write_answers_of.auto.answers
    c.write_answers_of.ensures.own c.write_answers_of.ensures.others c.loop-gadget.invariant

pub returns : goal.returns
returns c =
    answers-all c.args.plan.now.circuit c.args.proof.now c.loop-gadget.answers (omega arith)
    (λ (call : ℕ) (inside : call < call_count c.args.plan.now.circuit).
    let known = (c.is_within_limits.ensures.calls call inside).gadget in
    c.loop-gadget.invariant call (omega arith) (omega arith))
