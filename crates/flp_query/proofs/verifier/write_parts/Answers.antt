use Rattle.std.proofs.Common.{ℕ, ◌≡◌, ◌+◌, ◌-◌, ◌≤◌, ◌∙◌, List, length, take, drop, arith, rules}
use Rattle.flp_meaning.specs.Lengths.{start_of, verifier_part}
use Rattle.flp_meaning.specs.Verifier.{verifier_of}
use Rattle.flp_plan.proofs.FormLemmas.{range_length}
use Rattle.flp_meaning.proofs.StartLemmas.{start-more}
use Rattle.flp_query.proofs.VerifierLemmas.{parts-fit, parts-more, parts-all}
use Rattle.flp_query.proofs.verifier.write_parts.Goals as goal

pub overflow_add-end : goal.overflow_add-end
overflow_add-end c =
    let fits : c.loop-gadget.start + c.arity.result + 1 ≤ length c.args.parts.now =
    parts-fit c.args.plan.now.circuit c.loop-gadget.gadget c.loop-gadget.start c.arity.result (length c.args.parts.now) (omega arith)
    c.loop-gadget.invariant.start c.arity.ensures.inputs c.requires.parts in
    search rules

pub overflow_add-end-in-loop-gadget : goal.overflow_add-end-in-loop-gadget
overflow_add-end-in-loop-gadget c =
    let fits : c.loop-gadget.start + c.arity.result + 1 ≤ length c.args.parts.now =
    parts-fit c.args.plan.now.circuit c.loop-gadget.gadget c.loop-gadget.start c.arity.result (length c.args.parts.now) (omega arith)
    c.loop-gadget.invariant.start c.arity.ensures.inputs c.requires.parts in
    search rules

pub offset_bounds-parts-start : goal.offset_bounds-parts-start
offset_bounds-parts-start c =
    let fits : c.loop-gadget.start + c.arity.result + 1 ≤ length c.args.parts.now =
    parts-fit c.args.plan.now.circuit c.loop-gadget.gadget c.loop-gadget.start c.arity.result (length c.args.parts.now) (omega arith)
    c.loop-gadget.invariant.start c.arity.ensures.inputs c.requires.parts in
    search rules

pub slice_bounds-write_part-end : goal.slice_bounds-write_part-end
slice_bounds-write_part-end c =
    let fits : c.loop-gadget.start + c.arity.result + 1 ≤ length c.args.parts.now =
    parts-fit c.args.plan.now.circuit c.loop-gadget.gadget c.loop-gadget.start c.arity.result (length c.args.parts.now) (omega arith)
    c.loop-gadget.invariant.start c.arity.ensures.inputs c.requires.parts in
    search rules

pub loop-gadget-preserved : goal.loop-gadget-preserved
loop-gadget-preserved c =
    let fits : c.loop-gadget.start + c.arity.result + 1 ≤ length c.args.parts.now =
    parts-fit c.args.plan.now.circuit c.loop-gadget.gadget c.loop-gadget.start c.arity.result (length c.args.parts.now) (omega arith)
    c.loop-gadget.invariant.start c.arity.ensures.inputs c.requires.parts in
    let more : start_of (verifier_part c.args.plan.now.circuit) (c.loop-gadget.gadget + 1)
    ≡ start_of (verifier_part c.args.plan.now.circuit) c.loop-gadget.gadget + verifier_part c.args.plan.now.circuit c.loop-gadget.gadget =
    start-more (verifier_part c.args.plan.now.circuit) c.loop-gadget.gadget in
    let given : length c.write_part.new.part
    ≡ length (take (c.loop-gadget.start + c.arity.result + 1 - c.loop-gadget.start) (drop c.loop-gadget.start c.loop-gadget.parts)) =
    c.write_part.auto.part in
    let long : length c.write_part.new.part ≡ c.arity.result + 1 =
    given
    ∙ range_length c.loop-gadget.parts c.loop-gadget.start (c.loop-gadget.start + c.arity.result + 1 - c.loop-gadget.start) (omega arith)
    ∙ omega arith in
    record {
      start = omega arith;
      parts = λ (joint : List ℕ) same all.
          parts-more (verifier_of c.args.plan.now.circuit c.args.reading.now.x.now joint c.args.proof.now c.args.question.now.words.now c.args.reading.now.unit)
          c.loop-gadget.gadget c.loop-gadget.start (c.loop-gadget.start + c.arity.result + 1) _ c.loop-gadget.parts c.write_part.new.part
          (omega arith) (omega arith) (c.loop-gadget.invariant.parts joint same all)
          (c.write_part.ensures joint same all);
    }

pub returns : goal.returns
returns c joint same all =
    parts-all c.args.plan.now.circuit (verifier_of c.args.plan.now.circuit c.args.reading.now.x.now joint c.args.proof.now c.args.question.now.words.now c.args.reading.now.unit)
    c.loop-gadget.gadget c.loop-gadget.start c.loop-gadget.parts (omega arith) c.loop-gadget.invariant.start (omega arith)
    (c.loop-gadget.invariant.parts joint same all)
