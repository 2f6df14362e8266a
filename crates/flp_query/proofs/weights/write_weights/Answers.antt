use Rattle.std.proofs.Common.{ℕ, ◌≡◌, ◌+◌, ◌-◌, ◌≤◌, ◌∙◌, Bool, false, true, eqb, length, take, drop, ap, ap₂, sym, arith, rules}
use Rattle.flp_field.specs.Word.{word_power}
use Rattle.flp_meaning.specs.Gadgets.{size_of}
use Rattle.flp_meaning.specs.Lengths.{start_of}
use Rattle.flp_meaning.specs.Verifier.{point_of}
use Rattle.flp_meaning.proofs.StartLemmas.{start-more}
use Rattle.flp_plan.proofs.FormLemmas.{range_length}
use Rattle.flp_poly.specs.Weights.{weights}
use Rattle.flp_query.specs.Challenge.{weights_of}
use Rattle.flp_query.proofs.DomainLemmas.{first-here, first-more}
use Rattle.flp_query.proofs.VerifierLemmas.{parts-more}
use Rattle.flp_query.proofs.WeightLemmas.{weights-fit}
use Rattle.flp_query.proofs.weights.write_weights.Goals as goal

-- what was tested is what the definition tests
tested : (size point power own_size own_point : ℕ) (b : Bool) → size ≡ own_size → point ≡ own_point → power ≡ word_power point size → eqb power 1 ≡ b → eqb (word_power own_point own_size) 1 ≡ b
tested size point power own_size own_point b sized at is test =
    ap₂ (λ (t n : ℕ). eqb (word_power t n) 1) (sym at) (sym sized) ∙ ap (λ (n : ℕ). eqb n 1) (sym is) ∙ test

pub loop-gadget-preserved : goal.loop-gadget-preserved
loop-gadget-preserved c =
    let g : ℕ = c.loop-gadget.gadget in
    let size : ℕ = c.domain_size.result in
    let fits : c.loop-gadget.start + size ≤ length c.loop-gadget.out =
    weights-fit c.args.plan.now.circuit g c.loop-gadget.start size (length c.loop-gadget.out) (omega arith) c.loop-gadget.invariant.start c.domain_size.ensures.points (c.loop-gadget.auto.out ∙ c.requires.room) in
    let more : start_of (size_of c.args.plan.now.circuit) (g + 1) ≡ start_of (size_of c.args.plan.now.circuit) g + size_of c.args.plan.now.circuit g = start-more (size_of c.args.plan.now.circuit) g in
    let cut : length (take (c.loop-gadget.start + size - c.loop-gadget.start) (drop c.loop-gadget.start c.loop-gadget.out)) ≡ c.loop-gadget.start + size - c.loop-gadget.start =
    range_length c.loop-gadget.out c.loop-gadget.start (c.loop-gadget.start + size - c.loop-gadget.start) (omega arith) in
    let long : length c.weights-power.new.out ≡ size = c.weights-power.auto.out ∙ cut ∙ omega arith in
    record {
      start = omega arith;
      found = c.loop-gadget.invariant.found
          ∙ first-more (λ gadget. eqb (word_power (point_of c.args.plan.now.circuit c.args.words.now gadget) (size_of c.args.plan.now.circuit gadget)) 1) g (length c.args.plan.now.circuit.gadgets) (omega arith)
          (tested size c.point-at.result c.weights-power.result _ _ false c.domain_size.ensures.points c.point-at.ensures
          (c.weights-power.ensures.power ∙ ap (λ (n : ℕ). word_power c.point-at.result n) (cut ∙ omega arith)) (sym c.eq.ensures ∙ c.if-eq.false));
      weights =
          parts-more (weights_of c.args.plan.now.circuit c.args.words.now) g c.loop-gadget.start (c.loop-gadget.start + size) _ c.loop-gadget.out c.weights-power.new.out
          (omega arith) (omega arith) c.loop-gadget.invariant.weights
          (c.weights-power.ensures.weights ∙ ap₂ (λ (n t : ℕ). weights n t) (cut ∙ omega arith ∙ c.domain_size.ensures.points) c.point-at.ensures);
    }

pub overflow_add-end : goal.overflow_add-end
overflow_add-end c =
    let fits : c.loop-gadget.start + c.domain_size.result ≤ length c.loop-gadget.out =
    weights-fit c.args.plan.now.circuit c.loop-gadget.gadget c.loop-gadget.start c.domain_size.result (length c.loop-gadget.out) (omega arith)
    c.loop-gadget.invariant.start c.domain_size.ensures.points (c.loop-gadget.auto.out ∙ c.requires.room) in
    search rules

pub offset_bounds-out-start : goal.offset_bounds-out-start
offset_bounds-out-start c =
    let fits : c.loop-gadget.start + c.domain_size.result ≤ length c.loop-gadget.out =
    weights-fit c.args.plan.now.circuit c.loop-gadget.gadget c.loop-gadget.start c.domain_size.result (length c.loop-gadget.out) (omega arith)
    c.loop-gadget.invariant.start c.domain_size.ensures.points (c.loop-gadget.auto.out ∙ c.requires.room) in
    search rules

pub slice_bounds-weights-end : goal.slice_bounds-weights-end
slice_bounds-weights-end c =
    let fits : c.loop-gadget.start + c.domain_size.result ≤ length c.loop-gadget.out =
    weights-fit c.args.plan.now.circuit c.loop-gadget.gadget c.loop-gadget.start c.domain_size.result (length c.loop-gadget.out) (omega arith)
    c.loop-gadget.invariant.start c.domain_size.ensures.points (c.loop-gadget.auto.out ∙ c.requires.room) in
    search rules

pub returns-then-eq-clause-found : goal.returns-then-eq-clause-found
returns-then-eq-clause-found c =
    let size : ℕ = c.domain_size.result in
    let fits : c.loop-gadget.start + size ≤ length c.loop-gadget.out =
    weights-fit c.args.plan.now.circuit c.loop-gadget.gadget c.loop-gadget.start size (length c.loop-gadget.out) (omega arith)
    c.loop-gadget.invariant.start c.domain_size.ensures.points (c.loop-gadget.auto.out ∙ c.requires.room) in
    let cut : length (take (c.loop-gadget.start + size - c.loop-gadget.start) (drop c.loop-gadget.start c.loop-gadget.out)) ≡ c.loop-gadget.start + size - c.loop-gadget.start =
    range_length c.loop-gadget.out c.loop-gadget.start (c.loop-gadget.start + size - c.loop-gadget.start) (omega arith) in
    let whole : length (take (c.loop-gadget.start + size - c.loop-gadget.start) (drop c.loop-gadget.start c.loop-gadget.out)) ≡ size = omega arith in
    sym
    (c.loop-gadget.invariant.found
    ∙ first-here (λ gadget. eqb (word_power (point_of c.args.plan.now.circuit c.args.words.now gadget) (size_of c.args.plan.now.circuit gadget)) 1) c.loop-gadget.gadget (length c.args.plan.now.circuit.gadgets) (omega arith)
    (tested size c.point-at.result c.weights-power.result _ _ true c.domain_size.ensures.points c.point-at.ensures
    (c.weights-power.ensures.power ∙ ap (λ (n : ℕ). word_power c.point-at.result n) whole) (sym c.eq.ensures ∙ c.if-eq.true)))
