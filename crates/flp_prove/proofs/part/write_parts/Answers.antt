use Rattle.std.proofs.Common.{ℕ, ◌≡◌, ◌+◌, ◌-◌, ◌≤◌, ◌∙◌, List, ◌++◌, length, take, drop, sym, ap, ap₂, arith}
use Rattle.std.specs.List.{range_with_len, flat_map, sum_by}
use Rattle.flp_meaning.specs.Gadgets.{arity_of}
use Rattle.flp_meaning.specs.Lengths.{start_of, proof_part}
use Rattle.flp_meaning.specs.Proof.{honest_part}
use Rattle.flp_prove.proofs.JoinedLemmas.{part-written}
use Rattle.flp_meaning.proofs.StartLemmas.{start-more, start-inside, flat-more}
use Rattle.flp_prove.proofs.part.write_parts.Goals as goal

pub slice_bounds-write_part-end : goal.slice_bounds-write_part-end
slice_bounds-write_part-end c =
    let fits : start_of (arity_of c.args.plan.now.circuit) c.loop-gadget.gadget + arity_of c.args.plan.now.circuit c.loop-gadget.gadget
    ≤ sum_by (arity_of c.args.plan.now.circuit) (range_with_len 0 (length c.args.plan.now.circuit.gadgets)) =
    start-inside (arity_of c.args.plan.now.circuit) c.loop-gadget.gadget (length c.args.plan.now.circuit.gadgets) (omega arith) in
    omega (arith, fits, c.loop-gadget.invariant.first, c.arity.ensures.inputs, c.requires.seeds)

pub slice_bounds-write_part-end-in-loop-gadget : goal.slice_bounds-write_part-end-in-loop-gadget
slice_bounds-write_part-end-in-loop-gadget c =
    let fits : start_of (proof_part c.args.plan.now.circuit) c.loop-gadget.gadget + proof_part c.args.plan.now.circuit c.loop-gadget.gadget
    ≤ sum_by (proof_part c.args.plan.now.circuit) (range_with_len 0 (length c.args.plan.now.circuit.gadgets)) =
    start-inside (proof_part c.args.plan.now.circuit) c.loop-gadget.gadget (length c.args.plan.now.circuit.gadgets) (omega arith) in
    omega (arith, fits, c.loop-gadget.invariant.start, c.arity-in-loop-gadget.ensures.inputs, c.coefficients.ensures.count, c.requires.proof)

pub loop-gadget-preserved : goal.loop-gadget-preserved
loop-gadget-preserved c =
    let body = c.args.plan.now.circuit in
    let g : ℕ = c.loop-gadget.gadget in
    let next : start_of (arity_of body) (g + 1) ≡ start_of (arity_of body) g + arity_of body g = start-more (arity_of body) g in
    let further : start_of (proof_part body) (g + 1) ≡ start_of (proof_part body) g + proof_part body g = start-more (proof_part body) g in
    let fits : start_of (proof_part body) g + proof_part body g ≤ sum_by (proof_part body) (range_with_len 0 (length body.gadgets)) =
    start-inside (proof_part body) g (length body.gadgets) (omega arith) in
    let count : c.loop-gadget.first + c.arity.result - c.loop-gadget.first ≡ arity_of body g = omega (arith, c.arity.ensures.inputs) in
    record {
      first = omega (arith, next, c.loop-gadget.invariant.first, c.arity.ensures.inputs);
      few = omega (arith, c.loop-gadget.invariant.few, c.arity.ensures.few);
      start = omega (arith, further, c.loop-gadget.invariant.start, c.arity-in-loop-gadget.ensures.inputs, c.coefficients.ensures.count);
      low = omega (arith, c.loop-gadget.invariant.low, c.arity-in-loop-gadget.ensures.few, c.coefficients.ensures.few);
      again = c.write_part.ensures.again ∙ c.loop-gadget.invariant.again;
      parts = λ joint publics answers.
          let part : ℕ → List ℕ = honest_part body c.args.reading.now.x.now joint c.args.seeds.now in
          let before : List ℕ = flat_map part (range_with_len 0 g) in
          let end : ℕ = c.loop-gadget.start + c.arity-in-loop-gadget.result + c.coefficients.result in
          let here : 0 + g ≡ g = omega arith in
          part-written c.loop-gadget.start _ c.loop-gadget.proof c.write_part.new.part before end
          (c.loop-gadget.invariant.parts joint publics answers) (omega (arith, fits, c.write_part.auto.part)) (omega (arith, fits))
          ∙ ap (λ (l : List ℕ). before ++ l)
          (c.write_part.ensures.part joint c.args.seeds.now publics answers
          (ap₂ (λ (n s : ℕ). take n (drop s c.args.seeds.now)) count c.loop-gadget.invariant.first))
          ∙ sym (flat-more part 0 g ∙ ap (λ (k : ℕ). before ++ part k) here);
    }
