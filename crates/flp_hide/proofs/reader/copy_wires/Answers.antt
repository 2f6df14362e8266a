use Rattle.std.proofs.Common.{ℕ, ◌≡◌, ◌+◌, ◌-◌, ◌≤◌, ◌∙◌, List, ◌++◌, length, take, drop, sym, ap, ap₂, arith}
use Rattle.std.specs.List.{range_with_len, flat_map, sum_by}
use Rattle.flp_meaning.specs.Gadgets.{arity_of}
use Rattle.flp_meaning.specs.Lengths.{start_of, verifier_part}
use Rattle.flp_meaning.proofs.StartLemmas.{start-more, start-inside, flat-more}
use Rattle.flp_plan.proofs.FormLemmas.{range_length}
use Rattle.flp_prove.proofs.JoinedLemmas.{part-written}
use Rattle.flp_hide.specs.Wires.{wires_of_verifier}
use Rattle.flp_hide.proofs.reader.copy_wires.Goals as goal

pub loop-gadget-preserved : goal.loop-gadget-preserved
loop-gadget-preserved c =
    let body = c.args.plan.now.circuit in
    let g : ℕ = c.loop-gadget.gadget in
    let last : ℕ = c.loop-gadget.first + c.arity-arity.result in
    let next : start_of (arity_of body) (g + 1) ≡ start_of (arity_of body) g + arity_of body g = start-more (arity_of body) g in
    let further : start_of (verifier_part body) (g + 1) ≡ start_of (verifier_part body) g + verifier_part body g = start-more (verifier_part body) g in
    let fits : start_of (arity_of body) g + arity_of body g ≤ sum_by (arity_of body) (range_with_len 0 (length body.gadgets)) =
    start-inside (arity_of body) g (length body.gadgets) (omega arith) in
    let size : length c.loop-gadget.out ≡ sum_by (arity_of body) (range_with_len 0 (length body.gadgets)) = c.loop-gadget.auto.out ∙ c.requires.out in
    let cut : length (take (last - c.loop-gadget.first) (drop c.loop-gadget.first c.loop-gadget.out)) ≡ last - c.loop-gadget.first =
    range_length c.loop-gadget.out c.loop-gadget.first (last - c.loop-gadget.first) (omega (arith, fits, size, c.arity-arity.ensures.inputs, c.loop-gadget.invariant.first)) in
    let count : c.loop-gadget.start + c.arity-arity.result - c.loop-gadget.start ≡ arity_of body g = omega (arith, c.arity-arity.ensures.inputs) in
    let part : ℕ → List ℕ = wires_of_verifier body c.args.verifier.now in
    let before : List ℕ = flat_map part (range_with_len 0 g) in
    let here : 0 + g ≡ g = omega arith in
    record {
      first = omega (arith, next, c.loop-gadget.invariant.first, c.arity-arity.ensures.inputs);
      few = omega (arith, c.loop-gadget.invariant.few, c.arity-arity.ensures.few);
      start = omega (arith, further, c.loop-gadget.invariant.start, c.arity-arity.ensures.inputs);
      low = omega (arith, c.loop-gadget.invariant.low, c.arity-arity.ensures.few);
      parts =
          part-written c.loop-gadget.first _ c.loop-gadget.out c.copy_from_slice.new.self before last c.loop-gadget.invariant.parts
          (omega (arith, cut, c.copy_from_slice.auto.self)) (omega (arith, fits, size, c.loop-gadget.invariant.first))
          ∙ ap (λ (l : List ℕ). before ++ l)
          (c.copy_from_slice.ensures.after
          ∙ ap₂ (λ (n s : ℕ). take n (drop s c.args.verifier.now)) count c.loop-gadget.invariant.start)
          ∙ sym (flat-more part 0 g ∙ ap (λ (k : ℕ). before ++ part k) here);
    }

pub slice_bounds-copy_from_slice-end : goal.slice_bounds-copy_from_slice-end
slice_bounds-copy_from_slice-end c =
    let fits : start_of (arity_of c.args.plan.now.circuit) c.loop-gadget.gadget + arity_of c.args.plan.now.circuit c.loop-gadget.gadget
    ≤ sum_by (arity_of c.args.plan.now.circuit) (range_with_len 0 (length c.args.plan.now.circuit.gadgets)) =
    start-inside (arity_of c.args.plan.now.circuit) c.loop-gadget.gadget (length c.args.plan.now.circuit.gadgets) (omega arith) in
    omega (arith, fits, c.loop-gadget.invariant.first, c.arity-arity.ensures.inputs, c.requires.out)

pub slice_bounds-copy_from_slice-end-in-loop-gadget : goal.slice_bounds-copy_from_slice-end-in-loop-gadget
slice_bounds-copy_from_slice-end-in-loop-gadget c =
    let fits : start_of (verifier_part c.args.plan.now.circuit) c.loop-gadget.gadget + verifier_part c.args.plan.now.circuit c.loop-gadget.gadget
    ≤ sum_by (verifier_part c.args.plan.now.circuit) (range_with_len 0 (length c.args.plan.now.circuit.gadgets)) =
    start-inside (verifier_part c.args.plan.now.circuit) c.loop-gadget.gadget (length c.args.plan.now.circuit.gadgets) (omega arith) in
    omega (arith, fits, c.loop-gadget.invariant.start, c.arity-arity.ensures.inputs, c.requires.verifier)
