use Rattle.std.proofs.Common.{ℕ, ◌≡◌, ◌+◌, ◌-◌, ◌≤◌, ◌∙◌, List, ◌++◌, length, take, drop, sym, ap, arith}
use Rattle.std.specs.List.{range_with_len, flat_map, sum_by}
use Rattle.flp_meaning.specs.Gadgets.{arity_of}
use Rattle.flp_meaning.specs.Lengths.{start_of}
use Rattle.flp_meaning.specs.Proof.{seeds_for}
use Rattle.flp_meaning.proofs.StartLemmas.{start-more, start-inside, flat-more}
use Rattle.flp_plan.proofs.FormLemmas.{range_length}
use Rattle.flp_prove.proofs.JoinedLemmas.{part-written}
use Rattle.flp_hide.specs.Wires.{seeds_between}
use Rattle.flp_hide.proofs.SeedLemmas.{quotients-are}
use Rattle.flp_hide.proofs.seeds.write_seeds.Goals as goal

pub slice_bounds-write_quotients-end : goal.slice_bounds-write_quotients-end
slice_bounds-write_quotients-end c =
    let fits : start_of (arity_of c.args.plan.now.circuit) c.loop-gadget.gadget + arity_of c.args.plan.now.circuit c.loop-gadget.gadget
    ≤ sum_by (arity_of c.args.plan.now.circuit) (range_with_len 0 (length c.args.plan.now.circuit.gadgets)) =
    start-inside (arity_of c.args.plan.now.circuit) c.loop-gadget.gadget (length c.args.plan.now.circuit.gadgets) (omega arith) in
    omega (arith, fits, c.loop-gadget.invariant.start, c.arity.ensures.inputs, c.requires.low)

pub loop-gadget-preserved : goal.loop-gadget-preserved
loop-gadget-preserved c =
    let body = c.args.plan.now.circuit in
    let g : ℕ = c.loop-gadget.gadget in
    let end : ℕ = c.loop-gadget.start + c.arity.result in
    let next : start_of (arity_of body) (g + 1) ≡ start_of (arity_of body) g + arity_of body g = start-more (arity_of body) g in
    let fits : start_of (arity_of body) g + arity_of body g ≤ sum_by (arity_of body) (range_with_len 0 (length body.gadgets)) =
    start-inside (arity_of body) g (length body.gadgets) (omega arith) in
    let count : end - c.loop-gadget.start ≡ arity_of body g = omega (arith, c.arity.ensures.inputs) in
    let size : length c.loop-gadget.out ≡ sum_by (arity_of body) (range_with_len 0 (length body.gadgets)) = c.loop-gadget.auto.out ∙ c.requires.out in
    let cut : length (take (end - c.loop-gadget.start) (drop c.loop-gadget.start c.loop-gadget.out)) ≡ end - c.loop-gadget.start =
    range_length c.loop-gadget.out c.loop-gadget.start (end - c.loop-gadget.start) (omega (arith, fits, size, count, c.loop-gadget.invariant.start)) in
    let part : ℕ → List ℕ = λ k. seeds_between body c.args.words.now (seeds_for body c.args.low.now k) (seeds_for body c.args.high.now k) k in
    let before : List ℕ = flat_map part (range_with_len 0 g) in
    let here : 0 + g ≡ g = omega arith in
    record {
      start = omega (arith, next, c.loop-gadget.invariant.start, c.arity.ensures.inputs);
      few = omega (arith, c.loop-gadget.invariant.few, c.arity.ensures.few);
      parts =
          part-written c.loop-gadget.start _ c.loop-gadget.out c.write_quotients.new.out before end c.loop-gadget.invariant.parts
          (omega (arith, cut, c.write_quotients.auto.out)) (omega (arith, fits, size, c.loop-gadget.invariant.start))
          ∙ ap (λ (l : List ℕ). before ++ l)
          (quotients-are body c.args.words.now c.args.low.now c.args.high.now c.write_quotients.new.out g c.loop-gadget.start (end - c.loop-gadget.start)
          (length (take (end - c.loop-gadget.start) (drop c.loop-gadget.start c.loop-gadget.out))) c.inverse_weight-inverse.result
          c.loop-gadget.invariant.start count (cut ∙ count) c.inverse_weight-inverse.ensures c.write_quotients.ensures)
          ∙ sym (flat-more part 0 g ∙ ap (λ (k : ℕ). before ++ part k) here);
    }
