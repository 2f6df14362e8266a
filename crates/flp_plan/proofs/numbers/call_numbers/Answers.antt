use Rattle.std.proofs.Common.{◌≡◌, ◌+◌, ◌<◌, ◌≤◌, ℕ, List, length, take, get_or, arith, subst, sym, ◌∙◌, ap, min}
use Rattle.std.proofs.lemmas.List.{get_or-map, get_or_default, length-take, length-set}
use Rattle.flp_meaning.specs.Gadgets.{times}
use Rattle.flp_emit.specs.declared.code.CallForms.{CallForms}
use Rattle.flp_plan.specs.Numbers.{gadgets_in}
use Rattle.flp_plan.proofs.FormLemmas.{mapped_length}
use Rattle.flp_plan.proofs.NumberLemmas.{times_length, count_step, next_is, numbers_step, length_push}
use Rattle.flp_plan.proofs.numbers.call_numbers.Goals as goal

pub overflow_add-number : goal.overflow_add-number
overflow_add-number c =
    let d : CallForms = record { gadget = 0; first = 0; end = 0 } in
    let g : ℕ = (get_or c.args.calls.now c.loop-call.call-index d).gadget in
    let within = c.requires.within c.loop-call.call-index d c.loop-call-test.true in
    let count : get_or c.loop-call.counts.items g 0 ≡ times g (take c.loop-call.call-index (gadgets_in c.args.calls.now)) =
    c.loop-call.invariant.counts g within in
    let few : times g (take c.loop-call.call-index (gadgets_in c.args.calls.now)) ≤ length (take c.loop-call.call-index (gadgets_in c.args.calls.now)) =
    times_length g (take c.loop-call.call-index (gadgets_in c.args.calls.now)) in
    let size : length (take c.loop-call.call-index (gadgets_in c.args.calls.now)) ≡ min c.loop-call.call-index (length (gadgets_in c.args.calls.now)) =
    length-take c.loop-call.call-index (gadgets_in c.args.calls.now) in
    let there : g < length c.loop-call.counts.items = omega (arith, c.loop-call.invariant.gadgets) in
    let read : c.index.result.now ≡ get_or c.loop-call.counts.items g 0 =
    c.index.ensures ∙ get_or_default c.loop-call.counts.items g c.index.result.now 0 there in
    omega arith

pub loop-call-preserved : goal.loop-call-preserved
loop-call-preserved c =
    let d : CallForms = record { gadget = 0; first = 0; end = 0 } in
    let g : ℕ = (get_or c.args.calls.now c.loop-call.call-index d).gadget in
    let within = c.requires.within c.loop-call.call-index d c.loop-call-test.true in
    let called : List ℕ = gadgets_in c.args.calls.now in
    let here : get_or called c.loop-call.call-index 0 ≡ g =
    get_or-map (λ (call : CallForms). call.gadget) c.args.calls.now c.loop-call.call-index d 0 c.loop-call-test.true in
    let size : length called ≡ length c.args.calls.now = mapped_length (λ (call : CallForms). call.gadget) c.args.calls.now in
    let there : g < length c.loop-call.counts.items = omega (arith, c.loop-call.invariant.gadgets) in
    let next : c.index.result.now + 1 ≡ get_or c.loop-call.counts.items g 0 + 1 =
    ap (λ (n : ℕ). n + 1) (c.index.ensures ∙ get_or_default c.loop-call.counts.items g c.index.result.now 0 there) in
    record {
      gadgets = length-set c.loop-call.counts.items g (c.index.result.now + 1) ∙ c.loop-call.invariant.gadgets;
      counts =
          count_step called c.loop-call.counts.items c.loop-call.call-index g (c.index.result.now + 1) c.args.gadgets here (omega arith)
          c.loop-call.invariant.gadgets within c.loop-call.invariant.counts next;
      numbered = omega (arith, ap (λ (l : List ℕ). length l) c.in_ok-push.ensures.items, length_push c.loop-call.numbers.items (c.index.result.now + 1));
      numbers =
          subst
          (λ (l : List ℕ). (k : ℕ) → k < c.loop-call.call-index + 1 → get_or l k 0 ≡ times (get_or called k 0) (take (k + 1) called))
          (sym c.in_ok-push.ensures.items)
          (numbers_step c.loop-call.numbers.items c.loop-call.call-index (c.index.result.now + 1)
          (λ k. times (get_or called k 0) (take (k + 1) called)) c.loop-call.invariant.numbered c.loop-call.invariant.numbers
          (next_is called c.loop-call.counts.items c.loop-call.call-index g (c.index.result.now + 1) c.args.gadgets here (omega arith)
          within c.loop-call.invariant.counts next));
    }
