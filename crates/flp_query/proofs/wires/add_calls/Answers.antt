use Rattle.std.proofs.Common.{ℕ, ◌≡◌, ◌+◌, ◌<◌, List, length, take, sym, subst, ◌∙◌, arith}
use Rattle.std.proofs.lemmas.List.{get_or_read}
use Rattle.flp_meaning.specs.Circuit.{with_answers, calls_of}
use Rattle.flp_meaning.specs.Gadgets.{call_gadget}
use Rattle.flp_query.specs.Wires.{AreSums, AreOfAtMost}
use Rattle.flp_query.proofs.WireLemmas.{number-fits, sums-more, sums-other, sums-all, most-more}
use Rattle.flp_query.proofs.wires.add_calls.Goals as goal
use Rattle.flp_query.proofs.wires.add_calls.Goals.{then-call_gadget-gadget, else-call_gadget-gadget}

pub loop-call-preserved : goal.loop-call-preserved
loop-call-preserved c =
    elim c.if-call_gadget-gadget.branch [
      | then-call_gadget-gadget w ↦
          let own : call_gadget c.args.plan.now.circuit c.loop-call.call ≡ c.args.gadget = sym c.call_gadget.ensures ∙ w.if-call_gadget-gadget.true in
          let fits : w.call_number-number.result < length c.args.weights.now =
          number-fits c.args.plan.now.circuit c.is_within_limits.ensures c.args.gadget c.loop-call.call w.call_number-number.result (length c.args.weights.now)
          c.requires.gadget (omega arith) own w.call_number-number.ensures c.requires.weights in
          let long : length w.add_call.new.sums ≡ length c.loop-call.sums = w.add_call.auto.sums in
          record {
            sums = λ (joint seeds : List ℕ) same first.
                subst (λ (s : List ℕ). AreSums (take (c.loop-call.call + 1) (calls_of c.args.plan.now.circuit (with_answers c.args.reading.now.x.now joint c.args.reading.now.unit c.args.reading.now.answers.now))) seeds c.args.weights.now c.args.gadget s)
                (sym w.sums-is)
                (sums-more c.args.plan.now.circuit (with_answers c.args.reading.now.x.now joint c.args.reading.now.unit c.args.reading.now.answers.now) seeds c.args.weights.now c.args.gadget c.loop-call.call
                w.call_number-number.result w.index-weights-number.result c.loop-call.sums w.add_call.new.sums (c.loop-call.invariant.sums joint seeds same first)
                (w.add_call.ensures.sums joint same) own w.call_number-number.ensures fits
                (get_or_read c.args.weights.now w.call_number-number.result w.index-weights-number.result (omega arith) w.index-weights-number.is 0) long);
            room = subst (λ (s : List ℕ). AreOfAtMost (c.loop-call.call + 1 + 1) s) (sym w.sums-is) (w.add_call.ensures.room (c.loop-call.call + 1) c.loop-call.invariant.room);
          }
      | else-call_gadget-gadget w ↦
          record {
            sums = λ (joint seeds : List ℕ) same first.
                subst (λ (s : List ℕ). AreSums (take (c.loop-call.call + 1) (calls_of c.args.plan.now.circuit (with_answers c.args.reading.now.x.now joint c.args.reading.now.unit c.args.reading.now.answers.now))) seeds c.args.weights.now c.args.gadget s)
                (sym w.sums-is)
                (sums-other c.args.plan.now.circuit (with_answers c.args.reading.now.x.now joint c.args.reading.now.unit c.args.reading.now.answers.now) seeds c.args.weights.now c.args.gadget c.loop-call.call c.loop-call.sums (omega arith)
                (c.loop-call.invariant.sums joint seeds same first)
                (λ (e : call_gadget c.args.plan.now.circuit c.loop-call.call ≡ c.args.gadget). w.if-call_gadget-gadget.false (c.call_gadget.ensures ∙ e)));
            room = subst (λ (s : List ℕ). AreOfAtMost (c.loop-call.call + 1 + 1) s) (sym w.sums-is) (most-more (c.loop-call.call + 1) (c.loop-call.call + 1 + 1) c.loop-call.sums (omega arith) c.loop-call.invariant.room);
          }
    ]

pub returns-clause-sums : goal.returns-clause-sums
returns-clause-sums c joint seeds same first =
    sums-all c.args.plan.now.circuit (with_answers c.args.reading.now.x.now joint c.args.reading.now.unit c.args.reading.now.answers.now) seeds c.args.weights.now c.args.gadget c.loop-call.call c.loop-call.sums (omega arith)
    (c.loop-call.invariant.sums joint seeds same first)

pub returns-clause-room : goal.returns-clause-room
returns-clause-room c =
    most-more (c.loop-call.call + 1) 32761 c.loop-call.sums (omega (arith, c.is_within_limits.ensures.few_calls)) c.loop-call.invariant.room

pub add_call-requires-clause-room : goal.add_call-requires-clause-room
add_call-requires-clause-room c =
    most-more (c.loop-call.call + 1) 4294967295 c.loop-call.sums (omega (arith, c.is_within_limits.ensures.few_calls)) c.loop-call.invariant.room

pub bounds-weights-number : goal.bounds-weights-number
bounds-weights-number c =
    number-fits c.args.plan.now.circuit c.is_within_limits.ensures c.args.gadget c.loop-call.call c.call_number-number.result (length c.args.weights.now)
    c.requires.gadget (omega arith) (sym c.call_gadget.ensures ∙ c.if-call_gadget-gadget.true) c.call_number-number.ensures c.requires.weights
