use Rattle.std.proofs.Common.{ℕ, ◌≡◌, ◌<◌, List, length, get_or, sym, ◌∙◌, ap, arith}
use Rattle.std.proofs.lemmas.List.{get_or_read}
use Rattle.flp_meaning.specs.Gadgets.{call_gadget, call_number}
use Rattle.flp_query.proofs.WireLemmas.{number-fits}
use Rattle.flp_query.proofs.AnswerLemmas.{own-more, own-other, others-more}
use Rattle.flp_query.proofs.answers.write_answers_of.Goals as goal
use Rattle.flp_query.proofs.answers.write_answers_of.Goals.{then-call_gadget-gadget, else-call_gadget-gadget}

pub loop-call-preserved : goal.loop-call-preserved
loop-call-preserved c =
    let gadgets : ℕ → ℕ = call_gadget c.args.plan.now.circuit in
    let numbers : ℕ → ℕ = call_number c.args.plan.now.circuit in
    elim c.if-call_gadget-gadget.branch [
      | then-call_gadget-gadget w ↦
          let own : gadgets c.loop-call.call ≡ c.args.gadget = sym c.call_gadget.ensures ∙ w.if-call_gadget-gadget.true in
          let fits : w.call_number-number.result < length c.args.values.now =
          number-fits c.args.plan.now.circuit c.is_within_limits.ensures c.args.gadget c.loop-call.call w.call_number-number.result (length c.args.values.now)
          c.requires.gadget (omega arith) own w.call_number-number.ensures c.requires.values in
          let value : w.index-values-number.result ≡ get_or c.args.values.now (numbers c.loop-call.call) 0 =
          get_or_read c.args.values.now w.call_number-number.result w.index-values-number.result fits w.index-values-number.is 0
          ∙ ap (λ (k : ℕ). get_or c.args.values.now k 0) w.call_number-number.ensures in
          record {
            own = λ (k : ℕ) low its.
                ap (λ (l : List ℕ). get_or l k 0) w.answers-is
                ∙ own-more gadgets numbers c.args.gadget c.loop-call.call w.index-values-number.result c.loop-call.answers c.args.values.now
                (omega arith) value c.loop-call.invariant.own k low its;
            others = λ (k : ℕ) other.
                ap (λ (l : List ℕ). get_or l k 0) w.answers-is
                ∙ others-more gadgets c.args.gadget c.loop-call.call w.index-values-number.result c.args.answers.now c.loop-call.answers own
                c.loop-call.invariant.others k other;
          }
      | else-call_gadget-gadget w ↦
          record {
            own = λ (k : ℕ) low its.
                ap (λ (l : List ℕ). get_or l k 0) w.answers-is
                ∙ own-other gadgets numbers c.args.gadget c.loop-call.call c.loop-call.answers c.args.values.now
                (λ (e : gadgets c.loop-call.call ≡ c.args.gadget). w.if-call_gadget-gadget.false (c.call_gadget.ensures ∙ e))
                c.loop-call.invariant.own k low its;
            others = λ (k : ℕ) other.
                ap (λ (l : List ℕ). get_or l k 0) w.answers-is ∙ c.loop-call.invariant.others k other;
          }
    ]

pub returns-clause-own : goal.returns-clause-own
returns-clause-own c call low own = c.loop-call.invariant.own call (omega arith) own

pub returns-clause-others : goal.returns-clause-others
returns-clause-others c call low other = c.loop-call.invariant.others call other

pub bounds-values-number : goal.bounds-values-number
bounds-values-number c =
    number-fits c.args.plan.now.circuit c.is_within_limits.ensures c.args.gadget c.loop-call.call c.call_number-number.result (length c.args.values.now)
    c.requires.gadget (omega arith) (sym c.call_gadget.ensures ∙ c.if-call_gadget-gadget.true) c.call_number-number.ensures c.requires.values
