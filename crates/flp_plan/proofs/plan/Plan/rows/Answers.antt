use Rattle.std.proofs.Common.{ℕ, ◌≡◌, ◌+◌, ◌-◌, ◌*◌, ◌≤◌, ◌∙◌, List, ◌++◌, length, take, drop, ap, sym, subst, arith}
use borrow.Rule.Slice.PartMut.{put_mid}
use Rattle.std.proofs.Math.Nat.{mul-le-mul_right}
use Rattle.std.proofs.lemmas.List.{length-append, length-drop}
use Rattle.flp_meaning.specs.Meaning.{Reading}
use Rattle.flp_meaning.specs.Circuit.{with_answers, calls_of}
use Rattle.flp_meaning.specs.Gadgets.{size_of, calls_made, call_gadget, call_number}
use Rattle.flp_plan.proofs.FormLemmas.{range_length}
use Rattle.flp_plan.specs.Rows.{HasRows}
use Rattle.flp_plan.proofs.RowLemmas.{rows-more, rows-other, rows-all}
use Rattle.flp_plan.proofs.plan.Plan.rows.Goals as goal
use Rattle.flp_plan.proofs.plan.Plan.rows.Goals.{then-call_gadget-gadget, else-call_gadget-gadget}

pub loop-call-preserved : goal.loop-call-preserved
loop-call-preserved c joint same =
    let reading : Reading = with_answers c.args.reading.now.x.now joint c.args.reading.now.unit c.args.reading.now.answers.now in
    elim c.if-call_gadget-gadget.branch [
      | then-call_gadget-gadget w ↦
          let own : call_gadget c.args.self.now.circuit c.loop-call.call ≡ c.args.gadget = sym c.call_gadget.ensures ∙ w.if-call_gadget-gadget.true in
          let among : call_number c.args.self.now.circuit c.loop-call.call ≤ calls_made c.args.self.now.circuit (call_gadget c.args.self.now.circuit c.loop-call.call) =
          (c.is_within_limits.ensures.calls c.loop-call.call (omega arith)).among_calls in
          let room : calls_made c.args.self.now.circuit c.args.gadget + 1 ≤ size_of c.args.self.now.circuit c.args.gadget =
          (c.is_within_limits.ensures.gadgets c.args.gadget c.requires.gadget).room_for_calls in
          let low : call_number c.args.self.now.circuit c.loop-call.call ≤ calls_made c.args.self.now.circuit c.args.gadget =
          subst (λ (g : ℕ). call_number c.args.self.now.circuit c.loop-call.call ≤ calls_made c.args.self.now.circuit g) own among in
          let number : w.call_number.result ≡ call_number c.args.self.now.circuit c.loop-call.call = w.call_number.ensures in
          let inside : (w.call_number.result + 1) * c.arity-arity.result ≤ size_of c.args.self.now.circuit c.args.gadget * c.arity-arity.result =
          mul-le-mul_right c.arity-arity.result (omega arith) in
          let joined : length (c.copy_from_slice.new.self ++ drop c.arity-arity.result c.fill.new.self)
          ≡ length c.copy_from_slice.new.self + length (drop c.arity-arity.result c.fill.new.self) =
          length-append c.copy_from_slice.new.self (drop c.arity-arity.result c.fill.new.self) in
          let rest : length (drop c.arity-arity.result c.fill.new.self) ≡ length c.fill.new.self - c.arity-arity.result = length-drop c.arity-arity.result c.fill.new.self in
          let first : length c.copy_from_slice.new.self ≡ c.arity-arity.result =
          ap (λ (l : List ℕ). length l) c.copy_from_slice.ensures.after ∙ c.requires.seeds ∙ sym c.arity-arity.ensures.inputs in
          let filled : length c.fill.new.self ≡ size_of c.args.self.now.circuit c.args.gadget * c.arity-arity.result =
          c.fill.ensures.len ∙ c.requires.room ∙ ap (λ (n : ℕ). size_of c.args.self.now.circuit c.args.gadget * n) (sym c.arity-arity.ensures.inputs) in
          let one : 1 * c.arity-arity.result ≤ size_of c.args.self.now.circuit c.args.gadget * c.arity-arity.result =
          mul-le-mul_right c.arity-arity.result (omega arith) in
          let as_before : length (c.copy_from_slice.new.self ++ drop c.arity-arity.result c.fill.new.self) ≡ size_of c.args.self.now.circuit c.args.gadget * c.arity-arity.result =
          omega arith in
          let whole : length c.loop-call.rows ≡ size_of c.args.self.now.circuit c.args.gadget * c.arity-arity.result =
          c.loop-call.auto.rows ∙ as_before in
          let behind : w.call_number.result * c.arity-arity.result + c.arity-arity.result ≤ length c.loop-call.rows = omega arith in
          let given : length w.write_inputs.new.row
          ≡ length (take (w.call_number.result * c.arity-arity.result + c.arity-arity.result - w.call_number.result * c.arity-arity.result) (drop (w.call_number.result * c.arity-arity.result) c.loop-call.rows)) =
          w.write_inputs.auto.row in
          let long : length w.write_inputs.new.row ≡ c.arity-arity.result =
          given
          ∙ range_length c.loop-call.rows (w.call_number.result * c.arity-arity.result)
          (w.call_number.result * c.arity-arity.result + c.arity-arity.result - w.call_number.result * c.arity-arity.result) (omega arith)
          ∙ omega arith in
          rows-more c.args.self.now.circuit reading c.args.seeds.now c.args.gadget c.loop-call.call c.loop-call.rows w.write_inputs.new.row c.if-call_gadget-gadget.rows
          w.call_number.result c.arity-arity.result (c.loop-call.invariant joint same) (w.write_inputs.ensures joint same) own number c.arity-arity.ensures.inputs
          long behind
          (w.rows-is ∙ ap (λ (k : ℕ). put_mid (w.call_number.result * c.arity-arity.result) k c.loop-call.rows w.write_inputs.new.row) (omega arith))
      | else-call_gadget-gadget w ↦
          subst (λ (rows : List ℕ). HasRows c.args.self.now.circuit (take (c.loop-call.call + 1) (calls_of c.args.self.now.circuit reading)) c.args.seeds.now c.args.gadget rows) (sym w.rows-is)
          (rows-other c.args.self.now.circuit reading c.args.seeds.now c.args.gadget c.loop-call.call c.loop-call.rows (omega arith) (c.loop-call.invariant joint same)
          (λ (e : call_gadget c.args.self.now.circuit c.loop-call.call ≡ c.args.gadget). w.if-call_gadget-gadget.false (c.call_gadget.ensures ∙ e)))
    ]

pub returns : goal.returns
returns c joint same =
    let reading : Reading = with_answers c.args.reading.now.x.now joint c.args.reading.now.unit c.args.reading.now.answers.now in
    rows-all c.args.self.now.circuit reading c.args.seeds.now c.args.gadget c.loop-call.call c.loop-call.rows (omega arith) (c.loop-call.invariant joint same)
