use Rattle.std.proofs.Common.{ℕ, ◌≡◌, ◌+◌, ◌*◌, ◌<◌, ◌≤◌, ◌∙◌, length, get_or, sym, arith, below_more}
use Rattle.std.proofs.lemmas.List.{get_or-set_same, get_or-set_other, get_or_read}
use Rattle.std.proofs.lemmas.List.FromFn.{fill_by_all}
use Rattle.flp_plan.specs.Rows.{column}
use Rattle.flp_prove.proofs.JoinedLemmas.{column-at, column-past, row-inside}
use Rattle.flp_prove.proofs.wires.write_column.Goals as goal
use Rattle.flp_prove.proofs.wires.write_column.Goals.{then-place-size, else-place-size}

pub loop-place-preserved : goal.loop-place-preserved
loop-place-preserved c =
    below_more _ _
    (λ k low.
    get_or-set_other c.loop-place.out c.loop-place.place k c.if-place-size.value 0 (λ (e : k ≡ c.loop-place.place). omega arith)
    ∙ c.loop-place.invariant k low)
    (get_or-set_same c.loop-place.out c.loop-place.place c.if-place-size.value 0 (omega arith)
    ∙ elim c.if-place-size.branch [
      | then-place-size w ↦
          let low : c.loop-place.place < c.args.size = w.if-place-size.true in
          w.value-is
          ∙ get_or_read c.args.rows.now (c.loop-place.place * c.args.arity + c.args.input) w.index-rows-place.result
          (row-inside c.loop-place.place c.args.size c.args.arity c.args.input (length c.args.rows.now) low c.requires.input (omega arith))
          w.index-rows-place.is 0
          ∙ sym (column-at c.args.size c.args.arity c.args.rows.now c.args.input c.loop-place.place low)
      | else-place-size w ↦
          let high : c.args.size ≤ c.loop-place.place = omega (arith, w.if-place-size.false) in
          w.value-is ∙ sym (column-past c.args.size c.args.arity c.args.rows.now c.args.input c.loop-place.place high)
    ])

pub returns : goal.returns
returns c =
    fill_by_all (λ (k : ℕ). get_or (column c.args.size c.args.arity c.args.rows.now c.args.input) k 0)
    c.loop-place.out (length c.args.out.now) 0 (omega arith)
    (λ (k : ℕ) (low : k < length c.args.out.now). c.loop-place.invariant k (omega arith))
