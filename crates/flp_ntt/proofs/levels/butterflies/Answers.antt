use Rattle.std.proofs.Common.{ℕ, ◌≡◌, ◌+◌, ◌*◌, ◌%◌, ◌^◌, ◌<◌, ◌≤◌, ◌∙◌, arith, ap, ap₂, sym, get_or, slice_set, below_more, get_or-set_same, get_or-set_other}
use Rattle.std.proofs.lemmas.List.{get_or_read}
use Rattle.flp_field.specs.Word.{modulus}
use Rattle.flp_field.proofs.Congruence.{Same}
use Rattle.flp_ntt.proofs.Halves.{butterfly_turn, twiddle_turn}
use Rattle.flp_ntt.proofs.levels.butterflies.Goals as goal

pub loop-k-preserved : goal.loop-k-preserved
loop-k-preserved c =
    let a : c.index-low-k.result ≡ get_or c.args.low.now c.loop-k.k 0 =
    get_or_read c.loop-k.low c.loop-k.k c.index-low-k.result (omega arith) c.index-low-k.is 0
    ∙ c.loop-k.invariant.low_rest c.loop-k.k (omega arith) in
    let b : c.index-high-k.result ≡ get_or c.args.high.now c.loop-k.k 0 =
    get_or_read c.loop-k.high c.loop-k.k c.index-high-k.result (omega arith) c.index-high-k.is 0
    ∙ c.loop-k.invariant.high_rest c.loop-k.k (omega arith) in
    let a_again : c.index-low-k-in-loop-k.result ≡ get_or c.args.low.now c.loop-k.k 0 =
    get_or_read c.loop-k.low c.loop-k.k c.index-low-k-in-loop-k.result (omega arith) c.index-low-k-in-loop-k.is 0
    ∙ c.loop-k.invariant.low_rest c.loop-k.k (omega arith) in
    let b_again : c.index-high-k-in-loop-k.result ≡ get_or c.args.high.now c.loop-k.k 0 =
    get_or_read c.loop-k.high c.loop-k.k c.index-high-k-in-loop-k.result (omega arith) c.index-high-k-in-loop-k.is 0
    ∙ c.loop-k.invariant.high_rest c.loop-k.k (omega arith) in
    record {
      twiddle =
          c.mul-twiddle.ensures
          ∙ twiddle_turn c.loop-k.twiddle c.args.root c.loop-k.k c.loop-k.invariant.twiddle;
      sums =
          below_more
          (λ (j : ℕ). get_or (slice_set c.loop-k.low c.loop-k.k c.add.result) j 0
          ≡ (get_or c.args.low.now j 0 + get_or c.args.high.now j 0) % modulus)
          c.loop-k.k
          (λ (j : ℕ) (h : j < c.loop-k.k).
          get_or-set_other c.loop-k.low c.loop-k.k j c.add.result 0 (λ (e : j ≡ c.loop-k.k). absurd (omega arith))
          ∙ c.loop-k.invariant.sums j h)
          (get_or-set_same c.loop-k.low c.loop-k.k c.add.result 0 (omega arith) ∙ c.add.ensures
          ∙ ap₂ (λ (x y : ℕ). (x + y) % modulus) a_again b_again);
      turned =
          below_more
          (λ (j : ℕ). Same
          (get_or (slice_set c.loop-k.high c.loop-k.k c.mul.result) j 0 + c.args.root ^ j * get_or c.args.high.now j 0)
          (c.args.root ^ j * get_or c.args.low.now j 0))
          c.loop-k.k
          (λ (j : ℕ) (h : j < c.loop-k.k).
          ap (λ (x : ℕ). (x + c.args.root ^ j * get_or c.args.high.now j 0) % modulus)
          (get_or-set_other c.loop-k.high c.loop-k.k j c.mul.result 0 (λ (e : j ≡ c.loop-k.k). absurd (omega arith)))
          ∙ c.loop-k.invariant.turned j h)
          (ap (λ (x : ℕ). (x + c.args.root ^ c.loop-k.k * get_or c.args.high.now c.loop-k.k 0) % modulus)
          (get_or-set_same c.loop-k.high c.loop-k.k c.mul.result 0 (omega arith) ∙ c.mul.ensures)
          ∙ butterfly_turn c.sub-difference.result c.loop-k.twiddle (c.args.root ^ c.loop-k.k)
          (get_or c.args.low.now c.loop-k.k 0) (get_or c.args.high.now c.loop-k.k 0)
          (ap (λ (x : ℕ). (c.sub-difference.result + x) % modulus) (sym b) ∙ c.sub-difference.ensures.undone ∙ a)
          c.loop-k.invariant.twiddle);
      low_rest =
          λ (j : ℕ) (h : c.loop-k.k + 1 ≤ j).
          get_or-set_other c.loop-k.low c.loop-k.k j c.add.result 0 (λ (e : j ≡ c.loop-k.k). absurd (omega arith))
          ∙ c.loop-k.invariant.low_rest j (omega arith);
      high_rest =
          λ (j : ℕ) (h : c.loop-k.k + 1 ≤ j).
          get_or-set_other c.loop-k.high c.loop-k.k j c.mul.result 0 (λ (e : j ≡ c.loop-k.k). absurd (omega arith))
          ∙ c.loop-k.invariant.high_rest j (omega arith);
    }
