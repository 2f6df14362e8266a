use Rattle.std.proofs.Common.{ℕ, ◌≡◌, ◌+◌, ◌^◌, ◌<◌, ◌≤◌, ◌⊎◌, arith, sym, refl, inl, ⊎_elim}
use Rattle.std.proofs.lemmas.Nat.{pow_pos}
use Rattle.flp_ntt.specs.Levels.{reversed}
use Rattle.flp_ntt.proofs.Mirrors.{reversed-zero}
use Rattle.flp_ntt.proofs.Exchanges.{exchanged_turn, waiting_turn, exchanged_stay, waiting_stay}
use Rattle.flp_ntt.proofs.mirror.reorder.Goals as goal
use Rattle.flp_ntt.proofs.mirror.reorder.Goals.{then-k-mirror, else-k-mirror}

pub loop-k-init : goal.loop-k-init
loop-k-init c = record {
  below = pow_pos c.args.log;
  mirrors = λ (some : 0 < 2 ^ c.args.log). sym (reversed-zero c.args.log);
  exchanged = λ (j : ℕ) (below : j < 2 ^ c.args.log) (which : (j < 0) ⊎ (reversed c.args.log j < 0)).
      ⊎_elim (λ (l : j < 0). absurd (omega arith)) (λ (l : reversed c.args.log j < 0). absurd (omega arith)) which;
  waiting = λ (j : ℕ) (below : j < 2 ^ c.args.log) (a : 0 ≤ j) (b : 0 ≤ reversed c.args.log j). refl;
}

pub loop-k-preserved : goal.loop-k-preserved
loop-k-preserved c =
    let inside : c.loop-k.k < 2 ^ c.args.log = omega arith in
    let mirror : c.loop-k.mirror ≡ reversed c.args.log c.loop-k.k = c.loop-k.invariant.mirrors inside in
    record {
      below = c.next_mirror-mirror.ensures.below;
      mirrors =
          λ (next : c.loop-k.k + 1 < 2 ^ c.args.log). c.next_mirror-mirror.ensures.next c.loop-k.k next mirror;
      exchanged =
          elim c.if-k-mirror.branch [
            | then-k-mirror w ↦
                rw w.values-is (
                exchanged_turn c.args.log c.loop-k.k c.loop-k.mirror c.args.values.now c.loop-k.values _ inside mirror
                w.if-k-mirror.true c.loop-k.invariant.exchanged c.loop-k.invariant.waiting w.swap.ensures.by_index)
            | else-k-mirror w ↦
                rw w.values-is (
                exchanged_stay c.args.log c.loop-k.k c.loop-k.mirror c.args.values.now c.loop-k.values inside mirror
                w.if-k-mirror.false c.loop-k.invariant.exchanged c.loop-k.invariant.waiting)
          ];
      waiting =
          elim c.if-k-mirror.branch [
            | then-k-mirror w ↦
                rw w.values-is (
                waiting_turn c.args.log c.loop-k.k c.loop-k.mirror c.args.values.now c.loop-k.values _ inside mirror
                c.loop-k.invariant.waiting w.swap.ensures.by_index)
            | else-k-mirror w ↦
                rw w.values-is (
                waiting_stay c.args.log c.loop-k.k c.args.values.now c.loop-k.values c.loop-k.invariant.waiting)
          ];
    }

pub returns : goal.returns
returns c =
    λ (k : ℕ) (below : k < 2 ^ c.args.log). c.loop-k.invariant.exchanged k below (inl (omega arith))
