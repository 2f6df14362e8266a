use Rattle.std.proofs.Common.{ℕ, ◌≡◌, ◌+◌, ◌%◌, ◌^◌, ◌<◌, ◌∙◌, List, length, get_or, slice_set, arith, ap, sym, refl, rules}
use Rattle.std.proofs.lemmas.List.{get_or_read, take_all, length-set}
use Rattle.flp_field.specs.Word.{modulus}
use Rattle.flp_poly.proofs.Horner.{horner, value_at-horner}
use Rattle.flp_ntt.proofs.FoldLemmas.{horner-zeros, fold_step, next_turn}
use Rattle.flp_ntt.proofs.folding.fold.Goals as goal

pub loop-k-init : goal.loop-k-init
loop-k-init c = record {
  below = c.requires;
  turn = λ (t : ℕ) (full : t ^ length c.args.out.now % modulus ≡ 1). refl;
  values =
      λ (t : ℕ) (full : t ^ length c.args.out.now % modulus ≡ 1).
      ap (λ (x : ℕ). x % modulus)
      (horner-zeros c.fill.new.self t (λ (k : ℕ) (below : k < length c.fill.new.self). search rules));
}

pub loop-k-preserved : goal.loop-k-preserved
loop-k-preserved c =
    let there : c.index-out-place.result ≡ get_or c.loop-k.out c.loop-k.place 0 =
    get_or_read c.loop-k.out c.loop-k.place c.index-out-place.result (omega arith) c.index-out-place.is 0 in
    let read : c.index-poly-k.result ≡ get_or c.args.poly.now c.loop-k.k 0 =
    get_or_read c.args.poly.now c.loop-k.k c.index-poly-k.result (omega arith) c.index-poly-k.is 0 in
    let size : length (slice_set c.loop-k.out c.loop-k.place c.add.result) ≡ length c.loop-k.out =
    length-set c.loop-k.out c.loop-k.place c.add.result in
    let whole : length c.loop-k.out ≡ length c.args.out.now = omega arith in
    record {
      below = omega (arith, c.next-place.ensures.below, size, whole);
      turn =
          λ (t : ℕ) (full : t ^ length c.args.out.now % modulus ≡ 1).
          next_turn t c.loop-k.place c.loop-k.k c.next-place.result (c.loop-k.invariant.turn t full)
          (c.next-place.ensures.turn t (ap (λ (n : ℕ). t ^ n % modulus) (size ∙ whole) ∙ full));
      values =
          λ (t : ℕ) (full : t ^ length c.args.out.now % modulus ≡ 1).
          fold_step c.loop-k.out c.args.poly.now c.loop-k.place c.loop-k.k c.add.result c.index-poly-k.result t
          (omega arith) (omega arith)
          (c.add.ensures ∙ ap (λ (x : ℕ). (x + c.index-poly-k.result) % modulus) there) read
          (c.loop-k.invariant.turn t full) (c.loop-k.invariant.values t full);
    }

pub returns : goal.returns
returns c =
    λ (t : ℕ) (full : t ^ length c.args.out.now % modulus ≡ 1).
    value_at-horner c.loop-k.out t ∙ c.loop-k.invariant.values t full
    ∙ ap (λ (l : List ℕ). horner l t % modulus) (take_all c.loop-k.k c.args.poly.now (omega arith))
    ∙ sym (value_at-horner c.args.poly.now t)
