use Rattle.std.proofs.Common.{ℕ, ◌≡◌, ◌+◌, ◌-◌, ◌*◌, ◌%◌, ◌^◌, ◌<◌, ◌≤◌, ◌∙◌, arith, ap, ap₂, refl, add-one, get_or, length, slice_set, below_more, get_or-set_same, get_or-set_other}
use Rattle.std.proofs.Math.Nat.{pow-suc, pow-zero}
use Rattle.std.proofs.lemmas.List.{get_or_read}
use Rattle.flp_field.specs.Word.{modulus}
use Rattle.flp_field.proofs.Congruence.{same_mul, same_mod}
use Rattle.flp_ntt.proofs.point_weights.turn.Goals as goal

start : (point root : ℕ) → point ≡ point * root ^ 0
start point root =
    let one : point * root ^ 0 ≡ point * 1 = ap (λ (x : ℕ). point * x) (pow-zero root) in omega arith

more : (point root k : ℕ) → point * root ^ k * root ≡ point * root ^ (k + 1)
more point root k =
    let power : point * root ^ (k + 1) ≡ point * (root ^ k * root) =
    ap (λ (n : ℕ). point * root ^ n) (add-one k) ∙ ap (λ (x : ℕ). point * x) (pow-suc root k) in
    omega arith

pub loop-k-init : goal.loop-k-init
loop-k-init c = record {
  twist = ap (λ (x : ℕ). x % modulus) (start c.args.point c.args.root);
  sums = λ (j : ℕ) (h : j < 0). absurd (omega arith);
  differences = λ (j : ℕ) (h : j < 0). absurd (omega arith);
  rest = λ (j : ℕ) (h : 0 ≤ j). refl;
}

pub loop-k-preserved : goal.loop-k-preserved
loop-k-preserved c =
    let a : c.index-low-k.result ≡ get_or c.args.low.now c.loop-k.k 0 =
    get_or_read c.loop-k.low c.loop-k.k c.index-low-k.result (omega arith) c.index-low-k.is 0
    ∙ c.loop-k.invariant.rest c.loop-k.k (omega arith) in
    let turned : c.mul-turned.result
    ≡ (get_or c.args.low.now c.loop-k.k 0 * (c.args.point * c.args.root ^ c.loop-k.k)) % modulus =
    c.mul-turned.ensures
    ∙ same_mul c.index-low-k.result (get_or c.args.low.now c.loop-k.k 0) c.loop-k.twist
    (c.args.point * c.args.root ^ c.loop-k.k) (ap (λ (x : ℕ). x % modulus) a) c.loop-k.invariant.twist in
    record {
      twist =
          ap (λ (x : ℕ). x % modulus) c.mul-twist.ensures ∙ same_mod (c.loop-k.twist * c.args.root)
          ∙ same_mul c.loop-k.twist (c.args.point * c.args.root ^ c.loop-k.k) c.args.root c.args.root
          c.loop-k.invariant.twist refl
          ∙ ap (λ (x : ℕ). x % modulus) (more c.args.point c.args.root c.loop-k.k);
      sums =
          below_more
          (λ (j : ℕ). get_or (slice_set c.loop-k.low c.loop-k.k c.add.result) j 0
          ≡ (get_or c.args.low.now j 0
          + (get_or c.args.low.now j 0 * (c.args.point * c.args.root ^ j)) % modulus) % modulus)
          c.loop-k.k
          (λ (j : ℕ) (h : j < c.loop-k.k).
          get_or-set_other c.loop-k.low c.loop-k.k j c.add.result 0 (λ (e : j ≡ c.loop-k.k). absurd (omega arith))
          ∙ c.loop-k.invariant.sums j h)
          (get_or-set_same c.loop-k.low c.loop-k.k c.add.result 0 (omega arith) ∙ c.add.ensures
          ∙ ap₂ (λ (x y : ℕ). (x + y) % modulus) a turned);
      differences =
          below_more
          (λ (j : ℕ). get_or (slice_set c.loop-k.high c.loop-k.k c.sub.result) j 0
          ≡ (get_or c.args.low.now j 0
          + (modulus - (get_or c.args.low.now j 0 * (c.args.point * c.args.root ^ j)) % modulus)) % modulus)
          c.loop-k.k
          (λ (j : ℕ) (h : j < c.loop-k.k).
          get_or-set_other c.loop-k.high c.loop-k.k j c.sub.result 0 (λ (e : j ≡ c.loop-k.k). absurd (omega arith))
          ∙ c.loop-k.invariant.differences j h)
          (get_or-set_same c.loop-k.high c.loop-k.k c.sub.result 0 (omega arith) ∙ c.sub.ensures.difference
          ∙ ap₂ (λ (x y : ℕ). (x + (modulus - y)) % modulus) a turned);
      rest =
          λ (j : ℕ) (h : c.loop-k.k + 1 ≤ j).
          get_or-set_other c.loop-k.low c.loop-k.k j c.add.result 0 (λ (e : j ≡ c.loop-k.k). absurd (omega arith))
          ∙ c.loop-k.invariant.rest j (omega arith);
    }

pub returns-clause-sums : goal.returns-clause-sums
returns-clause-sums c =
    λ (j : ℕ) (below : j < length c.args.low.now). c.loop-k.invariant.sums j (omega arith)

pub returns-clause-differences : goal.returns-clause-differences
returns-clause-differences c =
    λ (j : ℕ) (below : j < length c.args.low.now). c.loop-k.invariant.differences j (omega arith)
