use Rattle.std.proofs.Common.{ℕ, ◌≡◌, ◌+◌, ◌*◌, ◌%◌, ◌^◌, ◌<◌, ◌∙◌, length, get_or, slice_set, arith, ap, sym, refl, add-one, below_more, get_or-set_same, get_or-set_other}
use Rattle.std.proofs.Math.Nat.{pow-suc, pow-zero}
use Rattle.std.proofs.lemmas.List.FromFn.{fill_by_all}
use Rattle.flp_field.specs.Word.{modulus, word_power}
use Rattle.flp_field.proofs.Congruence.{same_mul, same_mod}
use Rattle.flp_poly.proofs.powers.write_powers.Goals as goal

next : (p t k : ℕ) → p ≡ t ^ k % modulus → (p * t) % modulus ≡ t ^ (k + 1) % modulus
next p t k e =
    same_mul p (t ^ k) t t (ap (λ (x : ℕ). x % modulus) e ∙ same_mod (t ^ k)) refl
    ∙ ap (λ (x : ℕ). x % modulus) (sym (ap (λ (n : ℕ). t ^ n) (add-one k) ∙ pow-suc t k))

pub loop-k-init : goal.loop-k-init
loop-k-init c = record {
  power = ap (λ (x : ℕ). x % modulus) (sym (pow-zero c.args.at));
  done = λ (j : ℕ) (h : j < 0). absurd (omega arith);
}

pub loop-k-preserved : goal.loop-k-preserved
loop-k-preserved c = record {
  power = c.mul-power.ensures ∙ next c.loop-k.power c.args.at c.loop-k.k c.loop-k.invariant.power;
  done =
      below_more
      (λ (j : ℕ). get_or (slice_set c.loop-k.out c.loop-k.k c.loop-k.power) j 0 ≡ c.args.at ^ j % modulus) c.loop-k.k
      (λ (j : ℕ) (h : j < c.loop-k.k).
      get_or-set_other c.loop-k.out c.loop-k.k j c.loop-k.power 0 (λ (e : j ≡ c.loop-k.k). absurd (omega arith))
      ∙ c.loop-k.invariant.done j h)
      (get_or-set_same c.loop-k.out c.loop-k.k c.loop-k.power 0 (omega arith) ∙ c.loop-k.invariant.power);
}

pub returns : goal.returns
returns c =
    fill_by_all (λ (k : ℕ). word_power c.args.at k) c.loop-k.out (length c.args.out.now) 0 (omega arith)
    (λ (k : ℕ) (below : k < length c.args.out.now). c.loop-k.invariant.done k (omega arith))
