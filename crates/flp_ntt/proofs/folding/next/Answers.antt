use Rattle.std.proofs.Common.{ℕ, ◌≡◌, ◌+◌, ◌%◌, ◌^◌, ◌∙◌, arith, ap, sym, refl}
use Rattle.std.proofs.Math.Nat.{pow-zero}
use Rattle.flp_field.specs.Word.{modulus}
use Rattle.flp_ntt.proofs.folding.next.Goals as goal

around : (place size t : ℕ) → place + 1 ≡ size → t ^ size % modulus ≡ 1 → t ^ 0 % modulus ≡ t ^ (place + 1) % modulus
around place size t whole full =
    ap (λ (x : ℕ). x % modulus) (pow-zero t) ∙ sym full ∙ ap (λ (n : ℕ). t ^ n % modulus) (sym whole)

pub returns-then-place-size-clause-turn : goal.returns-then-place-size-clause-turn
returns-then-place-size-clause-turn c =
    λ (t : ℕ) (full : t ^ c.args.size % modulus ≡ 1). around c.args.place c.args.size t (omega arith) full

pub returns-else-place-size-clause-turn : goal.returns-else-place-size-clause-turn
returns-else-place-size-clause-turn c = λ (t : ℕ) (full : t ^ c.args.size % modulus ≡ 1). refl
