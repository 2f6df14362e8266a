use Rattle.std.proofs.Common.{ℕ, ◌≡◌, ◌%◌, ◌^◌, ◌∙◌, ap, sym, refl, arith}
use Rattle.flp_field.specs.Word.{modulus}
use Rattle.flp_field.proofs.Congruence.{same_mod, same_mul}
use Rattle.flp_field.proofs.Powers.{squared_turn, pow-one}
use Rattle.flp_field.proofs.word.Fe.shifted.Goals as goal

pub loop-init : goal.loop-init
loop-init c = ap (λ (x : ℕ). x % modulus) (sym (pow-one c.args.self))

pub loop-preserved : goal.loop-preserved
loop-preserved c =
    rw c.mul-square.ensures (squared_turn c.loop.square c.args.self c.loop.counter c.loop.invariant)

pub returns : goal.returns
returns c =
    let whole : c.loop.counter ≡ c.args.bits = omega arith in
    c.mul.ensures
    ∙ same_mul c.loop.square (c.args.self ^ (2 ^ c.args.bits) % modulus) c.args.low c.args.low
    (c.loop.invariant ∙ ap (λ (n : ℕ). c.args.self ^ (2 ^ n) % modulus) whole
    ∙ sym (same_mod (c.args.self ^ (2 ^ c.args.bits)))) refl
