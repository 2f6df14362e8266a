use Rattle.std.proofs.Common.{ℕ, ◌≡◌, ◌*◌, ◌%◌, ◌^◌, ◌<◌, ◌∙◌, ap, sym, subst, refl}
use Rattle.std.proofs.Math.Nat.{mul_comm}
use Rattle.flp_field.specs.Word.{modulus}
use Rattle.flp_field.proofs.Congruence.{word_mod}
use Rattle.flp_field.proofs.Powers.{pow-one, shifted-power}
use Rattle.flp_field.proofs.Order.{group_size_is, inverse_by_power}
use Rattle.flp_field.proofs.word.Fe.inv.Goals as goal

-- each run of n ones is the power with the exponent 2^n - 1
pub returns : goal.returns
returns c =
    let P : ℕ → Type 0 = λ (n : ℕ). n < modulus in
    let word : c.args.self < modulus = subst P c.value-word.ensures.same c.value-word.ensures.below in
    let first : c.args.self ≡ c.args.self ^ 1 % modulus =
    sym (ap (λ (n : ℕ). n % modulus) (pow-one c.args.self) ∙ word_mod c.args.self word) in
    let ones_2 : c.shifted-ones_2.result ≡ c.args.self ^ 3 % modulus =
    c.shifted-ones_2.ensures ∙ shifted-power c.args.self 1 1 _ _ 1 3 first first refl in
    let ones_3 : c.shifted-ones_3.result ≡ c.args.self ^ 7 % modulus =
    c.shifted-ones_3.ensures ∙ shifted-power c.args.self 3 1 _ _ 1 7 ones_2 first refl in
    let ones_6 : c.shifted-ones_6.result ≡ c.args.self ^ 63 % modulus =
    c.shifted-ones_6.ensures ∙ shifted-power c.args.self 7 7 _ _ 3 63 ones_3 ones_3 refl in
    let ones_12 : c.shifted-ones_12.result ≡ c.args.self ^ 4095 % modulus =
    c.shifted-ones_12.ensures ∙ shifted-power c.args.self 63 63 _ _ 6 4095 ones_6 ones_6 refl in
    let ones_24 : c.shifted-ones_24.result ≡ c.args.self ^ 16777215 % modulus =
    c.shifted-ones_24.ensures ∙ shifted-power c.args.self 4095 4095 _ _ 12 16777215 ones_12 ones_12 refl in
    let ones_30 : c.shifted-ones_30.result ≡ c.args.self ^ 1073741823 % modulus =
    c.shifted-ones_30.ensures ∙ shifted-power c.args.self 16777215 63 _ _ 6 1073741823 ones_24 ones_6 refl in
    let ones_31 : c.shifted-ones_31.result ≡ c.args.self ^ 2147483647 % modulus =
    c.shifted-ones_31.ensures ∙ shifted-power c.args.self 1073741823 1 _ _ 1 2147483647 ones_30 first refl in
    let ones_32 : c.shifted-ones_32.result ≡ c.args.self ^ 4294967295 % modulus =
    c.shifted-ones_32.ensures ∙ shifted-power c.args.self 2147483647 1 _ _ 1 4294967295 ones_31 first refl in
    let all : c.shifted.result ≡ c.args.self ^ 18446744069414584319 % modulus =
    c.shifted.ensures
    ∙ shifted-power c.args.self 2147483647 4294967295 _ _ 33 18446744069414584319 ones_31 ones_32 refl in
    record {
      product =
          ap (λ (n : ℕ). n * c.args.self % modulus) all
          ∙ ap (λ (n : ℕ). n % modulus) (mul_comm (c.args.self ^ 18446744069414584319 % modulus) c.args.self)
          ∙ inverse_by_power c.args.self 18446744069414584319 (sym group_size_is) c.requires word;
    }
