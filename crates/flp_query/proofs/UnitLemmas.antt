-- The inverse of the number of shares.
use Rattle.std.proofs.Common.{ℕ, ◌≡◌, ◌%◌, ◌≤◌, ap, ◌∙◌, arith}
use Rattle.std.proofs.Math.Nat.{mul_comm}
use Rattle.flp_field.specs.Word.{modulus, IsWord, word_product}
use Rattle.flp_field.proofs.Congruence.{mod_word}
use Rattle.flp_field.proofs.Order.{group_size, group_size_is, inverse_by_power, inverse_unique}
use Rattle.flp_query.specs.Unit.{share_unit, UnitIsInverse}

pub unit_is_inverse : UnitIsInverse
unfolding share_unit
unit_is_inverse shares some word =
    let size : group_size ≡ 18446744069414584320 = group_size_is in (
      mod_word _,
      ap (λ (n : ℕ). n % modulus) (mul_comm (share_unit shares) shares)
          ∙ inverse_by_power shares 18446744069414584319 (omega arith) (omega arith) word,
    )

-- no other word has this product
pub unit-from_product : (shares unit : ℕ) → 1 ≤ shares → IsWord shares → IsWord unit → word_product unit shares ≡ 1 → unit ≡ share_unit shares
unit-from_product shares unit some word unit_word product =
    let own : IsWord (share_unit shares) × (word_product (share_unit shares) shares ≡ 1) = unit_is_inverse shares some word in
    inverse_unique shares unit (share_unit shares) unit_word own.0
    (ap (λ (n : ℕ). n % modulus) (mul_comm shares unit) ∙ product)
    (ap (λ (n : ℕ). n % modulus) (mul_comm shares (share_unit shares)) ∙ own.1)
