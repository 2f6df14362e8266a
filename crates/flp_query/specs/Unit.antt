-- What the constant 1 counts as on a share.
use Rattle.std.specs.Prelude.{ℕ, ◌≡◌, ◌-◌, ◌≤◌}
use Rattle.flp_field.specs.Word.{modulus, IsWord, word_product, word_power}

-- the inverse of the number of shares: its power with the exponent p - 2. A proof takes what it is from the law
unfoldable pub share_unit : ℕ → ℕ
share_unit shares = word_power shares (modulus - 2)

-- it is a word, and its product with the number of shares is 1
abbrev pub UnitIsInverse : Type 0
UnitIsInverse =
    (shares : ℕ) → 1 ≤ shares → IsWord shares → IsWord (share_unit shares) × (word_product (share_unit shares) shares ≡ 1)
