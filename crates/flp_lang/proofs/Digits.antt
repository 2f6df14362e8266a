-- The value of digits, read from the left.
use Rattle.std.proofs.Common.{ℕ, ◌+◌, ◌-◌, ◌*◌, ◌≤◌, ◌<◌, List, [], ◌∷◌, length, drop, get_or, ◌≡◌, refl, add-one, drop-cons, arith}
use Rattle.flp_syntax.specs.Tokens.{digits_from, digits_value}

-- further digits never lower it
pub digits_from-grows : (digits : List ℕ) (value : ℕ) → value ≤ digits_from value digits
digits_from-grows [] value = omega arith
digits_from-grows (digit ∷ more) value = omega (arith, digits_from-grows more (10 * value + (digit - 48)))

-- one digit more
pub digits_from-drop : (digits : List ℕ) (value i d : ℕ) → i < length digits → digits_from value (drop i digits) ≡ digits_from (10 * value + (get_or digits i d - 48)) (drop (i + 1) digits)
digits_from-drop digits value i d h = rw (add-one, drop-cons digits i d) refl

-- past the modulus, it stays past
pub digits_value-past : (digits : List ℕ) (value i d bound : ℕ) → i < length digits → digits_from value (drop i digits) ≡ digits_value digits → bound ≤ 10 * value + (get_or digits i d - 48) → bound ≤ digits_value digits
digits_value-past digits value i d bound h same le = let e = digits_from-drop digits value i d h in let g = digits_from-grows (drop (i + 1) digits) (10 * value + (get_or digits i d - 48)) in omega arith
