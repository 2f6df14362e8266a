-- From what `parse` promises of digits to a number in a range.
use Rattle.std.proofs.Common.{◌≡◌, ℕ, ◌^◌, ◌≤◌, ◌<◌, List, length, true, false, Err, None, refl, arith, rules, ⊎_elim}
use Rattle.std.specs.Prelude.{nat_le}
use Rattle.std.specs.List.{list_all}
use Rattle.std.specs.Char.{is_ascii_digit}
use Rattle.std.specs.Str.Parse.{ParsesUnsigned, digits_value}
use Rattle.std.proofs.lemmas.Bool.{and_parts, cases_Bool, leb-true}
use Rattle.std.proofs.lemmas.Str.Parse.{IsDigitsTest, IsNumeralModel, numerals_by_value, parse_digits}
use Rattle.flp_words.specs.Number.{has_number_form, number_in}

tells_digits : IsDigitsTest (λ ds. list_all is_ascii_digit ds ≡ true)
tells_digits = search rules

numerals : IsNumeralModel (λ ds. list_all is_ascii_digit ds ≡ true) (digits_value 10)
numerals = numerals_by_value _ tells_digits

-- digits that are refused write a number above every range
pub number_in-refused : {E : Type 0} (least most : ℕ) (text : List ℕ) (e : E) → most < 2 ^ 32 → has_number_form text ≡ true
    → ParsesUnsigned 32 10 text (Err e) → None ≡ number_in least most text
number_in-refused least most text e fits form failed =
    let parts = and_parts _ _ form in
    let sizes = and_parts _ _ parts.1 in
    let some : 1 ≤ length text = leb-true 1 (length text) sizes.0 in
    let large = parse_digits numerals 32 text (Err e) failed parts.0 in
    ⊎_elim
    (λ (below : nat_le (digits_value 10 text) most ≡ true).
    let small : digits_value 10 text ≤ most = leb-true (digits_value 10 text) most below in
    let fitting : digits_value 10 text < 2 ^ 32 = omega arith in
    let any : 0 < length text = omega arith in
    absurd (large (any, fitting)))
    (λ (above : nat_le (digits_value 10 text) most ≡ false). rw above refl)
    (cases_Bool (nat_le (digits_value 10 text) most))
