-- Numbers on the command line.
use Rattle.std.specs.Prelude.{ℕ, Bool, ◌&&◌, List, length, Option, Some, None, if◌then◌else◌, nat_le}
use Rattle.std.specs.List.{list_all}
use Rattle.std.specs.Char.{is_ascii_digit}
use Rattle.std.specs.Str.Parse.{digits_value}

-- one to ten decimal digits
abbrev pub has_number_form : List ℕ → Bool
has_number_form text = list_all is_ascii_digit text && (nat_le 1 (length text) && nat_le (length text) 10)

abbrev pub is_between : ℕ → ℕ → ℕ → Bool
is_between least most value = nat_le value most && nat_le least value

-- a text as a number from `least` to `most`
abbrev pub number_in : ℕ → ℕ → List ℕ → Option ℕ
number_in least most text =
    if is_between least most (digits_value 10 text) && has_number_form text then Some (digits_value 10 text) else None
