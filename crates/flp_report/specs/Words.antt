-- Words as they stand in a file, 8 bytes each, the lowest byte first.
use Rattle.std.specs.Prelude.{ℕ, zero, suc, List, [], ◌∷◌, Option, nat_le, drop}
use Rattle.std.specs.List.{position_from}
use Rattle.byteorder.specs.Endian.{little_number}
use Rattle.flp_field.specs.Word.{modulus}

-- the first n numbers of 8 bytes each
abbrev pub words : ℕ → List ℕ → List ℕ
words zero bytes = []
words (suc n) bytes = little_number 8 bytes ∷ words n (drop 8 bytes)

-- the place of the first number that is no word of the field
abbrev pub bad_word_in : List ℕ → Option ℕ
bad_word_in numbers = position_from (λ n. nat_le modulus n) 0 numbers
