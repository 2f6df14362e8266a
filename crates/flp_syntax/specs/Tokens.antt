-- The tokens of a text, from the bytes up. The longest token is taken.
use Rattle.std.specs.Prelude.{ℕ, ◌+◌, ◌-◌, ◌*◌, ◌<◌, ◌≤◌, Bool, ◌&&◌, ◌||◌, ◌==◌, nat_le, nat_lt, if◌then◌else◌, List, [], ◌∷◌, ◌++◌, length, take, drop, Option, None, Some, ◌≡◌, codes, option_to_list}
use Rattle.std.specs.List.{prefix_len}
use Rattle.std.specs.Str.{bytes_eq}
use Rattle.flp_field.specs.Word.{modulus}
use Rattle.flp_syntax.specs.declared.fault.LangFault.{LangFault}
use Rattle.flp_syntax.specs.declared.fault.LangFault.TheVariants.{Memory, TextLength, Lex}
use Rattle.flp_syntax.specs.declared.token.Token.{Token}
use Rattle.flp_syntax.specs.declared.token.Token.TheVariants.{Number, Name, Fixed}
use Rattle.flp_syntax.specs.declared.token.Mark.{Mark}
use Rattle.flp_syntax.specs.declared.token.Mark.TheVariants.{Use, Meas, Joint, Gadget, Check, Out, Each, Sum, In, Mul, Poly, Psum, Semicolon, Equals, OpenBracket, CloseBracket, Question, Open, Close, Plus, Minus, Star, Caret, Comma, DotDot}

-- space, tab, LF and CR
abbrev pub is_blank : ℕ → Bool
is_blank byte = (byte == 32) || (byte == 9) || (byte == 10) || (byte == 13)

-- an ASCII letter
abbrev pub is_letter : ℕ → Bool
is_letter byte = (nat_le 65 byte && nat_le byte 90) || (nat_le 97 byte && nat_le byte 122)

-- an ASCII digit
abbrev pub is_digit : ℕ → Bool
is_digit byte = nat_le 48 byte && nat_le byte 57

-- what a name goes on with: letters, digits and `_`
abbrev pub is_name_byte : ℕ → Bool
is_name_byte byte = is_letter byte || is_digit byte || (byte == 95)

-- what a comment goes on with: all but LF
abbrev pub is_comment_byte : ℕ → Bool
is_comment_byte byte = nat_lt byte 10 || nat_lt 10 byte

-- the value of a run of digits, behind digits of a value
abbrev pub digits_from : ℕ → List ℕ → ℕ
digits_from value [] = value
digits_from value (digit ∷ more) = digits_from (10 * value + (digit - 48)) more

abbrev pub digits_value : List ℕ → ℕ
digits_value digits = digits_from 0 digits

-- the reserved words
abbrev pub reserved : List ℕ → Option Mark
reserved word =
    if bytes_eq word (codes "use") then Some Use else
    (if bytes_eq word (codes "meas") then Some Meas else
    (if bytes_eq word (codes "joint") then Some Joint else
    (if bytes_eq word (codes "gadget") then Some Gadget else
    (if bytes_eq word (codes "check") then Some Check else
    (if bytes_eq word (codes "out") then Some Out else
    (if bytes_eq word (codes "each") then Some Each else
    (if bytes_eq word (codes "sum") then Some Sum else
    (if bytes_eq word (codes "in") then Some In else
    (if bytes_eq word (codes "mul") then Some Mul else
    (if bytes_eq word (codes "poly") then Some Poly else
    (if bytes_eq word (codes "psum") then Some Psum else None)))))))))))

-- the symbols of one byte
abbrev pub symbol : ℕ → Option Mark
symbol byte =
    if byte == 59 then Some Semicolon else
    (if byte == 61 then Some Equals else
    (if byte == 91 then Some OpenBracket else
    (if byte == 93 then Some CloseBracket else
    (if byte == 63 then Some Question else
    (if byte == 40 then Some Open else
    (if byte == 41 then Some Close else
    (if byte == 43 then Some Plus else
    (if byte == 45 then Some Minus else
    (if byte == 42 then Some Star else
    (if byte == 94 then Some Caret else
    (if byte == 44 then Some Comma else None)))))))))))

-- a reserved word, or else a name
abbrev pub word_token : List ℕ → Option Mark → Token
word_token word (Some mark) = Fixed mark
word_token word None = Name word

-- a symbol of one byte, or `..`
abbrev pub symbol_piece : Option Mark → List ℕ → Option (Option Token × ℕ)
symbol_piece (Some mark) bytes = Some (Some (Fixed mark), 1)
symbol_piece None bytes = if bytes_eq (take 2 bytes) (codes "..") then Some (Some (Fixed DotDot), 2) else None

-- a run of digits whose value is below the modulus
abbrev pub number_piece : List ℕ → Option (Option Token × ℕ)
number_piece digits = if nat_lt (digits_value digits) modulus then Some (Some (Number (digits_value digits)), length digits) else None

-- the blank, comment or token that begins a text, and its length in bytes; none where nothing begins
abbrev pub piece_of : List ℕ → Option (Option Token × ℕ)
piece_of [] = None
piece_of (byte ∷ more) =
    if is_blank byte then Some (None, 1) else
    (if byte == 35 then Some (None, prefix_len is_comment_byte (byte ∷ more)) else
    (if is_letter byte then (let word = take (prefix_len is_name_byte (byte ∷ more)) (byte ∷ more) in Some (Some (word_token word (reserved word)), prefix_len is_name_byte (byte ∷ more))) else
    (if is_digit byte then number_piece (take (prefix_len is_digit (byte ∷ more)) (byte ∷ more)) else
    symbol_piece (symbol byte) (byte ∷ more))))

-- from the text up to the rest there are these tokens
pub data Reads : List ℕ → List ℕ → List Token → Type 0 where
  nothing_read : {text : List ℕ} → Reads text text []
  piece_read : {text rest : List ℕ} {token : Option Token} {size : ℕ} {tokens : List Token} → piece_of text ≡ Some (token, size) → Reads (drop size text) rest tokens → Reads text rest (option_to_list token ++ tokens)

-- the text is these tokens
abbrev pub AreTokens : List ℕ → List Token → Type 0
AreTokens text tokens = Reads text [] tokens

-- at this byte, the first one such, nothing begins
abbrev pub IsStuck : List ℕ → ℕ → Type 0
IsStuck text at = (rest : List ℕ) × (tokens : List Token) × Reads text rest tokens × (at + length rest ≡ length text) × (0 < length rest) × (piece_of rest ≡ None)

-- a text of at most 65,536 bytes is its tokens, or the fault is this; want of memory aside
abbrev pub IsLexFault : List ℕ → LangFault → Type 0
IsLexFault text Memory = Unit {0}
IsLexFault text (TextLength size) = (65536 < length text) × (size ≡ length text)
IsLexFault text (Lex at) = (length text ≤ 65536) × IsStuck text at
IsLexFault text _ = ⊥

abbrev pub IsLexed : List ℕ → List Token → Type 0
IsLexed text tokens = (length text ≤ 65536) × AreTokens text tokens
