-- Tokens told apart by tests.
use Rattle.std.specs.Prelude.{ℕ, Bool, false, eqb}
use Rattle.flp_syntax.specs.declared.token.Token.{Token}
use Rattle.flp_syntax.specs.declared.token.Token.TheVariants.{Number, Name, Fixed}
use Rattle.flp_syntax.specs.declared.token.Mark.{Mark}
use Rattle.flp_syntax.specs.declared.token.Mark.TheVariants.{Use, Meas, Joint, Gadget, Check, Out, Each, Sum, In, Mul, Poly, Psum, Semicolon, Equals, OpenBracket, CloseBracket, Question, Open, Close, Plus, Minus, Star, Caret, Comma, DotDot}

-- the number of a mark
abbrev pub mark_number : Mark → ℕ
mark_number Use = 0
mark_number Meas = 1
mark_number Joint = 2
mark_number Gadget = 3
mark_number Check = 4
mark_number Out = 5
mark_number Each = 6
mark_number Sum = 7
mark_number In = 8
mark_number Mul = 9
mark_number Poly = 10
mark_number Psum = 11
mark_number Semicolon = 12
mark_number Equals = 13
mark_number OpenBracket = 14
mark_number CloseBracket = 15
mark_number Question = 16
mark_number Open = 17
mark_number Close = 18
mark_number Plus = 19
mark_number Minus = 20
mark_number Star = 21
mark_number Caret = 22
mark_number Comma = 23
mark_number DotDot = 24

-- whether two marks are one
abbrev pub same_mark : Mark → Mark → Bool
same_mark a b = eqb (mark_number a) (mark_number b)

-- whether a token is this mark
abbrev pub is_mark : Mark → Token → Bool
is_mark m (Fixed n) = same_mark m n
is_mark m (Number n) = false
is_mark m (Name n) = false
