-- How tokens are written: each by itself, and then a list of them.
use Rattle.std.specs.Prelude.{ℕ, List, [], ◌∷◌, ◌++◌, codes, decimal}
use Rattle.flp_syntax.specs.declared.token.Token.{Token}
use Rattle.flp_syntax.specs.declared.token.Token.TheVariants.{Number, Name, Fixed}
use Rattle.flp_syntax.specs.declared.token.Mark.{Mark}
use Rattle.flp_syntax.specs.declared.token.Mark.TheVariants.{Use, Meas, Joint, Gadget, Check, Out, Each, Sum, In, Mul, Poly, Psum, Semicolon, Equals, OpenBracket, CloseBracket, Question, Open, Close, Plus, Minus, Star, Caret, Comma, DotDot}

-- a reserved word or a symbol
abbrev pub mark_text : Mark → List ℕ
mark_text Use = codes "use"
mark_text Meas = codes "meas"
mark_text Joint = codes "joint"
mark_text Gadget = codes "gadget"
mark_text Check = codes "check"
mark_text Out = codes "out"
mark_text Each = codes "each"
mark_text Sum = codes "sum"
mark_text In = codes "in"
mark_text Mul = codes "mul"
mark_text Poly = codes "poly"
mark_text Psum = codes "psum"
mark_text Semicolon = codes ";"
mark_text Equals = codes "="
mark_text OpenBracket = codes "["
mark_text CloseBracket = codes "]"
mark_text Question = codes "?"
mark_text Open = codes "("
mark_text Close = codes ")"
mark_text Plus = codes "+"
mark_text Minus = codes "-"
mark_text Star = codes "*"
mark_text Caret = codes "^"
mark_text Comma = codes ","
mark_text DotDot = codes ".."

-- a number in decimal digits, a name as it is
abbrev pub spelling : Token → List ℕ
spelling (Number n) = decimal n
spelling (Name n) = n
spelling (Fixed m) = mark_text m

-- further tokens, each behind a space, and LF at the end
unfoldable pub rest_text : List Token → List ℕ
rest_text [] = 10 ∷ []
rest_text (token ∷ more) = 32 ∷ (spelling token ++ rest_text more)

-- tokens with one space between two, and LF at the end
abbrev pub tokens_text : List Token → List ℕ
tokens_text [] = 10 ∷ []
tokens_text (token ∷ more) = spelling token ++ rest_text more
