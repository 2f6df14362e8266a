-- The tests of tokens say what they say.
use Rattle.std.proofs.Common.{get_or, ℕ, true, List, [], ◌∷◌, ◌≡◌, refl, ◌∙◌, ap, sym}
use Rattle.std.proofs.lemmas.Bool.{eqb-true, eq-eqb}
use Rattle.std.proofs.lemmas.Slice.Eq.{bytes_eq-Decides}
use Rattle.std.specs.Str.{bytes_eq}
use Rattle.flp_lang.specs.Marks.{mark_number, same_mark, is_mark}
use Rattle.flp_syntax.specs.declared.token.Token.{Token}
use Rattle.flp_syntax.specs.declared.token.Token.TheVariants.{Number, Name, Fixed}
use Rattle.flp_syntax.specs.declared.token.Mark.{Mark}
use Rattle.flp_syntax.specs.declared.token.Mark.TheVariants.{Use, Meas, Joint, Gadget, Check, Out, Each, Sum, In, Mul, Poly, Psum, Semicolon, Equals, OpenBracket, CloseBracket, Question, Open, Close, Plus, Minus, Star, Caret, Comma, DotDot}

pub same_mark-self : (m : Mark) → same_mark m m ≡ true
same_mark-self m = eq-eqb (mark_number m) (mark_number m) refl

pub bytes_eq-self : (n : List ℕ) → bytes_eq n n ≡ true
bytes_eq-self n = (bytes_eq-Decides n n).1 refl

pub bytes_eq-true : (n m : List ℕ) → bytes_eq n m ≡ true → n ≡ m
bytes_eq-true n m h = (bytes_eq-Decides n m).0 h

-- the mark of a number
abbrev mark_of : ℕ → Mark
mark_of n = get_or (Use ∷ Meas ∷ Joint ∷ Gadget ∷ Check ∷ Out ∷ Each ∷ Sum ∷ In ∷ Mul ∷ Poly ∷ Psum ∷ Semicolon ∷ Equals ∷ OpenBracket ∷ CloseBracket ∷ Question ∷ Open ∷ Close ∷ Plus ∷ Minus ∷ Star ∷ Caret ∷ Comma ∷ DotDot ∷ []) n Use

mark_of-mark_number : (m : Mark) → mark_of (mark_number m) ≡ m
mark_of-mark_number Use = refl
mark_of-mark_number Meas = refl
mark_of-mark_number Joint = refl
mark_of-mark_number Gadget = refl
mark_of-mark_number Check = refl
mark_of-mark_number Out = refl
mark_of-mark_number Each = refl
mark_of-mark_number Sum = refl
mark_of-mark_number In = refl
mark_of-mark_number Mul = refl
mark_of-mark_number Poly = refl
mark_of-mark_number Psum = refl
mark_of-mark_number Semicolon = refl
mark_of-mark_number Equals = refl
mark_of-mark_number OpenBracket = refl
mark_of-mark_number CloseBracket = refl
mark_of-mark_number Question = refl
mark_of-mark_number Open = refl
mark_of-mark_number Close = refl
mark_of-mark_number Plus = refl
mark_of-mark_number Minus = refl
mark_of-mark_number Star = refl
mark_of-mark_number Caret = refl
mark_of-mark_number Comma = refl
mark_of-mark_number DotDot = refl

pub same_mark-true : (a b : Mark) → same_mark a b ≡ true → a ≡ b
same_mark-true a b h = sym (mark_of-mark_number a) ∙ ap mark_of (eqb-true (mark_number a) (mark_number b) h) ∙ mark_of-mark_number b

pub is_mark-true : (m : Mark) (t : Token) → is_mark m t ≡ true → t ≡ Fixed m
is_mark-true m (Fixed n) h = ap Fixed (sym (same_mark-true m n h))
is_mark-true m (Number n) h = cc
is_mark-true m (Name n) h = cc
