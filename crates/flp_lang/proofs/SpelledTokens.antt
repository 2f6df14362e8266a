-- Spelled tokens are read as these tokens.
use Rattle.std.proofs.Common.{ℕ, ◌+◌, ◌-◌, ◌*◌, ◌/◌, ◌%◌, ◌≤◌, ◌<◌, ◌≡◌, ◌==◌, ◌&&◌, Bool, true, false, List, [], ◌∷◌, ◌++◌, length, take, Option, None, Some, refl, sym, subst, ap, ◌∙◌, arith, length-append, decimal}
use Rattle.std.proofs.Math.Seq.{take-append_seam, drop-append_seam}
use Rattle.std.proofs.lemmas.Fmt.{decimal_by_steps}
use Rattle.std.proofs.lemmas.Bool.Decides.{nat_tests}
use borrow.Author.Tests.{lt-ltb}
use Rattle.std.specs.List.{prefix_len}
use Rattle.flp_field.specs.Word.{modulus}
use Rattle.flp_syntax.specs.Tokens.{Reads, nothing_read, piece_read, piece_of, AreTokens, is_blank, is_letter, is_digit, is_name_byte, digits_from, digits_value, reserved, word_token, number_piece}
use Rattle.flp_syntax.specs.WellFormed.{IsName, IsUnreserved, are_name_bytes}
use Rattle.flp_lang.specs.Spelling.{mark_text, spelling, rest_text, tokens_text}
use Rattle.flp_lang.proofs.WellFormed.{IsReal, AreReal}
use Rattle.flp_syntax.specs.declared.token.Token.{Token}
use Rattle.flp_syntax.specs.declared.token.Token.TheVariants.{Number, Name, Fixed}
use Rattle.flp_syntax.specs.declared.token.Mark.{Mark}
use Rattle.flp_syntax.specs.declared.token.Mark.TheVariants.{Use, Meas, Joint, Gadget, Check, Out, Each, Sum, In, Mul, Poly, Psum, Semicolon, Equals, OpenBracket, CloseBracket, Question, Open, Close, Plus, Minus, Star, Caret, Comma, DotDot}

-- what ends a token: a space or LF
abbrev gap : Bool → ℕ
gap true = 32
gap false = 10

-- all of these bytes
abbrev AllAre : (ℕ → Bool) → List ℕ → Type 0
AllAre p [] = Unit {0}
AllAre p (x ∷ xs) = (p x ≡ true) × AllAre p xs

prefix-all : (p : ℕ → Bool) (front rest : List ℕ) → AllAre p front → prefix_len p rest ≡ 0 → prefix_len p (front ++ rest) ≡ length front
prefix-all p [] rest h e = e
prefix-all p (x ∷ front) rest h e = rw (h.0, prefix-all p front rest h.1 e) (omega arith)

-- bytes by tests that hold of them
blank-off : (byte : ℕ) → is_letter byte ≡ true → is_blank byte ≡ false
blank-off byte h = grind (arith, nat_tests)

hash-off : (byte : ℕ) → is_letter byte ≡ true → (byte == 35) ≡ false
hash-off byte h = grind (arith, nat_tests)

digit-blank-off : (byte : ℕ) → is_digit byte ≡ true → is_blank byte ≡ false
digit-blank-off byte h = grind (arith, nat_tests)

digit-hash-off : (byte : ℕ) → is_digit byte ≡ true → (byte == 35) ≡ false
digit-hash-off byte h = grind (arith, nat_tests)

digit-letter-off : (byte : ℕ) → is_digit byte ≡ true → is_letter byte ≡ false
digit-letter-off byte h = grind (arith, nat_tests)

letter-name : (byte : ℕ) → is_letter byte ≡ true → is_name_byte byte ≡ true
letter-name byte h = rw h refl

-- names
and-true : (a b : Bool) → (a && b) ≡ true → (a ≡ true) × (b ≡ true)
and-true true b h = (refl, h)
and-true false b h = cc

name-bytes : (n : List ℕ) → are_name_bytes n ≡ true → AllAre is_name_byte n
name-bytes [] h = tt
name-bytes (byte ∷ more) h = let e = and-true (is_name_byte byte) (are_name_bytes more) h in (e.0, name-bytes more e.1)

unreserved : (n : List ℕ) (o : Option Mark) → IsUnreserved o → word_token n o ≡ Name n
unreserved n None h = refl
unreserved n (Some m) h = elim h [ ]

gap-name : (b : Bool) (x : List ℕ) → prefix_len is_name_byte (gap b ∷ x) ≡ 0
gap-name true x = refl
gap-name false x = refl

gap-digit : (b : Bool) (x : List ℕ) → prefix_len is_digit (gap b ∷ x) ≡ 0
gap-digit true x = refl
gap-digit false x = refl

-- the piece that begins with a letter, and with a digit
letter_piece : List ℕ → Option (Option Token × ℕ)
letter_piece text = let word = take (prefix_len is_name_byte text) text in Some (Some (word_token word (reserved word)), prefix_len is_name_byte text)

letter-begins : (byte : ℕ) (more : List ℕ) → is_letter byte ≡ true → piece_of (byte ∷ more) ≡ letter_piece (byte ∷ more)
unfolding letter_piece
letter-begins byte more h = rw (blank-off byte h, hash-off byte h, h) refl

digit-begins : (byte : ℕ) (more : List ℕ) → is_digit byte ≡ true → piece_of (byte ∷ more) ≡ number_piece (take (prefix_len is_digit (byte ∷ more)) (byte ∷ more))
digit-begins byte more h = rw (digit-blank-off byte h, digit-hash-off byte h, digit-letter-off byte h, h) refl

letter-piece : (n rest : List ℕ) → AllAre is_name_byte n → IsUnreserved (reserved n) → prefix_len is_name_byte rest ≡ 0 → letter_piece (n ++ rest) ≡ Some (Some (Name n), length n)
unfolding letter_piece
letter-piece n rest h u e =
    let i = prefix-all is_name_byte n rest h e in
    rw (i, take-append_seam n rest) (ap (λ (t : Token). Some (Some t, length n)) (unreserved n (reserved n) u))

name-piece : (n : List ℕ) (b : Bool) (x : List ℕ) → IsName n → piece_of (n ++ gap b ∷ x) ≡ Some (Some (Name n), length n)
name-piece [] b x h = elim h [ ]
name-piece (byte ∷ more) b x h = letter-begins byte (more ++ gap b ∷ x) h.0 ∙ letter-piece (byte ∷ more) (gap b ∷ x) (letter-name byte h.0, name-bytes more h.1) h.2 (gap-name b x)

-- numbers
digits_from-append : (ds : List ℕ) (v d : ℕ) → digits_from v (ds ++ d ∷ []) ≡ 10 * digits_from v ds + (d - 48)
digits_from-append [] v d = refl
digits_from-append (x ∷ ds) v d = digits_from-append ds (10 * v + (x - 48)) d

all-append : (p : ℕ → Bool) (ds : List ℕ) (d : ℕ) → AllAre p ds → p d ≡ true → AllAre p (ds ++ d ∷ [])
all-append p [] d h e = (e, tt)
all-append p (x ∷ ds) d h e = (h.0, all-append p ds d h.1 e)

record IsNumeral (n : ℕ) (ds : List ℕ) : Type 0 where
  digits : AllAre is_digit ds
  value : digits_value ds ≡ n
  some : 0 < length ds

is-digit : (d : ℕ) → d < 10 → is_digit (48 + d) ≡ true
is-digit d h = grind (arith, nat_tests)

numeral-one : (n : ℕ) → n < 10 → IsNumeral n ((48 + n) ∷ [])
numeral-one n h = record { digits = (is-digit n h, tt); value = omega arith; some = omega arith }

numeral-more : (n : ℕ) (ds : List ℕ) → 10 ≤ n → IsNumeral (n / 10) ds → IsNumeral n (ds ++ ((48 + n % 10) ∷ []))
numeral-more n ds h p = record {
  digits = all-append is_digit ds (48 + n % 10) p.digits (is-digit (n % 10) (omega arith));
  value = digits_from-append ds 0 (48 + n % 10) ∙ (let e = p.value in omega arith);
  some = omega (arith, length-append ds ((48 + n % 10) ∷ []));
}

numeral : (n : ℕ) → n < modulus → IsNumeral n (decimal n)
numeral n h = decimal_by_steps IsNumeral numeral-one numeral-more n (omega arith)

numeral-piece : (n : ℕ) (ds rest : List ℕ) → n < modulus → IsNumeral n ds → prefix_len is_digit rest ≡ 0 → number_piece (take (prefix_len is_digit (ds ++ rest)) (ds ++ rest)) ≡ Some (Some (Number n), length ds)
numeral-piece n ds rest h p e =
    let i = prefix-all is_digit ds rest p.digits e in
    rw (i, take-append_seam ds rest, p.value, lt-ltb n modulus h) refl

number-piece : (n : ℕ) (ds : List ℕ) (b : Bool) (x : List ℕ) → n < modulus → IsNumeral n ds → piece_of (ds ++ gap b ∷ x) ≡ Some (Some (Number n), length ds)
number-piece n [] b x h p = let e = p.some in absurd (omega arith)
number-piece n (byte ∷ more) b x h p = digit-begins byte (more ++ gap b ∷ x) p.digits.0 ∙ numeral-piece n (byte ∷ more) (gap b ∷ x) h p (gap-digit b x)

-- reserved words and symbols
mark-piece : (m : Mark) (b : Bool) (x : List ℕ) → piece_of (mark_text m ++ gap b ∷ x) ≡ Some (Some (Fixed m), length (mark_text m))
mark-piece Use true x = refl
mark-piece Use false x = refl
mark-piece Meas true x = refl
mark-piece Meas false x = refl
mark-piece Joint true x = refl
mark-piece Joint false x = refl
mark-piece Gadget true x = refl
mark-piece Gadget false x = refl
mark-piece Check true x = refl
mark-piece Check false x = refl
mark-piece Out true x = refl
mark-piece Out false x = refl
mark-piece Each true x = refl
mark-piece Each false x = refl
mark-piece Sum true x = refl
mark-piece Sum false x = refl
mark-piece In true x = refl
mark-piece In false x = refl
mark-piece Mul true x = refl
mark-piece Mul false x = refl
mark-piece Poly true x = refl
mark-piece Poly false x = refl
mark-piece Psum true x = refl
mark-piece Psum false x = refl
mark-piece Semicolon true x = refl
mark-piece Semicolon false x = refl
mark-piece Equals true x = refl
mark-piece Equals false x = refl
mark-piece OpenBracket true x = refl
mark-piece OpenBracket false x = refl
mark-piece CloseBracket true x = refl
mark-piece CloseBracket false x = refl
mark-piece Question true x = refl
mark-piece Question false x = refl
mark-piece Open true x = refl
mark-piece Open false x = refl
mark-piece Close true x = refl
mark-piece Close false x = refl
mark-piece Plus true x = refl
mark-piece Plus false x = refl
mark-piece Minus true x = refl
mark-piece Minus false x = refl
mark-piece Star true x = refl
mark-piece Star false x = refl
mark-piece Caret true x = refl
mark-piece Caret false x = refl
mark-piece Comma true x = refl
mark-piece Comma false x = refl
mark-piece DotDot true x = refl
mark-piece DotDot false x = refl

token-piece : (t : Token) (b : Bool) (x : List ℕ) → IsReal t → piece_of (spelling t ++ gap b ∷ x) ≡ Some (Some t, length (spelling t))
token-piece (Number n) b x h = number-piece n (decimal n) b x h (numeral n h)
token-piece (Name n) b x h = name-piece n b x h
token-piece (Fixed m) b x h = mark-piece m b x

-- what begins further tokens ends the one before
token-before : (t : Token) (more : List Token) → IsReal t → piece_of (spelling t ++ rest_text more) ≡ Some (Some t, length (spelling t))
unfolding rest_text
token-before t [] h = token-piece t false [] h
token-before t (u ∷ more) h = token-piece t true (spelling u ++ rest_text more) h

one-read : (t : Token) (more : List Token) → IsReal t → Reads (rest_text more) [] more → Reads (spelling t ++ rest_text more) [] (t ∷ more)
one-read t more h r = piece_read {token = Some t} (token-before t more h) (subst (λ (text : List ℕ). Reads text [] more) (sym (drop-append_seam (spelling t) (rest_text more))) r)

more-read : (tokens : List Token) → AreReal tokens → Reads (rest_text tokens) [] tokens
unfolding rest_text
more-read [] h = piece_read {token = None} {size = 1} refl nothing_read
more-read (t ∷ more) h = piece_read {token = None} {size = 1} refl (one-read t more h.0 (more-read more h.1))

pub spelled_read : (tokens : List Token) → AreReal tokens → AreTokens (tokens_text tokens) tokens
spelled_read [] h = piece_read {token = None} {size = 1} refl nothing_read
spelled_read (t ∷ more) h = one-read t more h.0 (more-read more h.1)
