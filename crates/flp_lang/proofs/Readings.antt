-- Readings of a text: one piece more, and that there is but one.
use Rattle.std.proofs.Common.{ℕ, ◌+◌, ◌-◌, ◌≤◌, ◌<◌, List, [], ◌∷◌, ◌++◌, length, drop, Option, None, Some, ◌≡◌, refl, sym, subst, ap, append_assoc, arith, option_to_list, Result, Ok, Err, IfOk, IfSome}
use Rattle.std.proofs.Common.{Bool, true, false, cond, ◌==◌, nat_lt, take, codes, length-take, length-drop, length-append}
use Rattle.std.proofs.lemmas.Bool.{eqb-true}
use Rattle.std.proofs.lemmas.Grind.{common_steps}
use Rattle.std.proofs.lemmas.List.Folds.{length-prefix_len}
use Rattle.std.specs.List.{prefix_len}
use Rattle.std.specs.Str.{bytes_eq}
use Rattle.std.proofs.lemmas.List.{append-nil}
use Rattle.flp_field.specs.Word.{modulus}
use Rattle.flp_lang.proofs.MarkTests.{bytes_eq-true}
use Rattle.flp_syntax.specs.Tokens.{Reads, nothing_read, piece_read, piece_of, is_blank, is_letter, is_digit, is_name_byte, is_comment_byte, digits_value, symbol, number_piece, symbol_piece}
use Rattle.flp_syntax.specs.declared.token.Mark.{Mark}
use Rattle.flp_syntax.specs.declared.token.Mark.TheVariants.{DotDot}
use Rattle.flp_syntax.specs.declared.token.Token.TheVariants.{Number, Fixed}
use Rattle.flp_syntax.specs.declared.token.Token.{Token}

-- one piece more at the end
pub reads-more : {text rest : List ℕ} {tokens : List Token} → Reads text rest tokens → (token : Option Token) (size : ℕ) → piece_of rest ≡ Some (token, size) → Reads text (drop size rest) (tokens ++ option_to_list token)
reads-more {text} nothing_read token size e = subst (λ ts. Reads text (drop size text) ts) (append-nil (option_to_list token)) (piece_read e nothing_read)
reads-more {text} (piece_read {rest = rest} {token = first} {tokens = tokens} d r) token size e =
    subst (λ ts. Reads text (drop size rest) ts) (sym (append_assoc (option_to_list first) tokens (option_to_list token))) (piece_read d (reads-more r token size e))

-- a piece has a byte, and no more than the text
abbrev pub Sized : List ℕ → Option (Option Token × ℕ) → Type 0
Sized text None = Unit {0}
Sized text (Some piece) = (0 < piece.1) × (piece.1 ≤ length text)

sized-if : (text : List ℕ) (b : Bool) (x y : Option (Option Token × ℕ)) → (b ≡ true → Sized text x) → (b ≡ false → Sized text y) → Sized text (cond b x y)
sized-if text true x y f g = f refl
sized-if text false x y f g = g refl

front-le : (p : ℕ → Bool) (text : List ℕ) → prefix_len p text ≤ length text
front-le p text = omega (arith, length-prefix_len p text, length-take (prefix_len p text) text)

front-positive : (p : ℕ → Bool) (byte : ℕ) (more : List ℕ) → p byte ≡ true → 0 < prefix_len p (byte ∷ more)
front-positive p byte more e = rw e (omega arith)

sized-front : (p : ℕ → Bool) (byte : ℕ) (more : List ℕ) → p byte ≡ true → (0 < prefix_len p (byte ∷ more)) × (prefix_len p (byte ∷ more) ≤ length (byte ∷ more))
sized-front p byte more e = (front-positive p byte more e, front-le p (byte ∷ more))

comment-begins : (byte : ℕ) → (byte == 35) ≡ true → is_comment_byte byte ≡ true
comment-begins byte e = rw (eqb-true byte 35 e) refl

pub name-begins : (byte : ℕ) → is_letter byte ≡ true → is_name_byte byte ≡ true
name-begins byte e = rw e refl

sized-number : (byte : ℕ) (more : List ℕ) → is_digit byte ≡ true → Sized (byte ∷ more) (number_piece (take (prefix_len is_digit (byte ∷ more)) (byte ∷ more)))
sized-number byte more e =
    let digits = take (prefix_len is_digit (byte ∷ more)) (byte ∷ more) in
    sized-if (byte ∷ more) (nat_lt (digits_value digits) modulus) (Some (Some (Number (digits_value digits)), length digits)) None
    (λ _. rw (length-prefix_len is_digit (byte ∷ more)) (sized-front is_digit byte more e)) (λ _. tt)

two-long : (text : List ℕ) → take 2 text ≡ codes ".." → 2 ≤ length text
two-long text e = omega (arith, length-take 2 text, ap length e)

sized-symbol : (mark : Option Mark) (byte : ℕ) (more : List ℕ) → Sized (byte ∷ more) (symbol_piece mark (byte ∷ more))
sized-symbol (Some mark) byte more = (omega arith, omega arith)
sized-symbol None byte more =
    sized-if (byte ∷ more) (bytes_eq (take 2 (byte ∷ more)) (codes "..")) (Some (Some (Fixed DotDot), 2)) None
    (λ e. (omega arith, two-long (byte ∷ more) (bytes_eq-true _ _ e))) (λ _. tt)

pub sized : (text : List ℕ) → Sized text (piece_of text)
sized [] = tt
sized (byte ∷ more) =
    sized-if (byte ∷ more) (is_blank byte) _ _ (λ _. (omega arith, omega arith)) (λ _.
    sized-if (byte ∷ more) (byte == 35) _ _ (λ e. sized-front is_comment_byte byte more (comment-begins byte e)) (λ _.
    sized-if (byte ∷ more) (is_letter byte) _ _ (λ e. sized-front is_name_byte byte more (name-begins byte e)) (λ _.
    sized-if (byte ∷ more) (is_digit byte) _ _ (sized-number byte more) (λ _. sized-symbol (symbol byte) byte more))))

-- the size of a piece that was found
pub piece_size : (text : List ℕ) (token : Option Token) (size : ℕ) → piece_of text ≡ Some (token, size) → (0 < size) × (size ≤ length text)
piece_size text token size e = subst (Sized text) e (sized text)

pub piece_sized : {E : Type 0} (text : List ℕ) (r : Result (Option (Option Token × ℕ)) E) → IfOk r (λ piece. piece ≡ piece_of text) → IfOk r (λ piece. IfSome piece (λ found. (0 < found.1) × (found.1 ≤ length text)))
piece_sized text (Ok (Some found)) h = piece_size text found.0 found.1 (sym h)
piece_sized text (Ok None) h = tt
piece_sized text (Err e) h = tt

rest-behind : (text : List ℕ) (size : ℕ) → take (length text - size) (drop size text) ≡ drop size text
rest-behind text size = grind (arith, common_steps)

-- the reading behind one piece more, as a loop has it
pub reads-step : (text rest : List ℕ) (before after : List Token) (token : Option Token) (size : ℕ) → Reads text rest before → piece_of rest ≡ Some (token, size) → after ≡ before ++ option_to_list token
    → Reads text (take (length rest - size) (drop size rest)) after
reads-step text rest before after token size r e i = rw (rest-behind rest size) (subst (Reads text (drop size rest)) (sym i) (reads-more r token size e))

one-or-none : (token : Option Token) → length (option_to_list token) ≤ 1
one-or-none None = omega arith
one-or-none (Some token) = omega arith

pub few-step : (rest : List ℕ) (before after : List Token) (token : Option Token) (size all : ℕ) → length before + length rest ≤ all → after ≡ before ++ option_to_list token → 0 < size → size ≤ length rest
    → length after + length (take (length rest - size) (drop size rest)) ≤ all
few-step rest before after token size all h i p q =
    rw (rest-behind rest size) (omega (arith, length-drop size rest, length-append before (option_to_list token), ap length i, one-or-none token))
