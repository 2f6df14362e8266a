-- What a list of tokens is judged to be: a circuit text, or faulty at a token. From the verdict down to its parts.
use Rattle.std.specs.Prelude.{ℕ, suc, ◌+◌, ◌-◌, ◌≤◌, ◌≡◌, List, [], ◌∷◌, ◌++◌, length}
use Rattle.flp_syntax.specs.Tree.{Text}
use Rattle.flp_lang.specs.Grammar.{IsText}
use Rattle.flp_syntax.specs.declared.token.Token.{Token}
use Rattle.flp_syntax.specs.declared.token.Token.TheVariants.{Fixed}
use Rattle.flp_syntax.specs.declared.token.Mark.TheVariants.{Psum, Semicolon, OpenBracket, CloseBracket, Open, Close}

-- a text, the number of the token that is no good, or the number of the token that opens one level too many
pub data Verdict : Type 0 where
  good : Text → Verdict
  bad deep : ℕ → Verdict

-- tokens with which a circuit text can begin
abbrev pub Viable : List Token → Type 0
Viable front = (more : List Token) × (text : Text) × IsText (front ++ more) text

-- no circuit text goes on with the next token, or ends here where there is none
abbrev pub Stops : List Token → List Token → Type 0
Stops front [] = (text : Text) → IsText front text → ⊥
Stops front (token ∷ rest) = Viable (front ++ token ∷ []) → ⊥

-- the levels that are open: of parentheses and brackets, and of `psum`, which end with their declaration
abbrev pub levels_behind : Token → ℕ × ℕ → ℕ × ℕ
levels_behind (Fixed Open) open_levels = (suc open_levels.0, open_levels.1)
levels_behind (Fixed OpenBracket) open_levels = (suc open_levels.0, open_levels.1)
levels_behind (Fixed Close) open_levels = (open_levels.0 - 1, open_levels.1)
levels_behind (Fixed CloseBracket) open_levels = (open_levels.0 - 1, open_levels.1)
levels_behind (Fixed Psum) open_levels = (open_levels.0, suc open_levels.1)
levels_behind (Fixed Semicolon) open_levels = (open_levels.0, 0)
levels_behind _ open_levels = open_levels

abbrev pub levels_after : ℕ × ℕ → List Token → ℕ × ℕ
levels_after open_levels [] = open_levels
levels_after open_levels (token ∷ more) = levels_after (levels_behind token open_levels) more

abbrev pub level_of : List Token → ℕ
level_of tokens = (levels_after (0, 0) tokens).0 + (levels_after (0, 0) tokens).1

-- nowhere in these tokens is a 65th level open
abbrev pub IsShallow : List Token → Type 0
IsShallow tokens = (front rest : List Token) → tokens ≡ front ++ rest → level_of front ≤ 64

-- the verdict on all the tokens
abbrev pub IsJudgedAs : List Token → Verdict → Type 0
IsJudgedAs tokens (good text) = IsText tokens text × IsShallow tokens
IsJudgedAs tokens (bad k) = (front rest : List Token) × (tokens ≡ front ++ rest) × (length front ≡ k) × Viable front × Stops front rest × IsShallow front
IsJudgedAs tokens (deep k) = (front : List Token) × (token : Token) × (rest : List Token) × (tokens ≡ front ++ token ∷ rest) × (length front ≡ k) × Viable (front ++ token ∷ []) × IsShallow front × (level_of (front ++ token ∷ []) ≡ 65)
