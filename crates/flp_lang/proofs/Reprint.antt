-- Tokens that were read, and are printed again: what is kept of them.
use Rattle.std.proofs.Common.{ℕ, suc, ◌+◌, ◌-◌, ◌≤◌, ◌≡◌, List, [], ◌∷◌, subst, arith}
use Rattle.flp_lang.specs.Verdict.{levels_behind}
use Rattle.flp_syntax.specs.declared.token.Token.{Token}
use Rattle.flp_syntax.specs.declared.token.Token.TheVariants.{Fixed}
use Rattle.flp_syntax.specs.declared.token.Mark.TheVariants.{CloseBracket, Close}
use Rattle.flp_lang.proofs.WellFormed.{IsReal}

-- tokens that a text can have, under these levels, with no 65th level
abbrev pub Clean : ℕ × ℕ → List Token → Type 0
Clean l [] = l.0 + l.1 ≤ 64
Clean l (t ∷ s) = (l.0 + l.1 ≤ 64) × IsReal t × Clean (levels_behind t l) s

-- the tokens `put u`, from number k on, are read as something that is v but for its token numbers, and then come the tokens u
pub record Reprint {A B : Type 0} (R : ℕ → List Token → ℕ → List Token → A → Type 0) (bare : A → B) (v : B) (put : List Token → List Token) (l : ℕ × ℕ) (k : ℕ) (u : List Token) : Type 0 where
  pub end : ℕ
  pub tree : A
  pub reads : R k (put u) end u tree
  pub same : bare tree ≡ v
  pub clean : Clean l (put u)

-- the same wherever it stands, under at most so many levels of parentheses and brackets
abbrev pub Reprints : {A B : Type 0} → (ℕ → List Token → ℕ → List Token → A → Type 0) → (A → B) → B → (List Token → List Token) → ℕ → Type 0
Reprints R bare v put a = (a' k : ℕ) (u : List Token) → a' ≤ a → Clean (a', 0) u → Reprint R bare v put (a', 0) k u

pub fits : (l : ℕ × ℕ) (s : List Token) → Clean l s → l.0 + l.1 ≤ 64
fits l [] h = h
fits l (t ∷ s) h = h.0

-- behind what closes a level, and before it
pub closed : (a : ℕ) (s : List Token) → Clean (suc a - 1, 0) s → Clean (a, 0) s
closed a s h = let e : suc a - 1 ≡ a = omega arith in subst (λ (n : ℕ). Clean (n, 0) s) e h

pub close : (a : ℕ) (s : List Token) → suc a + 0 ≤ 64 → Clean (a, 0) s → Clean (suc a, 0) (Fixed Close ∷ s)
close a s n h = let e : a ≡ suc a - 1 = omega arith in (n, tt, subst (λ (n : ℕ). Clean (n, 0) s) e h)

pub close_bracket : (a : ℕ) (s : List Token) → suc a + 0 ≤ 64 → Clean (a, 0) s → Clean (suc a, 0) (Fixed CloseBracket ∷ s)
close_bracket a s n h = let e : a ≡ suc a - 1 = omega arith in (n, tt, subst (λ (n : ℕ). Clean (n, 0) s) e h)

-- one level more fits, where it did under more levels
pub room : (a a' : ℕ) → a' ≤ a → suc a + 0 ≤ 64 → suc a' + 0 ≤ 64
room a a' h n = omega arith

pub up : (a a' : ℕ) → a' ≤ a → suc a' ≤ suc a
up a a' h = omega arith

pub over : (a a' : ℕ) → a' ≤ a → a' ≤ suc a
over a a' h = omega arith
