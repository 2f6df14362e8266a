-- The verdict on a list of tokens is what it is judged to be, and no list has two.
use Rattle.std.proofs.Common.{ℕ, suc, ◌+◌, ◌-◌, ◌≤◌, Bool, true, false, List, [], ◌∷◌, ◌++◌, length, Option, None, Some, ◌≡◌, refl, sym, subst, ap, arith}
use Rattle.std.proofs.lemmas.Bool.Decides.{nat_tests}
use Rattle.std.specs.Prelude.{nat_lt}
use Rattle.flp_syntax.specs.Tree.{Text}
use Rattle.flp_lang.specs.Grammar.{IsText}
use Rattle.flp_lang.specs.Ahead as ahead
use Rattle.flp_lang.specs.Ahead.{Ahead, done, next, after_token, at_end}
use Rattle.flp_lang.specs.Run.{run, go_on, finish, too_deep, verdict}
use Rattle.flp_lang.specs.Verdict.{Verdict, good, bad, deep, Stops, levels_behind, levels_after, IsJudgedAs}
use Rattle.flp_lang.proofs.Completes.{Completes, Lives}
use Rattle.flp_lang.proofs.Follow.{Follows, FollowsOption, follows_after, follows_whole}
use Rattle.flp_lang.proofs.Steps.{forward, backward, ends, ends_back, goes}
use Rattle.flp_syntax.specs.declared.token.Token.{Token}
use Rattle.flp_syntax.specs.declared.token.Token.TheVariants.{Fixed}
use Rattle.flp_syntax.specs.declared.token.Mark.TheVariants.{Psum, Semicolon, OpenBracket, CloseBracket, Open, Close}

abbrev total : ℕ × ℕ → ℕ
total l = l.0 + l.1

abbrev ViableFrom : Ahead → ℕ → List Token → Type 0
ViableFrom P k front = (more : List Token) × (c : Text) × Completes P k (front ++ more) c

abbrev StopsFrom : Ahead → ℕ → List Token → List Token → Type 0
StopsFrom P k front [] = (c : Text) → Completes P k front c → ⊥
StopsFrom P k front (t ∷ rest) = ViableFrom P k (front ++ t ∷ []) → ⊥

abbrev ShallowFrom : ℕ × ℕ → List Token → Type 0
ShallowFrom l tokens = (front rest : List Token) → tokens ≡ front ++ rest → total (levels_after l front) ≤ 64

-- the verdict on the tokens from a place on
abbrev From : ℕ × ℕ → ℕ → Ahead → List Token → Verdict → Type 0
From l k P tokens (good c) = Completes P k tokens c × ShallowFrom l tokens
From l k P tokens (bad j) = (front rest : List Token) × (tokens ≡ front ++ rest) × (k + length front ≡ j) × ViableFrom P k front × StopsFrom P k front rest × ShallowFrom l front
From l k P tokens (deep j) = (front : List Token) × (t : Token) × (rest : List Token) × (tokens ≡ front ++ t ∷ rest) × (k + length front ≡ j) × ViableFrom P k (front ++ t ∷ []) × ShallowFrom l front × (total (levels_after l (front ++ t ∷ [])) ≡ 65)

shallow-nil : (l : ℕ × ℕ) → total l ≤ 64 → ShallowFrom l []
shallow-nil l h [] rest e = h
shallow-nil l h (t ∷ front) rest e = cc

shallow-cons : (l : ℕ × ℕ) (t : Token) (s : List Token) → total l ≤ 64 → ShallowFrom (levels_behind t l) s → ShallowFrom l (t ∷ s)
shallow-cons l t s h S [] rest e = h
shallow-cons l t s h S (u ∷ front) rest e =
    let i : t ≡ u = cc in
    let j : s ≡ front ++ rest = cc in
    subst (λ (x : Token). total (levels_after (levels_behind x l) front) ≤ 64) i (S front rest j)

opens-deep : (a b : ℕ) → a + b ≤ 64 → nat_lt 63 (a + b) ≡ true → suc a + b ≡ 65
opens-deep a b h e = grind (arith, nat_tests)

opens-deep' : (a b : ℕ) → a + b ≤ 64 → nat_lt 63 (a + b) ≡ true → a + suc b ≡ 65
opens-deep' a b h e = grind (arith, nat_tests)

opens-shallow : (a b : ℕ) → a + b ≤ 64 → nat_lt 63 (a + b) ≡ false → suc a + b ≤ 64
opens-shallow a b h e = grind (arith, nat_tests)

opens-shallow' : (a b : ℕ) → a + b ≤ 64 → nat_lt 63 (a + b) ≡ false → a + suc b ≤ 64
opens-shallow' a b h e = grind (arith, nat_tests)

level-deep : (t : Token) (l : ℕ × ℕ) → total l ≤ 64 → too_deep t l ≡ true → total (levels_behind t l) ≡ 65
level-deep (Fixed Open) l h e = opens-deep l.0 l.1 h e
level-deep (Fixed OpenBracket) l h e = opens-deep l.0 l.1 h e
level-deep (Fixed Psum) l h e = opens-deep' l.0 l.1 h e
level-deep t l h e = cc

closes : (a b : ℕ) → a + b ≤ 64 → (a - 1) + b ≤ 64
closes a b h = omega arith

ends-psums : (a b : ℕ) → a + b ≤ 64 → a + 0 ≤ 64
ends-psums a b h = omega arith

level-shallow : (t : Token) (l : ℕ × ℕ) → total l ≤ 64 → too_deep t l ≡ false → total (levels_behind t l) ≤ 64
level-shallow (Fixed Open) l h e = opens-shallow l.0 l.1 h e
level-shallow (Fixed OpenBracket) l h e = opens-shallow l.0 l.1 h e
level-shallow (Fixed Psum) l h e = opens-shallow' l.0 l.1 h e
level-shallow (Fixed Close) l h e = closes l.0 l.1 h
level-shallow (Fixed CloseBracket) l h e = closes l.0 l.1 h
level-shallow (Fixed Semicolon) l h e = ends-psums l.0 l.1 h
level-shallow t l h e = h

module _ (l : ℕ × ℕ) (k : ℕ) (P : Ahead) (t : Token) (F : Follows P) (h : total l ≤ 64) (P' : Ahead) (e : after_token k P t ≡ Some P') where
  behind : (s : List Token) (c : Text) → Completes P k (t ∷ s) c → Completes P' (suc k) s c
  behind s c C = subst (λ (o : Option Ahead). Lives o (suc k) s c) e (forward P k t s c F C)

  before : (s : List Token) (c : Text) → Completes P' (suc k) s c → Completes P k (t ∷ s) c
  before s c C = backward P k t s c (subst (λ (o : Option Ahead). Lives o (suc k) s c) (sym e) C)

  stops-cons : (front rest : List Token) → StopsFrom P' (suc k) front rest → StopsFrom P k (t ∷ front) rest
  stops-cons front [] S = λ c C. S c (behind front c C)
  stops-cons front (u ∷ rest) S = λ V. S (V.0, V.1, behind _ V.1 V.2)

  from-cons : (s : List Token) (o : Verdict) → From (levels_behind t l) (suc k) P' s o → From l k P (t ∷ s) o
  from-cons s (good c) J = (before s c J.0, shallow-cons l t s h J.1)
  from-cons s (bad j) (front, rest, i, n, V, S, D) =
      (t ∷ front, rest, ap (λ (x : List Token). t ∷ x) i, omega arith, (V.0, V.1, before _ V.1 V.2), stops-cons front rest S, shallow-cons l t front h D)
  from-cons s (deep j) (front, u, rest, i, n, V, D, m) =
      (t ∷ front, u, rest, ap (λ (x : List Token). t ∷ x) i, omega arith, (V.0, V.1, before _ V.1 V.2), shallow-cons l t front h D, m)

at-end : (l : ℕ × ℕ) (k : ℕ) (P : Ahead) → total l ≤ 64 → (o : Option Text) → at_end P ≡ o → From l k P [] (finish k o)
at-end l k P h (Some c) e = (ends_back P k c e, shallow-nil l h)
at-end l k P h None e = ([], [], refl, omega arith, goes P k, (λ c C. let i = ends P k c C in cc), shallow-nil l h)

at-token : (l : ℕ × ℕ) (k : ℕ) (P : Ahead) (t : Token) (s : List Token) → Follows P → total l ≤ 64 → ((P' : Ahead) → Follows P' → total (levels_behind t l) ≤ 64 → From (levels_behind t l) (suc k) P' s (run (levels_behind t l) (suc k) P' s))
    → (o : Option Ahead) → after_token k P t ≡ o → (b : Bool) → too_deep t l ≡ b → From l k P (t ∷ s) (go_on k b o (λ P'. run (levels_behind t l) (suc k) P' s))
at-token l k P t s F h rest None e b d =
    ([], t ∷ s, refl, omega arith, goes P k, (λ V. subst (λ (o : Option Ahead). Lives o (suc k) V.0 V.1) e (forward P k t V.0 V.1 F V.2)), shallow-nil l h)
at-token l k P t s F h rest (Some P') e true d =
    let g = goes P' (suc k) in
    ([], t, s, refl, omega arith, (g.0, g.1, before l k P t F h P' e g.0 g.1 g.2), shallow-nil l h, level-deep t l h d)
at-token l k P t s F h rest (Some P') e false d =
    from-cons l k P t F h P' e s _ (rest P' (subst FollowsOption e (follows_after P k t F)) (level-shallow t l h d))

from-run : (tokens : List Token) (l : ℕ × ℕ) (k : ℕ) (P : Ahead) → Follows P → total l ≤ 64 → From l k P tokens (run l k P tokens)
unfolding run
from-run [] l k P F h = at-end l k P h (at_end P) refl
from-run (t ∷ s) l k P F h = at-token l k P t s F h (λ P' F' h'. from-run s (levels_behind t l) (suc k) P' F' h') (after_token k P t) refl (too_deep t l) refl

-- in the grammar's words
whole : (tokens : List Token) (c : Text) → IsText tokens c → Completes (next ahead.circuit done) 0 tokens c
whole tokens c T = (T.0, [], c, T.1, (refl, refl))

text : (tokens : List Token) (c : Text) → Completes (next ahead.circuit done) 0 tokens c → IsText tokens c
text tokens c (k', s', v, d, (e, i)) = (k', subst (λ (x : Text). ahead.Stands ahead.circuit 0 tokens k' [] x) i (subst (λ (x : List Token). ahead.Stands ahead.circuit 0 tokens k' x v) e d))

stops-text : (front rest : List Token) → StopsFrom (next ahead.circuit done) 0 front rest → Stops front rest
stops-text front [] S = λ c T. S c (whole front c T)
stops-text front (t ∷ rest) S = λ V. S (V.0, V.1, whole _ V.1 V.2)

judge : (tokens : List Token) (o : Verdict) → From (0, 0) 0 (next ahead.circuit done) tokens o → IsJudgedAs tokens o
judge tokens (good c) J = (text tokens c J.0, J.1)
judge tokens (bad j) (front, rest, i, n, V, S, D) = (front, rest, i, omega arith, (V.0, V.1, text _ V.1 V.2), stops-text front rest S, D)
judge tokens (deep j) (front, t, rest, i, n, V, D, m) = (front, t, rest, i, omega arith, (V.0, V.1, text _ V.1 V.2), D, m)

-- the verdict is the tokens'
pub judged : (tokens : List Token) → IsJudgedAs tokens (verdict tokens)
judged tokens = judge tokens (verdict tokens) (from-run tokens (0, 0) 0 (next ahead.circuit done) follows_whole (omega arith))

-- what is ahead is completed to one text
one-text-from : (tokens : List Token) (k : ℕ) (P : Ahead) (a b : Text) → Follows P → Completes P k tokens a → Completes P k tokens b → a ≡ b
one-text-from [] k P a b F A B = let i = ends P k a A in let j = ends P k b B in cc
one-text-from (t ∷ s) k P a b F A B =
    step (after_token k P t) refl (follows_after P k t F) (forward P k t s a F A) (forward P k t s b F B) (λ P' F' A' B'. one-text-from s (suc k) P' a b F' A' B')
  where
    step : (o : Option Ahead) → after_token k P t ≡ o → FollowsOption o → Lives o (suc k) s a → Lives o (suc k) s b → ((P' : Ahead) → Follows P' → Completes P' (suc k) s a → Completes P' (suc k) s b → a ≡ b) → a ≡ b
    step None e F' A' B' rest = elim A' [ ]
    step (Some P') e F' A' B' rest = rest P' F' A' B'

-- no list of tokens is two texts
pub one_text : (tokens : List Token) (a b : Text) → IsText tokens a → IsText tokens b → a ≡ b
one_text tokens a b A B = one-text-from tokens 0 (next ahead.circuit done) a b follows_whole (whole tokens a A) (whole tokens b B)
