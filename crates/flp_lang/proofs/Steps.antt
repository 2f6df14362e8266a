-- One token, and the end of the tokens: what is ahead is completed from there on exactly where what is ahead behind is.
use Rattle.std.proofs.Common.{ℕ, suc, Bool, true, false, List, [], ◌∷◌, Option, None, Some, ◌≡◌, refl, subst, ap, ◌⊎◌, inl, inr}
use Rattle.flp_syntax.specs.Tree.{Text}
use Rattle.flp_lang.specs.Ahead.{Ahead, done, next, Part, Value, Stands, start, nothing, without_tokens, or_else, after_token, at_end}
use Rattle.flp_lang.proofs.Completes.{Completes, Lives, Passed}
use Rattle.flp_lang.proofs.Forward.{at_start}
use Rattle.flp_lang.proofs.Backward.{of_start}
use Rattle.flp_lang.proofs.Parts.{WhereNothing, nothing_stands, at_last, fill}
use Rattle.flp_lang.proofs.Follow.{Follows, Avoids, tail_of, quiet}
use Rattle.flp_syntax.specs.declared.token.Token.{Token}

else_lives : (this other : Option Ahead) (k : ℕ) (s : List Token) (c : Text) → Lives this k s c → Lives (or_else this other) k s c
else_lives (Some P) other k s c L = L
else_lives None other k s c L = elim L [ ]

else_splits : (this other : Option Ahead) (k : ℕ) (s : List Token) (c : Text) → Lives (or_else this other) k s c → Lives this k s c ⊎ Lives other k s c
else_splits (Some P) other k s c L = inl L
else_splits None other k s c L = inr L

-- where no token of the part is there, its rest goes on
passing : (part : Part) (K : Value part → Ahead) (k : ℕ) (t : Token) (s : List Token) (c : Text) → Avoids (tail_of part) K
    → ((v : Value part) → Completes (K v) k (t ∷ s) c → Lives (after_token k (K v) t) (suc k) s c)
    → (o : Option (Value part)) → nothing part ≡ o → Passed o K k (t ∷ s) c → Lives (or_else (start part k t K) (without_tokens o (λ v. after_token k (K v) t))) (suc k) s c
passing part K k t s c A rest None i C = elim C [ ]
passing part K k t s c A rest (Some e) i C = go (tail_of part t) refl
  where
    go : (b : Bool) → tail_of part t ≡ b → Lives (or_else (start part k t K) (after_token k (K e) t)) (suc k) s c
    go true h = absurd (subst (λ (o : Option Ahead). Lives o (suc k) s c) (A e k t h) (rest e C))
    go false h = rw (quiet part e i k t K h) (rest e C)

pub forward : (P : Ahead) (k : ℕ) (t : Token) (s : List Token) (c : Text) → Follows P → Completes P k (t ∷ s) c → Lives (after_token k P t) (suc k) s c
forward (done text) k t s c F C = let e = C.0 in cc
forward (next part K) k t s c F (k', s', v, d, C) =
    step (at_start c part K k k' t s s' v d C) (λ w. forward (K w) k t s c (F.0 w))
  where
    step : Lives (start part k t K) (suc k) s c ⊎ Passed (nothing part) K k (t ∷ s) c → ((w : Value part) → Completes (K w) k (t ∷ s) c → Lives (after_token k (K w) t) (suc k) s c)
        → Lives (or_else (start part k t K) (without_tokens (nothing part) (λ w. after_token k (K w) t))) (suc k) s c
    step (inl L) rest = else_lives (start part k t K) _ (suc k) s c L
    step (inr N) rest = passing part K k t s c F.1 rest (nothing part) refl N

passed : (part : Part) (K : Value part → Ahead) (k : ℕ) (t : Token) (s : List Token) (c : Text)
    → ((v : Value part) → Lives (after_token k (K v) t) (suc k) s c → Completes (K v) k (t ∷ s) c)
    → (o : Option (Value part)) → WhereNothing o (λ v. (j : ℕ) (r : List Token) → Stands part j r j r v) → Lives (without_tokens o (λ v. after_token k (K v) t)) (suc k) s c → Completes (next part K) k (t ∷ s) c
passed part K k t s c rest None w L = elim L [ ]
passed part K k t s c rest (Some e) w L = (k, t ∷ s, e, w k (t ∷ s), rest e L)

pub backward : (P : Ahead) (k : ℕ) (t : Token) (s : List Token) (c : Text) → Lives (after_token k P t) (suc k) s c → Completes P k (t ∷ s) c
backward (done text) k t s c L = elim L [ ]
backward (next part K) k t s c L =
    step (else_splits (start part k t K) (without_tokens (nothing part) (λ v. after_token k (K v) t)) (suc k) s c L) (λ v. backward (K v) k t s c)
  where
    step : Lives (start part k t K) (suc k) s c ⊎ Lives (without_tokens (nothing part) (λ v. after_token k (K v) t)) (suc k) s c → ((v : Value part) → Lives (after_token k (K v) t) (suc k) s c → Completes (K v) k (t ∷ s) c) → Completes (next part K) k (t ∷ s) c
    step (inl M) rest = of_start c part K k t s M
    step (inr M) rest = passed part K k t s c rest (nothing part) (nothing_stands part) M

ending : (part : Part) (K : Value part → Ahead) (k : ℕ) (c : Text) → ((v : Value part) → Completes (K v) k [] c → at_end (K v) ≡ Some c)
    → (o : Option (Value part)) → Passed o K k [] c → without_tokens o (λ v. at_end (K v)) ≡ Some c
ending part K k c rest None C = elim C [ ]
ending part K k c rest (Some e) C = rest e C

pub ends : (P : Ahead) (k : ℕ) (c : Text) → Completes P k [] c → at_end P ≡ Some c
ends (done text) k c C = ap Some C.1
ends (next part K) k c (k', s', v, d, C) = ending part K k c (λ w. ends (K w) k c) (nothing part) (at_last c part K k k' s' v d C)

ended : (part : Part) (K : Value part → Ahead) (k : ℕ) (c : Text) → ((v : Value part) → at_end (K v) ≡ Some c → Completes (K v) k [] c)
    → (o : Option (Value part)) → WhereNothing o (λ v. (j : ℕ) (r : List Token) → Stands part j r j r v) → without_tokens o (λ v. at_end (K v)) ≡ Some c → Completes (next part K) k [] c
ended part K k c rest None w e = cc
ended part K k c rest (Some v) w e = (k, [], v, w k [], rest v e)

pub ends_back : (P : Ahead) (k : ℕ) (c : Text) → at_end P ≡ Some c → Completes P k [] c
ends_back (done text) k c e = (refl, cc)
ends_back (next part K) k c e = ended part K k c (λ v. ends_back (K v) k c) (nothing part) (nothing_stands part) e

-- what is ahead can be completed
pub goes : (P : Ahead) (k : ℕ) → (s : List Token) × (c : Text) × Completes P k s c
goes (done text) k = ([], text, (refl, refl))
goes (next part K) k =
    let f = fill part k in
    let g = goes (K f.1) f.0 in
    let h = f.2 g.0 in
    (h.0, g.1, (f.0, g.0, f.1, h.1, g.2))
