-- No list of tokens has two verdicts, no bytes have two readings, and so no text has two answers.
use Rattle.std.proofs.Common.{ℕ, zero, suc, ◌+◌, ◌≤◌, ◌<◌, List, [], ◌∷◌, ◌++◌, length, Option, None, Some, ◌≡◌, refl, sym, subst, ap, ◌∙◌, ◌⊎◌, inl, inr, append_assoc, length-append, length-drop, option_to_list, arith, drop}
use Rattle.std.proofs.lemmas.List.{append-nil}
use Rattle.flp_lang.specs.Grammar.{IsText}
use Rattle.flp_syntax.specs.Tree.{Text}
use Rattle.flp_lang.specs.Verdict.{Verdict, good, bad, deep, Viable, Stops, level_of, IsShallow, IsJudgedAs}
use Rattle.flp_syntax.specs.Tokens.{Reads, nothing_read, piece_read, piece_of, IsStuck, AreTokens}
use Rattle.flp_lang.specs.Parsed.{HasVerdict}
use Rattle.flp_lang.proofs.Readings.{piece_size}
use Rattle.flp_lang.proofs.Verdicts.{one_text}
use Rattle.flp_syntax.specs.declared.token.Token.{Token}

-- of two fronts of a list, the longer goes on from the shorter
longer : (p r q u : List Token) → p ++ r ≡ q ++ u → length p ≤ length q → (m : List Token) × (q ≡ p ++ m) × (r ≡ m ++ u)
longer [] r q u e h = (q, refl, e)
longer (t ∷ p) r [] u e h = absurd (omega arith)
longer (t ∷ p) r (s ∷ q) u e h =
    let i : s ≡ t = cc in
    let j : p ++ r ≡ q ++ u = cc in
    let g = longer p r q u j (omega arith) in
    (g.0, ap (λ x. x ∷ q) i ∙ ap (λ (xs : List Token). t ∷ xs) g.1, g.2)

-- tokens that stop are no part of a longer front of a text
no-longer : (p m r u : List Token) → Stops p r → r ≡ m ++ u → 0 < length m → Viable (p ++ m) → ⊥
no-longer p [] r u S e h V = absurd (omega arith)
no-longer p (t ∷ m) [] u S e h V = cc
no-longer p (t ∷ m) (s ∷ r) u S e h V =
    let i : s ≡ t = cc in
    S (subst (λ (x : Token). Viable (p ++ x ∷ [])) (sym i) (m ++ V.0, V.1, subst (λ (x : List Token). IsText x V.1) (regroup p t m V.0) V.2))
  where
    regroup : (p : List Token) (t : Token) (m more : List Token) → (p ++ t ∷ m) ++ more ≡ (p ++ t ∷ []) ++ (m ++ more)
    regroup p t m more = append_assoc p (t ∷ m) more ∙ sym (append_assoc p (t ∷ []) (m ++ more))

stopped : (ts p r v w : List Token) → Stops p r → ts ≡ p ++ r → ts ≡ v ++ w → length p < length v → Viable v → ⊥
stopped ts p r v w S e i h V =
    let g = longer p r v w (sym e ∙ i) (omega arith) in
    no-longer p g.0 r w S g.2 (omega (arith, ap length g.1, length-append p g.0)) (subst Viable g.1 V)

sunk : (ts p r v w : List Token) → IsShallow p → ts ≡ p ++ r → ts ≡ v ++ w → length v ≤ length p → level_of v ≡ 65 → ⊥
sunk ts p r v w D e i h l =
    let g = longer v w p r (sym i ∙ e) h in
    let n : level_of v ≤ 64 = D v g.0 g.1 in
    absurd (omega arith)

whole-stops : (ts p r : List Token) (a : Text) → Stops p r → ts ≡ p ++ r → IsText ts a → ⊥
whole-stops ts p [] a S e T = S a (subst (λ (x : List Token). IsText x a) (e ∙ append-nil p) T)
whole-stops ts p (t ∷ r) a S e T = S (r, a, subst (λ (x : List Token). IsText x a) (e ∙ sym (append_assoc p (t ∷ []) r)) T)

deep-split : (ts q : List Token) (t : Token) (u : List Token) → ts ≡ q ++ t ∷ u → ts ≡ (q ++ t ∷ []) ++ u
deep-split ts q t u e = e ∙ sym (append_assoc q (t ∷ []) u)

one-longer : (q : List Token) (t : Token) → length (q ++ t ∷ []) ≡ suc (length q)
one-longer q t = omega (arith, length-append q (t ∷ []))

apart : (j k : ℕ) → (j < k) ⊎ ((j ≡ k) ⊎ (k < j))
apart j k = grind arith

bad-deep : (ts p r q : List Token) (t : Token) (u : List Token) → Stops p r → ts ≡ p ++ r → IsShallow p → ts ≡ q ++ t ∷ u → Viable (q ++ t ∷ []) → level_of (q ++ t ∷ []) ≡ 65 → ⊥
bad-deep ts p r q t u S e D e' V l = go (apart (length p) (suc (length q)))
  where
    go : (length p < suc (length q)) ⊎ ((length p ≡ suc (length q)) ⊎ (suc (length q) < length p)) → ⊥
    go (inl h) = stopped ts p r (q ++ t ∷ []) u S e (deep-split ts q t u e') (omega (arith, one-longer q t)) V
    go (inr (inl h)) = sunk ts p r (q ++ t ∷ []) u D e (deep-split ts q t u e') (omega (arith, one-longer q t)) l
    go (inr (inr h)) = sunk ts p r (q ++ t ∷ []) u D e (deep-split ts q t u e') (omega (arith, one-longer q t)) l

-- the two verdicts of one list are one
pub one_verdict : (ts : List Token) (a b : Verdict) → IsJudgedAs ts a → IsJudgedAs ts b → a ≡ b
one_verdict ts (good a) (good b) J M = ap good (one_text ts a b J.0 M.0)
one_verdict ts (good a) (bad k) J (p, r, e, n, V, S, D) = absurd (whole-stops ts p r a S e J.0)
one_verdict ts (good a) (deep k) J (q, t, u, e, n, V, D, l) = absurd (sunk ts ts [] (q ++ t ∷ []) u J.1 (sym (append-nil ts)) (deep-split ts q t u e) (omega (arith, ap length (deep-split ts q t u e), length-append (q ++ t ∷ []) u)) l)
one_verdict ts (bad j) (good b) (p, r, e, n, V, S, D) M = absurd (whole-stops ts p r b S e M.0)
one_verdict ts (deep j) (good b) (q, t, u, e, n, V, D, l) M = absurd (sunk ts ts [] (q ++ t ∷ []) u M.1 (sym (append-nil ts)) (deep-split ts q t u e) (omega (arith, ap length (deep-split ts q t u e), length-append (q ++ t ∷ []) u)) l)
one_verdict ts (bad j) (bad k) (p, r, e, n, V, S, D) (p', r', e', n', V', S', D') = go (apart j k)
  where
    go : (j < k) ⊎ ((j ≡ k) ⊎ (k < j)) → bad j ≡ bad k
    go (inl h) = absurd (stopped ts p r p' r' S e e' (omega arith) V')
    go (inr (inl h)) = ap bad h
    go (inr (inr h)) = absurd (stopped ts p' r' p r S' e' e (omega arith) V)
one_verdict ts (bad j) (deep k) (p, r, e, n, V, S, D) (q, t, u, e', n', V', D', l) = absurd (bad-deep ts p r q t u S e D e' V' l)
one_verdict ts (deep j) (bad k) (q, t, u, e', n', V', D', l) (p, r, e, n, V, S, D) = absurd (bad-deep ts p r q t u S e D e' V' l)
one_verdict ts (deep j) (deep k) (q, t, u, e, n, V, D, l) (q', t', u', e', n', V', D', l') = go (apart j k)
  where
    go : (j < k) ⊎ ((j ≡ k) ⊎ (k < j)) → deep j ≡ deep k
    go (inl h) = absurd (sunk ts q' (t' ∷ u') (q ++ t ∷ []) u D' e' (deep-split ts q t u e) (omega (arith, one-longer q t)) l)
    go (inr (inl h)) = ap deep h
    go (inr (inr h)) = absurd (sunk ts q (t ∷ u) (q' ++ t' ∷ []) u' D e (deep-split ts q' t' u' e') (omega (arith, one-longer q' t')) l')

-- two readings to where nothing begins are one
same-piece : {o : Option (Option Token × ℕ)} {t u : Option Token} {m n : ℕ} → o ≡ Some (t, m) → o ≡ Some (u, n) → (t ≡ u) × (m ≡ n)
same-piece {t = t} {u = u} {m = m} {n = n} e i =
    let p : ◌≡◌ {A = Option Token × ℕ} (t, m) (u, n) = cc in
    (ap (λ (x : Option Token × ℕ). x.0) p, ap (λ (x : Option Token × ℕ). x.1) p)

one-reading : {text rest rest' : List ℕ} {a b : List Token} → Reads text rest a → piece_of rest ≡ None → Reads text rest' b → piece_of rest' ≡ None → (a ≡ b) × (rest ≡ rest')
one-reading nothing_read n nothing_read n' = (refl, refl)
one-reading nothing_read n (piece_read e d) n' = cc
one-reading (piece_read e d) n nothing_read n' = cc
one-reading {rest' = rest'} {b = b} (piece_read {text = text} {rest = rest} {token = t} {size = m} {tokens = ts} e d) n (piece_read {token = u} {size = k} {tokens = us} e' d') n' =
    let s = same-piece e e' in
    let g = one-reading d n (subst (λ (x : ℕ). Reads (drop x text) rest' us) (sym s.1) d') n' in
    (rw (s.0, g.0) refl, g.1)

-- no text is two lists of tokens, and none is tokens and stuck at a byte
pub one_tokens : (text : List ℕ) (a b : List Token) → AreTokens text a → AreTokens text b → a ≡ b
one_tokens text a b A B = (one-reading A refl B refl).0

pub not_stuck : (text : List ℕ) (a : List Token) (at : ℕ) → AreTokens text a → IsStuck text at → ⊥
not_stuck text a at A S =
    let g = one-reading A refl S.2 S.5 in
    let l : 0 < length S.0 = S.4 in
    absurd (omega (arith, ap length g.1))

pub one_stuck : (text : List ℕ) (j k : ℕ) → IsStuck text j → IsStuck text k → j ≡ k
one_stuck text j k S T =
    let g = one-reading S.2 S.5 T.2 T.5 in
    omega (arith, ap length g.1, S.3, T.3)

-- ---- each text has a reading

abbrev IsReadSomehow : List ℕ → Type 0
IsReadSomehow text = ((tokens : List Token) × AreTokens text tokens) ⊎ ((at : ℕ) × IsStuck text at)

piece-behind : (text : List ℕ) (token : Option Token) (size : ℕ) → piece_of text ≡ Some (token, size) → IsReadSomehow (drop size text) → IsReadSomehow text
piece-behind text token size e (inl (tokens, reads)) = inl (option_to_list token ++ tokens, piece_read e reads)
piece-behind text token size e (inr (at, (rest, tokens, reads, there, some, none))) =
    let sized = piece_size text token size e in
    inr (size + at, (rest, option_to_list token ++ tokens, piece_read e reads, omega (arith, length-drop size text, sized.1), some, none))

first-piece : (text : List ℕ) (o : Option (Option Token × ℕ)) → piece_of text ≡ o → 0 < length text → ((size : ℕ) → 0 < size → IsReadSomehow (drop size text)) → IsReadSomehow text
first-piece text None e h rest = inr (0, (text, [], nothing_read, omega arith, h, e))
first-piece text (Some (token, size)) e h rest = piece-behind text token size e (rest size (piece_size text token size e).0)

read-within : (fuel : ℕ) (text : List ℕ) → length text ≤ fuel → IsReadSomehow text
read-within fuel [] h = inl ([], nothing_read)
read-within zero (byte ∷ more) h = absurd (omega arith)
read-within (suc fuel) (byte ∷ more) h =
    first-piece (byte ∷ more) (piece_of (byte ∷ more)) refl (omega arith)
    (λ size some. read-within fuel (drop size (byte ∷ more)) (omega (arith, length-drop size (byte ∷ more), some)))

-- a text is tokens, or stuck at a byte
pub some_reading : (text : List ℕ) → ((tokens : List Token) × AreTokens text tokens) ⊎ ((at : ℕ) × IsStuck text at)
some_reading text = read-within (length text) text (omega arith)

-- no text has two verdicts
pub one_answer : (text : List ℕ) (a b : Verdict) → HasVerdict text a → HasVerdict text b → a ≡ b
one_answer text a b (ts, L, J) (us, M, N) = one_verdict ts a b J (subst (λ (x : List Token). IsJudgedAs x b) (one_tokens text us ts M.1 L.1) N)
