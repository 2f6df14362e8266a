-- A circuit that was parsed and printed is parsed again.
use Rattle.std.proofs.Common.{ℕ, ◌+◌, ◌≤◌, ◌≡◌, List, [], ◌∷◌, ◌++◌, length, refl, sym, subst, ap, ◌∙◌, arith}
use Rattle.flp_lang.specs.Verdict.{good, bad, deep, levels_behind, levels_after, IsJudgedAs}
use Rattle.flp_lang.specs.Parsed.{IsParsed, IsParseFault}
use Rattle.flp_lang.specs.Print.{printed_tokens}
use Rattle.flp_lang.specs.Spelling.{tokens_text}
use Rattle.flp_lang.specs.Bare.{bare}
use Rattle.flp_lang.specs.ReadBack.{IsReadBack}
use Rattle.flp_syntax.specs.Tokens.{IsLexed}
use Rattle.flp_syntax.specs.Tree.{Text}
use Rattle.flp_lang.proofs.OneVerdict.{not_stuck, one_answer}
use Rattle.flp_lang.proofs.WellFormed.{AreReal, real_tokens}
use Rattle.flp_lang.proofs.Reprint.{Clean, fits}
use Rattle.flp_lang.proofs.PrintedText.{circuit_printed}
use Rattle.flp_lang.proofs.SpelledTokens.{spelled_read}
use Rattle.flp_syntax.specs.declared.fault.LangFault.{LangFault}
use Rattle.flp_syntax.specs.declared.fault.LangFault.TheVariants.{Memory, TextLength, Lex, Syntax, Depth}
use Rattle.flp_syntax.specs.declared.token.Token.{Token}

-- tokens under 64 levels at most, from levels on, one by one
abbrev ShallowFrom : ℕ × ℕ → List Token → Type 0
ShallowFrom l tokens = (front rest : List Token) → tokens ≡ front ++ rest → (levels_after l front).0 + (levels_after l front).1 ≤ 64

clean : (tokens : List Token) (l : ℕ × ℕ) → AreReal tokens → ShallowFrom l tokens → Clean l tokens
clean [] l h S = S [] [] refl
clean (t ∷ s) l h S = (S [] (t ∷ s) refl, h.0, clean s (levels_behind t l) h.1 (λ front rest e. S (t ∷ front) rest (ap (λ (x : List Token). t ∷ x) e)))

clean-real : (tokens : List Token) (l : ℕ × ℕ) → Clean l tokens → AreReal tokens
clean-real [] l c = tt
clean-real (t ∷ s) l c = (c.1, clean-real s (levels_behind t l) c.2)

clean-shallow : (tokens : List Token) (l : ℕ × ℕ) → Clean l tokens → ShallowFrom l tokens
clean-shallow tokens l c [] rest e = fits l tokens c
clean-shallow [] l c (t ∷ front) rest e = cc
clean-shallow (u ∷ s) l c (t ∷ front) rest e =
    let i : u ≡ t = cc in
    let j : s ≡ front ++ rest = cc in
    subst (λ (x : Token). (levels_after (levels_behind x l) front).0 + (levels_after (levels_behind x l) front).1 ≤ 64) i (clean-shallow s (levels_behind u l) c.2 front rest j)

record Again (circuit : Text) (printed : List ℕ) : Type 0 where
  text : Text
  tokens : List Token
  lexed : IsLexed printed tokens
  judged : IsJudgedAs tokens (good text)
  same : bare text ≡ bare circuit

again : (source : List ℕ) (circuit : Text) → IsParsed source circuit → length (tokens_text (printed_tokens circuit)) ≤ 65536 → Again circuit (tokens_text (printed_tokens circuit))
again source circuit P short =
    let tokens = P.0 in
    let lexed : IsLexed source tokens = P.1 in
    let judged : IsJudgedAs tokens (good circuit) = P.2 in
    let small : 0 + 0 ≤ 64 = omega arith in
    let r = circuit_printed judged.0.1 (clean tokens (0, 0) (real_tokens lexed.1) judged.1) 0 [] small in
    record {
      text = r.tree;
      tokens = printed_tokens circuit;
      lexed = (short, spelled_read (printed_tokens circuit) (clean-real (printed_tokens circuit) (0, 0) r.clean));
      judged = ((r.end, r.reads), clean-shallow (printed_tokens circuit) (0, 0) r.clean);
      same = r.same;
    }

one-circuit : (circuit : Text) (printed : List ℕ) (a : Again circuit printed) (text : Text) → IsParsed printed text → bare text ≡ bare circuit
one-circuit circuit printed a text P =
    let e : good text ≡ good a.text = one_answer printed (good text) (good a.text) P (a.tokens, a.lexed, a.judged) in
    let f : text ≡ a.text = cc in
    ap bare f ∙ a.same

no-fault : (circuit : Text) (printed : List ℕ) (a : Again circuit printed) (fault : LangFault) → IsParseFault printed fault → fault ≡ Memory
no-fault circuit printed a Memory F = refl
no-fault circuit printed a (TextLength size) F = let n = F.0 in let m = a.lexed.0 in absurd (omega arith)
no-fault circuit printed a (Lex at) F = absurd (not_stuck printed a.tokens at a.lexed.1 F.1)
no-fault circuit printed a (Syntax k) F = let e : bad k ≡ good a.text = one_answer printed (bad k) (good a.text) F (a.tokens, a.lexed, a.judged) in cc
no-fault circuit printed a (Depth k) F = let e : deep k ≡ good a.text = one_answer printed (deep k) (good a.text) F (a.tokens, a.lexed, a.judged) in cc
no-fault circuit printed a fault F = elim F [ ]

pub read_back : (circuit : Text) (source : List ℕ) → IsParsed source circuit → length (tokens_text (printed_tokens circuit)) ≤ 65536 → IsReadBack circuit (tokens_text (printed_tokens circuit))
read_back circuit source P short =
    let a = again source circuit P short in
    record { found = (a.text, (a.tokens, a.lexed, a.judged), a.same); same = one-circuit circuit (tokens_text (printed_tokens circuit)) a; no_fault = no-fault circuit (tokens_text (printed_tokens circuit)) a }

-- the same of bytes that are the printed ones
pub bytes_read_back : (circuit : Text) (bytes : List ℕ) → bytes ≡ tokens_text (printed_tokens circuit) → (source : List ℕ) → IsParsed source circuit → length bytes ≤ 65536 → IsReadBack circuit bytes
bytes_read_back circuit bytes e source P short = subst (IsReadBack circuit) (sym e) (read_back circuit source P (subst (λ (b : List ℕ). length b ≤ 65536) e short))
