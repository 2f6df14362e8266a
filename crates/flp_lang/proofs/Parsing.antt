-- From the verdict on the tokens to what a text is parsed to.
use Rattle.std.proofs.Common.{ℕ, ◌==◌, true, false, List, [], ◌∷◌, length, ◌≡◌, refl, subst, ◌∙◌, Result, Ok, Err, IfOk, IfErr, arith}
use Rattle.std.proofs.lemmas.Bool.{eqb-true}
use Rattle.flp_lang.specs.Ahead as ahead
use Rattle.flp_lang.specs.Ahead.{next, done}
use Rattle.flp_lang.specs.Run.{run, verdict, IsFault}
use Rattle.flp_syntax.specs.Tokens.{IsLexed}
use Rattle.flp_syntax.specs.Tree.{Text}
use Rattle.flp_lang.specs.Verdict.{good, bad, IsJudgedAs}
use Rattle.flp_syntax.specs.View.{text_of}
use Rattle.flp_lang.specs.Parsed.{IsParsed, IsParseFault}
use Rattle.flp_lang.proofs.Verdicts.{judged}
use Rattle.flp_lang.proofs.Moves.{text_ends, text_goes_on}
use Rattle.flp_syntax.specs.declared.fault.LangFault.{LangFault}
use Rattle.flp_syntax.specs.declared.fault.LangFault.TheVariants.{Memory, Syntax, Depth}
use Rattle.flp_syntax.specs.declared.syntax.Circuit.{Circuit}
use Rattle.flp_syntax.specs.declared.token.Token.{Token}

none-left : (s : List Token) → (length s == 0) ≡ true → s ≡ []
none-left [] h = refl
none-left (t ∷ s) h = let e : length (t ∷ s) ≡ 0 = eqb-true _ _ h in absurd (omega arith)

some-left : (s : List Token) → (length s == 0) ≡ false → s ≡ [] → ⊥
some-left [] h e = cc
some-left (t ∷ s) h e = cc

-- the parser begins at the first token
begins : (tokens s : List Token) (k : ℕ) → k ≡ 0 → s ≡ tokens → verdict tokens ≡ run (0, 0) k (next ahead.circuit done) s
begins tokens s k e i = rw (e, i) refl

pub all_read : (tokens s s' : List Token) (k k' : ℕ) (c : Text) → k ≡ 0 → s ≡ tokens → run (0, 0) k (next ahead.circuit done) s ≡ run (0, 0) k' (done c) s' → (length s' == 0) ≡ true → verdict tokens ≡ good c
all_read tokens s s' k k' c e i h n = begins tokens s k e i ∙ h ∙ text_ends (0, 0) k' c s' (none-left s' n)

pub more_left : (tokens s s' : List Token) (k k' : ℕ) (c : Text) → k ≡ 0 → s ≡ tokens → run (0, 0) k (next ahead.circuit done) s ≡ run (0, 0) k' (done c) s' → (length s' == 0) ≡ false → verdict tokens ≡ bad k'
more_left tokens s s' k k' c e i h n = begins tokens s k e i ∙ h ∙ text_goes_on (0, 0) k' c s' (some-left s' n)

-- the circuit of a text, and its fault
pub parsed_ok : (text : List ℕ) (tokens : List Token) (r : Result Circuit LangFault) → IsLexed text tokens → IfOk r (λ c. verdict tokens ≡ good (text_of c)) → IfOk r (λ c. IsParsed text (text_of c))
parsed_ok text tokens (Ok c) L e = (tokens, L, subst (IsJudgedAs tokens) e (judged tokens))
parsed_ok text tokens (Err f) L e = tt

fault-is : (text : List ℕ) (tokens : List Token) (f : LangFault) → IsLexed text tokens → IsFault f (verdict tokens) → IsParseFault text f
fault-is text tokens Memory L e = tt
fault-is text tokens (Syntax k) L e = (tokens, L, subst (IsJudgedAs tokens) e (judged tokens))
fault-is text tokens (Depth k) L e = (tokens, L, subst (IsJudgedAs tokens) e (judged tokens))
fault-is text tokens f L e = elim e [ ]

pub parsed_err : (text : List ℕ) (tokens : List Token) (r : Result Circuit LangFault) → IsLexed text tokens → IfErr r (λ f. IsFault f (verdict tokens)) → IfErr r (IsParseFault text)
parsed_err text tokens (Ok c) L e = tt
parsed_err text tokens (Err f) L e = fault-is text tokens f L e
