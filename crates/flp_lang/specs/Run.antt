-- The tokens taken one by one, each at its place and under the levels that are open. Internal.
use Rattle.std.specs.Prelude.{ℕ, suc, ◌+◌, Bool, true, false, cond, codes, nat_lt, List, [], ◌∷◌, Option, None, Some, ◌≡◌, Result, Ok, Err}
use Rattle.std.specs.Str.{bytes_eq}
use Rattle.flp_syntax.specs.Tree.{Text, Tree, joint, sum, Statement, check, out, each, statements, Kind, mul_kind, poly_kind, psum_kind}
use Rattle.flp_syntax.specs.declared.syntax.Params.{Params}
use Rattle.flp_syntax.specs.declared.syntax.Params.TheVariants as params
use Rattle.flp_lang.specs.declared.standard.Which.{Which}
use Rattle.flp_lang.specs.declared.standard.Which.TheVariants as whiches
use Rattle.flp_lang.specs.Ahead as ahead
use Rattle.flp_lang.specs.Ahead.{Ahead, done, next, fixed, range, name_or_call, meas_at, after_token, at_end}
use Rattle.flp_lang.specs.Marks.{is_mark}
use Rattle.flp_lang.specs.Verdict.{Verdict, good, bad, deep, levels_behind}
use Rattle.flp_syntax.specs.declared.fault.LangFault.{LangFault}
use Rattle.flp_syntax.specs.declared.fault.LangFault.TheVariants.{Memory, Syntax, Depth}
use Rattle.flp_lang.specs.declared.parser.Start.{Start}
use Rattle.flp_lang.specs.declared.parser.Start.TheVariants as Starts
use Rattle.flp_syntax.specs.declared.token.Mark.{Mark}
use Rattle.flp_syntax.specs.declared.token.Token.{Token}
use Rattle.flp_syntax.specs.declared.token.Token.TheVariants.{Number, Name, Fixed}
use Rattle.flp_syntax.specs.declared.token.Mark.TheVariants.{Psum, OpenBracket, Open, Close, CloseBracket, Plus, Minus, Joint, Meas, Sum, Check, Out, Each, Semicolon}

-- whether the token opens the 65th level
abbrev pub too_deep : Token → ℕ × ℕ → Bool
too_deep (Fixed Open) l = nat_lt 63 (l.0 + l.1)
too_deep (Fixed OpenBracket) l = nat_lt 63 (l.0 + l.1)
too_deep (Fixed Psum) l = nat_lt 63 (l.0 + l.1)
too_deep _ l = false

abbrev pub go_on : ℕ → Bool → Option Ahead → (Ahead → Verdict) → Verdict
go_on k b None f = bad k
go_on k true (Some P) f = deep k
go_on k false (Some P) f = f P

abbrev pub finish : ℕ → Option Text → Verdict
finish k None = bad k
finish k (Some text) = good text

unfoldable pub run : ℕ × ℕ → ℕ → Ahead → List Token → Verdict
run l k P [] = finish k (at_end P)
run l k P (t ∷ s) = go_on k (too_deep t l) (after_token k P t) (λ P'. run (levels_behind t l) (suc k) P' s)

-- the verdict on all the tokens
abbrev pub verdict : List Token → Verdict
verdict tokens = run (0, 0) 0 (next ahead.circuit done) tokens

-- the fault is the verdict's, or want of memory
abbrev pub IsFault : LangFault → Verdict → Type 0
IsFault Memory v = Unit {0}
IsFault (Syntax k) v = v ≡ bad k
IsFault (Depth k) v = v ≡ deep k
IsFault _ v = ⊥

-- What was read leads from what is ahead to what is ahead behind it, with the same verdict; or the verdict is this fault.
abbrev pub Runs : {A : Type 0} → ℕ × ℕ → ℕ → Ahead → List Token → Result A LangFault → (A → ℕ × ℕ) → ℕ → (A → Ahead) → List Token → Type 0
Runs l k P s (Ok a) l' k' P' s' = run l k P s ≡ run (l' a) k' (P' a) s'
Runs l k P s (Err fault) l' k' P' s' = IsFault fault (run l k P s)

-- the mark is not the next token, nor is a number, or a name
abbrev pub IsNotNext : Mark → List Token → Type 0
IsNotNext m [] = Unit {0}
IsNotNext m (t ∷ s) = is_mark m t ≡ false

abbrev pub IsNoNumber : List Token → Type 0
IsNoNumber (Number n ∷ s) = ⊥
IsNoNumber _ = Unit {0}

abbrev pub IsNoName : List Token → Type 0
IsNoName (Name n ∷ s) = ⊥
IsNoName _ = Unit {0}

abbrev pub IsNoSign : List Token → Type 0
IsNoSign (Fixed Plus ∷ s) = ⊥
IsNoSign (Fixed Minus ∷ s) = ⊥
IsNoSign _ = Unit {0}

-- the sign as a mark
abbrev pub sign_mark : Bool → Mark
sign_mark true = Minus
sign_mark false = Plus

-- taken, or nothing moved
abbrev pub Eats : Mark → ℕ → List Token → Bool → ℕ → List Token → Type 0
Eats m k s true k' s' = (s ≡ Fixed m ∷ s') × (k' ≡ suc k)
Eats m k s false k' s' = IsNotNext m s × (s' ≡ s) × (k' ≡ k)

abbrev pub TakesSign : ℕ → List Token → Option Bool → ℕ → List Token → Type 0
TakesSign k s (Some minus) k' s' = (s ≡ Fixed (sign_mark minus) ∷ s') × (k' ≡ suc k)
TakesSign k s None k' s' = IsNoSign s × (s' ≡ s) × (k' ≡ k)

abbrev pub TakesNumber : ℕ → List Token → Option ℕ → ℕ → List Token → Type 0
TakesNumber k s (Some n) k' s' = (s ≡ Number n ∷ s') × (k' ≡ suc k)
TakesNumber k s None k' s' = IsNoNumber s × (s' ≡ s) × (k' ≡ k)

abbrev pub TakesName : ℕ → List Token → Result (Option (List ℕ)) LangFault → ℕ → List Token → Type 0
TakesName k s (Ok (Some n)) k' s' = (s ≡ Name n ∷ s') × (k' ≡ suc k)
TakesName k s (Ok None) k' s' = IsNoName s × (s' ≡ s) × (k' ≡ k)
TakesName k s (Err fault) k' s' = fault ≡ Memory

-- whether the mark is the next token
abbrev pub is_next : Mark → List Token → Bool
is_next m [] = false
is_next m (t ∷ s) = is_mark m t

-- what begins a primary expression
abbrev pub start_of : List Token → Start
start_of (Number n ∷ s) = Starts.Number
start_of (Name n ∷ s) = Starts.Name
start_of (Fixed Joint ∷ s) = Starts.Joint
start_of (Fixed Meas ∷ s) = Starts.Meas
start_of (Fixed Sum ∷ s) = Starts.Sum
start_of (Fixed Open ∷ s) = Starts.Group
start_of _ = Starts.Other

-- what is ahead of primary expressions from their first token on
abbrev pub joint_ahead : ℕ → (Tree → Ahead) → Ahead
joint_ahead k K = fixed Joint (fixed OpenBracket (next ahead.index (λ v. fixed CloseBracket (K (joint k v)))))

abbrev pub meas_ahead : ℕ → (Tree → Ahead) → Ahead
meas_ahead k K = fixed Meas (next ahead.question (λ b. fixed OpenBracket (next ahead.index (λ v. fixed CloseBracket (K (meas_at k b v))))))

abbrev pub sum_ahead : ℕ → (Tree → Ahead) → Ahead
sum_ahead k K = fixed Sum (range (λ n from to. next ahead.expr (λ v. fixed Close (K (sum k n from to v)))))

abbrev pub named_ahead : ℕ → (Tree → Ahead) → Ahead
named_ahead k K = next ahead.a_naming (λ n. next ahead.called (λ v. K (name_or_call k n v)))

-- whether a statement, or a coefficient, begins here
abbrev pub starts_stmt : List Token → Bool
starts_stmt (Fixed Check ∷ s) = true
starts_stmt (Fixed Out ∷ s) = true
starts_stmt (Fixed Each ∷ s) = true
starts_stmt _ = false

abbrev pub starts_coef : List Token → Bool
starts_coef (Number n ∷ s) = true
starts_coef (Fixed Minus ∷ s) = true
starts_coef _ = false

-- what is ahead of statements from their first token on
abbrev pub check_ahead : ℕ → (Statement → Ahead) → Ahead
check_ahead k K = fixed Check (next ahead.expr (λ v. fixed Semicolon (K (check k v))))

abbrev pub out_ahead : ℕ → (Statement → Ahead) → Ahead
out_ahead k K = fixed Out (next ahead.expr (λ v. fixed Semicolon (K (out k v))))

abbrev pub each_ahead : ℕ → (Statement → Ahead) → Ahead
each_ahead k K = fixed Each (range (λ n from to. next ahead.stmts (λ v. fixed Close (K (each k n from to (statements v))))))

-- how many levels of `psum` a kind opens
abbrev pub psums : Kind → ℕ
psums mul_kind = 0
psums (poly_kind coefs) = 0
psums (psum_kind count inner) = suc (psums inner)

-- which standard circuit a name is, and what stands behind `use`
abbrev pub which_of : List ℕ → Which
which_of n =
    cond (bytes_eq (codes "count") n) whiches.Count
    (cond (bytes_eq (codes "sumvec") n) whiches.SumVec
    (cond (bytes_eq (codes "histogram") n) whiches.Histogram
    (cond (bytes_eq (codes "multihot") n) whiches.Multihot whiches.Other)))

abbrev pub which_starts : List Token → Which
which_starts (Name n ∷ s) = which_of n
which_starts (Fixed Sum ∷ s) = whiches.Sum
which_starts _ = whiches.Other

-- one token less, where there is one
abbrev pub Skips : ℕ → List Token → ℕ → List Token → Type 0
Skips k [] k' s' = Unit {0}
Skips k (t ∷ s) k' s' = (s' ≡ s) × (k' ≡ suc k)

-- the name is taken, or it is not next
abbrev pub is_word : List ℕ → List Token → Bool
is_word word (Name n ∷ s) = bytes_eq word n
is_word word _ = false

abbrev pub TakesWord : List ℕ → ℕ → List Token → Bool → ℕ → List Token → Type 0
TakesWord word k s true k' s' = (s ≡ Name word ∷ s') × (k' ≡ suc k)
TakesWord word k s false k' s' = is_word word s ≡ false

-- what is ahead of standard circuits behind their names
abbrev pub sumvec_ahead : (Params → Ahead) → Ahead
sumvec_ahead K = next (ahead.setting (codes "length")) (λ l. next (ahead.setting (codes "bits")) (λ b. next (ahead.setting (codes "chunk")) (λ c. fixed Semicolon (K (params.SumVec l b c)))))

abbrev pub histogram_ahead : (Params → Ahead) → Ahead
histogram_ahead K = next (ahead.setting (codes "length")) (λ l. next (ahead.setting (codes "chunk")) (λ c. fixed Semicolon (K (params.Histogram l c))))

abbrev pub multihot_ahead : (Params → Ahead) → Ahead
multihot_ahead K = next (ahead.setting (codes "length")) (λ l. next (ahead.setting (codes "weight")) (λ w. next (ahead.setting (codes "chunk")) (λ c. fixed Semicolon (K (params.Multihot l w c)))))

abbrev pub count_ahead : (Params → Ahead) → Ahead
count_ahead K = fixed Semicolon (K params.Count)

abbrev pub sum_circuit_ahead : (Params → Ahead) → Ahead
sum_circuit_ahead K = next (ahead.setting (codes "max")) (λ m. fixed Semicolon (K (params.Sum m)))
