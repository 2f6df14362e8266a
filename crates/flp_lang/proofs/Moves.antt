-- How the verdict moves by one token, as the parser takes it.
use Rattle.std.proofs.Common.{ℕ, suc, ◌+◌, ◌-◌, ◌≤◌, ◌<◌, Bool, true, false, cond, List, [], ◌∷◌, Option, None, Some, ◌≡◌, refl, sym, subst, ◌∙◌, ap, arith, nat_lt, ◌++◌, append_assoc, codes, map, Result, Ok, Err}
use Rattle.std.specs.Result.{IsErr, IsErrAnd}
use Rattle.std.proofs.lemmas.Bool.Decides.{nat_tests}
use Rattle.std.proofs.lemmas.List.{append-nil}
use Rattle.flp_lang.specs.Ahead as ahead
use Rattle.flp_lang.specs.Ahead.{Ahead, done, next, fixed, after_token, at_end}
use Rattle.flp_lang.specs.Run.{run, go_on, too_deep, IsFault, IsNotNext, IsNoNumber, IsNoName, IsNoSign, Eats, sign_mark, Runs, is_next, start_of, joint_ahead, meas_ahead, sum_ahead, named_ahead, starts_stmt, starts_coef, check_ahead, out_ahead, each_ahead, psums, which_of, which_starts, Skips, is_word, count_ahead, sum_circuit_ahead, sumvec_ahead, histogram_ahead, multihot_ahead}
use Rattle.std.specs.Str.{bytes_eq}
use Rattle.flp_syntax.specs.Tree.{Text, standard, program, Program, Statement, statements, Kind, mul_kind, poly_kind, psum_kind, Declaration}
use Rattle.flp_syntax.specs.declared.syntax.Coef.{Coef}
use Rattle.flp_syntax.specs.declared.syntax.Params.{Params}
use Rattle.flp_lang.specs.declared.standard.Which.{Which}
use Rattle.flp_lang.specs.declared.standard.Which.TheVariants as whiches
use Rattle.flp_syntax.specs.Tree.{Tree, number, Argument, one, each_arg, arguments, sum_of, product_of, power_of}
use Rattle.flp_lang.specs.declared.parser.Start.TheVariants as Starts
use Rattle.flp_syntax.specs.Tree.{Index, index_number, index_var, index_sum, index_product}
use Rattle.flp_syntax.specs.declared.fault.LangFault.{LangFault}
use Rattle.flp_lang.specs.Verdict.{Verdict, good, bad, deep, levels_behind}
use Rattle.flp_lang.proofs.MarkTests.{same_mark-self, bytes_eq-self, bytes_eq-true}
use Rattle.flp_syntax.specs.declared.token.Token.{Token}
use Rattle.flp_syntax.specs.declared.token.Token.TheVariants.{Number, Name, Fixed}
use Rattle.flp_syntax.specs.declared.token.Mark.{Mark}
use Rattle.flp_syntax.specs.declared.token.Mark.TheVariants.{Use, Meas, Joint, Gadget, Check, Out, Each, Sum, Mul, Poly, Psum, Semicolon, Equals, OpenBracket, Question, Open, Close, Plus, Minus, Star, Caret, Comma}

-- a mark is there, or it is missing
pub mark_there : (l : ℕ × ℕ) (k k' : ℕ) (m : Mark) (P : Ahead) (s s' : List Token) → s ≡ Fixed m ∷ s' → k' ≡ suc k → too_deep (Fixed m) l ≡ false → run l k (fixed m P) s ≡ run (levels_behind (Fixed m) l) k' P s'
unfolding run
mark_there l k k' m P s s' e i h = rw (e, i, h, same_mark-self m) refl

pub mark_missing : (l : ℕ × ℕ) (k : ℕ) (m : Mark) (P : Ahead) (s : List Token) → IsNotNext m s → run l k (fixed m P) s ≡ bad k
unfolding run
mark_missing l k m P [] h = refl
mark_missing l k m P (t ∷ s) h = rw h refl

-- a `(` or a `[` opens a level, or one too many
pub open_there : (level k k' inner : ℕ) (P : Ahead) (s s' : List Token) → s ≡ Fixed Open ∷ s' → k' ≡ suc k → inner ≡ suc level → level < 64 → run (level, 0) k (fixed Open P) s ≡ run (inner, 0) k' P s'
open_there level k k' inner P s s' e i j h = mark_there (level, 0) k k' Open P s s' e i (grind (arith, nat_tests)) ∙ ap (λ x. run (x, 0) k' P s') (sym j)

pub bracket_there : (level k k' inner : ℕ) (P : Ahead) (s s' : List Token) → s ≡ Fixed OpenBracket ∷ s' → k' ≡ suc k → inner ≡ suc level → level < 64 → run (level, 0) k (fixed OpenBracket P) s ≡ run (inner, 0) k' P s'
bracket_there level k k' inner P s s' e i j h = mark_there (level, 0) k k' OpenBracket P s s' e i (grind (arith, nat_tests)) ∙ ap (λ x. run (x, 0) k' P s') (sym j)

open-too-deep : (level : ℕ) → 64 ≤ level → nat_lt 63 (level + 0) ≡ true
open-too-deep level h = grind (arith, nat_tests)

pub open_deep : (level k : ℕ) (P : Ahead) (s s' : List Token) → s ≡ Fixed Open ∷ s' → 64 ≤ level → run (level, 0) k (fixed Open P) s ≡ deep k
unfolding run
open_deep level k P s s' e h = rw (e, open-too-deep level h) refl

pub bracket_deep : (level k : ℕ) (P : Ahead) (s s' : List Token) → s ≡ Fixed OpenBracket ∷ s' → 64 ≤ level → run (level, 0) k (fixed OpenBracket P) s ≡ deep k
unfolding run
bracket_deep level k P s s' e h = rw (e, open-too-deep level h) refl

-- a number, a name
pub number_there : (l : ℕ × ℕ) (k k' n : ℕ) (K : ℕ → Ahead) (s s' : List Token) → s ≡ Number n ∷ s' → k' ≡ suc k → run l k (next ahead.a_numeral K) s ≡ run l k' (K n) s'
unfolding run
number_there l k k' n K s s' e i = rw (e, i) refl

pub number_missing : (l : ℕ × ℕ) (k : ℕ) (K : ℕ → Ahead) (s : List Token) → IsNoNumber s → run l k (next ahead.a_numeral K) s ≡ bad k
unfolding run
number_missing l k K [] h = refl
number_missing l k K (Number n ∷ s) h = elim h [ ]
number_missing l k K (Name n ∷ s) h = refl
number_missing l k K (Fixed m ∷ s) h = refl

pub name_there : (l : ℕ × ℕ) (k k' : ℕ) (n : List ℕ) (K : List ℕ → Ahead) (s s' : List Token) → s ≡ Name n ∷ s' → k' ≡ suc k → run l k (next ahead.a_naming K) s ≡ run l k' (K n) s'
unfolding run
name_there l k k' n K s s' e i = rw (e, i) refl

pub name_missing : (l : ℕ × ℕ) (k : ℕ) (K : List ℕ → Ahead) (s : List Token) → IsNoName s → run l k (next ahead.a_naming K) s ≡ bad k
unfolding run
name_missing l k K [] h = refl
name_missing l k K (Name n ∷ s) h = elim h [ ]
name_missing l k K (Number n ∷ s) h = refl
name_missing l k K (Fixed m ∷ s) h = refl

funext : {A B : Type 0} {f g : A → B} → ((x : A) → f x ≡ g x) → f ≡ g
funext h = λ i x. h x i

-- a fault further on is the fault from here
pub fails : {A : Type 0} (l : ℕ × ℕ) (k : ℕ) (P : Ahead) (s : List Token) (r : Result A LangFault) (l' : A → ℕ × ℕ) (k' : ℕ) (P' : A → Ahead) (s' : List Token) (fault : LangFault) → IsErr r × IsErrAnd r (λ e. e ≡ fault)
    → (w : Verdict) → run l k P s ≡ w → IsFault fault w → Runs l k P s r l' k' P' s'
fails l k P s (Ok a) l' k' P' s' fault h w e f = absurd h.1
fails l k P s (Err b) l' k' P' s' fault h w e f = subst (λ x. IsFault x (run l k P s)) (sym h.1) (subst (IsFault fault) (sym e) f)

map-snoc : {A B : Type 0} (f : A → B) (xs : List A) (a : A) (more : List B) → map f xs ++ f a ∷ more ≡ map f (xs ++ a ∷ []) ++ more
map-snoc f [] a more = refl
map-snoc f (x ∷ xs) a more = ap (λ ys. f x ∷ ys) (map-snoc f xs a more)

-- one part more of a loop, and its end
pub more_read : {A B : Type 0} (f : A → B) (N : (List B → Ahead) → Ahead) (l : ℕ × ℕ) (k : ℕ) (s : List Token) (K : List B → Ahead) (xs ys : List A) (a : A) (b : B) → f a ≡ b → ys ≡ xs ++ a ∷ []
    → run l k (N (λ more. K (map f xs ++ b ∷ more))) s ≡ run l k (N (λ more. K (map f ys ++ more))) s
more_read {A} {B} f N l k s K xs ys a b e i =
    let g : (λ (more : List B). map f xs ++ b ∷ more) ≡ (λ more. map f ys ++ more) = funext (λ more. rw (i, ← e) (map-snoc f xs a more)) in
    ap (λ (h : List B → List B). run l k (N (λ more. K (h more))) s) g

pub all_read : {A B : Type 0} (f : A → B) (l : ℕ × ℕ) (k k' : ℕ) (s s' : List Token) (K : List B → Ahead) (xs : List A) → s' ≡ s → k' ≡ k → run l k (K (map f xs ++ [])) s ≡ run l k' (K (map f xs)) s'
all_read f l k k' s s' K xs e i = rw (e, i, append-nil (map f xs)) refl

-- a sum, a product
pub index_head : (l : ℕ × ℕ) (k : ℕ) (K : Index → Ahead) (s : List Token) → run l k (next ahead.index K) s ≡ run l k (next ahead.index_term (λ v. next ahead.index_terms (λ more. K (index_sum v more)))) s
unfolding run
index_head l k K [] = refl
index_head l k K (t ∷ s) = refl

pub index_term_head : (l : ℕ × ℕ) (k : ℕ) (K : Index → Ahead) (s : List Token) → run l k (next ahead.index_term K) s ≡ run l k (next ahead.index_prim (λ v. next ahead.index_factors (λ more. K (index_product v more)))) s
unfolding run
index_term_head l k K [] = refl
index_term_head l k K (t ∷ s) = refl

pub index_terms_sign : (l : ℕ × ℕ) (k k' : ℕ) (minus : Bool) (K : List (Bool × Index) → Ahead) (s s' : List Token) → s ≡ Fixed (sign_mark minus) ∷ s' → k' ≡ suc k
    → run l k (next ahead.index_terms K) s ≡ run l k' (next ahead.index_term (λ v. next ahead.index_terms (λ more. K ((minus, v) ∷ more)))) s'
unfolding run
index_terms_sign l k k' true K s s' e i = rw (e, i) refl
index_terms_sign l k k' false K s s' e i = rw (e, i) refl

pub index_terms_end : (l : ℕ × ℕ) (k : ℕ) (K : List (Bool × Index) → Ahead) (s : List Token) → IsNoSign s → run l k (next ahead.index_terms K) s ≡ run l k (K []) s
unfolding run
index_terms_end l k K [] h = refl
index_terms_end l k K (Fixed Plus ∷ s) h = elim h [ ]
index_terms_end l k K (Fixed Minus ∷ s) h = elim h [ ]
index_terms_end l k K (t ∷ s) h = refl

pub index_factors_star : (l : ℕ × ℕ) (k k' : ℕ) (K : List Index → Ahead) (s s' : List Token) → s ≡ Fixed Star ∷ s' → k' ≡ suc k
    → run l k (next ahead.index_factors K) s ≡ run l k' (next ahead.index_prim (λ v. next ahead.index_factors (λ more. K (v ∷ more)))) s'
unfolding run
index_factors_star l k k' K s s' e i = rw (e, i) refl

pub index_factors_end : (l : ℕ × ℕ) (k : ℕ) (K : List Index → Ahead) (s : List Token) → IsNotNext Star s → run l k (next ahead.index_factors K) s ≡ run l k (K []) s
unfolding run
index_factors_end l k K [] h = refl
index_factors_end l k K (Fixed Star ∷ s) h = cc
index_factors_end l k K (t ∷ s) h = refl

pub index_number_there : (l : ℕ × ℕ) (k k' n : ℕ) (K : Index → Ahead) (s s' : List Token) → s ≡ Number n ∷ s' → k' ≡ suc k → run l k (next ahead.index_prim K) s ≡ run l k' (K (index_number k n)) s'
unfolding run
index_number_there l k k' n K s s' e i = rw (e, i) refl

pub index_name_there : (l : ℕ × ℕ) (k k' : ℕ) (n : List ℕ) (K : Index → Ahead) (s s' : List Token) → s ≡ Name n ∷ s' → k' ≡ suc k → run l k (next ahead.index_prim K) s ≡ run l k' (K (index_var k n)) s'
unfolding run
index_name_there l k k' n K s s' e i = rw (e, i) refl

pub index_group : (l : ℕ × ℕ) (k : ℕ) (K : Index → Ahead) (s : List Token) → IsNoNumber s → IsNoName s → run l k (next ahead.index_prim K) s ≡ run l k (fixed Open (next ahead.index (λ v. fixed Close (K v)))) s
unfolding run
index_group l k K [] h i = refl
index_group l k K (Number n ∷ s) h i = elim h [ ]
index_group l k K (Name n ∷ s) h i = elim i [ ]
index_group l k K (Fixed Open ∷ s) h i = refl
index_group l k K (Fixed m ∷ s) h i = refl

-- the same place
pub same_place : (l : ℕ × ℕ) (k k' : ℕ) (P : Ahead) (s s' : List Token) → s' ≡ s → k' ≡ k → run l k P s ≡ run l k' P s'
same_place l k k' P s s' e i = rw (e, i) refl

-- a value that is read
pub value_read : {A : Type 0} (l : ℕ × ℕ) (k : ℕ) (s : List Token) (K : A → Ahead) (v w : A) → w ≡ v → run l k (K v) s ≡ run l k (K w) s
value_read l k s K v w e = ap (λ x. run l k (K x) s) (sym e)

-- behind a look that found no number, and no name
pub index_name_after : (l : ℕ × ℕ) (k k₁ k' : ℕ) (n : List ℕ) (K : Index → Ahead) (s s₁ s' : List Token) → s₁ ≡ s → k₁ ≡ k → s₁ ≡ Name n ∷ s' → k' ≡ suc k₁ → run l k (next ahead.index_prim K) s ≡ run l k' (K (index_var k n)) s'
index_name_after l k k₁ k' n K s s₁ s' e i f j = index_name_there l k k' n K s s' (sym e ∙ f) (j ∙ ap (λ x. suc x) i)

pub index_group_after : (l : ℕ × ℕ) (k k₁ k₂ : ℕ) (K : Index → Ahead) (s s₁ s₂ : List Token) → IsNoNumber s → s₁ ≡ s → k₁ ≡ k → IsNoName s₁ → s₂ ≡ s₁ → k₂ ≡ k₁
    → run l k (next ahead.index_prim K) s ≡ run l k₂ (fixed Open (next ahead.index (λ v. fixed Close (K v)))) s₂
index_group_after l k k₁ k₂ K s s₁ s₂ h e i h' e' i' = index_group l k K s h (subst IsNoName e h') ∙ same_place l k k₂ _ s s₂ (e' ∙ e) (i' ∙ i)

-- behind the mark that closes a level
pub level_closed : (level inner k : ℕ) (P : Ahead) (s : List Token) → inner ≡ suc level → run (inner - 1, 0) k P s ≡ run (level, 0) k P s
level_closed level inner k P s e = let i : inner - 1 ≡ level = omega arith in ap (λ x. run (x, 0) k P s) i

-- expressions
pub expr_head : (l : ℕ × ℕ) (k k' : ℕ) (minus : Bool) (K : Tree → Ahead) (s s' : List Token) → Eats Minus k s minus k' s' → run l k (next ahead.expr K) s ≡ run l k' (next ahead.term (λ v. next ahead.terms (λ more. K (sum_of minus v more)))) s'
unfolding run
expr_head l k k' true K s s' h = rw (h.0, h.1) refl
expr_head l k k' false K [] s' h = rw (h.1, h.2) refl
expr_head l k k' false K (Fixed Minus ∷ s) s' h = let e = h.0 in cc
expr_head l k k' false K (t ∷ s) s' h = rw (h.1, h.2) refl

pub term_head : (l : ℕ × ℕ) (k : ℕ) (K : Tree → Ahead) (s : List Token) → run l k (next ahead.term K) s ≡ run l k (next ahead.factor (λ v. next ahead.factors (λ more. K (product_of v more)))) s
unfolding run
term_head l k K [] = refl
term_head l k K (t ∷ s) = refl

pub factor_head : (l : ℕ × ℕ) (k : ℕ) (K : Tree → Ahead) (s : List Token) → run l k (next ahead.factor K) s ≡ run l k (next ahead.prim (λ v. next ahead.exponent (λ e. K (power_of v e)))) s
unfolding run
factor_head l k K [] = refl
factor_head l k K (t ∷ s) = refl

pub exponent_there : (l : ℕ × ℕ) (k k' : ℕ) (K : Option Index → Ahead) (s s' : List Token) → s ≡ Fixed Caret ∷ s' → k' ≡ suc k → run l k (next ahead.exponent K) s ≡ run l k' (next ahead.index_prim (λ v. K (Some v))) s'
unfolding run
exponent_there l k k' K s s' e i = rw (e, i) refl

pub exponent_none : (l : ℕ × ℕ) (k k' : ℕ) (K : Option Index → Ahead) (s s' : List Token) → IsNotNext Caret s → s' ≡ s → k' ≡ k → run l k (next ahead.exponent K) s ≡ run l k' (K None) s'
unfolding run
exponent_none l k k' K [] s' h e i = rw (e, i) refl
exponent_none l k k' K (Fixed Caret ∷ s) s' h e i = cc
exponent_none l k k' K (t ∷ s) s' h e i = rw (e, i) refl

pub terms_sign : (l : ℕ × ℕ) (k k' : ℕ) (minus : Bool) (K : List (Bool × Tree) → Ahead) (s s' : List Token) → s ≡ Fixed (sign_mark minus) ∷ s' → k' ≡ suc k
    → run l k (next ahead.terms K) s ≡ run l k' (next ahead.term (λ v. next ahead.terms (λ more. K ((minus, v) ∷ more)))) s'
unfolding run
terms_sign l k k' true K s s' e i = rw (e, i) refl
terms_sign l k k' false K s s' e i = rw (e, i) refl

pub terms_end : (l : ℕ × ℕ) (k : ℕ) (K : List (Bool × Tree) → Ahead) (s : List Token) → IsNoSign s → run l k (next ahead.terms K) s ≡ run l k (K []) s
unfolding run
terms_end l k K [] h = refl
terms_end l k K (Fixed Plus ∷ s) h = elim h [ ]
terms_end l k K (Fixed Minus ∷ s) h = elim h [ ]
terms_end l k K (t ∷ s) h = refl

pub factors_star : (l : ℕ × ℕ) (k k' : ℕ) (K : List Tree → Ahead) (s s' : List Token) → s ≡ Fixed Star ∷ s' → k' ≡ suc k → run l k (next ahead.factors K) s ≡ run l k' (next ahead.factor (λ v. next ahead.factors (λ more. K (v ∷ more)))) s'
unfolding run
factors_star l k k' K s s' e i = rw (e, i) refl

pub factors_end : (l : ℕ × ℕ) (k : ℕ) (K : List Tree → Ahead) (s : List Token) → IsNotNext Star s → run l k (next ahead.factors K) s ≡ run l k (K []) s
unfolding run
factors_end l k K [] h = refl
factors_end l k K (Fixed Star ∷ s) h = cc
factors_end l k K (t ∷ s) h = refl

pub question : (l : ℕ × ℕ) (k k' : ℕ) (there : Bool) (K : Bool → Ahead) (s s' : List Token) → Eats Question k s there k' s' → run l k (next ahead.question K) s ≡ run l k' (K there) s'
unfolding run
question l k k' true K s s' h = rw (h.0, h.1) refl
question l k k' false K [] s' h = rw (h.1, h.2) refl
question l k k' false K (Fixed Question ∷ s) s' h = let e = h.0 in cc
question l k k' false K (t ∷ s) s' h = rw (h.1, h.2) refl

pub called_there : (l : ℕ × ℕ) (k : ℕ) (K : Option (List Argument) → Ahead) (s : List Token) → is_next Open s ≡ true → run l k (next ahead.called K) s ≡ run l k (fixed Open (next ahead.args (λ v. fixed Close (K (Some v))))) s
unfolding run
called_there l k K [] h = cc
called_there l k K (Fixed Open ∷ s) h = refl
called_there l k K (t ∷ s) h = cc

pub called_not : (l : ℕ × ℕ) (k : ℕ) (K : Option (List Argument) → Ahead) (s : List Token) → is_next Open s ≡ false → run l k (next ahead.called K) s ≡ run l k (K None) s
unfolding run
called_not l k K [] h = refl
called_not l k K (Fixed Open ∷ s) h = cc
called_not l k K (t ∷ s) h = refl

pub args_head : (l : ℕ × ℕ) (k : ℕ) (K : List Argument → Ahead) (s : List Token) → run l k (next ahead.args K) s ≡ run l k (next ahead.arg (λ v. next ahead.more_args (λ more. K (v ∷ more)))) s
unfolding run
args_head l k K [] = refl
args_head l k K (t ∷ s) = refl

pub more_args_comma : (l : ℕ × ℕ) (k k' : ℕ) (K : List Argument → Ahead) (s s' : List Token) → s ≡ Fixed Comma ∷ s' → k' ≡ suc k → run l k (next ahead.more_args K) s ≡ run l k' (next ahead.arg (λ v. next ahead.more_args (λ more. K (v ∷ more)))) s'
unfolding run
more_args_comma l k k' K s s' e i = rw (e, i) refl

pub more_args_end : (l : ℕ × ℕ) (k : ℕ) (K : List Argument → Ahead) (s : List Token) → IsNotNext Comma s → run l k (next ahead.more_args K) s ≡ run l k (K []) s
unfolding run
more_args_end l k K [] h = refl
more_args_end l k K (Fixed Comma ∷ s) h = cc
more_args_end l k K (t ∷ s) h = refl

pub arg_each : (l : ℕ × ℕ) (k : ℕ) (K : Argument → Ahead) (s : List Token) → is_next Each s ≡ true
    → run l k (next ahead.arg K) s ≡ run l k (fixed Each (ahead.range (λ n from to. next ahead.args (λ v. fixed Close (K (each_arg k n from to (arguments v))))))) s
unfolding run
arg_each l k K [] h = cc
arg_each l k K (Fixed Each ∷ s) h = refl
arg_each l k K (t ∷ s) h = cc

pub arg_one : (l : ℕ × ℕ) (k : ℕ) (K : Argument → Ahead) (s : List Token) → is_next Each s ≡ false → run l k (next ahead.arg K) s ≡ run l k (next ahead.expr (λ v. K (one v))) s
unfolding run
arg_one l k K [] h = refl
arg_one l k K (Fixed Each ∷ s) h = cc
arg_one l k K (t ∷ s) h = refl

-- a primary expression, by what begins it
pub prim_number : (l : ℕ × ℕ) (k : ℕ) (K : Tree → Ahead) (s : List Token) → start_of s ≡ Starts.Number → run l k (next ahead.prim K) s ≡ run l k (next ahead.a_numeral (λ n. K (number k n))) s
unfolding run
prim_number l k K [] h = cc
prim_number l k K (Number n ∷ s) h = refl
prim_number l k K (Fixed Joint ∷ s) h = cc
prim_number l k K (t ∷ s) h = cc

pub prim_joint : (l : ℕ × ℕ) (k : ℕ) (K : Tree → Ahead) (s : List Token) → start_of s ≡ Starts.Joint → run l k (next ahead.prim K) s ≡ run l k (joint_ahead k K) s
unfolding run
prim_joint l k K [] h = cc
prim_joint l k K (Fixed Joint ∷ s) h = refl
prim_joint l k K (t ∷ s) h = cc

pub prim_meas : (l : ℕ × ℕ) (k : ℕ) (K : Tree → Ahead) (s : List Token) → start_of s ≡ Starts.Meas → run l k (next ahead.prim K) s ≡ run l k (meas_ahead k K) s
unfolding run
prim_meas l k K [] h = cc
prim_meas l k K (Fixed Meas ∷ s) h = refl
prim_meas l k K (t ∷ s) h = cc

pub prim_sum : (l : ℕ × ℕ) (k : ℕ) (K : Tree → Ahead) (s : List Token) → start_of s ≡ Starts.Sum → run l k (next ahead.prim K) s ≡ run l k (sum_ahead k K) s
unfolding run
prim_sum l k K [] h = cc
prim_sum l k K (Fixed Sum ∷ s) h = refl
prim_sum l k K (t ∷ s) h = cc

pub prim_named : (l : ℕ × ℕ) (k : ℕ) (K : Tree → Ahead) (s : List Token) → start_of s ≡ Starts.Name → run l k (next ahead.prim K) s ≡ run l k (named_ahead k K) s
unfolding run
prim_named l k K [] h = cc
prim_named l k K (Name n ∷ s) h = refl
prim_named l k K (Fixed Joint ∷ s) h = cc
prim_named l k K (t ∷ s) h = cc

pub prim_group : (l : ℕ × ℕ) (k : ℕ) (K : Tree → Ahead) (s : List Token) → start_of s ≡ Starts.Group → run l k (next ahead.prim K) s ≡ run l k (fixed Open (next ahead.expr (λ v. fixed Close (K v)))) s
unfolding run
prim_group l k K [] h = cc
prim_group l k K (Fixed Open ∷ s) h = refl
prim_group l k K (t ∷ s) h = cc

pub prim_other : (l : ℕ × ℕ) (k : ℕ) (K : Tree → Ahead) (s : List Token) → start_of s ≡ Starts.Other → run l k (next ahead.prim K) s ≡ bad k
unfolding run
prim_other l k K [] h = refl
prim_other l k K (Number n ∷ s) h = cc
prim_other l k K (Name n ∷ s) h = cc
prim_other l k K (Fixed Joint ∷ s) h = cc
prim_other l k K (Fixed Meas ∷ s) h = cc
prim_other l k K (Fixed Sum ∷ s) h = cc
prim_other l k K (Fixed Open ∷ s) h = cc
prim_other l k K (t ∷ s) h = refl

-- a result that is the same where something else with the same verdict is ahead
pub along : {A : Type 0} (l : ℕ × ℕ) (k : ℕ) (P P₂ : Ahead) (s : List Token) (r : Result A LangFault) (l' : A → ℕ × ℕ) (k' : ℕ) (P' : A → Ahead) (s' : List Token) → run l k P s ≡ run l k P₂ s → Runs l k P₂ s r l' k' P' s' → Runs l k P s r l' k' P' s'
along l k P P₂ s (Ok a) l' k' P' s' e h = e ∙ h
along l k P P₂ s (Err fault) l' k' P' s' e h = subst (IsFault fault) (sym e) h

-- statements
pub stmts_head : (l : ℕ × ℕ) (k : ℕ) (K : List Statement → Ahead) (s : List Token) → run l k (next ahead.stmts K) s ≡ run l k (next ahead.stmt (λ v. next ahead.more_stmts (λ more. K (v ∷ more)))) s
unfolding run
stmts_head l k K [] = refl
stmts_head l k K (t ∷ s) = refl

pub more_stmts_more : (l : ℕ × ℕ) (k : ℕ) (K : List Statement → Ahead) (s : List Token) → starts_stmt s ≡ true → run l k (next ahead.more_stmts K) s ≡ run l k (next ahead.stmt (λ v. next ahead.more_stmts (λ more. K (v ∷ more)))) s
unfolding run
more_stmts_more l k K [] h = cc
more_stmts_more l k K (Fixed Check ∷ s) h = refl
more_stmts_more l k K (Fixed Out ∷ s) h = refl
more_stmts_more l k K (Fixed Each ∷ s) h = refl
more_stmts_more l k K (t ∷ s) h = cc

pub more_stmts_end : (l : ℕ × ℕ) (k : ℕ) (K : List Statement → Ahead) (s : List Token) → starts_stmt s ≡ false → run l k (next ahead.more_stmts K) s ≡ run l k (K []) s
unfolding run
more_stmts_end l k K [] h = refl
more_stmts_end l k K (Fixed Check ∷ s) h = cc
more_stmts_end l k K (Fixed Out ∷ s) h = cc
more_stmts_end l k K (Fixed Each ∷ s) h = cc
more_stmts_end l k K (t ∷ s) h = refl

pub stmt_check : (l : ℕ × ℕ) (k : ℕ) (K : Statement → Ahead) (s : List Token) → is_next Check s ≡ true → run l k (next ahead.stmt K) s ≡ run l k (check_ahead k K) s
unfolding run
stmt_check l k K [] h = cc
stmt_check l k K (Fixed Check ∷ s) h = refl
stmt_check l k K (t ∷ s) h = cc

pub stmt_out : (l : ℕ × ℕ) (k : ℕ) (K : Statement → Ahead) (s : List Token) → is_next Out s ≡ true → run l k (next ahead.stmt K) s ≡ run l k (out_ahead k K) s
unfolding run
stmt_out l k K [] h = cc
stmt_out l k K (Fixed Out ∷ s) h = refl
stmt_out l k K (t ∷ s) h = cc

pub stmt_each : (l : ℕ × ℕ) (k : ℕ) (K : Statement → Ahead) (s : List Token) → is_next Check s ≡ false → is_next Out s ≡ false → run l k (next ahead.stmt K) s ≡ run l k (each_ahead k K) s
unfolding run
stmt_each l k K [] h i = refl
stmt_each l k K (Fixed Check ∷ s) h i = cc
stmt_each l k K (Fixed Out ∷ s) h i = cc
stmt_each l k K (t ∷ s) h i = refl

-- the same list in the next place of a loop, where what is ahead is not cut short
pub list_read : {A : Type 0} (l : ℕ × ℕ) (k : ℕ) (s : List Token) (K : List A → Ahead) (xs : List A) → run l k (K (xs ++ [])) s ≡ run l k (K xs) s
list_read l k s K xs = ap (λ x. run l k (K x) s) (append-nil xs)

pub one_read : {A : Type 0} (N : (List A → Ahead) → Ahead) (l : ℕ × ℕ) (k : ℕ) (s : List Token) (K : List A → Ahead) (xs ys : List A) (a : A) → ys ≡ xs ++ a ∷ [] → run l k (N (λ more. K (xs ++ a ∷ more))) s ≡ run l k (N (λ more. K (ys ++ more))) s
one_read {A} N l k s K xs ys a i =
    let g : (λ (more : List A). xs ++ a ∷ more) ≡ (λ more. ys ++ more) = funext (λ more. rw i (one-snoc xs a more)) in
    ap (λ (h : List A → List A). run l k (N (λ more. K (h more))) s) g
  where
    one-snoc : (xs : List A) (a : A) (more : List A) → xs ++ a ∷ more ≡ (xs ++ a ∷ []) ++ more
    one-snoc xs a more = sym (append_assoc xs (a ∷ []) more)

-- declarations
pub decl_head : (l : ℕ × ℕ) (k : ℕ) (K : Declaration → Ahead) (s : List Token) → run l k (next ahead.decl K) s ≡ run l k (fixed Gadget (next ahead.a_naming (λ n. fixed Equals (next ahead.kind (λ v. fixed Semicolon (K (record { at = k; name = n; kind = v }))))))) s
unfolding run
decl_head l k K [] = refl
decl_head l k K (Number n ∷ s) = refl
decl_head l k K (Name n ∷ s) = refl
decl_head l k K (Fixed Gadget ∷ s) = refl
decl_head l k K (t ∷ s) = refl

pub more_decls_more : (l : ℕ × ℕ) (k : ℕ) (K : List Declaration → Ahead) (s : List Token) → is_next Gadget s ≡ true → run l k (next ahead.more_decls K) s ≡ run l k (next ahead.decl (λ v. next ahead.more_decls (λ more. K (v ∷ more)))) s
unfolding run
more_decls_more l k K [] h = cc
more_decls_more l k K (Fixed Gadget ∷ s) h = refl
more_decls_more l k K (t ∷ s) h = cc

pub more_decls_end : (l : ℕ × ℕ) (k : ℕ) (K : List Declaration → Ahead) (s : List Token) → is_next Gadget s ≡ false → run l k (next ahead.more_decls K) s ≡ run l k (K []) s
unfolding run
more_decls_end l k K [] h = refl
more_decls_end l k K (Fixed Gadget ∷ s) h = cc
more_decls_end l k K (t ∷ s) h = refl

pub kind_mul : (l : ℕ × ℕ) (k : ℕ) (K : Kind → Ahead) (s : List Token) → is_next Mul s ≡ true → run l k (next ahead.kind K) s ≡ run l k (fixed Mul (K mul_kind)) s
unfolding run
kind_mul l k K [] h = cc
kind_mul l k K (Fixed Mul ∷ s) h = refl
kind_mul l k K (t ∷ s) h = cc

pub kind_poly : (l : ℕ × ℕ) (k : ℕ) (K : Kind → Ahead) (s : List Token) → is_next Poly s ≡ true → run l k (next ahead.kind K) s ≡ run l k (fixed Poly (next ahead.coef (λ v. next ahead.more_coefs (λ more. K (poly_kind (v ∷ more)))))) s
unfolding run
kind_poly l k K [] h = cc
kind_poly l k K (Fixed Poly ∷ s) h = refl
kind_poly l k K (t ∷ s) h = cc

pub kind_psum : (l : ℕ × ℕ) (k : ℕ) (K : Kind → Ahead) (s : List Token) → is_next Mul s ≡ false → is_next Poly s ≡ false → run l k (next ahead.kind K) s ≡ run l k (fixed Psum (next ahead.a_numeral (λ n. next ahead.kind (λ v. K (psum_kind n v))))) s
unfolding run
kind_psum l k K [] h i = refl
kind_psum l k K (Fixed Mul ∷ s) h i = cc
kind_psum l k K (Fixed Poly ∷ s) h i = cc
kind_psum l k K (t ∷ s) h i = refl

pub psum_there : (level k k' inner : ℕ) (P : Ahead) (s s' : List Token) → s ≡ Fixed Psum ∷ s' → k' ≡ suc k → inner ≡ suc level → level < 64 → run (0, level) k (fixed Psum P) s ≡ run (0, inner) k' P s'
psum_there level k k' inner P s s' e i j h = mark_there (0, level) k k' Psum P s s' e i (grind (arith, nat_tests)) ∙ ap (λ x. run (0, x) k' P s') (sym j)

psum-too-deep : (level : ℕ) → 64 ≤ level → nat_lt 63 (0 + level) ≡ true
psum-too-deep level h = grind (arith, nat_tests)

pub psum_deep : (level k : ℕ) (P : Ahead) (s s' : List Token) → s ≡ Fixed Psum ∷ s' → 64 ≤ level → run (0, level) k (fixed Psum P) s ≡ deep k
unfolding run
psum_deep level k P s s' e h = rw (e, psum-too-deep level h) refl

pub level_psums : (level inner n k : ℕ) (P : Ahead) (s : List Token) → inner ≡ suc level → run (0, inner + n) k P s ≡ run (0, level + suc n) k P s
level_psums level inner n k P s e = let i : inner + n ≡ level + suc n = omega arith in ap (λ x. run (0, x) k P s) i

pub coef_head : (l : ℕ × ℕ) (k k' : ℕ) (minus : Bool) (K : Coef → Ahead) (s s' : List Token) → Eats Minus k s minus k' s' → run l k (next ahead.coef K) s ≡ run l k' (next ahead.a_numeral (λ n. K (record { minus = minus; size = n }))) s'
unfolding run
coef_head l k k' true K s s' h = rw (h.0, h.1) refl
coef_head l k k' false K [] s' h = rw (h.1, h.2) refl
coef_head l k k' false K (Fixed Minus ∷ s) s' h = let e = h.0 in cc
coef_head l k k' false K (t ∷ s) s' h = rw (h.1, h.2) refl

pub more_coefs_more : (l : ℕ × ℕ) (k : ℕ) (K : List Coef → Ahead) (s : List Token) → starts_coef s ≡ true → run l k (next ahead.more_coefs K) s ≡ run l k (next ahead.coef (λ v. next ahead.more_coefs (λ more. K (v ∷ more)))) s
unfolding run
more_coefs_more l k K [] h = cc
more_coefs_more l k K (Fixed Minus ∷ s) h = refl
more_coefs_more l k K (Number n ∷ s) h = refl
more_coefs_more l k K (t ∷ s) h = cc

pub more_coefs_end : (l : ℕ × ℕ) (k : ℕ) (K : List Coef → Ahead) (s : List Token) → starts_coef s ≡ false → run l k (next ahead.more_coefs K) s ≡ run l k (K []) s
unfolding run
more_coefs_end l k K [] h = refl
more_coefs_end l k K (Fixed Minus ∷ s) h = cc
more_coefs_end l k K (Number n ∷ s) h = cc
more_coefs_end l k K (t ∷ s) h = refl

-- standard circuits
pub setting_there : (l : ℕ × ℕ) (k k' : ℕ) (name : List ℕ) (K : ℕ → Ahead) (s s' : List Token) → s ≡ Name name ∷ s' → k' ≡ suc k → run l k (next (ahead.setting name) K) s ≡ run l k' (fixed Equals (next ahead.a_numeral K)) s'
unfolding run
setting_there l k k' name K s s' e i = rw (e, i, bytes_eq-self name) refl

pub setting_missing : (l : ℕ × ℕ) (k : ℕ) (name : List ℕ) (K : ℕ → Ahead) (s : List Token) → is_word name s ≡ false → run l k (next (ahead.setting name) K) s ≡ bad k
unfolding run
setting_missing l k name K [] h = refl
setting_missing l k name K (Number n ∷ s) h = refl
setting_missing l k name K (Name n ∷ s) h = rw h refl
setting_missing l k name K (Fixed m ∷ s) h = refl

-- what is ahead of a standard circuit behind its name
abbrev pub tail_of : Which → (Params → Ahead) → Option Ahead
tail_of whiches.Count K = Some (count_ahead K)
tail_of whiches.Sum K = Some (sum_circuit_ahead K)
tail_of whiches.SumVec K = Some (sumvec_ahead K)
tail_of whiches.Histogram K = Some (histogram_ahead K)
tail_of whiches.Multihot K = Some (multihot_ahead K)
tail_of whiches.Other K = None

chosen : (b₁ b₂ b₃ b₄ : Bool) (K : Params → Ahead) →
    cond b₁ (Some (count_ahead K)) (cond b₂ (Some (sumvec_ahead K)) (cond b₃ (Some (histogram_ahead K)) (cond b₄ (Some (multihot_ahead K)) None)))
    ≡ tail_of (cond b₁ whiches.Count (cond b₂ whiches.SumVec (cond b₃ whiches.Histogram (cond b₄ whiches.Multihot whiches.Other)))) K
chosen true b₂ b₃ b₄ K = refl
chosen false true b₃ b₄ K = refl
chosen false false true b₄ K = refl
chosen false false false true K = refl
chosen false false false false K = refl

named-tail : (l : ℕ × ℕ) (k : ℕ) (n : List ℕ) (K : Params → Ahead) (s : List Token) → run l k (next ahead.standard_tail K) (Name n ∷ s) ≡ go_on k false (tail_of (which_of n) K) (λ P. run l (suc k) P s)
unfolding run
named-tail l k n K s =
    ap (λ (o : Option Ahead). go_on k false (ahead.or_else o None) (λ P. run l (suc k) P s)) (chosen (bytes_eq (codes "count") n) (bytes_eq (codes "sumvec") n) (bytes_eq (codes "histogram") n) (bytes_eq (codes "multihot") n) K)
    ∙ or-none (tail_of (which_of n) K)
  where
    or-none : (o : Option Ahead) → go_on k false (ahead.or_else o None) (λ P. run l (suc k) P s) ≡ go_on k false o (λ P. run l (suc k) P s)
    or-none (Some P) = refl
    or-none None = refl

pub tail_which : (l : ℕ × ℕ) (k k' : ℕ) (w : Which) (K : Params → Ahead) (s s' : List Token) → which_starts s ≡ w → Skips k s k' s' → run l k (next ahead.standard_tail K) s ≡ go_on k false (tail_of w K) (λ P. run l k' P s')
unfolding run
tail_which l k k' w K [] s' e h = rw (← e) refl
tail_which l k k' w K (Name n ∷ s) s' e h = rw (← e, h.0, h.1) (named-tail l k n K s)
tail_which l k k' w K (Fixed Sum ∷ s) s' e h = rw (← e, h.0, h.1) refl
tail_which l k k' w K (t ∷ s) s' e h = rw (← e) refl

-- the whole text
pub body_head : (l : ℕ × ℕ) (k : ℕ) (K : Program → Ahead) (s : List Token) → run l k (next ahead.body K) s ≡ run l k (fixed Meas (next ahead.a_numeral (λ m. fixed Semicolon (fixed Joint (next ahead.a_numeral (λ j. fixed Semicolon (next ahead.decl (λ v. next ahead.more_decls (λ more. next ahead.stmts (λ w. K (record { meas = m; joint = j; gadgets = v ∷ more; stmts = statements w }))))))))))) s
unfolding run
body_head l k K [] = refl
body_head l k K (Number n ∷ s) = refl
body_head l k K (Name n ∷ s) = refl
body_head l k K (Fixed Meas ∷ s) = refl
body_head l k K (t ∷ s) = refl

pub circuit_use : (l : ℕ × ℕ) (k : ℕ) (K : Text → Ahead) (s : List Token) → is_next Use s ≡ true → run l k (next ahead.circuit K) s ≡ run l k (fixed Use (next ahead.standard_tail (λ v. K (standard v)))) s
unfolding run
circuit_use l k K [] h = cc
circuit_use l k K (Fixed Use ∷ s) h = refl
circuit_use l k K (t ∷ s) h = cc

pub circuit_body : (l : ℕ × ℕ) (k : ℕ) (K : Text → Ahead) (s : List Token) → is_next Use s ≡ false → run l k (next ahead.circuit K) s ≡ run l k (next ahead.body (λ v. K (program v))) s
unfolding run
circuit_body l k K [] h = refl
circuit_body l k K (Fixed Use ∷ s) h = cc
circuit_body l k K (t ∷ s) h = refl

pub text_ends : (l : ℕ × ℕ) (k : ℕ) (c : Text) (s : List Token) → s ≡ [] → run l k (done c) s ≡ good c
unfolding run
text_ends l k c s e = rw e refl

pub text_goes_on : (l : ℕ × ℕ) (k : ℕ) (c : Text) (s : List Token) → (s ≡ [] → ⊥) → run l k (done c) s ≡ bad k
unfolding run
text_goes_on l k c [] h = absurd (h refl)
text_goes_on l k c (t ∷ s) h = refl

-- a kind at the levels that it opens
pub kind_flat : (level k : ℕ) (K : Kind → Ahead) (v w : Kind) (s : List Token) → w ≡ v → psums v ≡ 0 → run (0, level) k (K v) s ≡ run (0, level + psums w) k (K w) s
kind_flat level k K v w s e h =
    let i : level ≡ level + psums v = omega arith in
    ap (λ x. run (0, x) k (K v) s) i ∙ ap (λ (x : Kind). run (0, level + psums x) k (K x) s) (sym e)

pub kind_read : (level k : ℕ) (K : Kind → Ahead) (v w : Kind) (s : List Token) → w ≡ v → run (0, level + psums v) k (K v) s ≡ run (0, level + psums w) k (K w) s
kind_read level k K v w s e = ap (λ (x : Kind). run (0, level + psums x) k (K x) s) (sym e)

pub along_from : {A : Type 0} (l : ℕ × ℕ) (k : ℕ) (P : Ahead) (s : List Token) (k₂ : ℕ) (P₂ : Ahead) (s₂ : List Token) (r : Result A LangFault) (l' : A → ℕ × ℕ) (k' : ℕ) (P' : A → Ahead) (s' : List Token) → run l k P s ≡ run l k₂ P₂ s₂ → Runs l k₂ P₂ s₂ r l' k' P' s' → Runs l k P s r l' k' P' s'
along_from l k P s k₂ P₂ s₂ (Ok a) l' k' P' s' e h = e ∙ h
along_from l k P s k₂ P₂ s₂ (Err fault) l' k' P' s' e h = subst (IsFault fault) (sym e) h

pub word_taken : (word : List ℕ) (k k' : ℕ) (s s' : List Token) → is_word word s ≡ true → Skips k s k' s' → (s ≡ Name word ∷ s') × (k' ≡ suc k)
word_taken word k k' [] s' h e = cc
word_taken word k k' (Name n ∷ s) s' h e = let i = bytes_eq-true word n h in (rw (i, e.0) refl, e.1)
word_taken word k k' (Number n ∷ s) s' h e = cc
word_taken word k k' (Fixed m ∷ s) s' h e = cc
