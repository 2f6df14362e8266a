-- After each part that can go on, what is ahead begins with other tokens: so one token decides.
use Rattle.std.proofs.Common.{ℕ, Bool, true, false, cond, codes, List, [], ◌∷◌, Option, None, Some, ◌≡◌, refl, ap}
use Rattle.flp_lang.specs.Marks.{is_mark}
use Rattle.std.specs.Str.{bytes_eq}
use Rattle.flp_syntax.specs.Tree.{joint, sum, check, out, each, each_arg, arguments, statements, poly_kind, Index, Tree, Argument, Statement, Kind, Declaration, Program, Text, index_product, index_sum, product_of, power_of, sum_of, program, one}
use Rattle.flp_lang.specs.Ahead as ahead
use Rattle.flp_lang.specs.Ahead.{Ahead, done, next, fixed, range, Part, Value, start, nothing, without_tokens, or_else, after_token, a_mark}
use Rattle.flp_lang.proofs.MarkTests.{is_mark-true}
use Rattle.flp_syntax.specs.declared.syntax.Coef.{Coef}
use Rattle.flp_syntax.specs.declared.syntax.Params.{Params}
use Rattle.flp_syntax.specs.declared.token.Token.{Token}
use Rattle.flp_syntax.specs.declared.token.Token.TheVariants.{Number, Name, Fixed}
use Rattle.flp_syntax.specs.declared.token.Mark.{Mark}
use Rattle.flp_syntax.specs.declared.token.Mark.TheVariants.{Use, Meas, Joint, Gadget, Check, Out, Each, Sum, Mul, Poly, Psum, Semicolon, Equals, OpenBracket, CloseBracket, Question, Open, Close, Plus, Minus, Star, Caret, Comma, DotDot}

-- the tokens by which a part that stands can go on
abbrev pub no_tail : Token → Bool
no_tail t = false

abbrev pub index_tail : Token → Bool
index_tail (Fixed Plus) = true
index_tail (Fixed Minus) = true
index_tail (Fixed Star) = true
index_tail _ = false

abbrev pub index_term_tail : Token → Bool
index_term_tail (Fixed Star) = true
index_term_tail _ = false

abbrev pub expr_tail : Token → Bool
expr_tail (Fixed Plus) = true
expr_tail (Fixed Minus) = true
expr_tail (Fixed Star) = true
expr_tail (Fixed Caret) = true
expr_tail (Fixed Open) = true
expr_tail _ = false

abbrev pub term_tail : Token → Bool
term_tail (Fixed Star) = true
term_tail (Fixed Caret) = true
term_tail (Fixed Open) = true
term_tail _ = false

abbrev pub factor_tail : Token → Bool
factor_tail (Fixed Caret) = true
factor_tail (Fixed Open) = true
factor_tail _ = false

abbrev pub prim_tail : Token → Bool
prim_tail (Fixed Open) = true
prim_tail _ = false

abbrev pub question_tail : Token → Bool
question_tail (Fixed Question) = true
question_tail _ = false

abbrev pub args_tail : Token → Bool
args_tail (Fixed Comma) = true
args_tail (Fixed Plus) = true
args_tail (Fixed Minus) = true
args_tail (Fixed Star) = true
args_tail (Fixed Caret) = true
args_tail (Fixed Open) = true
args_tail _ = false

abbrev pub stmts_tail : Token → Bool
stmts_tail (Fixed Check) = true
stmts_tail (Fixed Out) = true
stmts_tail (Fixed Each) = true
stmts_tail _ = false

abbrev pub coefs_tail : Token → Bool
coefs_tail (Fixed Minus) = true
coefs_tail (Number n) = true
coefs_tail _ = false

abbrev pub decls_tail : Token → Bool
decls_tail (Fixed Gadget) = true
decls_tail _ = false

abbrev pub tail_of : Part → Token → Bool
tail_of (a_mark m) = no_tail
tail_of (ahead.setting name) = no_tail
tail_of ahead.a_numeral = no_tail
tail_of ahead.a_naming = no_tail
tail_of ahead.index = index_tail
tail_of ahead.index_terms = index_tail
tail_of ahead.index_term = index_term_tail
tail_of ahead.index_factors = index_term_tail
tail_of ahead.index_prim = no_tail
tail_of ahead.expr = expr_tail
tail_of ahead.terms = expr_tail
tail_of ahead.term = term_tail
tail_of ahead.factors = term_tail
tail_of ahead.factor = factor_tail
tail_of ahead.exponent = factor_tail
tail_of ahead.prim = prim_tail
tail_of ahead.question = question_tail
tail_of ahead.called = prim_tail
tail_of ahead.args = args_tail
tail_of ahead.more_args = args_tail
tail_of ahead.arg = expr_tail
tail_of ahead.stmt = no_tail
tail_of ahead.stmts = stmts_tail
tail_of ahead.more_stmts = stmts_tail
tail_of ahead.coef = no_tail
tail_of ahead.more_coefs = coefs_tail
tail_of ahead.kind = coefs_tail
tail_of ahead.decl = no_tail
tail_of ahead.more_decls = decls_tail
tail_of ahead.body = stmts_tail
tail_of ahead.standard_tail = no_tail
tail_of ahead.circuit = stmts_tail

abbrev pub Avoids : {V : Type 0} → (Token → Bool) → (V → Ahead) → Type 0
Avoids {V} f K = (v : V) (k : ℕ) (t : Token) → f t ≡ true → after_token k (K v) t ≡ None

abbrev pub Follows : Ahead → Type 0
Follows (done text) = Unit {0}
Follows (next part K) = ((v : Value part) → Follows (K v)) × Avoids (tail_of part) K

abbrev pub FollowsOption : Option Ahead → Type 0
FollowsOption None = Unit {0}
FollowsOption (Some ahead) = Follows ahead

-- what follows a part keeps away from the part's tokens
abbrev pub Behind : {V : Type 0} → (Token → Bool) → (V → Ahead) → Type 0
Behind {V} f K = ((v : V) → Follows (K v)) × Avoids f K

free : {V : Type 0} (K : V → Ahead) → ((v : V) → Follows (K v)) → Behind no_tail K
free K f = (f, λ v k t h. cc)

-- a mark that is none of a part's tokens keeps away from them
avoids_fixed : {V : Type 0} (f : Token → Bool) (m : Mark) (K : V → Ahead) → f (Fixed m) ≡ false → Avoids f (λ v. fixed m (K v))
avoids_fixed f m K e v k t h = go (is_mark m t) refl
  where
    go : (b : Bool) → is_mark m t ≡ b → or_else (cond b (Some (K v)) None) None ≡ None
    go true i = let j : f t ≡ f (Fixed m) = ap f (is_mark-true m t i) in cc
    go false i = refl

follows_fixed : (m : Mark) (P : Ahead) → Follows P → Follows (fixed m P)
follows_fixed m P f = (λ v. f, λ v k t h. cc)

closed : {V : Type 0} (f : Token → Bool) (m : Mark) (K : V → Ahead) → f (Fixed m) ≡ false → ((v : V) → Follows (K v)) → Behind f (λ v. fixed m (K v))
closed f m K e F = (λ v. follows_fixed m (K v) (F v), avoids_fixed f m K e)

follows_range : (K : List ℕ → Index → Index → Ahead) → ((n : List ℕ) (from to : Index) → Follows (K n from to)) → Follows (range K)
follows_range K F =
    ((λ n. (λ _. (closed index_tail DotDot (λ from. next ahead.index (λ to. fixed Open (K n from to))) refl (λ from. closed index_tail Open (λ to. K n from to) refl (λ to. F n from to))), λ _ _ _ h'. cc)), λ _ _ _ h'. cc)

more_index_factors : (K : List Index → Ahead) → Behind index_term_tail K → Behind no_tail (λ v. next ahead.index_factors (λ more. K (v ∷ more)))
more_index_factors K F = ((λ v. (λ more. F.0 _, λ more. F.1 _)), λ _ _ _ h'. cc)

after_index_prim : (K : Index → Ahead) → Behind index_term_tail K → Behind no_tail (λ v. next ahead.index_factors (λ more. K (index_product v more)))
after_index_prim K F = ((λ v. (λ more. F.0 _, λ more. F.1 _)), λ _ _ _ h'. cc)

behind_index_term : {V : Type 0} (K : V → List (Bool × Index) → Ahead) → ((v : V) → Behind index_tail (K v)) → Avoids index_term_tail (λ v. next ahead.index_terms (K v))
behind_index_term K F v k (Fixed Star) h = (F v).1 [] k (Fixed Star) refl
behind_index_term K F v k t h = cc

after_index_term : {V : Type 0} (K : V → List (Bool × Index) → Ahead) → ((v : V) → Behind index_tail (K v)) → Behind index_term_tail (λ v. next ahead.index_terms (K v))
after_index_term K F = (λ v. F v, behind_index_term K F)

at_index_prim : (k : ℕ) (t : Token) (K : Index → Ahead) → Behind no_tail K → FollowsOption (ahead.start_index_prim k t K)
at_index_prim k (Number n) K F = F.0 _
at_index_prim k (Name n) K F = F.0 _
at_index_prim k (Fixed Open) K F = closed index_tail Close K refl F.0
at_index_prim k t K F = tt

at_index_term : (k : ℕ) (t : Token) (K : Index → Ahead) → Behind index_term_tail K → FollowsOption (ahead.start_index_term k t K)
at_index_term k t K F = at_index_prim k t _ (after_index_prim K F)

at_index : (k : ℕ) (t : Token) (K : Index → Ahead) → Behind index_tail K → FollowsOption (ahead.start_index k t K)
at_index k t K F = at_index_term k t (λ v. next ahead.index_terms (λ more. K (index_sum v more))) (after_index_term (λ v more. K (index_sum v more)) (λ v. (λ more. F.0 _, λ more. F.1 _)))

at_index_factors : (k : ℕ) (t : Token) (K : List Index → Ahead) → Behind index_term_tail K → FollowsOption (ahead.start_index_factors k t K)
at_index_factors k (Fixed Star) K F = more_index_factors K F
at_index_factors k t K F = tt

at_index_terms : (k : ℕ) (t : Token) (K : List (Bool × Index) → Ahead) → Behind index_tail K → FollowsOption (ahead.start_index_terms k t K)
at_index_terms k (Fixed Plus) K F = after_index_term (λ v more. K ((false, v) ∷ more)) (λ v. (λ more. F.0 _, λ more. F.1 _))
at_index_terms k (Fixed Minus) K F = after_index_term (λ v more. K ((true, v) ∷ more)) (λ v. (λ more. F.0 _, λ more. F.1 _))
at_index_terms k t K F = tt

behind_prim : {V : Type 0} (K : V → Option Index → Ahead) → ((v : V) → Behind factor_tail (K v)) → Avoids prim_tail (λ v. next ahead.exponent (K v))
behind_prim K F v k (Fixed Open) h = (F v).1 None k (Fixed Open) refl
behind_prim K F v k t h = cc

after_prim : {V : Type 0} (K : V → Option Index → Ahead) → ((v : V) → Behind factor_tail (K v)) → Behind prim_tail (λ v. next ahead.exponent (K v))
after_prim K F = (λ v. F v, behind_prim K F)

behind_factor : {V : Type 0} (K : V → List Tree → Ahead) → ((v : V) → Behind term_tail (K v)) → Avoids factor_tail (λ v. next ahead.factors (K v))
behind_factor K F v k (Fixed Caret) h = (F v).1 [] k (Fixed Caret) refl
behind_factor K F v k (Fixed Open) h = (F v).1 [] k (Fixed Open) refl
behind_factor K F v k t h = cc

after_factor : {V : Type 0} (K : V → List Tree → Ahead) → ((v : V) → Behind term_tail (K v)) → Behind factor_tail (λ v. next ahead.factors (K v))
after_factor K F = (λ v. F v, behind_factor K F)

behind_term : {V : Type 0} (K : V → List (Bool × Tree) → Ahead) → ((v : V) → Behind expr_tail (K v)) → Avoids term_tail (λ v. next ahead.terms (K v))
behind_term K F v k (Fixed Star) h = (F v).1 [] k (Fixed Star) refl
behind_term K F v k (Fixed Caret) h = (F v).1 [] k (Fixed Caret) refl
behind_term K F v k (Fixed Open) h = (F v).1 [] k (Fixed Open) refl
behind_term K F v k t h = cc

after_term : {V : Type 0} (K : V → List (Bool × Tree) → Ahead) → ((v : V) → Behind expr_tail (K v)) → Behind term_tail (λ v. next ahead.terms (K v))
after_term K F = (λ v. F v, behind_term K F)

behind_arg : {V : Type 0} (K : V → List Argument → Ahead) → ((v : V) → Behind args_tail (K v)) → Avoids expr_tail (λ v. next ahead.more_args (K v))
behind_arg K F v k (Fixed Plus) h = (F v).1 [] k (Fixed Plus) refl
behind_arg K F v k (Fixed Minus) h = (F v).1 [] k (Fixed Minus) refl
behind_arg K F v k (Fixed Star) h = (F v).1 [] k (Fixed Star) refl
behind_arg K F v k (Fixed Caret) h = (F v).1 [] k (Fixed Caret) refl
behind_arg K F v k (Fixed Open) h = (F v).1 [] k (Fixed Open) refl
behind_arg K F v k t h = cc

after_arg : {V : Type 0} (K : V → List Argument → Ahead) → ((v : V) → Behind args_tail (K v)) → Behind expr_tail (λ v. next ahead.more_args (K v))
after_arg K F = (λ v. F v, behind_arg K F)

after_stmt : {V : Type 0} (K : V → List Statement → Ahead) → ((v : V) → Behind stmts_tail (K v)) → Behind no_tail (λ v. next ahead.more_stmts (K v))
after_stmt K F = ((λ v. F v), λ _ _ _ h'. cc)

after_coef : {V : Type 0} (K : V → List Coef → Ahead) → ((v : V) → Behind coefs_tail (K v)) → Behind no_tail (λ v. next ahead.more_coefs (K v))
after_coef K F = ((λ v. F v), λ _ _ _ h'. cc)

after_decl : {V : Type 0} (K : V → List Declaration → Ahead) → ((v : V) → Behind decls_tail (K v)) → Behind no_tail (λ v. next ahead.more_decls (K v))
after_decl K F = ((λ v. F v), λ _ _ _ h'. cc)

at_prim : (k : ℕ) (t : Token) (K : Tree → Ahead) → Behind prim_tail K → FollowsOption (ahead.start_prim k t K)
at_prim k (Number n) K F = F.0 _
at_prim k (Name n) K F = (λ v. F.0 _, λ v. F.1 _)
at_prim k (Fixed Joint) K F = (λ _. (closed index_tail CloseBracket (λ v. K (joint k v)) refl (λ v. F.0 _)), λ _ _ _ h'. cc)
at_prim k (Fixed Meas) K F = closed question_tail OpenBracket (λ b. next ahead.index (λ v. fixed CloseBracket (K (ahead.meas_at k b v)))) refl (λ b. closed index_tail CloseBracket (λ v. K (ahead.meas_at k b v)) refl (λ v. F.0 _))
at_prim k (Fixed Sum) K F = follows_range _ (λ n from to. closed expr_tail Close (λ v. K (sum k n from to v)) refl (λ v. F.0 _))
at_prim k (Fixed Open) K F = closed expr_tail Close K refl F.0
at_prim k t K F = tt

at_factor : (k : ℕ) (t : Token) (K : Tree → Ahead) → Behind factor_tail K → FollowsOption (ahead.start_factor k t K)
at_factor k t K F = at_prim k t _ (after_prim (λ v e. K (power_of v e)) (λ v. (λ more. F.0 _, λ more. F.1 _)))

at_term : (k : ℕ) (t : Token) (K : Tree → Ahead) → Behind term_tail K → FollowsOption (ahead.start_term k t K)
at_term k t K F = at_factor k t (λ v. next ahead.factors (λ more. K (product_of v more))) (after_factor (λ v more. K (product_of v more)) (λ v. (λ more. F.0 _, λ more. F.1 _)))

at_expr : (k : ℕ) (t : Token) (K : Tree → Ahead) → Behind expr_tail K → FollowsOption (ahead.start_expr k t K)
at_expr k (Fixed Minus) K F = after_term (λ v more. K (sum_of true v more)) (λ v. (λ more. F.0 _, λ more. F.1 _))
at_expr k t K F = at_term k t (λ v. next ahead.terms (λ more. K (sum_of false v more))) (after_term (λ v more. K (sum_of false v more)) (λ v. (λ more. F.0 _, λ more. F.1 _)))

at_terms : (k : ℕ) (t : Token) (K : List (Bool × Tree) → Ahead) → Behind expr_tail K → FollowsOption (ahead.start_terms k t K)
at_terms k (Fixed Plus) K F = after_term (λ v more. K ((false, v) ∷ more)) (λ v. (λ more. F.0 _, λ more. F.1 _))
at_terms k (Fixed Minus) K F = after_term (λ v more. K ((true, v) ∷ more)) (λ v. (λ more. F.0 _, λ more. F.1 _))
at_terms k t K F = tt

at_factors : (k : ℕ) (t : Token) (K : List Tree → Ahead) → Behind term_tail K → FollowsOption (ahead.start_factors k t K)
at_factors k (Fixed Star) K F = after_factor (λ v more. K (v ∷ more)) (λ v. (λ more. F.0 _, λ more. F.1 _))
at_factors k t K F = tt

at_exponent : (k : ℕ) (t : Token) (K : Option Index → Ahead) → Behind factor_tail K → FollowsOption (ahead.start_exponent k t K)
at_exponent k (Fixed Caret) K F = ((λ v. F.0 _), λ _ _ _ h'. cc)
at_exponent k t K F = tt

at_question : (k : ℕ) (t : Token) (K : Bool → Ahead) → Behind question_tail K → FollowsOption (ahead.start_question k t K)
at_question k (Fixed Question) K F = F.0 _
at_question k t K F = tt

at_called : (k : ℕ) (t : Token) (K : Option (List Argument) → Ahead) → Behind prim_tail K → FollowsOption (ahead.start_called k t K)
at_called k (Fixed Open) K F = closed args_tail Close (λ v. K (Some v)) refl (λ v. F.0 _)
at_called k t K F = tt

at_arg : (k : ℕ) (t : Token) (K : Argument → Ahead) → Behind expr_tail K → FollowsOption (ahead.start_arg k t K)
at_arg k (Fixed Each) K F = follows_range _ (λ n from to. closed args_tail Close (λ v. K (each_arg k n from to (arguments v))) refl (λ v. F.0 _))
at_arg k t K F = at_expr k t (λ v. K (one v)) (λ v. F.0 _, λ v. F.1 _)

at_args : (k : ℕ) (t : Token) (K : List Argument → Ahead) → Behind args_tail K → FollowsOption (ahead.start_args k t K)
at_args k t K F = at_arg k t (λ v. next ahead.more_args (λ more. K (v ∷ more))) (after_arg (λ v more. K (v ∷ more)) (λ v. (λ more. F.0 _, λ more. F.1 _)))

at_more_args : (k : ℕ) (t : Token) (K : List Argument → Ahead) → Behind args_tail K → FollowsOption (ahead.start_more_args k t K)
at_more_args k (Fixed Comma) K F = after_arg (λ v more. K (v ∷ more)) (λ v. (λ more. F.0 _, λ more. F.1 _))
at_more_args k t K F = tt

at_stmt : (k : ℕ) (t : Token) (K : Statement → Ahead) → Behind no_tail K → FollowsOption (ahead.start_stmt k t K)
at_stmt k (Fixed Check) K F = closed expr_tail Semicolon (λ v. K (check k v)) refl (λ v. F.0 _)
at_stmt k (Fixed Out) K F = closed expr_tail Semicolon (λ v. K (out k v)) refl (λ v. F.0 _)
at_stmt k (Fixed Each) K F = follows_range _ (λ n from to. closed stmts_tail Close (λ v. K (each k n from to (statements v))) refl (λ v. F.0 _))
at_stmt k t K F = tt

at_stmts : (k : ℕ) (t : Token) (K : List Statement → Ahead) → Behind stmts_tail K → FollowsOption (ahead.start_stmts k t K)
at_stmts k t K F = at_stmt k t (λ v. next ahead.more_stmts (λ more. K (v ∷ more))) (after_stmt (λ v more. K (v ∷ more)) (λ v. (λ more. F.0 _, λ more. F.1 _)))

at_coef : (k : ℕ) (t : Token) (K : Coef → Ahead) → Behind no_tail K → FollowsOption (ahead.start_coef k t K)
at_coef k (Number n) K F = F.0 _
at_coef k (Fixed Minus) K F = ((λ n. F.0 _), λ _ _ _ h'. cc)
at_coef k t K F = tt

at_more_coefs : (k : ℕ) (t : Token) (K : List Coef → Ahead) → Behind coefs_tail K → FollowsOption (ahead.start_more_coefs k t K)
at_more_coefs k t K F = at_coef k t (λ v. next ahead.more_coefs (λ more. K (v ∷ more))) (after_coef (λ v more. K (v ∷ more)) (λ v. (λ more. F.0 _, λ more. F.1 _)))

at_kind : (k : ℕ) (t : Token) (K : Kind → Ahead) → Behind coefs_tail K → FollowsOption (ahead.start_kind k t K)
at_kind k (Fixed Mul) K F = F.0 _
at_kind k (Fixed Poly) K F = after_coef (λ v more. K (poly_kind (v ∷ more))) (λ v. (λ more. F.0 _, λ more. F.1 _))
at_kind k (Fixed Psum) K F = ((λ n. (λ v. F.0 _, λ v. F.1 _)), λ _ _ _ h'. cc)
at_kind k t K F = tt

at_decl : (k : ℕ) (t : Token) (K : Declaration → Ahead) → Behind no_tail K → FollowsOption (ahead.start_decl k t K)
at_decl k (Fixed Gadget) K F = ((λ n. (λ _. (closed coefs_tail Semicolon (λ v. K (record { at = k; name = n; kind = v })) refl (λ v. F.0 _)), λ _ _ _ h'. cc)), λ _ _ _ h'. cc)
at_decl k t K F = tt

at_more_decls : (k : ℕ) (t : Token) (K : List Declaration → Ahead) → Behind decls_tail K → FollowsOption (ahead.start_more_decls k t K)
at_more_decls k t K F = at_decl k t (λ v. next ahead.more_decls (λ more. K (v ∷ more))) (after_decl (λ v more. K (v ∷ more)) (λ v. (λ more. F.0 _, λ more. F.1 _)))

avoids_stmts : {V : Type 0} (K : V → List Statement → Ahead) → Avoids decls_tail (λ v. next ahead.stmts (K v))
avoids_stmts K v k (Fixed Gadget) h = refl
avoids_stmts K v k t h = cc

at_body : (k : ℕ) (t : Token) (K : Program → Ahead) → Behind stmts_tail K → FollowsOption (ahead.start_body k t K)
at_body k (Fixed Meas) K F =
    ((λ m. (λ _. ((λ _. (((λ j. (λ _. (after_decl (λ v more. next ahead.stmts (λ w. K (record { meas = m; joint = j; gadgets = v ∷ more; stmts = statements w }))) (λ v. (λ more. (λ w. F.0 _, λ w. F.1 _), avoids_stmts (λ more w. K (record { meas = m; joint = j; gadgets = v ∷ more; stmts = statements w }))))), λ _ _ _ h'. cc)), λ _ _ _ h'. cc)), λ _ _ _ h'. cc)), λ _ _ _ h'. cc)), λ _ _ _ h'. cc)
at_body k t K F = tt

at_setting : (name : List ℕ) (t : Token) (K : ℕ → Ahead) → ((v : ℕ) → Follows (K v)) → FollowsOption (ahead.start_setting name t K)
at_setting name (Name n) K F = go (bytes_eq name n)
  where
    go : (b : Bool) → FollowsOption (cond b (Some (fixed Equals (next ahead.a_numeral K))) None)
    go true = (λ _. (free K F), λ _ _ _ h'. cc)
    go false = tt
at_setting name (Number n) K F = tt
at_setting name (Fixed m) K F = tt

at_choice : (b : Bool) (this : Ahead) (other : Option Ahead) → Follows this → FollowsOption other → FollowsOption (cond b (Some this) other)
at_choice true this other F G = F
at_choice false this other F G = G

at_tail : (t : Token) (K : Params → Ahead) → ((v : Params) → Follows (K v)) → FollowsOption (ahead.start_tail t K)
at_tail (Name n) K F =
    at_choice (bytes_eq (codes "count") n) _ _ ((λ _. (F _), λ _ _ _ h'. cc))
    (at_choice (bytes_eq (codes "sumvec") n) _ _ (((λ l. ((λ b. ((λ w. (λ _. (F _), λ _ _ _ h'. cc)), λ _ _ _ h'. cc)), λ _ _ _ h'. cc)), λ _ _ _ h'. cc))
    (at_choice (bytes_eq (codes "histogram") n) _ _ (((λ l. ((λ w. (λ _. (F _), λ _ _ _ h'. cc)), λ _ _ _ h'. cc)), λ _ _ _ h'. cc))
    (at_choice (bytes_eq (codes "multihot") n) _ None (((λ l. ((λ b. ((λ w. (λ _. (F _), λ _ _ _ h'. cc)), λ _ _ _ h'. cc)), λ _ _ _ h'. cc)), λ _ _ _ h'. cc)) tt)))
at_tail (Fixed Sum) K F = ((λ m. (λ _. (F _), λ _ _ _ h'. cc)), λ _ _ _ h'. cc)
at_tail t K F = tt

at_circuit : (k : ℕ) (t : Token) (K : Text → Ahead) → Behind stmts_tail K → FollowsOption (ahead.start_circuit k t K)
at_circuit k (Fixed Use) K F = ((λ v. F.0 _), λ _ _ _ h'. cc)
at_circuit k t K F = at_body k t (λ v. K (program v)) (λ v. F.0 _, λ v. F.1 _)

at_fixed : (m : Mark) (t : Token) (K : Unit {0} → Ahead) → ((v : Unit {0}) → Follows (K v)) → FollowsOption (cond (is_mark m t) (Some (K tt)) None)
at_fixed m t K F = at_choice (is_mark m t) (K tt) None (F tt) tt

at_numeral : (t : Token) (K : ℕ → Ahead) → ((v : ℕ) → Follows (K v)) → FollowsOption (ahead.start_numeral t K)
at_numeral (Number n) K F = F n
at_numeral (Name n) K F = tt
at_numeral (Fixed m) K F = tt

at_naming : (t : Token) (K : List ℕ → Ahead) → ((v : List ℕ) → Follows (K v)) → FollowsOption (ahead.start_naming t K)
at_naming (Name n) K F = F n
at_naming (Number n) K F = tt
at_naming (Fixed m) K F = tt

-- the start: the circuit, and then nothing
pub follows_whole : Follows (next ahead.circuit done)
follows_whole = (λ v. tt, λ v k t h. refl)

-- behind a token that begins a part
follows_start : (part : Part) (k : ℕ) (t : Token) (K : Value part → Ahead) → Behind (tail_of part) K → FollowsOption (start part k t K)
follows_start (a_mark m) k t K F = at_fixed m t K F.0
follows_start ahead.a_numeral k t K F = at_numeral t K F.0
follows_start ahead.a_naming k t K F = at_naming t K F.0
follows_start (ahead.setting name) k t K F = at_setting name t K F.0
follows_start ahead.standard_tail k t K F = at_tail t K F.0
follows_start ahead.more_stmts k t K F = at_stmts k t K F
follows_start ahead.index k t K F = at_index k t K F
follows_start ahead.index_terms k t K F = at_index_terms k t K F
follows_start ahead.index_term k t K F = at_index_term k t K F
follows_start ahead.index_factors k t K F = at_index_factors k t K F
follows_start ahead.index_prim k t K F = at_index_prim k t K F
follows_start ahead.expr k t K F = at_expr k t K F
follows_start ahead.terms k t K F = at_terms k t K F
follows_start ahead.term k t K F = at_term k t K F
follows_start ahead.factors k t K F = at_factors k t K F
follows_start ahead.factor k t K F = at_factor k t K F
follows_start ahead.exponent k t K F = at_exponent k t K F
follows_start ahead.prim k t K F = at_prim k t K F
follows_start ahead.question k t K F = at_question k t K F
follows_start ahead.called k t K F = at_called k t K F
follows_start ahead.args k t K F = at_args k t K F
follows_start ahead.more_args k t K F = at_more_args k t K F
follows_start ahead.arg k t K F = at_arg k t K F
follows_start ahead.stmt k t K F = at_stmt k t K F
follows_start ahead.stmts k t K F = at_stmts k t K F
follows_start ahead.coef k t K F = at_coef k t K F
follows_start ahead.more_coefs k t K F = at_more_coefs k t K F
follows_start ahead.kind k t K F = at_kind k t K F
follows_start ahead.decl k t K F = at_decl k t K F
follows_start ahead.more_decls k t K F = at_more_decls k t K F
follows_start ahead.body k t K F = at_body k t K F
follows_start ahead.circuit k t K F = at_circuit k t K F

follows_else : (this other : Option Ahead) → FollowsOption this → FollowsOption other → FollowsOption (or_else this other)
follows_else (Some P) other F G = F
follows_else None other F G = G

follows_skipped : {V : Type 0} (o : Option V) (f : V → Option Ahead) → ((v : V) → FollowsOption (f v)) → FollowsOption (without_tokens o f)
follows_skipped (Some v) f F = F v
follows_skipped None f F = tt

-- what is ahead behind a token keeps the rule
pub follows_after : (P : Ahead) (k : ℕ) (t : Token) → Follows P → FollowsOption (after_token k P t)
follows_after (done text) k t F = tt
follows_after (next part K) k t F =
    follows_else (start part k t K) _ (follows_start part k t K F) (follows_skipped (nothing part) (λ v. after_token k (K v) t) (λ v. follows_after (K v) k t (F.0 v)))

-- a part that may be of no token is begun by a token of its tail alone
quiet_index_terms : (k : ℕ) (t : Token) (K : List (Bool × Index) → Ahead) → index_tail t ≡ false → ahead.start_index_terms k t K ≡ None
quiet_index_terms k (Fixed Plus) K h = cc
quiet_index_terms k (Fixed Minus) K h = cc
quiet_index_terms k t K h = refl

quiet_index_factors : (k : ℕ) (t : Token) (K : List Index → Ahead) → index_term_tail t ≡ false → ahead.start_index_factors k t K ≡ None
quiet_index_factors k (Fixed Star) K h = cc
quiet_index_factors k t K h = refl

quiet_terms : (k : ℕ) (t : Token) (K : List (Bool × Tree) → Ahead) → expr_tail t ≡ false → ahead.start_terms k t K ≡ None
quiet_terms k (Fixed Plus) K h = cc
quiet_terms k (Fixed Minus) K h = cc
quiet_terms k t K h = refl

quiet_factors : (k : ℕ) (t : Token) (K : List Tree → Ahead) → term_tail t ≡ false → ahead.start_factors k t K ≡ None
quiet_factors k (Fixed Star) K h = cc
quiet_factors k t K h = refl

quiet_exponent : (k : ℕ) (t : Token) (K : Option Index → Ahead) → factor_tail t ≡ false → ahead.start_exponent k t K ≡ None
quiet_exponent k (Fixed Caret) K h = cc
quiet_exponent k t K h = refl

quiet_question : (k : ℕ) (t : Token) (K : Bool → Ahead) → question_tail t ≡ false → ahead.start_question k t K ≡ None
quiet_question k (Fixed Question) K h = cc
quiet_question k t K h = refl

quiet_called : (k : ℕ) (t : Token) (K : Option (List Argument) → Ahead) → prim_tail t ≡ false → ahead.start_called k t K ≡ None
quiet_called k (Fixed Open) K h = cc
quiet_called k t K h = refl

quiet_more_args : (k : ℕ) (t : Token) (K : List Argument → Ahead) → args_tail t ≡ false → ahead.start_more_args k t K ≡ None
quiet_more_args k (Fixed Comma) K h = cc
quiet_more_args k t K h = refl

quiet_more_stmts : (k : ℕ) (t : Token) (K : List Statement → Ahead) → stmts_tail t ≡ false → ahead.start_stmts k t K ≡ None
quiet_more_stmts k (Fixed Check) K h = cc
quiet_more_stmts k (Fixed Out) K h = cc
quiet_more_stmts k (Fixed Each) K h = cc
quiet_more_stmts k t K h = refl

quiet_more_coefs : (k : ℕ) (t : Token) (K : List Coef → Ahead) → coefs_tail t ≡ false → ahead.start_more_coefs k t K ≡ None
quiet_more_coefs k (Fixed Minus) K h = cc
quiet_more_coefs k (Number n) K h = cc
quiet_more_coefs k t K h = refl

quiet_more_decls : (k : ℕ) (t : Token) (K : List Declaration → Ahead) → decls_tail t ≡ false → ahead.start_more_decls k t K ≡ None
quiet_more_decls k (Fixed Gadget) K h = cc
quiet_more_decls k t K h = refl

pub quiet : (part : Part) (e : Value part) → nothing part ≡ Some e → (k : ℕ) (t : Token) (K : Value part → Ahead) → tail_of part t ≡ false → start part k t K ≡ None
quiet (a_mark m) e i k t K h = cc
quiet (ahead.setting name) e i k t K h = cc
quiet ahead.a_numeral e i k t K h = cc
quiet ahead.a_naming e i k t K h = cc
quiet ahead.index e i k t K h = cc
quiet ahead.index_terms e i k t K h = quiet_index_terms k t K h
quiet ahead.index_term e i k t K h = cc
quiet ahead.index_factors e i k t K h = quiet_index_factors k t K h
quiet ahead.index_prim e i k t K h = cc
quiet ahead.expr e i k t K h = cc
quiet ahead.terms e i k t K h = quiet_terms k t K h
quiet ahead.term e i k t K h = cc
quiet ahead.factors e i k t K h = quiet_factors k t K h
quiet ahead.factor e i k t K h = cc
quiet ahead.exponent e i k t K h = quiet_exponent k t K h
quiet ahead.prim e i k t K h = cc
quiet ahead.question e i k t K h = quiet_question k t K h
quiet ahead.called e i k t K h = quiet_called k t K h
quiet ahead.args e i k t K h = cc
quiet ahead.more_args e i k t K h = quiet_more_args k t K h
quiet ahead.arg e i k t K h = cc
quiet ahead.stmt e i k t K h = cc
quiet ahead.stmts e i k t K h = cc
quiet ahead.more_stmts e i k t K h = quiet_more_stmts k t K h
quiet ahead.coef e i k t K h = cc
quiet ahead.more_coefs e i k t K h = quiet_more_coefs k t K h
quiet ahead.kind e i k t K h = cc
quiet ahead.decl e i k t K h = cc
quiet ahead.more_decls e i k t K h = quiet_more_decls k t K h
quiet ahead.body e i k t K h = cc
quiet ahead.standard_tail e i k t K h = cc
quiet ahead.circuit e i k t K h = cc
