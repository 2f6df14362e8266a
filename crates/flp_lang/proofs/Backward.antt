-- What completes what is ahead behind a token that begins a part completes the part from that token on.
use Rattle.std.proofs.Common.{subst, ℕ, suc, Bool, true, false, cond, codes, List, ◌∷◌, Option, None, Some, ◌≡◌, refl}
use Rattle.flp_syntax.specs.Tree.{Index, Tree, Argument, Statement, Kind, Declaration, Program, Text, index_product, index_sum, product_of, power_of, sum_of, standard, program, one}
use Rattle.flp_lang.specs.Grammar.{an_index, plus_index_term, minus_index_term, an_index_term, star_index_factor, an_index_number, an_index_var, an_index_group, an_expr, a_minus_expr, plus_term, minus_term, a_term, star_factor, a_factor, an_exponent, a_number, a_joint, a_meas, a_meas_or_zero, a_sum, a_call, a_var, a_group, some_args, comma_arg, an_arg, an_each_arg, a_check, an_out, an_each, some_stmts, one_more_stmt, a_coef, a_minus_coef, one_more_coef, a_mul, a_poly, a_psum, a_decl, one_more_decl, a_body, a_setting, a_count, a_sum_circuit, a_sumvec, a_histogram, a_multihot, a_standard, a_program}
use Rattle.std.specs.Str.{bytes_eq}
use Rattle.flp_lang.specs.Marks.{is_mark}
use Rattle.flp_lang.specs.Ahead as ahead
use Rattle.flp_lang.specs.Ahead.{Ahead, Part, Value, Stands, IsMark, the_mark, IsNumeral, the_numeral, IsNaming, the_name, IsQuestion, no_question, a_question, IsCalled, not_called, with_args, IsTail, count_tail, sum_tail, sumvec_tail, histogram_tail, multihot_tail, next, without_tokens, nothing, start}
use Rattle.flp_lang.proofs.Completes.{Completes, Lives}
use Rattle.flp_lang.proofs.MarkTests.{bytes_eq-true, is_mark-true}
use Rattle.flp_syntax.specs.declared.syntax.Coef.{Coef}
use Rattle.flp_syntax.specs.declared.syntax.Params.{Params}
use Rattle.flp_syntax.specs.declared.syntax.Params.TheVariants as params
use Rattle.flp_syntax.specs.declared.token.Token.{Token}
use Rattle.flp_syntax.specs.declared.token.Token.TheVariants.{Number, Name, Fixed}
use Rattle.flp_syntax.specs.declared.token.Mark.{Mark}
use Rattle.flp_syntax.specs.declared.token.Mark.TheVariants.{Use, Meas, Joint, Gadget, Check, Out, Each, Sum, Mul, Poly, Psum, Semicolon, Equals, Question, Open, Plus, Minus, Star, Caret, Comma}

module _ (c : Text) where
  of_index_prim : (K : Index → Ahead) (k : ℕ) (t : Token) (s : List Token) → Lives (ahead.start_index_prim k t K) (suc k) s c → Completes (next ahead.index_prim K) k (t ∷ s) c
  of_index_prim K k (Number n) s C = (_, _, _, an_index_number, C)
  of_index_prim K k (Name n) s C = (_, _, _, an_index_var, C)
  of_index_prim K k (Fixed Open) s (k₁, s₁, v, d, (k₂, s₂, u, the_mark, C)) = (_, _, _, an_index_group d, C)
  of_index_prim K k t s L = elim L [ ]

  join_index_term : (K : Index → Ahead) (k : ℕ) (s : List Token) → Completes (next ahead.index_prim (λ v. next ahead.index_factors (λ more. K (index_product v more)))) k s c → Completes (next ahead.index_term K) k s c
  join_index_term K k s (k₁, s₁, v, d, (k₂, s₂, more, m, C)) = (_, _, _, an_index_term d m, C)

  of_index_term : (K : Index → Ahead) (k : ℕ) (t : Token) (s : List Token) → Lives (ahead.start_index_term k t K) (suc k) s c → Completes (next ahead.index_term K) k (t ∷ s) c
  of_index_term K k t s L = join_index_term K k (t ∷ s) (of_index_prim (λ v. next ahead.index_factors (λ more. K (index_product v more))) k t s L)

  join_index : (K : Index → Ahead) (k : ℕ) (s : List Token) → Completes (next ahead.index_term (λ v. next ahead.index_terms (λ more. K (index_sum v more)))) k s c → Completes (next ahead.index K) k s c
  join_index K k s (k₁, s₁, v, d, (k₂, s₂, more, m, C)) = (_, _, _, an_index d m, C)

  of_index : (K : Index → Ahead) (k : ℕ) (t : Token) (s : List Token) → Lives (ahead.start_index k t K) (suc k) s c → Completes (next ahead.index K) k (t ∷ s) c
  of_index K k t s L = join_index K k (t ∷ s) (of_index_term (λ v. next ahead.index_terms (λ more. K (index_sum v more))) k t s L)

  of_index_factors : (K : List Index → Ahead) (k : ℕ) (t : Token) (s : List Token) → Lives (ahead.start_index_factors k t K) (suc k) s c → Completes (next ahead.index_factors K) k (t ∷ s) c
  of_index_factors K k (Fixed Star) s (k₁, s₁, v, d, (k₂, s₂, more, m, C)) = (_, _, _, star_index_factor d m, C)
  of_index_factors K k t s L = elim L [ ]

  of_index_terms : (K : List (Bool × Index) → Ahead) (k : ℕ) (t : Token) (s : List Token) → Lives (ahead.start_index_terms k t K) (suc k) s c → Completes (next ahead.index_terms K) k (t ∷ s) c
  of_index_terms K k (Fixed Plus) s (k₁, s₁, v, d, (k₂, s₂, more, m, C)) = (_, _, _, plus_index_term d m, C)
  of_index_terms K k (Fixed Minus) s (k₁, s₁, v, d, (k₂, s₂, more, m, C)) = (_, _, _, minus_index_term d m, C)
  of_index_terms K k t s L = elim L [ ]

  of_prim : (K : Tree → Ahead) (k : ℕ) (t : Token) (s : List Token) → Lives (ahead.start_prim k t K) (suc k) s c → Completes (next ahead.prim K) k (t ∷ s) c
  of_prim K k (Number n) s C = (_, _, _, a_number, C)
  of_prim K k (Name n) s (k₁, s₁, v, not_called, C) = (_, _, _, a_var, C)
  of_prim K k (Name n) s (k₁, s₁, v, with_args d, C) = (_, _, _, a_call d, C)
  of_prim K k (Fixed Joint) s (k₁, s₁, u, the_mark, (k₂, s₂, v, d, (k₃, s₃, u', the_mark, C))) = (_, _, _, a_joint d, C)
  of_prim K k (Fixed Meas) s (k₁, s₁, b, no_question, (k₂, s₂, u, the_mark, (k₃, s₃, v, d, (k₄, s₄, u', the_mark, C)))) = (_, _, _, a_meas d, C)
  of_prim K k (Fixed Meas) s (k₁, s₁, b, a_question, (k₂, s₂, u, the_mark, (k₃, s₃, v, d, (k₄, s₄, u', the_mark, C)))) = (_, _, _, a_meas_or_zero d, C)
  of_prim K k (Fixed Sum) s (k₁, s₁, n, the_name, (k₂, s₂, u, the_mark, (k₃, s₃, from, d, (k₄, s₄, u', the_mark, (k₅, s₅, to, e, (k₆, s₆, u'', the_mark, (k₇, s₇, v, f, (k₈, s₈, u''', the_mark, C)))))))) = (_, _, _, a_sum d e f, C)
  of_prim K k (Fixed Open) s (k₁, s₁, v, d, (k₂, s₂, u, the_mark, C)) = (_, _, _, a_group d, C)
  of_prim K k t s L = elim L [ ]

  join_factor : (K : Tree → Ahead) (k : ℕ) (s : List Token) → Completes (next ahead.prim (λ v. next ahead.exponent (λ more. K (power_of v more)))) k s c → Completes (next ahead.factor K) k s c
  join_factor K k s (k₁, s₁, v, d, (k₂, s₂, more, m, C)) = (_, _, _, a_factor d m, C)

  of_factor : (K : Tree → Ahead) (k : ℕ) (t : Token) (s : List Token) → Lives (ahead.start_factor k t K) (suc k) s c → Completes (next ahead.factor K) k (t ∷ s) c
  of_factor K k t s L = join_factor K k (t ∷ s) (of_prim (λ v. next ahead.exponent (λ e. K (power_of v e))) k t s L)

  join_term : (K : Tree → Ahead) (k : ℕ) (s : List Token) → Completes (next ahead.factor (λ v. next ahead.factors (λ more. K (product_of v more)))) k s c → Completes (next ahead.term K) k s c
  join_term K k s (k₁, s₁, v, d, (k₂, s₂, more, m, C)) = (_, _, _, a_term d m, C)

  of_term : (K : Tree → Ahead) (k : ℕ) (t : Token) (s : List Token) → Lives (ahead.start_term k t K) (suc k) s c → Completes (next ahead.term K) k (t ∷ s) c
  of_term K k t s L = join_term K k (t ∷ s) (of_factor (λ v. next ahead.factors (λ more. K (product_of v more))) k t s L)

  join_expr : (K : Tree → Ahead) (k : ℕ) (s : List Token) → Completes (next ahead.term (λ v. next ahead.terms (λ more. K (sum_of false v more)))) k s c → Completes (next ahead.expr K) k s c
  join_expr K k s (k₁, s₁, v, d, (k₂, s₂, more, m, C)) = (_, _, _, an_expr d m, C)

  of_expr : (K : Tree → Ahead) (k : ℕ) (t : Token) (s : List Token) → Lives (ahead.start_expr k t K) (suc k) s c → Completes (next ahead.expr K) k (t ∷ s) c
  of_expr K k (Fixed Minus) s (k₁, s₁, v, d, (k₂, s₂, more, m, C)) = (_, _, _, a_minus_expr d m, C)
  of_expr K k t s L = join_expr K k (t ∷ s) (of_term (λ v. next ahead.terms (λ more. K (sum_of false v more))) k t s L)

  of_terms : (K : List (Bool × Tree) → Ahead) (k : ℕ) (t : Token) (s : List Token) → Lives (ahead.start_terms k t K) (suc k) s c → Completes (next ahead.terms K) k (t ∷ s) c
  of_terms K k (Fixed Plus) s (k₁, s₁, v, d, (k₂, s₂, more, m, C)) = (_, _, _, plus_term d m, C)
  of_terms K k (Fixed Minus) s (k₁, s₁, v, d, (k₂, s₂, more, m, C)) = (_, _, _, minus_term d m, C)
  of_terms K k t s L = elim L [ ]

  of_factors : (K : List Tree → Ahead) (k : ℕ) (t : Token) (s : List Token) → Lives (ahead.start_factors k t K) (suc k) s c → Completes (next ahead.factors K) k (t ∷ s) c
  of_factors K k (Fixed Star) s (k₁, s₁, v, d, (k₂, s₂, more, m, C)) = (_, _, _, star_factor d m, C)
  of_factors K k t s L = elim L [ ]

  of_exponent : (K : Option Index → Ahead) (k : ℕ) (t : Token) (s : List Token) → Lives (ahead.start_exponent k t K) (suc k) s c → Completes (next ahead.exponent K) k (t ∷ s) c
  of_exponent K k (Fixed Caret) s (k₁, s₁, v, d, C) = (_, _, _, an_exponent d, C)
  of_exponent K k t s L = elim L [ ]

  of_question : (K : Bool → Ahead) (k : ℕ) (t : Token) (s : List Token) → Lives (ahead.start_question k t K) (suc k) s c → Completes (next ahead.question K) k (t ∷ s) c
  of_question K k (Fixed Question) s C = (_, _, _, a_question, C)
  of_question K k t s L = elim L [ ]

  of_called : (K : Option (List Argument) → Ahead) (k : ℕ) (t : Token) (s : List Token) → Lives (ahead.start_called k t K) (suc k) s c → Completes (next ahead.called K) k (t ∷ s) c
  of_called K k (Fixed Open) s (k₁, s₁, v, d, (k₂, s₂, u, the_mark, C)) = (_, _, _, with_args d, C)
  of_called K k t s L = elim L [ ]

  join_arg : (K : Argument → Ahead) (k : ℕ) (s : List Token) → Completes (next ahead.expr (λ v. K (one v))) k s c → Completes (next ahead.arg K) k s c
  join_arg K k s (k₁, s₁, v, d, C) = (_, _, _, an_arg d, C)

  of_arg : (K : Argument → Ahead) (k : ℕ) (t : Token) (s : List Token) → Lives (ahead.start_arg k t K) (suc k) s c → Completes (next ahead.arg K) k (t ∷ s) c
  of_arg K k (Fixed Each) s (k₁, s₁, n, the_name, (k₂, s₂, u, the_mark, (k₃, s₃, from, d, (k₄, s₄, u', the_mark, (k₅, s₅, to, e, (k₆, s₆, u'', the_mark, (k₇, s₇, v, f, (k₈, s₈, u''', the_mark, C)))))))) = (_, _, _, an_each_arg d e f, C)
  of_arg K k t s L = join_arg K k (t ∷ s) (of_expr (λ v. K (one v)) k t s L)

  join_args : (K : List Argument → Ahead) (k : ℕ) (s : List Token) → Completes (next ahead.arg (λ v. next ahead.more_args (λ more. K (v ∷ more)))) k s c → Completes (next ahead.args K) k s c
  join_args K k s (k₁, s₁, v, d, (k₂, s₂, more, m, C)) = (_, _, _, some_args d m, C)

  of_args : (K : List Argument → Ahead) (k : ℕ) (t : Token) (s : List Token) → Lives (ahead.start_args k t K) (suc k) s c → Completes (next ahead.args K) k (t ∷ s) c
  of_args K k t s L = join_args K k (t ∷ s) (of_arg (λ v. next ahead.more_args (λ more. K (v ∷ more))) k t s L)

  of_more_args : (K : List Argument → Ahead) (k : ℕ) (t : Token) (s : List Token) → Lives (ahead.start_more_args k t K) (suc k) s c → Completes (next ahead.more_args K) k (t ∷ s) c
  of_more_args K k (Fixed Comma) s (k₁, s₁, v, d, (k₂, s₂, more, m, C)) = (_, _, _, comma_arg d m, C)
  of_more_args K k t s L = elim L [ ]

  of_stmt : (K : Statement → Ahead) (k : ℕ) (t : Token) (s : List Token) → Lives (ahead.start_stmt k t K) (suc k) s c → Completes (next ahead.stmt K) k (t ∷ s) c
  of_stmt K k (Fixed Check) s (k₁, s₁, v, d, (k₂, s₂, u, the_mark, C)) = (_, _, _, a_check d, C)
  of_stmt K k (Fixed Out) s (k₁, s₁, v, d, (k₂, s₂, u, the_mark, C)) = (_, _, _, an_out d, C)
  of_stmt K k (Fixed Each) s (k₁, s₁, n, the_name, (k₂, s₂, u, the_mark, (k₃, s₃, from, d, (k₄, s₄, u', the_mark, (k₅, s₅, to, e, (k₆, s₆, u'', the_mark, (k₇, s₇, v, f, (k₈, s₈, u''', the_mark, C)))))))) = (_, _, _, an_each d e f, C)
  of_stmt K k t s L = elim L [ ]

  join_stmts : (K : List Statement → Ahead) (k : ℕ) (s : List Token) → Completes (next ahead.stmt (λ v. next ahead.more_stmts (λ more. K (v ∷ more)))) k s c → Completes (next ahead.stmts K) k s c
  join_stmts K k s (k₁, s₁, v, d, (k₂, s₂, more, m, C)) = (_, _, _, some_stmts d m, C)

  of_stmts : (K : List Statement → Ahead) (k : ℕ) (t : Token) (s : List Token) → Lives (ahead.start_stmts k t K) (suc k) s c → Completes (next ahead.stmts K) k (t ∷ s) c
  of_stmts K k t s L = join_stmts K k (t ∷ s) (of_stmt (λ v. next ahead.more_stmts (λ more. K (v ∷ more))) k t s L)

  join_more_stmts : (K : List Statement → Ahead) (k : ℕ) (s : List Token) → Completes (next ahead.stmt (λ v. next ahead.more_stmts (λ more. K (v ∷ more)))) k s c → Completes (next ahead.more_stmts K) k s c
  join_more_stmts K k s (k₁, s₁, v, d, (k₂, s₂, more, m, C)) = (_, _, _, one_more_stmt d m, C)

  of_more_stmts : (K : List Statement → Ahead) (k : ℕ) (t : Token) (s : List Token) → Lives (ahead.start_stmts k t K) (suc k) s c → Completes (next ahead.more_stmts K) k (t ∷ s) c
  of_more_stmts K k t s L = join_more_stmts K k (t ∷ s) (of_stmt (λ v. next ahead.more_stmts (λ more. K (v ∷ more))) k t s L)

  of_coef : (K : Coef → Ahead) (k : ℕ) (t : Token) (s : List Token) → Lives (ahead.start_coef k t K) (suc k) s c → Completes (next ahead.coef K) k (t ∷ s) c
  of_coef K k (Number n) s C = (_, _, _, a_coef, C)
  of_coef K k (Fixed Minus) s (k₁, s₁, n, the_numeral, C) = (_, _, _, a_minus_coef, C)
  of_coef K k t s L = elim L [ ]

  join_more_coefs : (K : List Coef → Ahead) (k : ℕ) (s : List Token) → Completes (next ahead.coef (λ v. next ahead.more_coefs (λ more. K (v ∷ more)))) k s c → Completes (next ahead.more_coefs K) k s c
  join_more_coefs K k s (k₁, s₁, v, d, (k₂, s₂, more, m, C)) = (_, _, _, one_more_coef d m, C)

  of_more_coefs : (K : List Coef → Ahead) (k : ℕ) (t : Token) (s : List Token) → Lives (ahead.start_more_coefs k t K) (suc k) s c → Completes (next ahead.more_coefs K) k (t ∷ s) c
  of_more_coefs K k t s L = join_more_coefs K k (t ∷ s) (of_coef (λ v. next ahead.more_coefs (λ more. K (v ∷ more))) k t s L)

  of_kind : (K : Kind → Ahead) (k : ℕ) (t : Token) (s : List Token) → Lives (ahead.start_kind k t K) (suc k) s c → Completes (next ahead.kind K) k (t ∷ s) c
  of_kind K k (Fixed Mul) s C = (_, _, _, a_mul, C)
  of_kind K k (Fixed Poly) s (k₁, s₁, v, d, (k₂, s₂, more, m, C)) = (_, _, _, a_poly d m, C)
  of_kind K k (Fixed Psum) s (k₁, s₁, n, the_numeral, (k₂, s₂, v, d, C)) = (_, _, _, a_psum d, C)
  of_kind K k t s L = elim L [ ]

  of_decl : (K : Declaration → Ahead) (k : ℕ) (t : Token) (s : List Token) → Lives (ahead.start_decl k t K) (suc k) s c → Completes (next ahead.decl K) k (t ∷ s) c
  of_decl K k (Fixed Gadget) s (k₁, s₁, n, the_name, (k₂, s₂, u, the_mark, (k₃, s₃, v, d, (k₄, s₄, u', the_mark, C)))) = (_, _, _, a_decl d, C)
  of_decl K k t s L = elim L [ ]

  join_more_decls : (K : List Declaration → Ahead) (k : ℕ) (s : List Token) → Completes (next ahead.decl (λ v. next ahead.more_decls (λ more. K (v ∷ more)))) k s c → Completes (next ahead.more_decls K) k s c
  join_more_decls K k s (k₁, s₁, v, d, (k₂, s₂, more, m, C)) = (_, _, _, one_more_decl d m, C)

  of_more_decls : (K : List Declaration → Ahead) (k : ℕ) (t : Token) (s : List Token) → Lives (ahead.start_more_decls k t K) (suc k) s c → Completes (next ahead.more_decls K) k (t ∷ s) c
  of_more_decls K k t s L = join_more_decls K k (t ∷ s) (of_decl (λ v. next ahead.more_decls (λ more. K (v ∷ more))) k t s L)

  of_body : (K : Program → Ahead) (k : ℕ) (t : Token) (s : List Token) → Lives (ahead.start_body k t K) (suc k) s c → Completes (next ahead.body K) k (t ∷ s) c
  of_body K k (Fixed Meas) s (k₁, s₁, m, the_numeral, (k₂, s₂, u, the_mark, (k₃, s₃, u', the_mark, (k₄, s₄, j, the_numeral, (k₅, s₅, u'', the_mark, (k₆, s₆, v, d, (k₇, s₇, more, e, (k₈, s₈, w, f, C)))))))) = (_, _, _, a_body d e f, C)
  of_body K k t s L = elim L [ ]

  a_set : (name : List ℕ) (K : ℕ → Ahead) (k : ℕ) (s : List Token) → Completes (ahead.fixed Equals (next ahead.a_numeral K)) (suc k) s c → Completes (next (ahead.setting name) K) k (Name name ∷ s) c
  a_set name K k s (k₁, s₁, u, the_mark, (k₂, s₂, v, the_numeral, C)) = (_, _, _, a_setting, C)

  -- a choice by a name
  by_name : (P : Part) (K : Value P → Ahead) (k : ℕ) (s : List Token) (w n : List ℕ) (this : Ahead) (other : Option Ahead) → (Completes this (suc k) s c → Completes (next P K) k (Name w ∷ s) c) → (Lives other (suc k) s c → Completes (next P K) k (Name n ∷ s) c)
      → Lives (cond (bytes_eq w n) (Some this) other) (suc k) s c → Completes (next P K) k (Name n ∷ s) c
  by_name P K k s w n this other here there L = go (bytes_eq w n) refl L
    where
      go : (b : Bool) → bytes_eq w n ≡ b → Lives (cond b (Some this) other) (suc k) s c → Completes (next P K) k (Name n ∷ s) c
      go true e C = subst (λ (x : List ℕ). Completes (next P K) k (Name x ∷ s) c) (bytes_eq-true w n e) (here C)
      go false e C = there C

  of_setting : (name : List ℕ) (K : ℕ → Ahead) (k : ℕ) (t : Token) (s : List Token) → Lives (ahead.start_setting name t K) (suc k) s c → Completes (next (ahead.setting name) K) k (t ∷ s) c
  of_setting name K k (Name n) s L = by_name (ahead.setting name) K k s name n _ None (a_set name K k s) (λ M. elim M [ ]) L
  of_setting name K k (Number n) s L = elim L [ ]
  of_setting name K k (Fixed m) s L = elim L [ ]

  a_counted : (K : Params → Ahead) (k : ℕ) (s : List Token) → Completes (ahead.fixed Semicolon (K params.Count)) (suc k) s c → Completes (next ahead.standard_tail K) k (Name (codes "count") ∷ s) c
  a_counted K k s (k₁, s₁, u, the_mark, C) = (_, _, _, count_tail, C)

  a_sumvec_tail : (K : Params → Ahead) (k : ℕ) (s : List Token) → Completes (next (ahead.setting (codes "length")) (λ l. next (ahead.setting (codes "bits")) (λ b. next (ahead.setting (codes "chunk")) (λ w. ahead.fixed Semicolon (K (params.SumVec l b w)))))) (suc k) s c → Completes (next ahead.standard_tail K) k (Name (codes "sumvec") ∷ s) c
  a_sumvec_tail K k s (k₁, s₁, l, d, (k₂, s₂, b, e, (k₃, s₃, w, f, (k₄, s₄, u, the_mark, C)))) = (_, _, _, sumvec_tail d e f, C)

  a_histogram_tail : (K : Params → Ahead) (k : ℕ) (s : List Token) → Completes (next (ahead.setting (codes "length")) (λ l. next (ahead.setting (codes "chunk")) (λ w. ahead.fixed Semicolon (K (params.Histogram l w))))) (suc k) s c → Completes (next ahead.standard_tail K) k (Name (codes "histogram") ∷ s) c
  a_histogram_tail K k s (k₁, s₁, l, d, (k₃, s₃, w, f, (k₄, s₄, u, the_mark, C))) = (_, _, _, histogram_tail d f, C)

  a_multihot_tail : (K : Params → Ahead) (k : ℕ) (s : List Token) → Completes (next (ahead.setting (codes "length")) (λ l. next (ahead.setting (codes "weight")) (λ b. next (ahead.setting (codes "chunk")) (λ w. ahead.fixed Semicolon (K (params.Multihot l b w)))))) (suc k) s c → Completes (next ahead.standard_tail K) k (Name (codes "multihot") ∷ s) c
  a_multihot_tail K k s (k₁, s₁, l, d, (k₂, s₂, b, e, (k₃, s₃, w, f, (k₄, s₄, u, the_mark, C)))) = (_, _, _, multihot_tail d e f, C)

  of_tail : (K : Params → Ahead) (k : ℕ) (t : Token) (s : List Token) → Lives (ahead.start_tail t K) (suc k) s c → Completes (next ahead.standard_tail K) k (t ∷ s) c
  of_tail K k (Name n) s L =
      by_name ahead.standard_tail K k s (codes "count") n _ _ (a_counted K k s)
      (by_name ahead.standard_tail K k s (codes "sumvec") n _ _ (a_sumvec_tail K k s)
      (by_name ahead.standard_tail K k s (codes "histogram") n _ _ (a_histogram_tail K k s)
      (by_name ahead.standard_tail K k s (codes "multihot") n _ None (a_multihot_tail K k s) (λ M. elim M [ ])))) L
  of_tail K k (Fixed Sum) s (k₁, s₁, m, d, (k₂, s₂, u, the_mark, C)) = (_, _, _, sum_tail d, C)
  of_tail K k t s L = elim L [ ]

  join_program : (K : Text → Ahead) (k : ℕ) (s : List Token) → Completes (next ahead.body (λ v. K (program v))) k s c → Completes (next ahead.circuit K) k s c
  join_program K k s (k₁, s₁, v, d, C) = (_, _, _, a_program d, C)

  join_standard : (K : Text → Ahead) (k : ℕ) (s : List Token) → Completes (next ahead.standard_tail (λ v. K (standard v))) (suc k) s c → Completes (next ahead.circuit K) k (Fixed Use ∷ s) c
  join_standard K k s (k₁, s₁, v, count_tail, C) = (_, _, _, a_standard a_count, C)
  join_standard K k s (k₁, s₁, v, sum_tail d, C) = (_, _, _, a_standard (a_sum_circuit d), C)
  join_standard K k s (k₁, s₁, v, sumvec_tail d e f, C) = (_, _, _, a_standard (a_sumvec d e f), C)
  join_standard K k s (k₁, s₁, v, histogram_tail d e, C) = (_, _, _, a_standard (a_histogram d e), C)
  join_standard K k s (k₁, s₁, v, multihot_tail d e f, C) = (_, _, _, a_standard (a_multihot d e f), C)

  of_circuit : (K : Text → Ahead) (k : ℕ) (t : Token) (s : List Token) → Lives (ahead.start_circuit k t K) (suc k) s c → Completes (next ahead.circuit K) k (t ∷ s) c
  of_circuit K k (Fixed Use) s L = join_standard K k s L
  of_circuit K k t s L = join_program K k (t ∷ s) (of_body (λ v. K (program v)) k t s L)

  of_mark : (m : Mark) (K : Unit {0} → Ahead) (k : ℕ) (t : Token) (s : List Token) → Lives (start (ahead.a_mark m) k t K) (suc k) s c → Completes (next (ahead.a_mark m) K) k (t ∷ s) c
  of_mark m K k t s L = go (is_mark m t) refl L
    where
      go : (b : Bool) → is_mark m t ≡ b → Lives (cond b (Some (K tt)) None) (suc k) s c → Completes (next (ahead.a_mark m) K) k (t ∷ s) c
      go true e C = rw (is_mark-true m t e) (_, _, _, the_mark, C)
      go false e C = elim C [ ]

  of_numeral : (K : ℕ → Ahead) (k : ℕ) (t : Token) (s : List Token) → Lives (ahead.start_numeral t K) (suc k) s c → Completes (next ahead.a_numeral K) k (t ∷ s) c
  of_numeral K k (Number n) s C = (_, _, _, the_numeral, C)
  of_numeral K k (Name n) s L = elim L [ ]
  of_numeral K k (Fixed m) s L = elim L [ ]

  of_naming : (K : List ℕ → Ahead) (k : ℕ) (t : Token) (s : List Token) → Lives (ahead.start_naming t K) (suc k) s c → Completes (next ahead.a_naming K) k (t ∷ s) c
  of_naming K k (Name n) s C = (_, _, _, the_name, C)
  of_naming K k (Number n) s L = elim L [ ]
  of_naming K k (Fixed m) s L = elim L [ ]

  -- at any part
  pub of_start : (part : Part) (K : Value part → Ahead) (k : ℕ) (t : Token) (s : List Token) → Lives (start part k t K) (suc k) s c → Completes (next part K) k (t ∷ s) c
  of_start (ahead.a_mark m) K k t s L = of_mark m K k t s L
  of_start ahead.a_numeral K k t s L = of_numeral K k t s L
  of_start ahead.a_naming K k t s L = of_naming K k t s L
  of_start (ahead.setting name) K k t s L = of_setting name K k t s L
  of_start ahead.index K k t s L = of_index K k t s L
  of_start ahead.index_terms K k t s L = of_index_terms K k t s L
  of_start ahead.index_term K k t s L = of_index_term K k t s L
  of_start ahead.index_factors K k t s L = of_index_factors K k t s L
  of_start ahead.index_prim K k t s L = of_index_prim K k t s L
  of_start ahead.expr K k t s L = of_expr K k t s L
  of_start ahead.terms K k t s L = of_terms K k t s L
  of_start ahead.term K k t s L = of_term K k t s L
  of_start ahead.factors K k t s L = of_factors K k t s L
  of_start ahead.factor K k t s L = of_factor K k t s L
  of_start ahead.exponent K k t s L = of_exponent K k t s L
  of_start ahead.prim K k t s L = of_prim K k t s L
  of_start ahead.question K k t s L = of_question K k t s L
  of_start ahead.called K k t s L = of_called K k t s L
  of_start ahead.args K k t s L = of_args K k t s L
  of_start ahead.more_args K k t s L = of_more_args K k t s L
  of_start ahead.arg K k t s L = of_arg K k t s L
  of_start ahead.stmt K k t s L = of_stmt K k t s L
  of_start ahead.stmts K k t s L = of_stmts K k t s L
  of_start ahead.more_stmts K k t s L = of_more_stmts K k t s L
  of_start ahead.coef K k t s L = of_coef K k t s L
  of_start ahead.more_coefs K k t s L = of_more_coefs K k t s L
  of_start ahead.kind K k t s L = of_kind K k t s L
  of_start ahead.decl K k t s L = of_decl K k t s L
  of_start ahead.more_decls K k t s L = of_more_decls K k t s L
  of_start ahead.body K k t s L = of_body K k t s L
  of_start ahead.standard_tail K k t s L = of_tail K k t s L
  of_start ahead.circuit K k t s L = of_circuit K k t s L
