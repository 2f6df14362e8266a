-- A token of a derivation begins its part, or the part is empty: what completes what is ahead from a token on completes what is ahead behind that token.
use Rattle.std.proofs.Common.{ℕ, suc, Bool, false, List, [], ◌∷◌, Option, None, ◌⊎◌, inl, inr}
use Rattle.flp_syntax.specs.Tree.{Index, Tree, Argument, Statement, Kind, Declaration, Program, Text, index_sum, product_of, sum_of, program, one}
use Rattle.flp_lang.specs.Grammar.{IsIndex, an_index, MoreIndexTerms, no_index_term, plus_index_term, minus_index_term, IsIndexTerm, an_index_term, MoreIndexFactors, no_index_factor, star_index_factor, IsIndexPrim, an_index_number, an_index_var, an_index_group, IsExpr, an_expr, a_minus_expr, MoreTerms, no_term, plus_term, minus_term, IsTerm, a_term, MoreFactors, no_factor, star_factor, IsFactor, a_factor, IsExponent, no_exponent, an_exponent, IsPrim, a_number, a_joint, a_meas, a_meas_or_zero, a_sum, a_call, a_var, a_group, IsArgs, some_args, MoreArgs, no_arg, comma_arg, IsArg, an_arg, an_each_arg, IsStmt, a_check, an_out, an_each, IsStmts, some_stmts, MoreStmts, no_stmt, one_more_stmt, IsCoef, a_coef, a_minus_coef, MoreCoefs, no_coef, one_more_coef, IsKind, a_mul, a_poly, a_psum, IsDecl, a_decl, MoreDecls, no_decl, one_more_decl, IsBody, a_body, IsSetting, a_setting, a_count, a_sum_circuit, a_sumvec, a_histogram, a_multihot, IsCircuit, a_standard, a_program}
use Rattle.flp_lang.specs.Ahead as ahead
use Rattle.flp_lang.specs.Ahead.{Ahead, Part, Value, Stands, IsMark, the_mark, IsNumeral, the_numeral, IsNaming, the_name, IsQuestion, no_question, a_question, IsCalled, not_called, with_args, IsTail, count_tail, sum_tail, sumvec_tail, histogram_tail, multihot_tail, next, without_tokens, nothing, start}
use Rattle.flp_lang.proofs.Completes.{Completes, Lives, Passes}
use Rattle.flp_lang.proofs.MarkTests.{bytes_eq-self, same_mark-self}
use Rattle.flp_syntax.specs.declared.syntax.Coef.{Coef}
use Rattle.flp_syntax.specs.declared.syntax.Params.{Params}
use Rattle.flp_syntax.specs.declared.token.Token.{Token}
use Rattle.flp_syntax.specs.declared.token.Token.TheVariants.{Fixed}
use Rattle.flp_syntax.specs.declared.token.Mark.{Mark}
use Rattle.flp_syntax.specs.declared.token.Mark.TheVariants.{Use, Each, Minus}

module _ (c : Text) where
  at_index_prim : {k k' : ℕ} {t : Token} {s s' : List Token} {v : Index} (K : Index → Ahead) → IsIndexPrim k (t ∷ s) k' s' v → Completes (K v) k' s' c → Lives (ahead.start_index_prim k t K) (suc k) s c
  at_index_prim K an_index_number C = C
  at_index_prim K an_index_var C = C
  at_index_prim K (an_index_group d) C = (_, _, _, d, (_, _, _, the_mark, C))

  at_index_term : {k k' : ℕ} {t : Token} {s s' : List Token} {v : Index} (K : Index → Ahead) → IsIndexTerm k (t ∷ s) k' s' v → Completes (K v) k' s' c → Lives (ahead.start_index_term k t K) (suc k) s c
  at_index_term K (an_index_term d m) C = at_index_prim _ d (_, _, _, m, C)

  at_index : {k k' : ℕ} {t : Token} {s s' : List Token} {v : Index} (K : Index → Ahead) → IsIndex k (t ∷ s) k' s' v → Completes (K v) k' s' c → Lives (ahead.start_index k t K) (suc k) s c
  at_index K (an_index d m) C = at_index_term (λ v. next ahead.index_terms (λ more. K (index_sum v more))) d (_, _, _, m, C)

  at_index_factors : {k k' : ℕ} {t : Token} {s s' : List Token} {v : List Index} (K : List Index → Ahead) → MoreIndexFactors k (t ∷ s) k' s' v → Completes (K v) k' s' c → Lives (ahead.start_index_factors k t K) (suc k) s c ⊎ Completes (K []) k (t ∷ s) c
  at_index_factors K no_index_factor C = inr C
  at_index_factors K (star_index_factor d m) C = inl (_, _, _, d, (_, _, _, m, C))

  at_index_terms : {k k' : ℕ} {t : Token} {s s' : List Token} {v : List (Bool × Index)} (K : List (Bool × Index) → Ahead) → MoreIndexTerms k (t ∷ s) k' s' v → Completes (K v) k' s' c → Lives (ahead.start_index_terms k t K) (suc k) s c ⊎ Completes (K []) k (t ∷ s) c
  at_index_terms K no_index_term C = inr C
  at_index_terms K (plus_index_term d m) C = inl (_, _, _, d, (_, _, _, m, C))
  at_index_terms K (minus_index_term d m) C = inl (_, _, _, d, (_, _, _, m, C))

  at_prim : {k k' : ℕ} {t : Token} {s s' : List Token} {v : Tree} (K : Tree → Ahead) → IsPrim k (t ∷ s) k' s' v → Completes (K v) k' s' c → Lives (ahead.start_prim k t K) (suc k) s c
  at_prim K a_number C = C
  at_prim K (a_joint d) C = (_, _, _, the_mark, (_, _, _, d, (_, _, _, the_mark, C)))
  at_prim K (a_meas d) C = (_, _, _, no_question, (_, _, _, the_mark, (_, _, _, d, (_, _, _, the_mark, C))))
  at_prim K (a_meas_or_zero d) C = (_, _, _, a_question, (_, _, _, the_mark, (_, _, _, d, (_, _, _, the_mark, C))))
  at_prim K (a_sum from to d) C = (_, _, _, the_name, (_, _, _, the_mark, (_, _, _, from, (_, _, _, the_mark, (_, _, _, to, (_, _, _, the_mark, (_, _, _, d, (_, _, _, the_mark, C))))))))
  at_prim K (a_call d) C = (_, _, _, with_args d, C)
  at_prim K a_var C = (_, _, _, not_called, C)
  at_prim K (a_group d) C = (_, _, _, d, (_, _, _, the_mark, C))

  at_factor : {k k' : ℕ} {t : Token} {s s' : List Token} {v : Tree} (K : Tree → Ahead) → IsFactor k (t ∷ s) k' s' v → Completes (K v) k' s' c → Lives (ahead.start_factor k t K) (suc k) s c
  at_factor K (a_factor d m) C = at_prim _ d (_, _, _, m, C)

  at_term : {k k' : ℕ} {t : Token} {s s' : List Token} {v : Tree} (K : Tree → Ahead) → IsTerm k (t ∷ s) k' s' v → Completes (K v) k' s' c → Lives (ahead.start_term k t K) (suc k) s c
  at_term K (a_term d m) C = at_factor (λ v. next ahead.factors (λ more. K (product_of v more))) d (_, _, _, m, C)

  at_plain_expr : (k : ℕ) (s : List Token) (t : Token) (K : Tree → Ahead) → Lives (ahead.start_term k t (λ w. next ahead.terms (λ more. K (sum_of false w more)))) (suc k) s c → Lives (ahead.start_expr k t K) (suc k) s c
  at_plain_expr k s (Fixed Minus) K L = elim L [ ]
  at_plain_expr k s t K L = L

  at_expr : {k k' : ℕ} {t : Token} {s s' : List Token} {v : Tree} (K : Tree → Ahead) → IsExpr k (t ∷ s) k' s' v → Completes (K v) k' s' c → Lives (ahead.start_expr k t K) (suc k) s c
  at_expr K (an_expr d m) C = at_plain_expr _ _ _ K (at_term (λ v. next ahead.terms (λ more. K (sum_of false v more))) d (_, _, _, m, C))
  at_expr K (a_minus_expr d m) C = (_, _, _, d, (_, _, _, m, C))

  at_terms : {k k' : ℕ} {t : Token} {s s' : List Token} {v : List (Bool × Tree)} (K : List (Bool × Tree) → Ahead) → MoreTerms k (t ∷ s) k' s' v → Completes (K v) k' s' c → Lives (ahead.start_terms k t K) (suc k) s c ⊎ Completes (K []) k (t ∷ s) c
  at_terms K no_term C = inr C
  at_terms K (plus_term d m) C = inl (_, _, _, d, (_, _, _, m, C))
  at_terms K (minus_term d m) C = inl (_, _, _, d, (_, _, _, m, C))

  at_factors : {k k' : ℕ} {t : Token} {s s' : List Token} {v : List Tree} (K : List Tree → Ahead) → MoreFactors k (t ∷ s) k' s' v → Completes (K v) k' s' c → Lives (ahead.start_factors k t K) (suc k) s c ⊎ Completes (K []) k (t ∷ s) c
  at_factors K no_factor C = inr C
  at_factors K (star_factor d m) C = inl (_, _, _, d, (_, _, _, m, C))

  at_exponent : {k k' : ℕ} {t : Token} {s s' : List Token} {v : Option Index} (K : Option Index → Ahead) → IsExponent k (t ∷ s) k' s' v → Completes (K v) k' s' c → Lives (ahead.start_exponent k t K) (suc k) s c ⊎ Completes (K None) k (t ∷ s) c
  at_exponent K no_exponent C = inr C
  at_exponent K (an_exponent d) C = inl (_, _, _, d, C)

  at_question : {k k' : ℕ} {t : Token} {s s' : List Token} {v : Bool} (K : Bool → Ahead) → IsQuestion k (t ∷ s) k' s' v → Completes (K v) k' s' c → Lives (ahead.start_question k t K) (suc k) s c ⊎ Completes (K false) k (t ∷ s) c
  at_question K no_question C = inr C
  at_question K a_question C = inl C

  at_called : {k k' : ℕ} {t : Token} {s s' : List Token} {v : Option (List Argument)} (K : Option (List Argument) → Ahead) → IsCalled k (t ∷ s) k' s' v → Completes (K v) k' s' c → Lives (ahead.start_called k t K) (suc k) s c ⊎ Completes (K None) k (t ∷ s) c
  at_called K not_called C = inr C
  at_called K (with_args d) C = inl (_, _, _, d, (_, _, _, the_mark, C))

  at_plain_arg : (k : ℕ) (s : List Token) (t : Token) (K : Argument → Ahead) → Lives (ahead.start_expr k t (λ v. K (one v))) (suc k) s c → Lives (ahead.start_arg k t K) (suc k) s c
  at_plain_arg k s (Fixed Each) K L = elim L [ ]
  at_plain_arg k s t K L = L

  at_arg : {k k' : ℕ} {t : Token} {s s' : List Token} {v : Argument} (K : Argument → Ahead) → IsArg k (t ∷ s) k' s' v → Completes (K v) k' s' c → Lives (ahead.start_arg k t K) (suc k) s c
  at_arg K (an_arg d) C = at_plain_arg _ _ _ K (at_expr (λ v. K (one v)) d C)
  at_arg K (an_each_arg from to d) C = (_, _, _, the_name, (_, _, _, the_mark, (_, _, _, from, (_, _, _, the_mark, (_, _, _, to, (_, _, _, the_mark, (_, _, _, d, (_, _, _, the_mark, C))))))))

  at_args : {k k' : ℕ} {t : Token} {s s' : List Token} {v : List Argument} (K : List Argument → Ahead) → IsArgs k (t ∷ s) k' s' v → Completes (K v) k' s' c → Lives (ahead.start_args k t K) (suc k) s c
  at_args K (some_args d m) C = at_arg (λ v. next ahead.more_args (λ more. K (v ∷ more))) d (_, _, _, m, C)

  at_more_args : {k k' : ℕ} {t : Token} {s s' : List Token} {v : List Argument} (K : List Argument → Ahead) → MoreArgs k (t ∷ s) k' s' v → Completes (K v) k' s' c → Lives (ahead.start_more_args k t K) (suc k) s c ⊎ Completes (K []) k (t ∷ s) c
  at_more_args K no_arg C = inr C
  at_more_args K (comma_arg d m) C = inl (_, _, _, d, (_, _, _, m, C))

  at_stmt : {k k' : ℕ} {t : Token} {s s' : List Token} {v : Statement} (K : Statement → Ahead) → IsStmt k (t ∷ s) k' s' v → Completes (K v) k' s' c → Lives (ahead.start_stmt k t K) (suc k) s c
  at_stmt K (a_check d) C = (_, _, _, d, (_, _, _, the_mark, C))
  at_stmt K (an_out d) C = (_, _, _, d, (_, _, _, the_mark, C))
  at_stmt K (an_each from to d) C = (_, _, _, the_name, (_, _, _, the_mark, (_, _, _, from, (_, _, _, the_mark, (_, _, _, to, (_, _, _, the_mark, (_, _, _, d, (_, _, _, the_mark, C))))))))

  at_stmts : {k k' : ℕ} {t : Token} {s s' : List Token} {v : List Statement} (K : List Statement → Ahead) → IsStmts k (t ∷ s) k' s' v → Completes (K v) k' s' c → Lives (ahead.start_stmts k t K) (suc k) s c
  at_stmts K (some_stmts d m) C = at_stmt (λ v. next ahead.more_stmts (λ more. K (v ∷ more))) d (_, _, _, m, C)

  at_more_stmts : {k k' : ℕ} {t : Token} {s s' : List Token} {v : List Statement} (K : List Statement → Ahead) → MoreStmts k (t ∷ s) k' s' v → Completes (K v) k' s' c → Lives (ahead.start_stmts k t K) (suc k) s c ⊎ Completes (K []) k (t ∷ s) c
  at_more_stmts K no_stmt C = inr C
  at_more_stmts K (one_more_stmt d m) C = inl (at_stmt (λ v. next ahead.more_stmts (λ more. K (v ∷ more))) d (_, _, _, m, C))

  at_coef : {k k' : ℕ} {t : Token} {s s' : List Token} {v : Coef} (K : Coef → Ahead) → IsCoef k (t ∷ s) k' s' v → Completes (K v) k' s' c → Lives (ahead.start_coef k t K) (suc k) s c
  at_coef K a_coef C = C
  at_coef K a_minus_coef C = (_, _, _, the_numeral, C)

  at_more_coefs : {k k' : ℕ} {t : Token} {s s' : List Token} {v : List Coef} (K : List Coef → Ahead) → MoreCoefs k (t ∷ s) k' s' v → Completes (K v) k' s' c → Lives (ahead.start_more_coefs k t K) (suc k) s c ⊎ Completes (K []) k (t ∷ s) c
  at_more_coefs K no_coef C = inr C
  at_more_coefs K (one_more_coef d m) C = inl (at_coef (λ v. next ahead.more_coefs (λ more. K (v ∷ more))) d (_, _, _, m, C))

  at_kind : {k k' : ℕ} {t : Token} {s s' : List Token} {v : Kind} (K : Kind → Ahead) → IsKind k (t ∷ s) k' s' v → Completes (K v) k' s' c → Lives (ahead.start_kind k t K) (suc k) s c
  at_kind K a_mul C = C
  at_kind K (a_poly d m) C = (_, _, _, d, (_, _, _, m, C))
  at_kind K (a_psum d) C = (_, _, _, the_numeral, (_, _, _, d, C))

  at_decl : {k k' : ℕ} {t : Token} {s s' : List Token} {v : Declaration} (K : Declaration → Ahead) → IsDecl k (t ∷ s) k' s' v → Completes (K v) k' s' c → Lives (ahead.start_decl k t K) (suc k) s c
  at_decl K (a_decl d) C = (_, _, _, the_name, (_, _, _, the_mark, (_, _, _, d, (_, _, _, the_mark, C))))

  at_more_decls : {k k' : ℕ} {t : Token} {s s' : List Token} {v : List Declaration} (K : List Declaration → Ahead) → MoreDecls k (t ∷ s) k' s' v → Completes (K v) k' s' c → Lives (ahead.start_more_decls k t K) (suc k) s c ⊎ Completes (K []) k (t ∷ s) c
  at_more_decls K no_decl C = inr C
  at_more_decls K (one_more_decl d m) C = inl (at_decl (λ v. next ahead.more_decls (λ more. K (v ∷ more))) d (_, _, _, m, C))

  at_body : {k k' : ℕ} {t : Token} {s s' : List Token} {v : Program} (K : Program → Ahead) → IsBody k (t ∷ s) k' s' v → Completes (K v) k' s' c → Lives (ahead.start_body k t K) (suc k) s c
  at_body K (a_body d m n) C = (_, _, _, the_numeral, (_, _, _, the_mark, (_, _, _, the_mark, (_, _, _, the_numeral, (_, _, _, the_mark, (_, _, _, d, (_, _, _, m, (_, _, _, n, C))))))))

  at_setting : {k k' : ℕ} {t : Token} {s s' : List Token} {v : ℕ} (name : List ℕ) (K : ℕ → Ahead) → IsSetting name k (t ∷ s) k' s' v → Completes (K v) k' s' c → Lives (ahead.start_setting name t K) (suc k) s c
  at_setting name K a_setting C = rw bytes_eq-self (_, _, _, the_mark, (_, _, _, the_numeral, C))

  at_tail : {k k' : ℕ} {t : Token} {s s' : List Token} {v : Params} (K : Params → Ahead) → IsTail k (t ∷ s) k' s' v → Completes (K v) k' s' c → Lives (ahead.start_tail t K) (suc k) s c
  at_tail K count_tail C = (_, _, _, the_mark, C)
  at_tail K (sum_tail d) C = (_, _, _, d, (_, _, _, the_mark, C))
  at_tail K (sumvec_tail d e f) C = (_, _, _, d, (_, _, _, e, (_, _, _, f, (_, _, _, the_mark, C))))
  at_tail K (histogram_tail d e) C = (_, _, _, d, (_, _, _, e, (_, _, _, the_mark, C)))
  at_tail K (multihot_tail d e f) C = (_, _, _, d, (_, _, _, e, (_, _, _, f, (_, _, _, the_mark, C))))

  at_program : (k : ℕ) (s : List Token) (t : Token) (K : Text → Ahead) → Lives (ahead.start_body k t (λ v. K (program v))) (suc k) s c → Lives (ahead.start_circuit k t K) (suc k) s c
  at_program k s (Fixed Use) K L = elim L [ ]
  at_program k s t K L = L

  at_circuit : {k k' : ℕ} {t : Token} {s s' : List Token} {v : Text} (K : Text → Ahead) → IsCircuit k (t ∷ s) k' s' v → Completes (K v) k' s' c → Lives (ahead.start_circuit k t K) (suc k) s c
  at_circuit K (a_standard a_count) C = (_, _, _, count_tail, C)
  at_circuit K (a_standard (a_sum_circuit d)) C = (_, _, _, sum_tail d, C)
  at_circuit K (a_standard (a_sumvec d e f)) C = (_, _, _, sumvec_tail d e f, C)
  at_circuit K (a_standard (a_histogram d e)) C = (_, _, _, histogram_tail d e, C)
  at_circuit K (a_standard (a_multihot d e f)) C = (_, _, _, multihot_tail d e f, C)
  at_circuit K (a_program d) C = at_program _ _ _ K (at_body (λ v. K (program v)) d C)

  at_mark : {k k' : ℕ} {t : Token} {s s' : List Token} {v : Unit {0}} (m : Mark) (K : Unit {0} → Ahead) → IsMark m k (t ∷ s) k' s' v → Completes (K v) k' s' c → Lives (start (ahead.a_mark m) k t K) (suc k) s c
  at_mark m K the_mark C = rw same_mark-self C

  at_numeral : {k k' : ℕ} {t : Token} {s s' : List Token} {v : ℕ} (K : ℕ → Ahead) → IsNumeral k (t ∷ s) k' s' v → Completes (K v) k' s' c → Lives (ahead.start_numeral t K) (suc k) s c
  at_numeral K the_numeral C = C

  at_naming : {k k' : ℕ} {t : Token} {s s' : List Token} {v : List ℕ} (K : List ℕ → Ahead) → IsNaming k (t ∷ s) k' s' v → Completes (K v) k' s' c → Lives (ahead.start_naming t K) (suc k) s c
  at_naming K the_name C = C

  -- at any part
  pub at_start : (part : Part) (K : Value part → Ahead) (k k' : ℕ) (t : Token) (s s' : List Token) (v : Value part) → Stands part k (t ∷ s) k' s' v → Completes (K v) k' s' c
      → Lives (start part k t K) (suc k) s c ⊎ Passes part K k (t ∷ s) c
  at_start (ahead.a_mark m) K k k' t s s' v d C = inl (at_mark m K d C)
  at_start ahead.a_numeral K k k' t s s' v d C = inl (at_numeral K d C)
  at_start ahead.a_naming K k k' t s s' v d C = inl (at_naming K d C)
  at_start (ahead.setting name) K k k' t s s' v d C = inl (at_setting name K d C)
  at_start ahead.index K k k' t s s' v d C = inl (at_index K d C)
  at_start ahead.index_terms K k k' t s s' v d C = at_index_terms K d C
  at_start ahead.index_term K k k' t s s' v d C = inl (at_index_term K d C)
  at_start ahead.index_factors K k k' t s s' v d C = at_index_factors K d C
  at_start ahead.index_prim K k k' t s s' v d C = inl (at_index_prim K d C)
  at_start ahead.expr K k k' t s s' v d C = inl (at_expr K d C)
  at_start ahead.terms K k k' t s s' v d C = at_terms K d C
  at_start ahead.term K k k' t s s' v d C = inl (at_term K d C)
  at_start ahead.factors K k k' t s s' v d C = at_factors K d C
  at_start ahead.factor K k k' t s s' v d C = inl (at_factor K d C)
  at_start ahead.exponent K k k' t s s' v d C = at_exponent K d C
  at_start ahead.prim K k k' t s s' v d C = inl (at_prim K d C)
  at_start ahead.question K k k' t s s' v d C = at_question K d C
  at_start ahead.called K k k' t s s' v d C = at_called K d C
  at_start ahead.args K k k' t s s' v d C = inl (at_args K d C)
  at_start ahead.more_args K k k' t s s' v d C = at_more_args K d C
  at_start ahead.arg K k k' t s s' v d C = inl (at_arg K d C)
  at_start ahead.stmt K k k' t s s' v d C = inl (at_stmt K d C)
  at_start ahead.stmts K k k' t s s' v d C = inl (at_stmts K d C)
  at_start ahead.more_stmts K k k' t s s' v d C = at_more_stmts K d C
  at_start ahead.coef K k k' t s s' v d C = inl (at_coef K d C)
  at_start ahead.more_coefs K k k' t s s' v d C = at_more_coefs K d C
  at_start ahead.kind K k k' t s s' v d C = inl (at_kind K d C)
  at_start ahead.decl K k k' t s s' v d C = inl (at_decl K d C)
  at_start ahead.more_decls K k k' t s s' v d C = at_more_decls K d C
  at_start ahead.body K k k' t s s' v d C = inl (at_body K d C)
  at_start ahead.standard_tail K k k' t s s' v d C = inl (at_tail K d C)
  at_start ahead.circuit K k k' t s s' v d C = inl (at_circuit K d C)
