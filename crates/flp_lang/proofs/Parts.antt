-- Parts of no token, parts at the end of the tokens, and tokens that fill a part.
use Rattle.std.proofs.Common.{ℕ, suc, Bool, false, codes, List, [], ◌∷◌, Option, None, Some}
use Rattle.flp_syntax.specs.Tree.{Index, Tree, Argument, Statement, Declaration, Program, Text, standard, one}
use Rattle.flp_syntax.specs.Tree.{number, index_number, statements, check, mul_kind}
use Rattle.flp_lang.specs.Grammar.{IsIndex, an_index, MoreIndexTerms, no_index_term, IsIndexTerm, an_index_term, MoreIndexFactors, no_index_factor, IsIndexPrim, an_index_number, IsExpr, an_expr, MoreTerms, no_term, IsTerm, a_term, MoreFactors, no_factor, IsFactor, a_factor, IsExponent, no_exponent, IsPrim, a_number, IsArgs, some_args, MoreArgs, no_arg, IsArg, an_arg, IsStmt, a_check, IsStmts, some_stmts, MoreStmts, no_stmt, one_more_stmt, IsCoef, a_coef, MoreCoefs, no_coef, one_more_coef, a_mul, IsDecl, a_decl, MoreDecls, no_decl, one_more_decl, IsBody, a_body, a_setting, IsStandard, a_count, IsCircuit, a_standard, a_program}
use Rattle.flp_lang.specs.Ahead as ahead
use Rattle.flp_lang.specs.Ahead.{Ahead, Part, Value, Stands, IsMark, the_mark, IsNumeral, the_numeral, IsNaming, the_name, IsQuestion, no_question, a_question, IsCalled, not_called, with_args, IsTail, count_tail, sum_tail, sumvec_tail, histogram_tail, multihot_tail, next, without_tokens, nothing, start}
use Rattle.flp_lang.proofs.Completes.{Completes, Passed}
use Rattle.flp_syntax.specs.declared.syntax.Coef.{Coef}
use Rattle.flp_syntax.specs.declared.syntax.Params.{Params}
use Rattle.flp_syntax.specs.declared.syntax.Params.TheVariants as params
use Rattle.flp_syntax.specs.declared.token.Token.{Token}
use Rattle.flp_syntax.specs.declared.token.Token.TheVariants.{Number, Name, Fixed}
use Rattle.flp_syntax.specs.declared.token.Mark.TheVariants.{Use, Meas, Joint, Gadget, Check, Mul, Semicolon, Equals}

abbrev pub WhereNothing : {V : Type 0} → Option V → (V → Type 0) → Type 0
WhereNothing None P = Unit {0}
WhereNothing (Some v) P = P v

-- a part that may be of no token stands anywhere so
pub nothing_stands : (part : Part) → WhereNothing (nothing part) (λ v. (k : ℕ) (s : List Token) → Stands part k s k s v)
nothing_stands (ahead.a_mark m) = tt
nothing_stands (ahead.setting name) = tt
nothing_stands ahead.a_numeral = tt
nothing_stands ahead.a_naming = tt
nothing_stands ahead.index = tt
nothing_stands ahead.index_terms = λ k s. no_index_term
nothing_stands ahead.index_term = tt
nothing_stands ahead.index_factors = λ k s. no_index_factor
nothing_stands ahead.index_prim = tt
nothing_stands ahead.expr = tt
nothing_stands ahead.terms = λ k s. no_term
nothing_stands ahead.term = tt
nothing_stands ahead.factors = λ k s. no_factor
nothing_stands ahead.factor = tt
nothing_stands ahead.exponent = λ k s. no_exponent
nothing_stands ahead.prim = tt
nothing_stands ahead.question = λ k s. no_question
nothing_stands ahead.called = λ k s. not_called
nothing_stands ahead.args = tt
nothing_stands ahead.more_args = λ k s. no_arg
nothing_stands ahead.arg = tt
nothing_stands ahead.stmt = tt
nothing_stands ahead.stmts = tt
nothing_stands ahead.more_stmts = λ k s. no_stmt
nothing_stands ahead.coef = tt
nothing_stands ahead.more_coefs = λ k s. no_coef
nothing_stands ahead.kind = tt
nothing_stands ahead.decl = tt
nothing_stands ahead.more_decls = λ k s. no_decl
nothing_stands ahead.body = tt
nothing_stands ahead.standard_tail = tt
nothing_stands ahead.circuit = tt

no_index_prim : {k k' : ℕ} {s' : List Token} {v : Index} → IsIndexPrim k [] k' s' v → ⊥
no_index_prim d = elim d [ ]

no_index_term' : {k k' : ℕ} {s' : List Token} {v : Index} → IsIndexTerm k [] k' s' v → ⊥
no_index_term' (an_index_term d m) = no_index_prim d

no_index : {k k' : ℕ} {s' : List Token} {v : Index} → IsIndex k [] k' s' v → ⊥
no_index (an_index d m) = no_index_term' d

no_prim : {k k' : ℕ} {s' : List Token} {v : Tree} → IsPrim k [] k' s' v → ⊥
no_prim d = elim d [ ]

no_factor' : {k k' : ℕ} {s' : List Token} {v : Tree} → IsFactor k [] k' s' v → ⊥
no_factor' (a_factor d m) = no_prim d

no_term' : {k k' : ℕ} {s' : List Token} {v : Tree} → IsTerm k [] k' s' v → ⊥
no_term' (a_term d m) = no_factor' d

no_expr : {k k' : ℕ} {s' : List Token} {v : Tree} → IsExpr k [] k' s' v → ⊥
no_expr (an_expr d m) = no_term' d

no_arg' : {k k' : ℕ} {s' : List Token} {v : Argument} → IsArg k [] k' s' v → ⊥
no_arg' (an_arg d) = no_expr d

no_stmt' : {k k' : ℕ} {s' : List Token} {v : Statement} → IsStmt k [] k' s' v → ⊥
no_stmt' d = elim d [ ]

no_coef' : {k k' : ℕ} {s' : List Token} {v : Coef} → IsCoef k [] k' s' v → ⊥
no_coef' d = elim d [ ]

no_decl' : {k k' : ℕ} {s' : List Token} {v : Declaration} → IsDecl k [] k' s' v → ⊥
no_decl' d = elim d [ ]

no_args : {k k' : ℕ} {s' : List Token} {v : List Argument} → IsArgs k [] k' s' v → ⊥
no_args (some_args d m) = no_arg' d

no_stmts : {k k' : ℕ} {s' : List Token} {v : List Statement} → IsStmts k [] k' s' v → ⊥
no_stmts (some_stmts d m) = no_stmt' d

no_standard : {k k' : ℕ} {s' : List Token} {v : Params} → IsStandard k [] k' s' v → ⊥
no_standard d = elim d [ ]

no_body : {k k' : ℕ} {s' : List Token} {v : Program} → IsBody k [] k' s' v → ⊥
no_body d = elim d [ ]

no_circuit : {k k' : ℕ} {s' : List Token} {v : Text} → IsCircuit k [] k' s' v → ⊥
no_circuit (a_standard d) = no_standard d
no_circuit (a_program d) = no_body d

module _ (c : Text) where
  last_index_terms : {k k' : ℕ} {s' : List Token} {v : List (Bool × Index)} (K : List (Bool × Index) → Ahead) → MoreIndexTerms k [] k' s' v → Completes (K v) k' s' c → Completes (K []) k [] c
  last_index_terms K no_index_term C = C

  last_index_factors : {k k' : ℕ} {s' : List Token} {v : List Index} (K : List Index → Ahead) → MoreIndexFactors k [] k' s' v → Completes (K v) k' s' c → Completes (K []) k [] c
  last_index_factors K no_index_factor C = C

  last_terms : {k k' : ℕ} {s' : List Token} {v : List (Bool × Tree)} (K : List (Bool × Tree) → Ahead) → MoreTerms k [] k' s' v → Completes (K v) k' s' c → Completes (K []) k [] c
  last_terms K no_term C = C

  last_factors : {k k' : ℕ} {s' : List Token} {v : List Tree} (K : List Tree → Ahead) → MoreFactors k [] k' s' v → Completes (K v) k' s' c → Completes (K []) k [] c
  last_factors K no_factor C = C

  last_exponent : {k k' : ℕ} {s' : List Token} {v : Option Index} (K : Option Index → Ahead) → IsExponent k [] k' s' v → Completes (K v) k' s' c → Completes (K None) k [] c
  last_exponent K no_exponent C = C

  last_question : {k k' : ℕ} {s' : List Token} {v : Bool} (K : Bool → Ahead) → IsQuestion k [] k' s' v → Completes (K v) k' s' c → Completes (K false) k [] c
  last_question K no_question C = C

  last_called : {k k' : ℕ} {s' : List Token} {v : Option (List Argument)} (K : Option (List Argument) → Ahead) → IsCalled k [] k' s' v → Completes (K v) k' s' c → Completes (K None) k [] c
  last_called K not_called C = C

  last_more_args : {k k' : ℕ} {s' : List Token} {v : List Argument} (K : List Argument → Ahead) → MoreArgs k [] k' s' v → Completes (K v) k' s' c → Completes (K []) k [] c
  last_more_args K no_arg C = C

  last_more_stmts : {k k' : ℕ} {s' : List Token} {v : List Statement} (K : List Statement → Ahead) → MoreStmts k [] k' s' v → Completes (K v) k' s' c → Completes (K []) k [] c
  last_more_stmts K no_stmt C = C
  last_more_stmts K (one_more_stmt d m) C = absurd (no_stmt' d)

  last_more_coefs : {k k' : ℕ} {s' : List Token} {v : List Coef} (K : List Coef → Ahead) → MoreCoefs k [] k' s' v → Completes (K v) k' s' c → Completes (K []) k [] c
  last_more_coefs K no_coef C = C
  last_more_coefs K (one_more_coef d m) C = absurd (no_coef' d)

  last_more_decls : {k k' : ℕ} {s' : List Token} {v : List Declaration} (K : List Declaration → Ahead) → MoreDecls k [] k' s' v → Completes (K v) k' s' c → Completes (K []) k [] c
  last_more_decls K no_decl C = C
  last_more_decls K (one_more_decl d m) C = absurd (no_decl' d)

  -- at the end of the tokens no token of a part is there
  pub at_last : (part : Part) (K : Value part → Ahead) (k k' : ℕ) (s' : List Token) (v : Value part) → Stands part k [] k' s' v → Completes (K v) k' s' c → Passed (nothing part) K k [] c
  at_last (ahead.a_mark m) K k k' s' v d C = elim d [ ]
  at_last (ahead.setting name) K k k' s' v d C = elim d [ ]
  at_last ahead.a_numeral K k k' s' v d C = elim d [ ]
  at_last ahead.a_naming K k k' s' v d C = elim d [ ]
  at_last ahead.index K k k' s' v d C = no_index d
  at_last ahead.index_terms K k k' s' v d C = last_index_terms K d C
  at_last ahead.index_term K k k' s' v d C = no_index_term' d
  at_last ahead.index_factors K k k' s' v d C = last_index_factors K d C
  at_last ahead.index_prim K k k' s' v d C = no_index_prim d
  at_last ahead.expr K k k' s' v d C = no_expr d
  at_last ahead.terms K k k' s' v d C = last_terms K d C
  at_last ahead.term K k k' s' v d C = no_term' d
  at_last ahead.factors K k k' s' v d C = last_factors K d C
  at_last ahead.factor K k k' s' v d C = no_factor' d
  at_last ahead.exponent K k k' s' v d C = last_exponent K d C
  at_last ahead.prim K k k' s' v d C = no_prim d
  at_last ahead.question K k k' s' v d C = last_question K d C
  at_last ahead.called K k k' s' v d C = last_called K d C
  at_last ahead.args K k k' s' v d C = no_args d
  at_last ahead.more_args K k k' s' v d C = last_more_args K d C
  at_last ahead.arg K k k' s' v d C = no_arg' d
  at_last ahead.stmt K k k' s' v d C = no_stmt' d
  at_last ahead.stmts K k k' s' v d C = no_stmts d
  at_last ahead.more_stmts K k k' s' v d C = last_more_stmts K d C
  at_last ahead.coef K k k' s' v d C = no_coef' d
  at_last ahead.more_coefs K k k' s' v d C = last_more_coefs K d C
  at_last ahead.kind K k k' s' v d C = elim d [ ]
  at_last ahead.decl K k k' s' v d C = no_decl' d
  at_last ahead.more_decls K k k' s' v d C = last_more_decls K d C
  at_last ahead.body K k k' s' v d C = no_body d
  at_last ahead.standard_tail K k k' s' v d C = elim d [ ]
  at_last ahead.circuit K k k' s' v d C = no_circuit d

-- some tokens fill a part, whatever follows
pub fill : (part : Part) (k : ℕ) → (k' : ℕ) × (v : Value part) × ((s : List Token) → (s₀ : List Token) × Stands part k s₀ k' s v)
fill (ahead.a_mark m) k = (suc k, tt, λ s. (Fixed m ∷ s, the_mark))
fill (ahead.setting name) k = (suc (suc (suc k)), 0, λ s. (Name name ∷ Fixed Equals ∷ Number 0 ∷ s, a_setting))
fill ahead.a_numeral k = (suc k, 0, λ s. (Number 0 ∷ s, the_numeral))
fill ahead.a_naming k = (suc k, codes "g", λ s. (Name (codes "g") ∷ s, the_name))
fill ahead.index k = (suc k, index_number k 0, λ s. (Number 0 ∷ s, an_index (an_index_term an_index_number no_index_factor) no_index_term))
fill ahead.index_terms k = (k, [], λ s. (s, no_index_term))
fill ahead.index_term k = (suc k, index_number k 0, λ s. (Number 0 ∷ s, an_index_term an_index_number no_index_factor))
fill ahead.index_factors k = (k, [], λ s. (s, no_index_factor))
fill ahead.index_prim k = (suc k, index_number k 0, λ s. (Number 0 ∷ s, an_index_number))
fill ahead.expr k = (suc k, number k 0, λ s. (Number 0 ∷ s, an_expr (a_term (a_factor a_number no_exponent) no_factor) no_term))
fill ahead.terms k = (k, [], λ s. (s, no_term))
fill ahead.term k = (suc k, number k 0, λ s. (Number 0 ∷ s, a_term (a_factor a_number no_exponent) no_factor))
fill ahead.factors k = (k, [], λ s. (s, no_factor))
fill ahead.factor k = (suc k, number k 0, λ s. (Number 0 ∷ s, a_factor a_number no_exponent))
fill ahead.exponent k = (k, None, λ s. (s, no_exponent))
fill ahead.prim k = (suc k, number k 0, λ s. (Number 0 ∷ s, a_number))
fill ahead.question k = (k, false, λ s. (s, no_question))
fill ahead.called k = (k, None, λ s. (s, not_called))
fill ahead.args k = (suc k, one (number k 0) ∷ [], λ s. (Number 0 ∷ s, some_args (an_arg (an_expr (a_term (a_factor a_number no_exponent) no_factor) no_term)) no_arg))
fill ahead.more_args k = (k, [], λ s. (s, no_arg))
fill ahead.arg k = (suc k, one (number k 0), λ s. (Number 0 ∷ s, an_arg (an_expr (a_term (a_factor a_number no_exponent) no_factor) no_term)))
fill ahead.stmt k = (suc (suc (suc k)), check k (number (suc k) 0), λ s. (Fixed Check ∷ Number 0 ∷ Fixed Semicolon ∷ s, a_check (an_expr (a_term (a_factor a_number no_exponent) no_factor) no_term)))
fill ahead.stmts k = (suc (suc (suc k)), check k (number (suc k) 0) ∷ [], λ s. (Fixed Check ∷ Number 0 ∷ Fixed Semicolon ∷ s, some_stmts (a_check (an_expr (a_term (a_factor a_number no_exponent) no_factor) no_term)) no_stmt))
fill ahead.more_stmts k = (k, [], λ s. (s, no_stmt))
fill ahead.coef k = (suc k, record { minus = false; size = 0 }, λ s. (Number 0 ∷ s, a_coef))
fill ahead.more_coefs k = (k, [], λ s. (s, no_coef))
fill ahead.kind k = (suc k, mul_kind, λ s. (Fixed Mul ∷ s, a_mul))
fill ahead.decl k = (suc (suc (suc (suc (suc k)))), record { at = k; name = codes "g"; kind = mul_kind }, λ s. (Fixed Gadget ∷ Name (codes "g") ∷ Fixed Equals ∷ Fixed Mul ∷ Fixed Semicolon ∷ s, a_decl a_mul))
fill ahead.more_decls k = (k, [], λ s. (s, no_decl))
fill ahead.body k = (suc (suc (suc (suc (suc (suc (suc (suc (suc (suc (suc (suc (suc (suc k))))))))))))), record { meas = 0; joint = 0; gadgets = record { at = suc (suc (suc (suc (suc (suc k))))); name = codes "g"; kind = mul_kind } ∷ []; stmts = statements (check (suc (suc (suc (suc (suc (suc (suc (suc (suc (suc (suc k))))))))))) (number (suc (suc (suc (suc (suc (suc (suc (suc (suc (suc (suc (suc k)))))))))))) 0) ∷ []) }, λ s. (Fixed Meas ∷ Number 0 ∷ Fixed Semicolon ∷ Fixed Joint ∷ Number 0 ∷ Fixed Semicolon ∷ Fixed Gadget ∷ Name (codes "g") ∷ Fixed Equals ∷ Fixed Mul ∷ Fixed Semicolon ∷ Fixed Check ∷ Number 0 ∷ Fixed Semicolon ∷ s, a_body (a_decl a_mul) no_decl (some_stmts (a_check (an_expr (a_term (a_factor a_number no_exponent) no_factor) no_term)) no_stmt)))
fill ahead.standard_tail k = (suc (suc k), params.Count, λ s. (Name (codes "count") ∷ Fixed Semicolon ∷ s, count_tail))
fill ahead.circuit k = (suc (suc (suc k)), standard params.Count, λ s. (Fixed Use ∷ Name (codes "count") ∷ Fixed Semicolon ∷ s, a_standard a_count))
