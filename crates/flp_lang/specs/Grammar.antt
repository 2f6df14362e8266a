-- The grammar of circuit text, rule by rule, from its parts up. `IsX k s k' s' v` says: from token number k on, where the tokens are s, there
-- stands an X with tree v, up to token number k', where the tokens are s'.
use Rattle.std.specs.Prelude.{ℕ, suc, Bool, true, false, List, [], ◌∷◌, Option, None, Some, codes}
use Rattle.flp_syntax.specs.Tree.{Index, index_number, index_var, index_sum, index_product, Tree, number, var, joint, meas, meas_or_zero, sum, call, sum_of, product_of, power_of, Argument, one, each_arg, arguments, Statement, check, out, each, statements, Kind, mul_kind, poly_kind, psum_kind, Declaration, Program, Text, standard, program}
use Rattle.flp_syntax.specs.declared.syntax.Coef.{Coef}
use Rattle.flp_syntax.specs.declared.syntax.Params.{Params}
use Rattle.flp_syntax.specs.declared.syntax.Params.TheVariants as params
use Rattle.flp_syntax.specs.declared.token.Token.{Token}
use Rattle.flp_syntax.specs.declared.token.Token.TheVariants.{Number, Name, Fixed}
use Rattle.flp_syntax.specs.declared.token.Mark.TheVariants.{Use, Meas, Joint, Gadget, Check, Out, Each, Sum, In, Mul, Poly, Psum, Semicolon, Equals, OpenBracket, CloseBracket, Question, Open, Close, Plus, Minus, Star, Caret, Comma, DotDot}

mutual
  -- idx = iterm { ( "+" | "-" ) iterm }
  pub data IsIndex : ℕ → List Token → ℕ → List Token → Index → Type 0 where
    an_index : {k k₁ k' : ℕ} {s s₁ s' : List Token} {v : Index} {more : List (Bool × Index)} → IsIndexTerm k s k₁ s₁ v → MoreIndexTerms k₁ s₁ k' s' more → IsIndex k s k' s' (index_sum v more)

  pub data MoreIndexTerms : ℕ → List Token → ℕ → List Token → List (Bool × Index) → Type 0 where
    no_index_term : {k : ℕ} {s : List Token} → MoreIndexTerms k s k s []
    plus_index_term : {k k₁ k' : ℕ} {s s₁ s' : List Token} {v : Index} {more : List (Bool × Index)} → IsIndexTerm (suc k) s k₁ s₁ v → MoreIndexTerms k₁ s₁ k' s' more → MoreIndexTerms k (Fixed Plus ∷ s) k' s' ((false, v) ∷ more)
    minus_index_term : {k k₁ k' : ℕ} {s s₁ s' : List Token} {v : Index} {more : List (Bool × Index)} → IsIndexTerm (suc k) s k₁ s₁ v → MoreIndexTerms k₁ s₁ k' s' more → MoreIndexTerms k (Fixed Minus ∷ s) k' s' ((true, v) ∷ more)

  -- iterm = iprim { "*" iprim }
  pub data IsIndexTerm : ℕ → List Token → ℕ → List Token → Index → Type 0 where
    an_index_term : {k k₁ k' : ℕ} {s s₁ s' : List Token} {v : Index} {more : List Index} → IsIndexPrim k s k₁ s₁ v → MoreIndexFactors k₁ s₁ k' s' more → IsIndexTerm k s k' s' (index_product v more)

  pub data MoreIndexFactors : ℕ → List Token → ℕ → List Token → List Index → Type 0 where
    no_index_factor : {k : ℕ} {s : List Token} → MoreIndexFactors k s k s []
    star_index_factor : {k k₁ k' : ℕ} {s s₁ s' : List Token} {v : Index} {more : List Index} → IsIndexPrim (suc k) s k₁ s₁ v → MoreIndexFactors k₁ s₁ k' s' more → MoreIndexFactors k (Fixed Star ∷ s) k' s' (v ∷ more)

  -- iprim = NUMBER | NAME | "(" idx ")"
  pub data IsIndexPrim : ℕ → List Token → ℕ → List Token → Index → Type 0 where
    an_index_number : {k n : ℕ} {s : List Token} → IsIndexPrim k (Number n ∷ s) (suc k) s (index_number k n)
    an_index_var : {k : ℕ} {n : List ℕ} {s : List Token} → IsIndexPrim k (Name n ∷ s) (suc k) s (index_var k n)
    an_index_group : {k k' : ℕ} {s s' : List Token} {v : Index} → IsIndex (suc k) s k' (Fixed Close ∷ s') v → IsIndexPrim k (Fixed Open ∷ s) (suc k') s' v

mutual
  -- expr = [ "-" ] term { ( "+" | "-" ) term }
  pub data IsExpr : ℕ → List Token → ℕ → List Token → Tree → Type 0 where
    an_expr : {k k₁ k' : ℕ} {s s₁ s' : List Token} {v : Tree} {more : List (Bool × Tree)} → IsTerm k s k₁ s₁ v → MoreTerms k₁ s₁ k' s' more → IsExpr k s k' s' (sum_of false v more)
    a_minus_expr : {k k₁ k' : ℕ} {s s₁ s' : List Token} {v : Tree} {more : List (Bool × Tree)} → IsTerm (suc k) s k₁ s₁ v → MoreTerms k₁ s₁ k' s' more → IsExpr k (Fixed Minus ∷ s) k' s' (sum_of true v more)

  pub data MoreTerms : ℕ → List Token → ℕ → List Token → List (Bool × Tree) → Type 0 where
    no_term : {k : ℕ} {s : List Token} → MoreTerms k s k s []
    plus_term : {k k₁ k' : ℕ} {s s₁ s' : List Token} {v : Tree} {more : List (Bool × Tree)} → IsTerm (suc k) s k₁ s₁ v → MoreTerms k₁ s₁ k' s' more → MoreTerms k (Fixed Plus ∷ s) k' s' ((false, v) ∷ more)
    minus_term : {k k₁ k' : ℕ} {s s₁ s' : List Token} {v : Tree} {more : List (Bool × Tree)} → IsTerm (suc k) s k₁ s₁ v → MoreTerms k₁ s₁ k' s' more → MoreTerms k (Fixed Minus ∷ s) k' s' ((true, v) ∷ more)

  -- term = factor { "*" factor }
  pub data IsTerm : ℕ → List Token → ℕ → List Token → Tree → Type 0 where
    a_term : {k k₁ k' : ℕ} {s s₁ s' : List Token} {v : Tree} {more : List Tree} → IsFactor k s k₁ s₁ v → MoreFactors k₁ s₁ k' s' more → IsTerm k s k' s' (product_of v more)

  pub data MoreFactors : ℕ → List Token → ℕ → List Token → List Tree → Type 0 where
    no_factor : {k : ℕ} {s : List Token} → MoreFactors k s k s []
    star_factor : {k k₁ k' : ℕ} {s s₁ s' : List Token} {v : Tree} {more : List Tree} → IsFactor (suc k) s k₁ s₁ v → MoreFactors k₁ s₁ k' s' more → MoreFactors k (Fixed Star ∷ s) k' s' (v ∷ more)

  -- factor = prim [ "^" iprim ]
  pub data IsFactor : ℕ → List Token → ℕ → List Token → Tree → Type 0 where
    a_factor : {k k₁ k' : ℕ} {s s₁ s' : List Token} {v : Tree} {exponent : Option Index} → IsPrim k s k₁ s₁ v → IsExponent k₁ s₁ k' s' exponent → IsFactor k s k' s' (power_of v exponent)

  pub data IsExponent : ℕ → List Token → ℕ → List Token → Option Index → Type 0 where
    no_exponent : {k : ℕ} {s : List Token} → IsExponent k s k s None
    an_exponent : {k k' : ℕ} {s s' : List Token} {v : Index} → IsIndexPrim (suc k) s k' s' v → IsExponent k (Fixed Caret ∷ s) k' s' (Some v)

  -- prim = NUMBER | "joint" "[" idx "]" | "meas" "[" idx "]" | "meas" "?" "[" idx "]" | "sum" NAME "in" idx ".." idx "(" expr ")"
  --      | NAME "(" args ")" | NAME | "(" expr ")"
  pub data IsPrim : ℕ → List Token → ℕ → List Token → Tree → Type 0 where
    a_number : {k n : ℕ} {s : List Token} → IsPrim k (Number n ∷ s) (suc k) s (number k n)
    a_joint : {k k' : ℕ} {s s' : List Token} {v : Index} → IsIndex (suc (suc k)) s k' (Fixed CloseBracket ∷ s') v → IsPrim k (Fixed Joint ∷ Fixed OpenBracket ∷ s) (suc k') s' (joint k v)
    a_meas : {k k' : ℕ} {s s' : List Token} {v : Index} → IsIndex (suc (suc k)) s k' (Fixed CloseBracket ∷ s') v → IsPrim k (Fixed Meas ∷ Fixed OpenBracket ∷ s) (suc k') s' (meas k v)
    a_meas_or_zero : {k k' : ℕ} {s s' : List Token} {v : Index} → IsIndex (suc (suc (suc k))) s k' (Fixed CloseBracket ∷ s') v → IsPrim k (Fixed Meas ∷ Fixed Question ∷ Fixed OpenBracket ∷ s) (suc k') s' (meas_or_zero k v)
    a_sum : {k k₁ k₂ k' : ℕ} {n : List ℕ} {s s₁ s₂ s' : List Token} {from to : Index} {v : Tree} → IsIndex (suc (suc (suc k))) s k₁ (Fixed DotDot ∷ s₁) from → IsIndex (suc k₁) s₁ k₂ (Fixed Open ∷ s₂) to → IsExpr (suc k₂) s₂ k' (Fixed Close ∷ s') v → IsPrim k (Fixed Sum ∷ Name n ∷ Fixed In ∷ s) (suc k') s' (sum k n from to v)
    a_call : {k k' : ℕ} {n : List ℕ} {s s' : List Token} {args : List Argument} → IsArgs (suc (suc k)) s k' (Fixed Close ∷ s') args → IsPrim k (Name n ∷ Fixed Open ∷ s) (suc k') s' (call k n (arguments args))
    a_var : {k : ℕ} {n : List ℕ} {s : List Token} → IsPrim k (Name n ∷ s) (suc k) s (var k n)
    a_group : {k k' : ℕ} {s s' : List Token} {v : Tree} → IsExpr (suc k) s k' (Fixed Close ∷ s') v → IsPrim k (Fixed Open ∷ s) (suc k') s' v

  -- args = arg { "," arg }
  pub data IsArgs : ℕ → List Token → ℕ → List Token → List Argument → Type 0 where
    some_args : {k k₁ k' : ℕ} {s s₁ s' : List Token} {v : Argument} {more : List Argument} → IsArg k s k₁ s₁ v → MoreArgs k₁ s₁ k' s' more → IsArgs k s k' s' (v ∷ more)

  pub data MoreArgs : ℕ → List Token → ℕ → List Token → List Argument → Type 0 where
    no_arg : {k : ℕ} {s : List Token} → MoreArgs k s k s []
    comma_arg : {k k₁ k' : ℕ} {s s₁ s' : List Token} {v : Argument} {more : List Argument} → IsArg (suc k) s k₁ s₁ v → MoreArgs k₁ s₁ k' s' more → MoreArgs k (Fixed Comma ∷ s) k' s' (v ∷ more)

  -- arg = expr | "each" NAME "in" idx ".." idx "(" args ")"
  pub data IsArg : ℕ → List Token → ℕ → List Token → Argument → Type 0 where
    an_arg : {k k' : ℕ} {s s' : List Token} {v : Tree} → IsExpr k s k' s' v → IsArg k s k' s' (one v)
    an_each_arg : {k k₁ k₂ k' : ℕ} {n : List ℕ} {s s₁ s₂ s' : List Token} {from to : Index} {args : List Argument} → IsIndex (suc (suc (suc k))) s k₁ (Fixed DotDot ∷ s₁) from → IsIndex (suc k₁) s₁ k₂ (Fixed Open ∷ s₂) to → IsArgs (suc k₂) s₂ k' (Fixed Close ∷ s') args → IsArg k (Fixed Each ∷ Name n ∷ Fixed In ∷ s) (suc k') s' (each_arg k n from to (arguments args))

mutual
  -- stmt = "check" expr ";" | "out" expr ";" | "each" NAME "in" idx ".." idx "(" stmt { stmt } ")"
  pub data IsStmt : ℕ → List Token → ℕ → List Token → Statement → Type 0 where
    a_check : {k k' : ℕ} {s s' : List Token} {v : Tree} → IsExpr (suc k) s k' (Fixed Semicolon ∷ s') v → IsStmt k (Fixed Check ∷ s) (suc k') s' (check k v)
    an_out : {k k' : ℕ} {s s' : List Token} {v : Tree} → IsExpr (suc k) s k' (Fixed Semicolon ∷ s') v → IsStmt k (Fixed Out ∷ s) (suc k') s' (out k v)
    an_each : {k k₁ k₂ k' : ℕ} {n : List ℕ} {s s₁ s₂ s' : List Token} {from to : Index} {stmts : List Statement} → IsIndex (suc (suc (suc k))) s k₁ (Fixed DotDot ∷ s₁) from → IsIndex (suc k₁) s₁ k₂ (Fixed Open ∷ s₂) to → IsStmts (suc k₂) s₂ k' (Fixed Close ∷ s') stmts → IsStmt k (Fixed Each ∷ Name n ∷ Fixed In ∷ s) (suc k') s' (each k n from to (statements stmts))

  -- stmt { stmt }
  pub data IsStmts : ℕ → List Token → ℕ → List Token → List Statement → Type 0 where
    some_stmts : {k k₁ k' : ℕ} {s s₁ s' : List Token} {v : Statement} {more : List Statement} → IsStmt k s k₁ s₁ v → MoreStmts k₁ s₁ k' s' more → IsStmts k s k' s' (v ∷ more)

  pub data MoreStmts : ℕ → List Token → ℕ → List Token → List Statement → Type 0 where
    no_stmt : {k : ℕ} {s : List Token} → MoreStmts k s k s []
    one_more_stmt : {k k₁ k' : ℕ} {s s₁ s' : List Token} {v : Statement} {more : List Statement} → IsStmt k s k₁ s₁ v → MoreStmts k₁ s₁ k' s' more → MoreStmts k s k' s' (v ∷ more)

-- coef = [ "-" ] NUMBER
pub data IsCoef : ℕ → List Token → ℕ → List Token → Coef → Type 0 where
  a_coef : {k n : ℕ} {s : List Token} → IsCoef k (Number n ∷ s) (suc k) s (record { minus = false; size = n })
  a_minus_coef : {k n : ℕ} {s : List Token} → IsCoef k (Fixed Minus ∷ Number n ∷ s) (suc (suc k)) s (record { minus = true; size = n })

pub data MoreCoefs : ℕ → List Token → ℕ → List Token → List Coef → Type 0 where
  no_coef : {k : ℕ} {s : List Token} → MoreCoefs k s k s []
  one_more_coef : {k k₁ k' : ℕ} {s s₁ s' : List Token} {v : Coef} {more : List Coef} → IsCoef k s k₁ s₁ v → MoreCoefs k₁ s₁ k' s' more → MoreCoefs k s k' s' (v ∷ more)

-- kind = "mul" | "poly" coef { coef } | "psum" NUMBER kind
pub data IsKind : ℕ → List Token → ℕ → List Token → Kind → Type 0 where
  a_mul : {k : ℕ} {s : List Token} → IsKind k (Fixed Mul ∷ s) (suc k) s mul_kind
  a_poly : {k k₁ k' : ℕ} {s s₁ s' : List Token} {v : Coef} {more : List Coef} → IsCoef (suc k) s k₁ s₁ v → MoreCoefs k₁ s₁ k' s' more → IsKind k (Fixed Poly ∷ s) k' s' (poly_kind (v ∷ more))
  a_psum : {k k' n : ℕ} {s s' : List Token} {v : Kind} → IsKind (suc (suc k)) s k' s' v → IsKind k (Fixed Psum ∷ Number n ∷ s) k' s' (psum_kind n v)

-- decl = "gadget" NAME "=" kind ";"
pub data IsDecl : ℕ → List Token → ℕ → List Token → Declaration → Type 0 where
  a_decl : {k k' : ℕ} {n : List ℕ} {s s' : List Token} {v : Kind} → IsKind (suc (suc (suc k))) s k' (Fixed Semicolon ∷ s') v → IsDecl k (Fixed Gadget ∷ Name n ∷ Fixed Equals ∷ s) (suc k') s' (record { at = k; name = n; kind = v })

pub data MoreDecls : ℕ → List Token → ℕ → List Token → List Declaration → Type 0 where
  no_decl : {k : ℕ} {s : List Token} → MoreDecls k s k s []
  one_more_decl : {k k₁ k' : ℕ} {s s₁ s' : List Token} {v : Declaration} {more : List Declaration} → IsDecl k s k₁ s₁ v → MoreDecls k₁ s₁ k' s' more → MoreDecls k s k' s' (v ∷ more)

-- body = "meas" NUMBER ";" "joint" NUMBER ";" decl { decl } stmt { stmt }
pub data IsBody : ℕ → List Token → ℕ → List Token → Program → Type 0 where
  a_body : {k k₁ k₂ k' m j : ℕ} {s s₁ s₂ s' : List Token} {v : Declaration} {more : List Declaration} {stmts : List Statement} → IsDecl (suc (suc (suc (suc (suc (suc k)))))) s k₁ s₁ v → MoreDecls k₁ s₁ k₂ s₂ more → IsStmts k₂ s₂ k' s' stmts
      → IsBody k (Fixed Meas ∷ Number m ∷ Fixed Semicolon ∷ Fixed Joint ∷ Number j ∷ Fixed Semicolon ∷ s) k' s' (record { meas = m; joint = j; gadgets = v ∷ more; stmts = statements stmts })

-- NAME "=" NUMBER, at one name
pub data IsSetting (name : List ℕ) : ℕ → List Token → ℕ → List Token → ℕ → Type 0 where
  a_setting : {k n : ℕ} {s : List Token} → IsSetting name k (Name name ∷ Fixed Equals ∷ Number n ∷ s) (suc (suc (suc k))) s n

-- standard = "use" ( "count" | "sum" "max" "=" NUMBER | "sumvec" "length" "=" NUMBER "bits" "=" NUMBER "chunk" "=" NUMBER
--          | "histogram" "length" "=" NUMBER "chunk" "=" NUMBER | "multihot" "length" "=" NUMBER "weight" "=" NUMBER "chunk" "=" NUMBER ) ";"
pub data IsStandard : ℕ → List Token → ℕ → List Token → Params → Type 0 where
  a_count : {k : ℕ} {s : List Token} → IsStandard k (Fixed Use ∷ Name (codes "count") ∷ Fixed Semicolon ∷ s) (suc (suc (suc k))) s params.Count
  a_sum_circuit : {k k' m : ℕ} {s s' : List Token} → IsSetting (codes "max") (suc (suc k)) s k' (Fixed Semicolon ∷ s') m → IsStandard k (Fixed Use ∷ Fixed Sum ∷ s) (suc k') s' (params.Sum m)
  a_sumvec : {k k₁ k₂ k' l b c : ℕ} {s s₁ s₂ s' : List Token} → IsSetting (codes "length") (suc (suc k)) s k₁ s₁ l → IsSetting (codes "bits") k₁ s₁ k₂ s₂ b → IsSetting (codes "chunk") k₂ s₂ k' (Fixed Semicolon ∷ s') c → IsStandard k (Fixed Use ∷ Name (codes "sumvec") ∷ s) (suc k') s' (params.SumVec l b c)
  a_histogram : {k k₁ k' l c : ℕ} {s s₁ s' : List Token} → IsSetting (codes "length") (suc (suc k)) s k₁ s₁ l → IsSetting (codes "chunk") k₁ s₁ k' (Fixed Semicolon ∷ s') c → IsStandard k (Fixed Use ∷ Name (codes "histogram") ∷ s) (suc k') s' (params.Histogram l c)
  a_multihot : {k k₁ k₂ k' l w c : ℕ} {s s₁ s₂ s' : List Token} → IsSetting (codes "length") (suc (suc k)) s k₁ s₁ l → IsSetting (codes "weight") k₁ s₁ k₂ s₂ w → IsSetting (codes "chunk") k₂ s₂ k' (Fixed Semicolon ∷ s') c → IsStandard k (Fixed Use ∷ Name (codes "multihot") ∷ s) (suc k') s' (params.Multihot l w c)

-- text = standard | body
pub data IsCircuit : ℕ → List Token → ℕ → List Token → Text → Type 0 where
  a_standard : {k k' : ℕ} {s s' : List Token} {v : Params} → IsStandard k s k' s' v → IsCircuit k s k' s' (standard v)
  a_program : {k k' : ℕ} {s s' : List Token} {v : Program} → IsBody k s k' s' v → IsCircuit k s k' s' (program v)

-- all these tokens are this circuit text
abbrev pub IsText : List Token → Text → Type 0
IsText tokens text = (k : ℕ) × IsCircuit 0 tokens k [] text
