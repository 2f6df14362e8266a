-- What is ahead of a circuit text while it is read, token by token: a part and, for each value of it, what is ahead then.
-- Internal: the promises speak of the grammar alone.
use Rattle.std.specs.Prelude.{ℕ, suc, Bool, true, false, cond, List, [], ◌∷◌, Option, None, Some, codes}
use Rattle.std.specs.Str.{bytes_eq}
use Rattle.flp_syntax.specs.Tree.{Index, index_number, index_var, index_sum, index_product, Tree, number, var, joint, meas, meas_or_zero, sum, call, sum_of, product_of, power_of, Argument, one, each_arg, arguments, Statement, check, out, each, statements, Kind, mul_kind, poly_kind, psum_kind, Declaration, Program, Text, standard, program}
use Rattle.flp_lang.specs.Grammar.{IsIndex, MoreIndexTerms, IsIndexTerm, MoreIndexFactors, IsIndexPrim, IsExpr, MoreTerms, IsTerm, MoreFactors, IsFactor, IsExponent, IsPrim, IsArgs, MoreArgs, IsArg, IsStmt, IsStmts, MoreStmts, IsCoef, MoreCoefs, IsKind, IsDecl, MoreDecls, IsBody, IsSetting, IsCircuit}
use Rattle.flp_lang.specs.Marks.{is_mark}
use Rattle.flp_syntax.specs.declared.syntax.Coef.{Coef}
use Rattle.flp_syntax.specs.declared.syntax.Params.{Params}
use Rattle.flp_syntax.specs.declared.syntax.Params.TheVariants as params
use Rattle.flp_syntax.specs.declared.token.Token.{Token}
use Rattle.flp_syntax.specs.declared.token.Token.TheVariants.{Number, Name, Fixed}
use Rattle.flp_syntax.specs.declared.token.Mark.{Mark}
use Rattle.flp_syntax.specs.declared.token.Mark.TheVariants.{Use, Meas, Joint, Gadget, Check, Out, Each, Sum, In, Mul, Poly, Psum, Semicolon, Equals, OpenBracket, CloseBracket, Question, Open, Close, Plus, Minus, Star, Caret, Comma, DotDot}

-- a part of a text
pub data Part : Type 0 where
  a_mark : Mark → Part
  a_numeral a_naming : Part
  setting : List ℕ → Part
  index index_terms index_term index_factors index_prim : Part
  expr terms term factors factor exponent prim question called args more_args arg : Part
  stmt stmts more_stmts : Part
  coef more_coefs kind decl more_decls body : Part
  standard_tail circuit : Part

-- what a part is read as
abbrev pub Value : Part → Type 0
Value (a_mark m) = Unit {0}
Value a_numeral = ℕ
Value a_naming = List ℕ
Value (setting name) = ℕ
Value index = Index
Value index_terms = List (Bool × Index)
Value index_term = Index
Value index_factors = List Index
Value index_prim = Index
Value expr = Tree
Value terms = List (Bool × Tree)
Value term = Tree
Value factors = List Tree
Value factor = Tree
Value exponent = Option Index
Value prim = Tree
Value question = Bool
Value called = Option (List Argument)
Value args = List Argument
Value more_args = List Argument
Value arg = Argument
Value stmt = Statement
Value stmts = List Statement
Value more_stmts = List Statement
Value coef = Coef
Value more_coefs = List Coef
Value kind = Kind
Value decl = Declaration
Value more_decls = List Declaration
Value body = Program
Value standard_tail = Params
Value circuit = Text

-- a single token, an optional question mark, optional arguments
pub data IsMark (m : Mark) : ℕ → List Token → ℕ → List Token → Unit {0} → Type 0 where
  the_mark : {k : ℕ} {s : List Token} → IsMark m k (Fixed m ∷ s) (suc k) s tt

pub data IsNumeral : ℕ → List Token → ℕ → List Token → ℕ → Type 0 where
  the_numeral : {k n : ℕ} {s : List Token} → IsNumeral k (Number n ∷ s) (suc k) s n

pub data IsNaming : ℕ → List Token → ℕ → List Token → List ℕ → Type 0 where
  the_name : {k : ℕ} {n : List ℕ} {s : List Token} → IsNaming k (Name n ∷ s) (suc k) s n

pub data IsQuestion : ℕ → List Token → ℕ → List Token → Bool → Type 0 where
  no_question : {k : ℕ} {s : List Token} → IsQuestion k s k s false
  a_question : {k : ℕ} {s : List Token} → IsQuestion k (Fixed Question ∷ s) (suc k) s true

pub data IsCalled : ℕ → List Token → ℕ → List Token → Option (List Argument) → Type 0 where
  not_called : {k : ℕ} {s : List Token} → IsCalled k s k s None
  with_args : {k k' : ℕ} {s s' : List Token} {v : List Argument} → IsArgs (suc k) s k' (Fixed Close ∷ s') v → IsCalled k (Fixed Open ∷ s) (suc k') s' (Some v)

-- a standard circuit behind `use`
pub data IsTail : ℕ → List Token → ℕ → List Token → Params → Type 0 where
  count_tail : {k : ℕ} {s : List Token} → IsTail k (Name (codes "count") ∷ Fixed Semicolon ∷ s) (suc (suc k)) s params.Count
  sum_tail : {k k' m : ℕ} {s s' : List Token} → IsSetting (codes "max") (suc k) s k' (Fixed Semicolon ∷ s') m → IsTail k (Fixed Sum ∷ s) (suc k') s' (params.Sum m)
  sumvec_tail : {k k₁ k₂ k' l b c : ℕ} {s s₁ s₂ s' : List Token} → IsSetting (codes "length") (suc k) s k₁ s₁ l → IsSetting (codes "bits") k₁ s₁ k₂ s₂ b → IsSetting (codes "chunk") k₂ s₂ k' (Fixed Semicolon ∷ s') c → IsTail k (Name (codes "sumvec") ∷ s) (suc k') s' (params.SumVec l b c)
  histogram_tail : {k k₁ k' l c : ℕ} {s s₁ s' : List Token} → IsSetting (codes "length") (suc k) s k₁ s₁ l → IsSetting (codes "chunk") k₁ s₁ k' (Fixed Semicolon ∷ s') c → IsTail k (Name (codes "histogram") ∷ s) (suc k') s' (params.Histogram l c)
  multihot_tail : {k k₁ k₂ k' l w c : ℕ} {s s₁ s₂ s' : List Token} → IsSetting (codes "length") (suc k) s k₁ s₁ l → IsSetting (codes "weight") k₁ s₁ k₂ s₂ w → IsSetting (codes "chunk") k₂ s₂ k' (Fixed Semicolon ∷ s') c → IsTail k (Name (codes "multihot") ∷ s) (suc k') s' (params.Multihot l w c)

-- that the part stands there, with this value
abbrev pub Stands : (part : Part) → ℕ → List Token → ℕ → List Token → Value part → Type 0
Stands (a_mark m) = IsMark m
Stands a_numeral = IsNumeral
Stands a_naming = IsNaming
Stands (setting name) = IsSetting name
Stands index = IsIndex
Stands index_terms = MoreIndexTerms
Stands index_term = IsIndexTerm
Stands index_factors = MoreIndexFactors
Stands index_prim = IsIndexPrim
Stands expr = IsExpr
Stands terms = MoreTerms
Stands term = IsTerm
Stands factors = MoreFactors
Stands factor = IsFactor
Stands exponent = IsExponent
Stands prim = IsPrim
Stands question = IsQuestion
Stands called = IsCalled
Stands args = IsArgs
Stands more_args = MoreArgs
Stands arg = IsArg
Stands stmt = IsStmt
Stands stmts = IsStmts
Stands more_stmts = MoreStmts
Stands coef = IsCoef
Stands more_coefs = MoreCoefs
Stands kind = IsKind
Stands decl = IsDecl
Stands more_decls = MoreDecls
Stands body = IsBody
Stands standard_tail = IsTail
Stands circuit = IsCircuit

-- what is ahead: nothing, and the text is this; or a part, and for each value of it the rest
pub data Ahead : Type 0 where
  done : Text → Ahead
  next : (part : Part) → (Value part → Ahead) → Ahead

-- a mark, and then the rest
abbrev pub fixed : Mark → Ahead → Ahead
fixed m rest = next (a_mark m) (λ _. rest)

-- NAME "in" idx ".." idx "("
abbrev pub range : (List ℕ → Index → Index → Ahead) → Ahead
range K = next a_naming (λ n. fixed In (next index (λ from. fixed DotDot (next index (λ to. fixed Open (K n from to))))))

-- what follows where the token begins the part, by the part

abbrev pub start_index_prim : ℕ → Token → (Index → Ahead) → Option Ahead
start_index_prim k (Number n) K = Some (K (index_number k n))
start_index_prim k (Name n) K = Some (K (index_var k n))
start_index_prim k (Fixed Open) K = Some (next index (λ v. fixed Close (K v)))
start_index_prim k _ K = None

abbrev pub start_index_term : ℕ → Token → (Index → Ahead) → Option Ahead
start_index_term k t K = start_index_prim k t (λ v. next index_factors (λ more. K (index_product v more)))

abbrev pub start_index : ℕ → Token → (Index → Ahead) → Option Ahead
start_index k t K = start_index_term k t (λ v. next index_terms (λ more. K (index_sum v more)))

abbrev pub start_index_factors : ℕ → Token → (List Index → Ahead) → Option Ahead
start_index_factors k (Fixed Star) K = Some (next index_prim (λ v. next index_factors (λ more. K (v ∷ more))))
start_index_factors k _ K = None

abbrev pub start_index_terms : ℕ → Token → (List (Bool × Index) → Ahead) → Option Ahead
start_index_terms k (Fixed Plus) K = Some (next index_term (λ v. next index_terms (λ more. K ((false, v) ∷ more))))
start_index_terms k (Fixed Minus) K = Some (next index_term (λ v. next index_terms (λ more. K ((true, v) ∷ more))))
start_index_terms k _ K = None

-- a variable, or a call where there are arguments
abbrev pub name_or_call : ℕ → List ℕ → Option (List Argument) → Tree
name_or_call k n None = var k n
name_or_call k n (Some v) = call k n (arguments v)

abbrev pub meas_at : ℕ → Bool → Index → Tree
meas_at k true v = meas_or_zero k v
meas_at k false v = meas k v

abbrev pub start_prim : ℕ → Token → (Tree → Ahead) → Option Ahead
start_prim k (Number n) K = Some (K (number k n))
start_prim k (Name n) K = Some (next called (λ v. K (name_or_call k n v)))
start_prim k (Fixed Joint) K = Some (fixed OpenBracket (next index (λ v. fixed CloseBracket (K (joint k v)))))
start_prim k (Fixed Meas) K = Some (next question (λ b. fixed OpenBracket (next index (λ v. fixed CloseBracket (K (meas_at k b v))))))
start_prim k (Fixed Sum) K = Some (range (λ n from to. next expr (λ v. fixed Close (K (sum k n from to v)))))
start_prim k (Fixed Open) K = Some (next expr (λ v. fixed Close (K v)))
start_prim k _ K = None

abbrev pub start_factor : ℕ → Token → (Tree → Ahead) → Option Ahead
start_factor k t K = start_prim k t (λ v. next exponent (λ e. K (power_of v e)))

abbrev pub start_term : ℕ → Token → (Tree → Ahead) → Option Ahead
start_term k t K = start_factor k t (λ v. next factors (λ more. K (product_of v more)))

abbrev pub start_expr : ℕ → Token → (Tree → Ahead) → Option Ahead
start_expr k (Fixed Minus) K = Some (next term (λ v. next terms (λ more. K (sum_of true v more))))
start_expr k t K = start_term k t (λ v. next terms (λ more. K (sum_of false v more)))

abbrev pub start_terms : ℕ → Token → (List (Bool × Tree) → Ahead) → Option Ahead
start_terms k (Fixed Plus) K = Some (next term (λ v. next terms (λ more. K ((false, v) ∷ more))))
start_terms k (Fixed Minus) K = Some (next term (λ v. next terms (λ more. K ((true, v) ∷ more))))
start_terms k _ K = None

abbrev pub start_factors : ℕ → Token → (List Tree → Ahead) → Option Ahead
start_factors k (Fixed Star) K = Some (next factor (λ v. next factors (λ more. K (v ∷ more))))
start_factors k _ K = None

abbrev pub start_exponent : ℕ → Token → (Option Index → Ahead) → Option Ahead
start_exponent k (Fixed Caret) K = Some (next index_prim (λ v. K (Some v)))
start_exponent k _ K = None

abbrev pub start_question : ℕ → Token → (Bool → Ahead) → Option Ahead
start_question k (Fixed Question) K = Some (K true)
start_question k _ K = None

abbrev pub start_called : ℕ → Token → (Option (List Argument) → Ahead) → Option Ahead
start_called k (Fixed Open) K = Some (next args (λ v. fixed Close (K (Some v))))
start_called k _ K = None

abbrev pub start_arg : ℕ → Token → (Argument → Ahead) → Option Ahead
start_arg k (Fixed Each) K = Some (range (λ n from to. next args (λ v. fixed Close (K (each_arg k n from to (arguments v))))))
start_arg k t K = start_expr k t (λ v. K (one v))

abbrev pub start_args : ℕ → Token → (List Argument → Ahead) → Option Ahead
start_args k t K = start_arg k t (λ v. next more_args (λ more. K (v ∷ more)))

abbrev pub start_more_args : ℕ → Token → (List Argument → Ahead) → Option Ahead
start_more_args k (Fixed Comma) K = Some (next arg (λ v. next more_args (λ more. K (v ∷ more))))
start_more_args k _ K = None

abbrev pub start_stmt : ℕ → Token → (Statement → Ahead) → Option Ahead
start_stmt k (Fixed Check) K = Some (next expr (λ v. fixed Semicolon (K (check k v))))
start_stmt k (Fixed Out) K = Some (next expr (λ v. fixed Semicolon (K (out k v))))
start_stmt k (Fixed Each) K = Some (range (λ n from to. next stmts (λ v. fixed Close (K (each k n from to (statements v))))))
start_stmt k _ K = None

-- of one statement and then more, and of more statements alike
abbrev pub start_stmts : ℕ → Token → (List Statement → Ahead) → Option Ahead
start_stmts k t K = start_stmt k t (λ v. next more_stmts (λ more. K (v ∷ more)))

abbrev pub start_coef : ℕ → Token → (Coef → Ahead) → Option Ahead
start_coef k (Number n) K = Some (K (record { minus = false; size = n }))
start_coef k (Fixed Minus) K = Some (next a_numeral (λ n. K (record { minus = true; size = n })))
start_coef k _ K = None

abbrev pub start_more_coefs : ℕ → Token → (List Coef → Ahead) → Option Ahead
start_more_coefs k t K = start_coef k t (λ v. next more_coefs (λ more. K (v ∷ more)))

abbrev pub start_kind : ℕ → Token → (Kind → Ahead) → Option Ahead
start_kind k (Fixed Mul) K = Some (K mul_kind)
start_kind k (Fixed Poly) K = Some (next coef (λ v. next more_coefs (λ more. K (poly_kind (v ∷ more)))))
start_kind k (Fixed Psum) K = Some (next a_numeral (λ n. next kind (λ v. K (psum_kind n v))))
start_kind k _ K = None

abbrev pub start_decl : ℕ → Token → (Declaration → Ahead) → Option Ahead
start_decl k (Fixed Gadget) K = Some (next a_naming (λ n. fixed Equals (next kind (λ v. fixed Semicolon (K (record { at = k; name = n; kind = v }))))))
start_decl k _ K = None

abbrev pub start_more_decls : ℕ → Token → (List Declaration → Ahead) → Option Ahead
start_more_decls k t K = start_decl k t (λ v. next more_decls (λ more. K (v ∷ more)))

abbrev pub start_body : ℕ → Token → (Program → Ahead) → Option Ahead
start_body k (Fixed Meas) K = Some (next a_numeral (λ m. fixed Semicolon (fixed Joint (next a_numeral (λ j. fixed Semicolon (next decl (λ v. next more_decls (λ more. next stmts (λ w. K (record { meas = m; joint = j; gadgets = v ∷ more; stmts = statements w }))))))))))
start_body k _ K = None

abbrev pub start_setting : List ℕ → Token → (ℕ → Ahead) → Option Ahead
start_setting name (Name n) K = cond (bytes_eq name n) (Some (fixed Equals (next a_numeral K))) None
start_setting name (Number n) K = None
start_setting name (Fixed m) K = None

abbrev pub start_named_tail : List ℕ → (Params → Ahead) → Option Ahead
start_named_tail n K =
    cond (bytes_eq (codes "count") n) (Some (fixed Semicolon (K params.Count)))
    (cond (bytes_eq (codes "sumvec") n) (Some (next (setting (codes "length")) (λ l. next (setting (codes "bits")) (λ b. next (setting (codes "chunk")) (λ c. fixed Semicolon (K (params.SumVec l b c)))))))
    (cond (bytes_eq (codes "histogram") n) (Some (next (setting (codes "length")) (λ l. next (setting (codes "chunk")) (λ c. fixed Semicolon (K (params.Histogram l c))))))
    (cond (bytes_eq (codes "multihot") n) (Some (next (setting (codes "length")) (λ l. next (setting (codes "weight")) (λ w. next (setting (codes "chunk")) (λ c. fixed Semicolon (K (params.Multihot l w c))))))) None)))

abbrev pub start_tail : Token → (Params → Ahead) → Option Ahead
start_tail (Name n) K = start_named_tail n K
start_tail (Fixed Sum) K = Some (next (setting (codes "max")) (λ m. fixed Semicolon (K (params.Sum m))))
start_tail _ K = None

abbrev pub start_circuit : ℕ → Token → (Text → Ahead) → Option Ahead
start_circuit k (Fixed Use) K = Some (next standard_tail (λ v. K (standard v)))
start_circuit k t K = start_body k t (λ v. K (program v))

abbrev pub start_numeral : Token → (ℕ → Ahead) → Option Ahead
start_numeral (Number n) K = Some (K n)
start_numeral (Name n) K = None
start_numeral (Fixed m) K = None

abbrev pub start_naming : Token → (List ℕ → Ahead) → Option Ahead
start_naming (Name n) K = Some (K n)
start_naming (Number n) K = None
start_naming (Fixed m) K = None

-- what is ahead behind the token, where the token begins the part
abbrev pub start : (part : Part) → ℕ → Token → (Value part → Ahead) → Option Ahead
start (a_mark m) k t K = cond (is_mark m t) (Some (K tt)) None
start a_numeral k t K = start_numeral t K
start a_naming k t K = start_naming t K
start (setting name) k t K = start_setting name t K
start index k t K = start_index k t K
start index_terms k t K = start_index_terms k t K
start index_term k t K = start_index_term k t K
start index_factors k t K = start_index_factors k t K
start index_prim k t K = start_index_prim k t K
start expr k t K = start_expr k t K
start terms k t K = start_terms k t K
start term k t K = start_term k t K
start factors k t K = start_factors k t K
start factor k t K = start_factor k t K
start exponent k t K = start_exponent k t K
start prim k t K = start_prim k t K
start question k t K = start_question k t K
start called k t K = start_called k t K
start args k t K = start_args k t K
start more_args k t K = start_more_args k t K
start arg k t K = start_arg k t K
start stmt k t K = start_stmt k t K
start stmts k t K = start_stmts k t K
start more_stmts k t K = start_stmts k t K
start coef k t K = start_coef k t K
start more_coefs k t K = start_more_coefs k t K
start kind k t K = start_kind k t K
start decl k t K = start_decl k t K
start more_decls k t K = start_more_decls k t K
start body k t K = start_body k t K
start standard_tail k t K = start_tail t K
start circuit k t K = start_circuit k t K

-- the value of the part where no token of it is there, if it may be so
abbrev pub nothing : (part : Part) → Option (Value part)
nothing (a_mark m) = None
nothing a_numeral = None
nothing a_naming = None
nothing (setting name) = None
nothing index = None
nothing index_terms = Some []
nothing index_term = None
nothing index_factors = Some []
nothing index_prim = None
nothing expr = None
nothing terms = Some []
nothing term = None
nothing factors = Some []
nothing factor = None
nothing exponent = Some None
nothing prim = None
nothing question = Some false
nothing called = Some None
nothing args = None
nothing more_args = Some []
nothing arg = None
nothing stmt = None
nothing stmts = None
nothing more_stmts = Some []
nothing coef = None
nothing more_coefs = Some []
nothing kind = None
nothing decl = None
nothing more_decls = Some []
nothing body = None
nothing standard_tail = None
nothing circuit = None

abbrev pub or_else : Option Ahead → Option Ahead → Option Ahead
or_else (Some ahead) other = Some ahead
or_else None other = other

abbrev pub without_tokens : {V A : Type 0} → Option V → (V → Option A) → Option A
without_tokens None f = None
without_tokens (Some v) f = f v

-- what is ahead after one more token, where a text can go on so
abbrev pub after_token : ℕ → Ahead → Token → Option Ahead
after_token k (done text) t = None
after_token k (next part K) t = or_else (start part k t K) (without_tokens (nothing part) (λ v. after_token k (K v) t))

-- the text, where it may end here
abbrev pub at_end : Ahead → Option Text
at_end (done text) = Some text
at_end (next part K) = without_tokens (nothing part) (λ v. at_end (K v))
