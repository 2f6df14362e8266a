-- The tokens that a circuit is printed as, from its parts up. `put_x v s` are the tokens of an x with tree v, and then the tokens s.
-- Parentheses stand where `wrap` puts them, and round the parts that the grammar always has in them.
use Rattle.std.specs.Prelude.{ℕ, Bool, true, false, ◌||◌, List, [], ◌∷◌, codes}
use Rattle.flp_syntax.specs.Tree.{Index, index_number, index_var, index_add, index_mul, IndexItems, no_index_items, index_item_on, Indices, no_indices, index_on, Tree, number, var, joint, meas, meas_or_zero, sum, call, add, mul, pow, Items, no_items, item_on, Trees, no_trees, tree_on, Argument, one, each_arg, Arguments, no_args, arg_on, Statement, check, out, each, Statements, no_stmts, stmt_on, Kind, mul_kind, poly_kind, psum_kind, Declaration, Program, Text, standard, program}
use Rattle.flp_syntax.specs.declared.syntax.Coef.{Coef}
use Rattle.flp_syntax.specs.declared.syntax.Params.{Params}
use Rattle.flp_syntax.specs.declared.syntax.Params.TheVariants as params
use Rattle.flp_syntax.specs.declared.token.Token.{Token}
use Rattle.flp_syntax.specs.declared.token.Token.TheVariants.{Number, Name, Fixed}
use Rattle.flp_syntax.specs.declared.token.Mark.TheVariants.{Use, Meas, Joint, Gadget, Check, Out, Each, Sum, In, Mul, Poly, Psum, Semicolon, Equals, OpenBracket, CloseBracket, Question, Open, Close, Plus, Minus, Star, Caret, Comma, DotDot}

-- in parentheses, or not
abbrev pub wrap : Bool → (List Token → List Token) → List Token → List Token
wrap true put s = Fixed Open ∷ put (Fixed Close ∷ s)
wrap false put s = put s

-- the sign before a first item, where it is a minus, and before a further one
abbrev pub put_minus : Bool → List Token → List Token
put_minus true s = Fixed Minus ∷ s
put_minus false s = s

abbrev pub put_sign : Bool → List Token → List Token
put_sign true s = Fixed Minus ∷ s
put_sign false s = Fixed Plus ∷ s

abbrev pub is_index_add : Index → Bool
is_index_add (index_add at items) = true
is_index_add _ = false

abbrev pub is_index_mul : Index → Bool
is_index_mul (index_mul at factors) = true
is_index_mul _ = false

-- indices: a sum stands in parentheses where it is an item, a sum and a product where they are a factor
abbrev mutual
  pub put_index : Index → List Token → List Token
  put_index (index_number at value) s = Number value ∷ s
  put_index (index_var at name) s = Name name ∷ s
  put_index (index_add at items) s = put_index_items items s
  put_index (index_mul at factors) s = put_index_factors factors s

  pub put_index_items : IndexItems → List Token → List Token
  put_index_items no_index_items s = s
  put_index_items (index_item_on minus v more) s = put_minus minus (wrap (is_index_add v) (put_index v) (put_more_index_items more s))

  pub put_more_index_items : IndexItems → List Token → List Token
  put_more_index_items no_index_items s = s
  put_more_index_items (index_item_on minus v more) s = put_sign minus (wrap (is_index_add v) (put_index v) (put_more_index_items more s))

  pub put_index_factors : Indices → List Token → List Token
  put_index_factors no_indices s = s
  put_index_factors (index_on v more) s = wrap (is_index_add v || is_index_mul v) (put_index v) (put_more_index_factors more s)

  pub put_more_index_factors : Indices → List Token → List Token
  put_more_index_factors no_indices s = s
  put_more_index_factors (index_on v more) s = Fixed Star ∷ wrap (is_index_add v || is_index_mul v) (put_index v) (put_more_index_factors more s)

-- an exponent: a sum and a product stand in parentheses
abbrev pub put_exponent : Index → List Token → List Token
put_exponent v s = wrap (is_index_add v || is_index_mul v) (put_index v) s

-- NAME "in" from ".." to "("
abbrev pub put_range : List ℕ → Index → Index → List Token → List Token
put_range name from to s = Name name ∷ Fixed In ∷ put_index from (Fixed DotDot ∷ put_index to (Fixed Open ∷ s))

abbrev pub is_add : Tree → Bool
is_add (add at items) = true
is_add _ = false

abbrev pub is_mul : Tree → Bool
is_mul (mul at factors) = true
is_mul _ = false

abbrev pub is_pow : Tree → Bool
is_pow (pow at base exponent) = true
is_pow _ = false

-- expressions: a sum stands in parentheses where it is an item, a sum and a product where they are a factor, and a sum, a product and a power
-- where they are a base
abbrev mutual
  pub put_tree : Tree → List Token → List Token
  put_tree (number at value) s = Number value ∷ s
  put_tree (var at name) s = Name name ∷ s
  put_tree (joint at index) s = Fixed Joint ∷ Fixed OpenBracket ∷ put_index index (Fixed CloseBracket ∷ s)
  put_tree (meas at index) s = Fixed Meas ∷ Fixed OpenBracket ∷ put_index index (Fixed CloseBracket ∷ s)
  put_tree (meas_or_zero at index) s = Fixed Meas ∷ Fixed Question ∷ Fixed OpenBracket ∷ put_index index (Fixed CloseBracket ∷ s)
  put_tree (sum at name from to inner) s = Fixed Sum ∷ put_range name from to (put_tree inner (Fixed Close ∷ s))
  put_tree (call at name args) s = Name name ∷ Fixed Open ∷ put_args args (Fixed Close ∷ s)
  put_tree (add at items) s = put_items items s
  put_tree (mul at factors) s = put_factors factors s
  put_tree (pow at base exponent) s = wrap (is_add base || is_mul base || is_pow base) (put_tree base) (Fixed Caret ∷ put_exponent exponent s)

  pub put_items : Items → List Token → List Token
  put_items no_items s = s
  put_items (item_on minus v more) s = put_minus minus (wrap (is_add v) (put_tree v) (put_more_items more s))

  pub put_more_items : Items → List Token → List Token
  put_more_items no_items s = s
  put_more_items (item_on minus v more) s = put_sign minus (wrap (is_add v) (put_tree v) (put_more_items more s))

  pub put_factors : Trees → List Token → List Token
  put_factors no_trees s = s
  put_factors (tree_on v more) s = wrap (is_add v || is_mul v) (put_tree v) (put_more_factors more s)

  pub put_more_factors : Trees → List Token → List Token
  put_more_factors no_trees s = s
  put_more_factors (tree_on v more) s = Fixed Star ∷ wrap (is_add v || is_mul v) (put_tree v) (put_more_factors more s)

  pub put_arg : Argument → List Token → List Token
  put_arg (one v) s = put_tree v s
  put_arg (each_arg at name from to inner) s = Fixed Each ∷ put_range name from to (put_args inner (Fixed Close ∷ s))

  pub put_args : Arguments → List Token → List Token
  put_args no_args s = s
  put_args (arg_on v more) s = put_arg v (put_more_args more s)

  pub put_more_args : Arguments → List Token → List Token
  put_more_args no_args s = s
  put_more_args (arg_on v more) s = Fixed Comma ∷ put_arg v (put_more_args more s)

abbrev mutual
  pub put_stmt : Statement → List Token → List Token
  put_stmt (check at v) s = Fixed Check ∷ put_tree v (Fixed Semicolon ∷ s)
  put_stmt (out at v) s = Fixed Out ∷ put_tree v (Fixed Semicolon ∷ s)
  put_stmt (each at name from to inner) s = Fixed Each ∷ put_range name from to (put_stmts inner (Fixed Close ∷ s))

  pub put_stmts : Statements → List Token → List Token
  put_stmts no_stmts s = s
  put_stmts (stmt_on v more) s = put_stmt v (put_stmts more s)

abbrev pub put_coef : Coef → List Token → List Token
put_coef coef s = put_minus coef.minus (Number coef.size ∷ s)

abbrev pub put_coefs : List Coef → List Token → List Token
put_coefs [] s = s
put_coefs (coef ∷ more) s = put_coef coef (put_coefs more s)

abbrev pub put_kind : Kind → List Token → List Token
put_kind mul_kind s = Fixed Mul ∷ s
put_kind (poly_kind coefs) s = Fixed Poly ∷ put_coefs coefs s
put_kind (psum_kind count inner) s = Fixed Psum ∷ Number count ∷ put_kind inner s

abbrev pub put_decl : Declaration → List Token → List Token
put_decl decl s = Fixed Gadget ∷ Name decl.name ∷ Fixed Equals ∷ put_kind decl.kind (Fixed Semicolon ∷ s)

abbrev pub put_decls : List Declaration → List Token → List Token
put_decls [] s = s
put_decls (decl ∷ more) s = put_decl decl (put_decls more s)

-- NAME "=" NUMBER
abbrev pub put_setting : List ℕ → ℕ → List Token → List Token
put_setting name value s = Name name ∷ Fixed Equals ∷ Number value ∷ s

-- a standard circuit behind `use`
abbrev pub put_params : Params → List Token → List Token
put_params params.Count s = Name (codes "count") ∷ Fixed Semicolon ∷ s
put_params (params.Sum max) s = Fixed Sum ∷ put_setting (codes "max") max (Fixed Semicolon ∷ s)
put_params (params.SumVec length bits chunk) s = Name (codes "sumvec") ∷ put_setting (codes "length") length (put_setting (codes "bits") bits (put_setting (codes "chunk") chunk (Fixed Semicolon ∷ s)))
put_params (params.Histogram length chunk) s = Name (codes "histogram") ∷ put_setting (codes "length") length (put_setting (codes "chunk") chunk (Fixed Semicolon ∷ s))
put_params (params.Multihot length weight chunk) s = Name (codes "multihot") ∷ put_setting (codes "length") length (put_setting (codes "weight") weight (put_setting (codes "chunk") chunk (Fixed Semicolon ∷ s)))

-- a body behind `meas`: the numbers of its words, and then its declarations and statements
abbrev pub put_words : ℕ → ℕ → List Token → List Token
put_words encoded shared s = Number encoded ∷ Fixed Semicolon ∷ Fixed Joint ∷ Number shared ∷ Fixed Semicolon ∷ s

abbrev pub put_body : Program → List Token → List Token
put_body body s = put_words body.meas body.joint (put_decls body.gadgets (put_stmts body.stmts s))

abbrev pub put_text : Text → List Token → List Token
put_text (standard params) s = Fixed Use ∷ put_params params s
put_text (program body) s = Fixed Meas ∷ put_body body s

-- all tokens of a circuit
abbrev pub printed_tokens : Text → List Token
printed_tokens text = put_text text []
