-- What the parser makes of a text is well formed.
use Rattle.std.proofs.Common.{ℕ, suc, ◌+◌, ◌≤◌, ◌<◌, ◌≡◌, Bool, true, false, List, [], ◌∷◌, length, Option, None, Some, refl, sym, subst, arith, take, option_to_list, cond, ◌++◌}
use Rattle.flp_lang.specs.Grammar.{IsIndex, an_index, MoreIndexTerms, no_index_term, plus_index_term, minus_index_term, IsIndexTerm, an_index_term, MoreIndexFactors, no_index_factor, star_index_factor, IsIndexPrim, an_index_number, an_index_var, an_index_group, IsExpr, an_expr, a_minus_expr, MoreTerms, no_term, plus_term, minus_term, IsTerm, a_term, MoreFactors, no_factor, star_factor, IsFactor, a_factor, IsExponent, no_exponent, an_exponent, IsPrim, a_number, a_joint, a_meas, a_meas_or_zero, a_sum, a_call, a_var, a_group, IsArgs, some_args, MoreArgs, no_arg, comma_arg, IsArg, an_arg, an_each_arg, IsStmt, a_check, an_out, an_each, IsStmts, some_stmts, MoreStmts, no_stmt, one_more_stmt, IsCoef, a_coef, a_minus_coef, MoreCoefs, no_coef, one_more_coef, IsKind, a_mul, a_poly, a_psum, IsDecl, a_decl, MoreDecls, no_decl, one_more_decl, IsBody, a_body, IsCircuit, a_standard, a_program}
use Rattle.flp_syntax.specs.Tree.{Index, index_number, index_var, index_add, index_mul, index_items, indices, index_sum, index_product, index_at, Tree, number, var, joint, meas, meas_or_zero, sum, call, add, mul, pow, items, trees, tree_at, sum_of, product_of, power_of, Argument, arguments, Statement, statements, Kind, Declaration, Program, Text}
use Rattle.std.proofs.Common.{◌==◌, nat_lt, codes, Result, Ok, Err, IfOk}
use borrow.Author.Tests.{ltb-true}
use Rattle.std.specs.List.{prefix_len}
use Rattle.std.specs.Str.{bytes_eq}
use Rattle.flp_field.specs.Word.{modulus}
use Rattle.flp_syntax.specs.Tokens.{Reads, nothing_read, piece_read, piece_of, IsLexed, is_blank, is_letter, is_digit, is_name_byte, digits_value, reserved, symbol, word_token, number_piece, symbol_piece}
use Rattle.flp_lang.specs.Verdict.{good, IsJudgedAs}
use Rattle.flp_lang.specs.Run.{verdict}
use Rattle.flp_syntax.specs.View.{text_of}
use Rattle.flp_lang.proofs.Verdicts.{judged}
use Rattle.flp_lang.proofs.Readings.{name-begins}
use Rattle.flp_syntax.specs.declared.fault.LangFault.{LangFault}
use Rattle.flp_syntax.specs.declared.syntax.Circuit.{Circuit}
use Rattle.flp_syntax.specs.declared.token.Mark.{Mark}
use Rattle.flp_syntax.specs.WellFormed.{IsUnreserved, are_name_bytes, IsName, IsPlace, IndexIsWell, IndexItemsAreWell, IndicesAreWell, TreeIsWell, ItemsAreWell, TreesAreWell, ArgumentIsWell, ArgumentsAreWell, HasArg, StatementIsWell, StatementsAreWell, HasStmt, KindIsWell, DeclarationsAreWell, ProgramIsWell, IsWellFormed}
use Rattle.flp_syntax.specs.declared.syntax.Coef.{Coef}
use Rattle.flp_syntax.specs.declared.token.Token.{Token}
use Rattle.flp_syntax.specs.declared.token.Token.TheVariants.{Number, Name, Fixed}

-- tokens that a text can have: names are names, and numbers below the modulus
abbrev pub IsReal : Token → Type 0
IsReal (Name n) = IsName n
IsReal (Number n) = n < modulus
IsReal (Fixed m) = Unit {0}

abbrev pub AreReal : List Token → Type 0
AreReal [] = Unit {0}
AreReal (t ∷ more) = IsReal t × AreReal more

-- from this place on there are few tokens, and their names are names
pub record Rest (k : ℕ) (s : List Token) : Type 0 where
  pub room : k + length s < 4294967295
  pub real : AreReal s

on : {k : ℕ} {t : Token} {s : List Token} → Rest k (t ∷ s) → Rest (suc k) s
on {k} {t} {s} h = let i = h.room in record { room = omega arith; real = h.real.1 }

here : {k : ℕ} {t : Token} {s : List Token} → Rest k (t ∷ s) → IsPlace k
here h = let i = h.room in omega arith

name_well : {k : ℕ} {n : List ℕ} {s : List Token} → Rest k (Name n ∷ s) → IsName n
name_well h = h.real.0

place_of_index : (v : Index) → IndexIsWell v → IsPlace (index_at v)
place_of_index (index_number at value) w = w
place_of_index (index_var at name) w = w.0
place_of_index (index_add at items) w = w.0
place_of_index (index_mul at factors) w = w.0

place_of_tree : (v : Tree) → TreeIsWell v → IsPlace (tree_at v)
place_of_tree (number at value) w = w
place_of_tree (var at name) w = w.0
place_of_tree (joint at index) w = w.0
place_of_tree (meas at index) w = w.0
place_of_tree (meas_or_zero at index) w = w.0
place_of_tree (sum at name from to inner) w = w.0
place_of_tree (call at name args) w = w.0
place_of_tree (add at items) w = w.0
place_of_tree (mul at factors) w = w.0
place_of_tree (pow at base exponent) w = w.0

well_index_sum : (v : Index) (more : List (Bool × Index)) → IndexIsWell v → IndexItemsAreWell (index_items more) → IndexIsWell (index_sum v more)
well_index_sum v [] w ws = w
well_index_sum v (x ∷ more) w ws = (place_of_index v w, tt, (w, ws))

well_index_product : (v : Index) (more : List Index) → IndexIsWell v → IndicesAreWell (indices more) → IndexIsWell (index_product v more)
well_index_product v [] w ws = w
well_index_product v (x ∷ more) w ws = (place_of_index v w, tt, (w, ws))

well_sum : (minus : Bool) (v : Tree) (more : List (Bool × Tree)) → TreeIsWell v → ItemsAreWell (items more) → TreeIsWell (sum_of minus v more)
well_sum true v more w ws = (place_of_tree v w, tt, (w, ws))
well_sum false v [] w ws = w
well_sum false v (x ∷ more) w ws = (place_of_tree v w, tt, (w, ws))

well_product : (v : Tree) (more : List Tree) → TreeIsWell v → TreesAreWell (trees more) → TreeIsWell (product_of v more)
well_product v [] w ws = w
well_product v (x ∷ more) w ws = (place_of_tree v w, tt, (w, ws))

abbrev WellExponent : Option Index → Type 0
WellExponent None = Unit {0}
WellExponent (Some v) = IndexIsWell v

well_power : (v : Tree) (e : Option Index) → TreeIsWell v → WellExponent e → TreeIsWell (power_of v e)
well_power v None w ws = w
well_power v (Some e) w ws = (place_of_tree v w, w, ws)

mutual
  index_well : {k k' : ℕ} {s s' : List Token} {v : Index} → IsIndex k s k' s' v → Rest k s → IndexIsWell v × Rest k' s'
  index_well (an_index {v = v} {more = more} d m) h = let a = index_term_well d h in let b = index_terms_well m a.1 in (well_index_sum v more a.0 b.0, b.1)

  index_terms_well : {k k' : ℕ} {s s' : List Token} {v : List (Bool × Index)} → MoreIndexTerms k s k' s' v → Rest k s → IndexItemsAreWell (index_items v) × Rest k' s'
  index_terms_well no_index_term h = (tt, h)
  index_terms_well (plus_index_term d m) h = let a = index_term_well d (on h) in let b = index_terms_well m a.1 in ((a.0, b.0), b.1)
  index_terms_well (minus_index_term d m) h = let a = index_term_well d (on h) in let b = index_terms_well m a.1 in ((a.0, b.0), b.1)

  index_term_well : {k k' : ℕ} {s s' : List Token} {v : Index} → IsIndexTerm k s k' s' v → Rest k s → IndexIsWell v × Rest k' s'
  index_term_well (an_index_term {v = v} {more = more} d m) h = let a = index_prim_well d h in let b = index_factors_well m a.1 in (well_index_product v more a.0 b.0, b.1)

  index_factors_well : {k k' : ℕ} {s s' : List Token} {v : List Index} → MoreIndexFactors k s k' s' v → Rest k s → IndicesAreWell (indices v) × Rest k' s'
  index_factors_well no_index_factor h = (tt, h)
  index_factors_well (star_index_factor d m) h = let a = index_prim_well d (on h) in let b = index_factors_well m a.1 in ((a.0, b.0), b.1)

  index_prim_well : {k k' : ℕ} {s s' : List Token} {v : Index} → IsIndexPrim k s k' s' v → Rest k s → IndexIsWell v × Rest k' s'
  index_prim_well an_index_number h = (here h, on h)
  index_prim_well an_index_var h = ((here h, name_well h), on h)
  index_prim_well (an_index_group d) h = let a = index_well d (on h) in (a.0, on a.1)

mutual
  expr_well : {k k' : ℕ} {s s' : List Token} {v : Tree} → IsExpr k s k' s' v → Rest k s → TreeIsWell v × Rest k' s'
  expr_well (an_expr {v = v} {more = more} d m) h = let a = term_well d h in let b = terms_well m a.1 in (well_sum false v more a.0 b.0, b.1)
  expr_well (a_minus_expr {v = v} {more = more} d m) h = let a = term_well d (on h) in let b = terms_well m a.1 in (well_sum true v more a.0 b.0, b.1)

  terms_well : {k k' : ℕ} {s s' : List Token} {v : List (Bool × Tree)} → MoreTerms k s k' s' v → Rest k s → ItemsAreWell (items v) × Rest k' s'
  terms_well no_term h = (tt, h)
  terms_well (plus_term d m) h = let a = term_well d (on h) in let b = terms_well m a.1 in ((a.0, b.0), b.1)
  terms_well (minus_term d m) h = let a = term_well d (on h) in let b = terms_well m a.1 in ((a.0, b.0), b.1)

  term_well : {k k' : ℕ} {s s' : List Token} {v : Tree} → IsTerm k s k' s' v → Rest k s → TreeIsWell v × Rest k' s'
  term_well (a_term {v = v} {more = more} d m) h = let a = factor_well d h in let b = factors_well m a.1 in (well_product v more a.0 b.0, b.1)

  factors_well : {k k' : ℕ} {s s' : List Token} {v : List Tree} → MoreFactors k s k' s' v → Rest k s → TreesAreWell (trees v) × Rest k' s'
  factors_well no_factor h = (tt, h)
  factors_well (star_factor d m) h = let a = factor_well d (on h) in let b = factors_well m a.1 in ((a.0, b.0), b.1)

  factor_well : {k k' : ℕ} {s s' : List Token} {v : Tree} → IsFactor k s k' s' v → Rest k s → TreeIsWell v × Rest k' s'
  factor_well (a_factor {v = v} {exponent = e} d m) h = let a = prim_well d h in let b = exponent_well m a.1 in (well_power v e a.0 b.0, b.1)

  exponent_well : {k k' : ℕ} {s s' : List Token} {v : Option Index} → IsExponent k s k' s' v → Rest k s → WellExponent v × Rest k' s'
  exponent_well no_exponent h = (tt, h)
  exponent_well (an_exponent d) h = index_prim_well d (on h)

  prim_well : {k k' : ℕ} {s s' : List Token} {v : Tree} → IsPrim k s k' s' v → Rest k s → TreeIsWell v × Rest k' s'
  prim_well a_number h = (here h, on h)
  prim_well (a_joint d) h = let a = index_well d (on (on h)) in ((here h, a.0), on a.1)
  prim_well (a_meas d) h = let a = index_well d (on (on h)) in ((here h, a.0), on a.1)
  prim_well (a_meas_or_zero d) h = let a = index_well d (on (on (on h))) in ((here h, a.0), on a.1)
  prim_well (a_sum d e f) h = let a = index_well d (on (on (on h))) in let b = index_well e (on a.1) in let g = expr_well f (on b.1) in ((here h, name_well (on h), a.0, b.0, g.0), on g.1)
  prim_well (a_call d) h = let a = args_well d (on (on h)) in ((here h, name_well h, a.0, a.1), on a.2)
  prim_well a_var h = ((here h, name_well h), on h)
  prim_well (a_group d) h = let a = expr_well d (on h) in (a.0, on a.1)

  args_well : {k k' : ℕ} {s s' : List Token} {v : List Argument} → IsArgs k s k' s' v → Rest k s → HasArg (arguments v) × ArgumentsAreWell (arguments v) × Rest k' s'
  args_well (some_args d m) h = let a = arg_well d h in let b = more_args_well m a.1 in (tt, (a.0, b.0), b.1)

  more_args_well : {k k' : ℕ} {s s' : List Token} {v : List Argument} → MoreArgs k s k' s' v → Rest k s → ArgumentsAreWell (arguments v) × Rest k' s'
  more_args_well no_arg h = (tt, h)
  more_args_well (comma_arg d m) h = let a = arg_well d (on h) in let b = more_args_well m a.1 in ((a.0, b.0), b.1)

  arg_well : {k k' : ℕ} {s s' : List Token} {v : Argument} → IsArg k s k' s' v → Rest k s → ArgumentIsWell v × Rest k' s'
  arg_well (an_arg d) h = expr_well d h
  arg_well (an_each_arg d e f) h = let a = index_well d (on (on (on h))) in let b = index_well e (on a.1) in let g = args_well f (on b.1) in ((here h, name_well (on h), a.0, b.0, g.0, g.1), on g.2)

mutual
  stmt_well : {k k' : ℕ} {s s' : List Token} {v : Statement} → IsStmt k s k' s' v → Rest k s → StatementIsWell v × Rest k' s'
  stmt_well (a_check d) h = let a = expr_well d (on h) in ((here h, a.0), on a.1)
  stmt_well (an_out d) h = let a = expr_well d (on h) in ((here h, a.0), on a.1)
  stmt_well (an_each d e f) h = let a = index_well d (on (on (on h))) in let b = index_well e (on a.1) in let g = stmts_well f (on b.1) in ((here h, name_well (on h), a.0, b.0, g.0, g.1), on g.2)

  stmts_well : {k k' : ℕ} {s s' : List Token} {v : List Statement} → IsStmts k s k' s' v → Rest k s → HasStmt (statements v) × StatementsAreWell (statements v) × Rest k' s'
  stmts_well (some_stmts d m) h = let a = stmt_well d h in let b = more_stmts_well m a.1 in (tt, (a.0, b.0), b.1)

  more_stmts_well : {k k' : ℕ} {s s' : List Token} {v : List Statement} → MoreStmts k s k' s' v → Rest k s → StatementsAreWell (statements v) × Rest k' s'
  more_stmts_well no_stmt h = (tt, h)
  more_stmts_well (one_more_stmt d m) h = let a = stmt_well d h in let b = more_stmts_well m a.1 in ((a.0, b.0), b.1)

coef_rest : {k k' : ℕ} {s s' : List Token} {v : Coef} → IsCoef k s k' s' v → Rest k s → Rest k' s'
coef_rest a_coef h = on h
coef_rest a_minus_coef h = on (on h)

coefs_rest : {k k' : ℕ} {s s' : List Token} {v : List Coef} → MoreCoefs k s k' s' v → Rest k s → Rest k' s'
coefs_rest no_coef h = h
coefs_rest (one_more_coef d m) h = coefs_rest m (coef_rest d h)

kind_well : {k k' : ℕ} {s s' : List Token} {v : Kind} → IsKind k s k' s' v → Rest k s → KindIsWell v × Rest k' s'
kind_well a_mul h = (tt, on h)
kind_well (a_poly d m) h = (tt, coefs_rest m (coef_rest d (on h)))
kind_well (a_psum d) h = kind_well d (on (on h))

decl_well : {k k' : ℕ} {s s' : List Token} {v : Declaration} → IsDecl k s k' s' v → Rest k s → (IsPlace v.at × IsName v.name × KindIsWell v.kind) × Rest k' s'
decl_well (a_decl d) h = let a = kind_well d (on (on (on h))) in ((here h, name_well (on h), a.0), on a.1)

decls_well : {k k' : ℕ} {s s' : List Token} {v : List Declaration} → MoreDecls k s k' s' v → Rest k s → DeclarationsAreWell v × Rest k' s'
decls_well no_decl h = (tt, h)
decls_well (one_more_decl d m) h = let a = decl_well d h in let b = decls_well m a.1 in ((a.0.0, a.0.1, a.0.2, b.0), b.1)

body_well : {k k' : ℕ} {s s' : List Token} {v : Program} → IsBody k s k' s' v → Rest k s → ProgramIsWell v
body_well (a_body d m n) h =
    let a = decl_well d (on (on (on (on (on (on h)))))) in
    let b = decls_well m a.1 in
    let g = stmts_well n b.1 in
    (tt, (a.0.0, a.0.1, a.0.2, b.0), g.0, g.1)

pub circuit_well : {k k' : ℕ} {s s' : List Token} {v : Text} → IsCircuit k s k' s' v → Rest k s → IsWellFormed v
circuit_well (a_standard d) h = tt
circuit_well (a_program d) h = body_well d h

-- the tokens of a text are such

abbrev RealPiece : Option (Option Token × ℕ) → Type 0
RealPiece None = Unit {0}
RealPiece (Some piece) = AreReal (option_to_list piece.0)

real-if : (b : Bool) (x y : Option (Option Token × ℕ)) → (b ≡ true → RealPiece x) → (b ≡ false → RealPiece y) → RealPiece (cond b x y)
real-if true x y f g = f refl
real-if false x y f g = g refl

one-plus : (n : ℕ) → 1 + n ≡ suc n
one-plus n = omega arith

front-step : (byte : ℕ) (more : List ℕ) (n : ℕ) → are_name_bytes (take n more) ≡ true → (b : Bool) → is_name_byte byte ≡ b → are_name_bytes (take (cond b (1 + n) 0) (byte ∷ more)) ≡ true
front-step byte more n h true e = rw (one-plus n, e) h
front-step byte more n h false e = refl

front-bytes : (text : List ℕ) → are_name_bytes (take (prefix_len is_name_byte text) text) ≡ true
front-bytes [] = refl
front-bytes (byte ∷ more) = front-step byte more (prefix_len is_name_byte more) (front-bytes more) (is_name_byte byte) refl

word-is : (byte : ℕ) (more : List ℕ) → is_name_byte byte ≡ true → take (prefix_len is_name_byte (byte ∷ more)) (byte ∷ more) ≡ byte ∷ take (prefix_len is_name_byte more) more
word-is byte more e = rw (e, one-plus (prefix_len is_name_byte more)) refl

real-word : (byte : ℕ) (more : List ℕ) → is_letter byte ≡ true → (o : Option Mark) → reserved (byte ∷ take (prefix_len is_name_byte more) more) ≡ o → AreReal (word_token (byte ∷ take (prefix_len is_name_byte more) more) o ∷ [])
real-word byte more e (Some mark) i = (tt, tt)
real-word byte more e None i = ((e, front-bytes more, subst IsUnreserved (sym i) tt), tt)

real-name : (byte : ℕ) (more : List ℕ) → is_letter byte ≡ true → (word : List ℕ) → word ≡ byte ∷ take (prefix_len is_name_byte more) more → AreReal (word_token word (reserved word) ∷ [])
real-name byte more e word i = subst (λ (w : List ℕ). AreReal (word_token w (reserved w) ∷ [])) (sym i) (real-word byte more e (reserved (byte ∷ take (prefix_len is_name_byte more) more)) refl)

real-symbol : (mark : Option Mark) (bytes : List ℕ) → RealPiece (symbol_piece mark bytes)
real-symbol (Some mark) bytes = (tt, tt)
real-symbol None bytes = real-if (bytes_eq (take 2 bytes) (codes "..")) _ None (λ _. (tt, tt)) (λ _. tt)

real-number : (digits : List ℕ) → RealPiece (number_piece digits)
real-number digits = real-if (nat_lt (digits_value digits) modulus) _ None (λ e. (ltb-true _ _ e, tt)) (λ _. tt)

real-piece : (text : List ℕ) → RealPiece (piece_of text)
real-piece [] = tt
real-piece (byte ∷ more) =
    real-if (is_blank byte) _ _ (λ _. tt) (λ _.
    real-if (byte == 35) _ _ (λ _. tt) (λ _.
    real-if (is_letter byte) _ _ (λ e. real-name byte more e _ (word-is byte more (name-begins byte e))) (λ _.
    real-if (is_digit byte) _ _ (λ _. real-number (take (prefix_len is_digit (byte ∷ more)) (byte ∷ more))) (λ _. real-symbol (symbol byte) (byte ∷ more)))))

real-append : (token : Option Token) (tokens : List Token) → AreReal (option_to_list token) → AreReal tokens → AreReal (option_to_list token ++ tokens)
real-append None tokens h i = i
real-append (Some t) tokens h i = (h.0, i)

pub real_tokens : {text rest : List ℕ} {tokens : List Token} → Reads text rest tokens → AreReal tokens
real_tokens nothing_read = tt
real_tokens (piece_read {text = text} {token = token} {tokens = tokens} e d) = real-append token tokens (subst RealPiece e (real-piece text)) (real_tokens d)

-- the circuit of a text is well formed
pub parsed_well : (text : List ℕ) (tokens : List Token) (r : Result Circuit LangFault) → IsLexed text tokens → length tokens ≤ length text → IfOk r (λ c. verdict tokens ≡ good (text_of c)) → IfOk r (λ c. IsWellFormed (text_of c))
parsed_well text tokens (Err f) L h e = tt
parsed_well text tokens (Ok c) L h e =
    let J : IsJudgedAs tokens (good (text_of c)) = subst (IsJudgedAs tokens) e (judged tokens) in
    let i = L.0 in
    circuit_well J.0.1 (record { room = omega arith; real = real_tokens L.1 })
