-- Circuits that are well formed: no list in them is empty, each name is one that a text can have, and each place leaves room for one more.
use Rattle.std.specs.Prelude.{ℕ, ◌<◌, ◌≡◌, Bool, true, ◌&&◌, List, [], ◌∷◌, Option, None, Some}
use Rattle.flp_syntax.specs.declared.token.Mark.{Mark}
use Rattle.flp_syntax.specs.Tokens.{is_letter, is_name_byte, reserved}
use Rattle.flp_syntax.specs.Tree.{Index, index_number, index_var, index_add, index_mul, IndexItems, no_index_items, index_item_on, Indices, no_indices, index_on, Tree, number, var, joint, meas, meas_or_zero, sum, call, add, mul, pow, Items, no_items, item_on, Trees, no_trees, tree_on, Argument, one, each_arg, Arguments, no_args, arg_on, Statement, check, out, each, Statements, no_stmts, stmt_on, Kind, mul_kind, poly_kind, psum_kind, Declaration, Program, Text, standard, program}

-- letters, digits and `_` alone
abbrev pub are_name_bytes : List ℕ → Bool
are_name_bytes [] = true
are_name_bytes (byte ∷ more) = is_name_byte byte && are_name_bytes more

abbrev pub IsUnreserved : Option Mark → Type 0
IsUnreserved None = Unit {0}
IsUnreserved (Some mark) = ⊥

-- a letter, and then letters, digits and `_`, but no reserved word
abbrev pub IsName : List ℕ → Type 0
IsName [] = ⊥
IsName (byte ∷ more) = (is_letter byte ≡ true) × (are_name_bytes more ≡ true) × IsUnreserved (reserved (byte ∷ more))

abbrev pub IsPlace : ℕ → Type 0
IsPlace at = at < 4294967295

abbrev pub HasIndexItem : IndexItems → Type 0
HasIndexItem no_index_items = ⊥
HasIndexItem (index_item_on minus index more) = Unit {0}

abbrev pub HasIndex : Indices → Type 0
HasIndex no_indices = ⊥
HasIndex (index_on index more) = Unit {0}

abbrev mutual
  pub IndexIsWell : Index → Type 0
  IndexIsWell (index_number at value) = IsPlace at
  IndexIsWell (index_var at name) = IsPlace at × IsName name
  IndexIsWell (index_add at items) = IsPlace at × HasIndexItem items × IndexItemsAreWell items
  IndexIsWell (index_mul at factors) = IsPlace at × HasIndex factors × IndicesAreWell factors

  pub IndexItemsAreWell : IndexItems → Type 0
  IndexItemsAreWell no_index_items = Unit {0}
  IndexItemsAreWell (index_item_on minus index more) = IndexIsWell index × IndexItemsAreWell more

  pub IndicesAreWell : Indices → Type 0
  IndicesAreWell no_indices = Unit {0}
  IndicesAreWell (index_on index more) = IndexIsWell index × IndicesAreWell more

abbrev pub HasItem : Items → Type 0
HasItem no_items = ⊥
HasItem (item_on minus expr more) = Unit {0}

abbrev pub HasTree : Trees → Type 0
HasTree no_trees = ⊥
HasTree (tree_on expr more) = Unit {0}

abbrev pub HasArg : Arguments → Type 0
HasArg no_args = ⊥
HasArg (arg_on arg more) = Unit {0}

abbrev mutual
  pub TreeIsWell : Tree → Type 0
  TreeIsWell (number at value) = IsPlace at
  TreeIsWell (var at name) = IsPlace at × IsName name
  TreeIsWell (joint at index) = IsPlace at × IndexIsWell index
  TreeIsWell (meas at index) = IsPlace at × IndexIsWell index
  TreeIsWell (meas_or_zero at index) = IsPlace at × IndexIsWell index
  TreeIsWell (sum at name from to inner) = IsPlace at × IsName name × IndexIsWell from × IndexIsWell to × TreeIsWell inner
  TreeIsWell (call at name args) = IsPlace at × IsName name × HasArg args × ArgumentsAreWell args
  TreeIsWell (add at items) = IsPlace at × HasItem items × ItemsAreWell items
  TreeIsWell (mul at factors) = IsPlace at × HasTree factors × TreesAreWell factors
  TreeIsWell (pow at base exponent) = IsPlace at × TreeIsWell base × IndexIsWell exponent

  pub ItemsAreWell : Items → Type 0
  ItemsAreWell no_items = Unit {0}
  ItemsAreWell (item_on minus expr more) = TreeIsWell expr × ItemsAreWell more

  pub TreesAreWell : Trees → Type 0
  TreesAreWell no_trees = Unit {0}
  TreesAreWell (tree_on expr more) = TreeIsWell expr × TreesAreWell more

  pub ArgumentIsWell : Argument → Type 0
  ArgumentIsWell (one expr) = TreeIsWell expr
  ArgumentIsWell (each_arg at name from to inner) = IsPlace at × IsName name × IndexIsWell from × IndexIsWell to × HasArg inner × ArgumentsAreWell inner

  pub ArgumentsAreWell : Arguments → Type 0
  ArgumentsAreWell no_args = Unit {0}
  ArgumentsAreWell (arg_on arg more) = ArgumentIsWell arg × ArgumentsAreWell more

abbrev pub HasStmt : Statements → Type 0
HasStmt no_stmts = ⊥
HasStmt (stmt_on stmt more) = Unit {0}

abbrev mutual
  pub StatementIsWell : Statement → Type 0
  StatementIsWell (check at expr) = IsPlace at × TreeIsWell expr
  StatementIsWell (out at expr) = IsPlace at × TreeIsWell expr
  StatementIsWell (each at name from to inner) = IsPlace at × IsName name × IndexIsWell from × IndexIsWell to × HasStmt inner × StatementsAreWell inner

  pub StatementsAreWell : Statements → Type 0
  StatementsAreWell no_stmts = Unit {0}
  StatementsAreWell (stmt_on stmt more) = StatementIsWell stmt × StatementsAreWell more

abbrev pub HasOne : {A : Type 0} → List A → Type 0
HasOne [] = ⊥
HasOne (x ∷ more) = Unit {0}

abbrev pub KindIsWell : Kind → Type 0
KindIsWell mul_kind = Unit {0}
KindIsWell (poly_kind coefs) = HasOne coefs
KindIsWell (psum_kind count inner) = KindIsWell inner

abbrev pub DeclarationsAreWell : List Declaration → Type 0
DeclarationsAreWell [] = Unit {0}
DeclarationsAreWell (decl ∷ more) = IsPlace decl.at × IsName decl.name × KindIsWell decl.kind × DeclarationsAreWell more

abbrev pub ProgramIsWell : Program → Type 0
ProgramIsWell body = HasOne body.gadgets × DeclarationsAreWell body.gadgets × HasStmt body.stmts × StatementsAreWell body.stmts

-- a standard circuit always is
abbrev pub IsWellFormed : Text → Type 0
IsWellFormed (standard params) = Unit {0}
IsWellFormed (program body) = ProgramIsWell body
