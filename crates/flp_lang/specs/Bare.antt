-- Trees but for their token numbers: each is set to 0.
use Rattle.std.specs.Prelude.{map}
use Rattle.flp_syntax.specs.Tree.{Index, index_number, index_var, index_add, index_mul, IndexItems, no_index_items, index_item_on, Indices, no_indices, index_on, Tree, number, var, joint, meas, meas_or_zero, sum, call, add, mul, pow, Items, no_items, item_on, Trees, no_trees, tree_on, Argument, one, each_arg, Arguments, no_args, arg_on, Statement, check, out, each, Statements, no_stmts, stmt_on, Declaration, Program, Text, standard, program}

abbrev mutual
  pub bare_index : Index → Index
  bare_index (index_number at value) = index_number 0 value
  bare_index (index_var at name) = index_var 0 name
  bare_index (index_add at items) = index_add 0 (bare_index_items items)
  bare_index (index_mul at factors) = index_mul 0 (bare_indices factors)

  pub bare_index_items : IndexItems → IndexItems
  bare_index_items no_index_items = no_index_items
  bare_index_items (index_item_on minus v more) = index_item_on minus (bare_index v) (bare_index_items more)

  pub bare_indices : Indices → Indices
  bare_indices no_indices = no_indices
  bare_indices (index_on v more) = index_on (bare_index v) (bare_indices more)

abbrev mutual
  pub bare_tree : Tree → Tree
  bare_tree (number at value) = number 0 value
  bare_tree (var at name) = var 0 name
  bare_tree (joint at index) = joint 0 (bare_index index)
  bare_tree (meas at index) = meas 0 (bare_index index)
  bare_tree (meas_or_zero at index) = meas_or_zero 0 (bare_index index)
  bare_tree (sum at name from to inner) = sum 0 name (bare_index from) (bare_index to) (bare_tree inner)
  bare_tree (call at name args) = call 0 name (bare_args args)
  bare_tree (add at items) = add 0 (bare_items items)
  bare_tree (mul at factors) = mul 0 (bare_trees factors)
  bare_tree (pow at base exponent) = pow 0 (bare_tree base) (bare_index exponent)

  pub bare_items : Items → Items
  bare_items no_items = no_items
  bare_items (item_on minus v more) = item_on minus (bare_tree v) (bare_items more)

  pub bare_trees : Trees → Trees
  bare_trees no_trees = no_trees
  bare_trees (tree_on v more) = tree_on (bare_tree v) (bare_trees more)

  pub bare_arg : Argument → Argument
  bare_arg (one v) = one (bare_tree v)
  bare_arg (each_arg at name from to inner) = each_arg 0 name (bare_index from) (bare_index to) (bare_args inner)

  pub bare_args : Arguments → Arguments
  bare_args no_args = no_args
  bare_args (arg_on v more) = arg_on (bare_arg v) (bare_args more)

abbrev mutual
  pub bare_stmt : Statement → Statement
  bare_stmt (check at v) = check 0 (bare_tree v)
  bare_stmt (out at v) = out 0 (bare_tree v)
  bare_stmt (each at name from to inner) = each 0 name (bare_index from) (bare_index to) (bare_stmts inner)

  pub bare_stmts : Statements → Statements
  bare_stmts no_stmts = no_stmts
  bare_stmts (stmt_on v more) = stmt_on (bare_stmt v) (bare_stmts more)

abbrev pub bare_decl : Declaration → Declaration
bare_decl decl = record { at = 0; name = decl.name; kind = decl.kind }

abbrev pub bare_program : Program → Program
bare_program body = record { meas = body.meas; joint = body.joint; gadgets = map bare_decl body.gadgets; stmts = bare_stmts body.stmts }

-- a circuit but for its token numbers
abbrev pub bare : Text → Text
bare (standard params) = standard params
bare (program body) = program (bare_program body)
