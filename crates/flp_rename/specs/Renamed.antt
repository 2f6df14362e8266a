-- The statements in which each loop is named by its depth, and each variable by that of its loop. From names up to statements.
use Rattle.std.specs.Prelude.{ℕ, suc, ◌++◌, if◌then◌else◌, List, [], ◌∷◌, length, replicate}
use Rattle.std.specs.Str.{bytes_eq}
use Rattle.flp_syntax.specs.Tree.{Index, index_number, index_var, index_add, index_mul, IndexItems, no_index_items, index_item_on, Indices, no_indices, index_on, Tree, number, var, joint, meas, meas_or_zero, sum, call, add, mul, pow, Items, no_items, item_on, Trees, no_trees, tree_on, Argument, one, each_arg, Arguments, no_args, arg_on, Statement, check, out, each, Statements, no_stmts, stmt_on}
use Rattle.flp_syntax.specs.Scope.{Names, Scope}

-- the name of a loop with this many loops round it: as many bytes
abbrev pub depth_name : ℕ → List ℕ
depth_name depth = replicate depth 0

-- how many loops stand round the first of this name; the number of all of them where there is none
abbrev pub depth_of : Names → List ℕ → ℕ
depth_of [] name = 0
depth_of (other ∷ more) name = if bytes_eq other name then 0 else suc (depth_of more name)

-- the name of a variable's loop
abbrev pub loop_name : Names → List ℕ → List ℕ
loop_name names name = depth_name (depth_of names name)

abbrev mutual
  pub renamed_index : Names → Index → Index
  renamed_index names (index_number at value) = index_number at value
  renamed_index names (index_var at name) = index_var at (loop_name names name)
  renamed_index names (index_add at items) = index_add at (renamed_index_items names items)
  renamed_index names (index_mul at factors) = index_mul at (renamed_indices names factors)

  pub renamed_index_items : Names → IndexItems → IndexItems
  renamed_index_items names no_index_items = no_index_items
  renamed_index_items names (index_item_on minus index more) = index_item_on minus (renamed_index names index) (renamed_index_items names more)

  pub renamed_indices : Names → Indices → Indices
  renamed_indices names no_indices = no_indices
  renamed_indices names (index_on index more) = index_on (renamed_index names index) (renamed_indices names more)

-- the names of gadgets stay
abbrev mutual
  pub renamed_tree : Names → Tree → Tree
  renamed_tree names (number at value) = number at value
  renamed_tree names (var at name) = var at (loop_name names name)
  renamed_tree names (joint at index) = joint at (renamed_index names index)
  renamed_tree names (meas at index) = meas at (renamed_index names index)
  renamed_tree names (meas_or_zero at index) = meas_or_zero at (renamed_index names index)
  renamed_tree names (sum at name from to inner) = sum at (depth_name (length names)) (renamed_index names from) (renamed_index names to) (renamed_tree (names ++ name ∷ []) inner)
  renamed_tree names (call at name args) = call at name (renamed_arguments names args)
  renamed_tree names (add at items) = add at (renamed_items names items)
  renamed_tree names (mul at factors) = mul at (renamed_trees names factors)
  renamed_tree names (pow at base exponent) = pow at (renamed_tree names base) (renamed_index names exponent)

  pub renamed_items : Names → Items → Items
  renamed_items names no_items = no_items
  renamed_items names (item_on minus expr more) = item_on minus (renamed_tree names expr) (renamed_items names more)

  pub renamed_trees : Names → Trees → Trees
  renamed_trees names no_trees = no_trees
  renamed_trees names (tree_on expr more) = tree_on (renamed_tree names expr) (renamed_trees names more)

  pub renamed_argument : Names → Argument → Argument
  renamed_argument names (one expr) = one (renamed_tree names expr)
  renamed_argument names (each_arg at name from to inner) = each_arg at (depth_name (length names)) (renamed_index names from) (renamed_index names to) (renamed_arguments (names ++ name ∷ []) inner)

  pub renamed_arguments : Names → Arguments → Arguments
  renamed_arguments names no_args = no_args
  renamed_arguments names (arg_on arg more) = arg_on (renamed_argument names arg) (renamed_arguments names more)

abbrev mutual
  pub renamed_statement : Names → Statement → Statement
  renamed_statement names (check at expr) = check at (renamed_tree names expr)
  renamed_statement names (out at expr) = out at (renamed_tree names expr)
  renamed_statement names (each at name from to inner) = each at (depth_name (length names)) (renamed_index names from) (renamed_index names to) (renamed_statements (names ++ name ∷ []) inner)

  pub renamed_statements : Names → Statements → Statements
  renamed_statements names no_stmts = no_stmts
  renamed_statements names (stmt_on stmt more) = stmt_on (renamed_statement names stmt) (renamed_statements names more)

-- the loops round a place by their depths, the first of which has so many round it
abbrev pub renamed_from : ℕ → Scope → Scope
renamed_from depth [] = []
renamed_from depth (bound ∷ more) = record { name = depth_name depth; value = bound.value } ∷ renamed_from (suc depth) more

-- the loops round a place, named by their depths
abbrev pub renamed_scope : Scope → Scope
renamed_scope scope = renamed_from 0 scope
