-- The sorts of the parts of a circuit, as a list in the order in which the parts stand in the text. Each part has a mark and, behind it, the marks of the
-- parts inside it.
use Rattle.std.specs.Prelude.{◌≡◌, ◌+◌, Bool, true, List, [], ◌∷◌, ◌++◌, length}
use Rattle.flp_syntax.specs.Tree.{Tree, number, var, joint, meas, meas_or_zero, sum, call, add, mul, pow, Items, no_items, item_on, Trees, no_trees, tree_on, Argument, one, each_arg, Arguments, no_args, arg_on, Statement, check, out, each, Statements, no_stmts, stmt_on}
use Rattle.flp_syntax.specs.Sorts.{is_shared}
use Rattle.flp_emit.specs.declared.marks.Mark.{Mark}

-- a part with the marks inside it: whether it is shared, and how many marks it has with these
abbrev pub marked : Bool → List Mark → List Mark
marked shared inner = record { shared = shared; size = length inner + 1 } ∷ inner

abbrev mutual
  -- the marks inside an expression
  pub marks_inside : Tree → List Mark
  marks_inside (number at value) = []
  marks_inside (var at name) = []
  marks_inside (joint at index) = []
  marks_inside (meas at index) = []
  marks_inside (meas_or_zero at index) = []
  marks_inside (sum at name from to inner) = marked (is_shared inner) (marks_inside inner)
  marks_inside (call at name args) = argument_marks args
  marks_inside (add at items) = item_marks items
  marks_inside (mul at factors) = factor_marks factors
  marks_inside (pow at base exponent) = marked (is_shared base) (marks_inside base)

  pub item_marks : Items → List Mark
  item_marks no_items = []
  item_marks (item_on minus expr more) = marked (is_shared expr) (marks_inside expr) ++ item_marks more

  pub factor_marks : Trees → List Mark
  factor_marks no_trees = []
  factor_marks (tree_on expr more) = marked (is_shared expr) (marks_inside expr) ++ factor_marks more

  -- an argument that is a loop has a mark of its own
  pub marks_of_argument : Argument → List Mark
  marks_of_argument (one expr) = marked (is_shared expr) (marks_inside expr)
  marks_of_argument (each_arg at name from to inner) = marked true (argument_marks inner)

  pub argument_marks : Arguments → List Mark
  argument_marks no_args = []
  argument_marks (arg_on arg more) = marks_of_argument arg ++ argument_marks more

-- the marks of an expression
abbrev pub marks_of : Tree → List Mark
marks_of tree = marked (is_shared tree) (marks_inside tree)

-- the marks of statements, among which a loop has one of its own
abbrev mutual
  pub marks_of_statement : Statement → List Mark
  marks_of_statement (check at expr) = marks_of expr
  marks_of_statement (out at expr) = marks_of expr
  marks_of_statement (each at name from to inner) = marked true (statement_marks inner)

  pub statement_marks : Statements → List Mark
  statement_marks no_stmts = []
  statement_marks (stmt_on stmt more) = marks_of_statement stmt ++ statement_marks more

-- the marks begin with those of a part
abbrev pub BeginWith : List Mark → List Mark → Type 0
BeginWith marks part = (rest : List Mark) × (marks ≡ part ++ rest)
