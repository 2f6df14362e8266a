-- How large a plan of a circuit is: its wires, and the terms of the linear forms of its inputs, checks and outs. From one expression up.
use Rattle.std.specs.Prelude.{ℕ, ◌+◌, ◌*◌, nat_lt, if◌then◌else◌, []}
use Rattle.std.specs.List.{sum_by}
use Rattle.flp_syntax.specs.Tree.{Tree, number, var, joint, meas, meas_or_zero, sum, call, add, mul, pow, Items, no_items, item_on, Trees, no_trees, tree_on, Argument, one, each_arg, Arguments, no_args, arg_on, Statement, check, out, each, Statements, no_stmts, stmt_on, Program}
use Rattle.flp_syntax.specs.Sorts.{is_shared, has_shared_item, has_shared}
use Rattle.flp_syntax.specs.Scope.{Scope, inside, index_value, turns}
use Rattle.flp_meaning.specs.Gadgets.{gadgets_of, arity_of, size_of}

-- the points of all wires: those of the domain of each gadget, for each of its inputs
abbrev pub wire_count : Program → ℕ
wire_count body = sum_by (λ gadget. arity_of body gadget * size_of body gadget) (gadgets_of body)

-- ---- the linear form of an expression, where the encoding has so many words: a public expression, a word and a call are one term each

abbrev mutual
  pub form_terms : ℕ → Scope → Tree → ℕ
  form_terms words scope (number at value) = 1
  form_terms words scope (var at name) = 1
  form_terms words scope (joint at index) = 1
  form_terms words scope (meas at index) = 1
  form_terms words scope (meas_or_zero at index) = if nat_lt (index_value scope index) words then 1 else 0
  form_terms words scope (sum at name from to inner) =
      if is_shared inner
      then sum_by (λ turn. form_terms words (inside scope name turn) inner) (turns (index_value scope from) (index_value scope to))
      else 1
  form_terms words scope (call at name args) = 1
  form_terms words scope (add at items) = if has_shared_item items then item_terms words scope items else 1
  form_terms words scope (mul at factors) = if has_shared factors then shared_factor_terms words scope factors else 1
  form_terms words scope (pow at base exponent) = 1

  -- those of all items
  pub item_terms : ℕ → Scope → Items → ℕ
  item_terms words scope no_items = 0
  item_terms words scope (item_on minus expr more) = form_terms words scope expr + item_terms words scope more

  -- those of the first shared factor
  pub shared_factor_terms : ℕ → Scope → Trees → ℕ
  shared_factor_terms words scope no_trees = 0
  shared_factor_terms words scope (tree_on expr more) =
      if is_shared expr then form_terms words scope expr else shared_factor_terms words scope more

-- ---- the inputs of the calls inside an expression

abbrev mutual
  pub input_terms : ℕ → Scope → Tree → ℕ
  input_terms words scope (number at value) = 0
  input_terms words scope (var at name) = 0
  input_terms words scope (joint at index) = 0
  input_terms words scope (meas at index) = 0
  input_terms words scope (meas_or_zero at index) = 0
  input_terms words scope (sum at name from to inner) =
      sum_by (λ turn. input_terms words (inside scope name turn) inner) (turns (index_value scope from) (index_value scope to))
  input_terms words scope (call at name args) = terms_of_arguments words scope args
  input_terms words scope (add at items) = input_terms_of_items words scope items
  input_terms words scope (mul at factors) = input_terms_of_factors words scope factors
  input_terms words scope (pow at base exponent) = input_terms words scope base

  pub input_terms_of_items : ℕ → Scope → Items → ℕ
  input_terms_of_items words scope no_items = 0
  input_terms_of_items words scope (item_on minus expr more) =
      input_terms words scope expr + input_terms_of_items words scope more

  pub input_terms_of_factors : ℕ → Scope → Trees → ℕ
  input_terms_of_factors words scope no_trees = 0
  input_terms_of_factors words scope (tree_on expr more) =
      input_terms words scope expr + input_terms_of_factors words scope more

  -- the arguments of a call themselves, with the calls inside them
  pub terms_of_argument : ℕ → Scope → Argument → ℕ
  terms_of_argument words scope (one expr) = form_terms words scope expr + input_terms words scope expr
  terms_of_argument words scope (each_arg at name from to inner) =
      sum_by (λ turn. terms_of_arguments words (inside scope name turn) inner) (turns (index_value scope from) (index_value scope to))

  pub terms_of_arguments : ℕ → Scope → Arguments → ℕ
  terms_of_arguments words scope no_args = 0
  terms_of_arguments words scope (arg_on arg more) = terms_of_argument words scope arg + terms_of_arguments words scope more

-- ---- statements

abbrev mutual
  pub statement_terms : ℕ → Scope → Statement → ℕ
  statement_terms words scope (check at expr) = form_terms words scope expr + input_terms words scope expr
  statement_terms words scope (out at expr) = form_terms words scope expr + input_terms words scope expr
  statement_terms words scope (each at name from to inner) =
      sum_by (λ turn. terms_of_statements words (inside scope name turn) inner) (turns (index_value scope from) (index_value scope to))

  pub terms_of_statements : ℕ → Scope → Statements → ℕ
  terms_of_statements words scope no_stmts = 0
  terms_of_statements words scope (stmt_on stmt more) = statement_terms words scope stmt + terms_of_statements words scope more

-- the terms of a whole circuit
abbrev pub term_count : Program → ℕ
term_count body = terms_of_statements body.meas [] body.stmts
