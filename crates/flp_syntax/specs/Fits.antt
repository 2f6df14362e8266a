-- Circuits in which nothing is out of range: each name is bound, each index and each place is in range at each turn, and each call has its gadget's arity.
-- From an index up to a circuit.
use Rattle.std.specs.Prelude.{ℕ, ◌≡◌, ◌+◌, ◌*◌, ◌^◌, ◌<◌, ◌≤◌, Bool, true, false, List, [], Some}
use Rattle.flp_syntax.specs.Tree.{Index, index_number, index_var, index_add, index_mul, IndexItems, no_index_items, index_item_on, Indices, no_indices, index_on, Tree, number, var, joint, meas, meas_or_zero, sum, call, add, mul, pow, Items, no_items, item_on, Trees, no_trees, tree_on, Argument, one, each_arg, Arguments, no_args, arg_on, Statement, check, out, each, Statements, no_stmts, stmt_on, Declaration, Program}
use Rattle.flp_syntax.specs.Scope.{Scope, has_name, scope_names, inside, bound_value, next_front, index_value, args_count, gadget_number, arity_at}

-- a name is that of a loop round its place
abbrev pub IsBound : Scope → List ℕ → Type 0
IsBound scope name = has_name (scope_names scope) name ≡ true

-- a sum's front may be followed by an item of this value: no difference is below 0, and no sum is above 4,294,967,295
abbrev pub CanMove : (minus : Bool) → ℕ → ℕ → Type 0
CanMove true front value = value ≤ front
CanMove false front value = front + value < 2 ^ 32

-- an index: its names are bound, and its value and those within it are 0 to 4,294,967,295
abbrev mutual
  pub IndexFits : Scope → Index → Type 0
  IndexFits scope (index_number at value) = value < 2 ^ 32
  IndexFits scope (index_var at name) = IsBound scope name × (bound_value scope name < 2 ^ 32)
  IndexFits scope (index_add at items) = SumFits scope 0 items
  IndexFits scope (index_mul at factors) = ProductFits scope 1 factors

  -- the items of a sum whose front has this value
  pub SumFits : Scope → ℕ → IndexItems → Type 0
  SumFits scope front no_index_items = Unit {0}
  SumFits scope front (index_item_on minus index more) =
      IndexFits scope index × CanMove minus front (index_value scope index) × SumFits scope (next_front minus front (index_value scope index)) more

  -- the factors of a product whose front has this value
  pub ProductFits : Scope → ℕ → Indices → Type 0
  ProductFits scope front no_indices = Unit {0}
  ProductFits scope front (index_on index more) =
      IndexFits scope index × (front * index_value scope index < 2 ^ 32) × ProductFits scope (front * index_value scope index) more

-- the bounds of a loop fit, and so does each turn
pub record LoopFits (scope : Scope) (low high : Index) (turn_fits : ℕ → Type 0) : Type 0 where
  pub from : IndexFits scope low
  pub to : IndexFits scope high
  pub turns : (turn : ℕ) → index_value scope low ≤ turn → turn < index_value scope high → turn_fits turn

-- a called name is a gadget's, and it has as many arguments as the gadget has inputs
abbrev pub CallFits : List Declaration → List ℕ → ℕ → Type 0
CallFits gadgets name count = (gadget : ℕ) × (gadget_number gadgets name ≡ Some gadget) × (arity_at gadgets gadget ≡ count)

abbrev mutual
  pub TreeFits : Program → Scope → Tree → Type 0
  TreeFits body scope (number at value) = Unit {0}
  TreeFits body scope (var at name) = IsBound scope name
  TreeFits body scope (joint at index) = IndexFits scope index × (index_value scope index < body.joint)
  TreeFits body scope (meas at index) = IndexFits scope index × (index_value scope index < body.meas)
  TreeFits body scope (meas_or_zero at index) = IndexFits scope index
  TreeFits body scope (sum at name from to inner) = LoopFits scope from to (λ turn. TreeFits body (inside scope name turn) inner)
  TreeFits body scope (call at name args) = ArgumentsFit body scope args × CallFits body.gadgets name (args_count scope args)
  TreeFits body scope (add at items) = ItemsFit body scope items
  TreeFits body scope (mul at factors) = FactorsFit body scope factors
  TreeFits body scope (pow at base exponent) = TreeFits body scope base × IndexFits scope exponent

  pub ItemsFit : Program → Scope → Items → Type 0
  ItemsFit body scope no_items = Unit {0}
  ItemsFit body scope (item_on minus expr more) = TreeFits body scope expr × ItemsFit body scope more

  pub FactorsFit : Program → Scope → Trees → Type 0
  FactorsFit body scope no_trees = Unit {0}
  FactorsFit body scope (tree_on expr more) = TreeFits body scope expr × FactorsFit body scope more

  pub ArgumentFits : Program → Scope → Argument → Type 0
  ArgumentFits body scope (one expr) = TreeFits body scope expr
  ArgumentFits body scope (each_arg at name from to inner) = LoopFits scope from to (λ turn. ArgumentsFit body (inside scope name turn) inner)

  pub ArgumentsFit : Program → Scope → Arguments → Type 0
  ArgumentsFit body scope no_args = Unit {0}
  ArgumentsFit body scope (arg_on arg more) = ArgumentFits body scope arg × ArgumentsFit body scope more

abbrev mutual
  pub StatementFits : Program → Scope → Statement → Type 0
  StatementFits body scope (check at expr) = TreeFits body scope expr
  StatementFits body scope (out at expr) = TreeFits body scope expr
  StatementFits body scope (each at name from to inner) = LoopFits scope from to (λ turn. StatementsFit body (inside scope name turn) inner)

  pub StatementsFit : Program → Scope → Statements → Type 0
  StatementsFit body scope no_stmts = Unit {0}
  StatementsFit body scope (stmt_on stmt more) = StatementFits body scope stmt × StatementsFit body scope more

abbrev pub BodyFits : Program → Type 0
BodyFits body = StatementsFit body [] body.stmts
