-- What unrolling a body meets, in its order: loops run through their turns, a node stands before its parts, and parts from left to right.
use Rattle.std.specs.Prelude.{ℕ, ◌+◌, ◌*◌, Bool, true, false, ◌==◌, nat_le, nat_lt, if◌then◌else◌, List, [], ◌∷◌, ◌++◌, Option, None, Some}
use Rattle.std.specs.List.{flat_map}
use Rattle.flp_syntax.specs.Tree.{Index, index_number, index_var, index_add, index_mul, IndexItems, no_index_items, index_item_on, Indices, no_indices, index_on, Tree, number, var, joint, meas, meas_or_zero, sum, call, add, mul, pow, Items, no_items, item_on, Trees, no_trees, tree_on, Argument, one, each_arg, Arguments, no_args, arg_on, Statement, check, out, each, Statements, no_stmts, stmt_on, Declaration, Program}
use Rattle.flp_syntax.specs.Scope.{Scope, inside, bound_value, next_front, index_value, turns, args_count, gadget_number, arity_at}

pub data Event : Type 0 where
  visit : Event
  bad_index : (at : ℕ) → Event
  bad_arity : (at : ℕ) → Event
  gadget_call : (gadget : ℕ) → Event
  a_check : Event
  an_out : Event

-- no event is a fault
abbrev pub IsClean : List Event → Type 0
IsClean [] = Unit {0}
IsClean (visit ∷ more) = IsClean more
IsClean (bad_index at ∷ more) = ⊥
IsClean (bad_arity at ∷ more) = ⊥
IsClean (gadget_call gadget ∷ more) = IsClean more
IsClean (a_check ∷ more) = IsClean more
IsClean (an_out ∷ more) = IsClean more

-- a value above 4,294,967,295 of an index, or of a part of it
abbrev pub in_range : ℕ → ℕ → List Event
in_range at value = if nat_le value 4294967295 then [] else bad_index at ∷ []

-- a difference below 0
abbrev pub not_below : ℕ → ℕ → ℕ → List Event
not_below at front value = if nat_le value front then [] else bad_index at ∷ []

-- a place that is not below the number of words
abbrev pub in_words : ℕ → ℕ → ℕ → List Event
in_words at value words = if nat_lt value words then [] else bad_index at ∷ []

abbrev pub step_events : ℕ → Bool → ℕ → ℕ → List Event
step_events at true front value = not_below at front value
step_events at false front value = in_range at (front + value)

-- an index: the values of its parts, and that of a sum or a product after each of its items or factors
abbrev mutual
  pub index_events : Scope → Index → List Event
  index_events scope (index_number at value) = visit ∷ in_range at value
  index_events scope (index_var at name) = visit ∷ in_range at (bound_value scope name)
  index_events scope (index_add at items) = visit ∷ sum_events scope at 0 items
  index_events scope (index_mul at factors) = visit ∷ product_events scope at 1 factors

  -- the items of a sum whose front has this value
  pub sum_events : Scope → ℕ → ℕ → IndexItems → List Event
  sum_events scope at front no_index_items = []
  sum_events scope at front (index_item_on minus index more) = index_events scope index ++ (step_events at minus front (index_value scope index) ++ sum_events scope at (next_front minus front (index_value scope index)) more)

  -- the factors of a product whose front has this value
  pub product_events : Scope → ℕ → ℕ → Indices → List Event
  product_events scope at front no_indices = []
  product_events scope at front (index_on index more) = index_events scope index ++ (in_range at (front * index_value scope index) ++ product_events scope at (front * index_value scope index) more)

-- the bounds of a loop, once before its turns
abbrev pub range_events : Scope → Index → Index → List Event
range_events scope from to = index_events scope from ++ index_events scope to

-- after the arguments of a call: the gadget's call, where their number is its arity
abbrev pub call_events : List Declaration → ℕ → Option ℕ → ℕ → List Event
call_events gadgets at None count = []
call_events gadgets at (Some gadget) count = if arity_at gadgets gadget == count then gadget_call gadget ∷ [] else bad_arity at ∷ []

abbrev mutual
  pub tree_events : Program → Scope → Tree → List Event
  tree_events body scope (number at value) = visit ∷ []
  tree_events body scope (var at name) = visit ∷ []
  tree_events body scope (joint at index) = visit ∷ (index_events scope index ++ in_words at (index_value scope index) body.joint)
  tree_events body scope (meas at index) = visit ∷ (index_events scope index ++ in_words at (index_value scope index) body.meas)
  tree_events body scope (meas_or_zero at index) = visit ∷ index_events scope index
  tree_events body scope (sum at name from to inner) = visit ∷ (range_events scope from to ++ flat_map (λ value. tree_events body (inside scope name value) inner) (turns (index_value scope from) (index_value scope to)))
  tree_events body scope (call at name args) = visit ∷ (args_events body scope args ++ call_events body.gadgets at (gadget_number body.gadgets name) (args_count scope args))
  tree_events body scope (add at items) = visit ∷ items_events body scope items
  tree_events body scope (mul at factors) = visit ∷ factors_events body scope factors
  tree_events body scope (pow at base exponent) = visit ∷ (tree_events body scope base ++ index_events scope exponent)

  pub items_events : Program → Scope → Items → List Event
  items_events body scope no_items = []
  items_events body scope (item_on minus expr more) = tree_events body scope expr ++ items_events body scope more

  pub factors_events : Program → Scope → Trees → List Event
  factors_events body scope no_trees = []
  factors_events body scope (tree_on expr more) = tree_events body scope expr ++ factors_events body scope more

  pub arg_events : Program → Scope → Argument → List Event
  arg_events body scope (one expr) = tree_events body scope expr
  arg_events body scope (each_arg at name from to inner) = visit ∷ (range_events scope from to ++ flat_map (λ value. args_events body (inside scope name value) inner) (turns (index_value scope from) (index_value scope to)))

  pub args_events : Program → Scope → Arguments → List Event
  args_events body scope no_args = []
  args_events body scope (arg_on arg more) = arg_events body scope arg ++ args_events body scope more

-- a check or an output stands before its expression
abbrev mutual
  pub stmt_events : Program → Scope → Statement → List Event
  stmt_events body scope (check at expr) = visit ∷ a_check ∷ tree_events body scope expr
  stmt_events body scope (out at expr) = visit ∷ an_out ∷ tree_events body scope expr
  stmt_events body scope (each at name from to inner) = visit ∷ (range_events scope from to ++ flat_map (λ value. stmts_events body (inside scope name value) inner) (turns (index_value scope from) (index_value scope to)))

  pub stmts_events : Program → Scope → Statements → List Event
  stmts_events body scope no_stmts = []
  stmts_events body scope (stmt_on stmt more) = stmt_events body scope stmt ++ stmts_events body scope more

abbrev pub body_events : Program → List Event
body_events body = stmts_events body [] body.stmts
