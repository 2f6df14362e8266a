-- Faults of names and sorts, over the whole text, without unrolling its loops.
use Rattle.std.specs.Prelude.{◌≡◌, ◌≤◌, ℕ, suc, ◌+◌, ◌*◌, Bool, true, false, ◌&&◌, ◌||◌, not, nat_lt, if◌then◌else◌, List, [], ◌∷◌, ◌++◌, Option, None, Some, is_some}
use Rattle.std.specs.List.{All, IsAmong}
use Rattle.flp_syntax.specs.Tree.{Index, index_number, index_var, index_add, index_mul, IndexItems, no_index_items, index_item_on, Indices, no_indices, index_on, Tree, number, var, joint, meas, meas_or_zero, sum, call, add, mul, pow, Items, no_items, item_on, Trees, no_trees, tree_on, Argument, one, each_arg, Arguments, no_args, arg_on, Statement, check, out, each, Statements, no_stmts, stmt_on, Declaration, Program, tree_at}
use Rattle.flp_syntax.specs.Scope.{Names, has_name, gadget_number}
use Rattle.flp_syntax.specs.Sorts.{is_shared, has_shared_item}
use Rattle.flp_check.specs.declared.flaw.Flaw.{Flaw}
use Rattle.flp_check.specs.declared.flaw.Rule.{Rule}
use Rattle.flp_check.specs.declared.flaw.Rule.TheVariants.{Name, Twice, NotLinear}

abbrev pub is_gadget : List Declaration → List ℕ → Bool
is_gadget gadgets name = is_some (gadget_number gadgets name)

-- a flaw of this rule at this token, where there is one
abbrev pub flaw_if : Bool → ℕ → Rule → List Flaw
flaw_if flawed token rule = if flawed then record { at = token; rule = rule } ∷ [] else []

-- a name that is used and is no loop's
abbrev pub unbound_flaws : Names → ℕ → List ℕ → List Flaw
unbound_flaws names at name = flaw_if (not (has_name names name)) at Name

-- a loop's name, the token after the one that begins the loop, which is a gadget's or that of a loop round it
abbrev pub taken_flaws : List Declaration → Names → ℕ → List ℕ → List Flaw
taken_flaws gadgets names at name = flaw_if (is_gadget gadgets name || has_name names name) (suc at) Twice

abbrev mutual
  pub index_flaws : Names → Index → List Flaw
  index_flaws names (index_number at value) = []
  index_flaws names (index_var at name) = unbound_flaws names at name
  index_flaws names (index_add at items) = index_items_flaws names items
  index_flaws names (index_mul at factors) = indices_flaws names factors

  pub index_items_flaws : Names → IndexItems → List Flaw
  index_items_flaws names no_index_items = []
  index_items_flaws names (index_item_on minus index more) = index_flaws names index ++ index_items_flaws names more

  pub indices_flaws : Names → Indices → List Flaw
  indices_flaws names no_indices = []
  indices_flaws names (index_on index more) = index_flaws names index ++ indices_flaws names more

-- the name and the bounds of a loop; the bounds stand outside it
abbrev pub range_flaws : List Declaration → Names → ℕ → List ℕ → Index → Index → List Flaw
range_flaws gadgets names at name from to = taken_flaws gadgets names at name ++ (index_flaws names from ++ index_flaws names to)

-- the flaws of an expression; `in_out` says whether it stands inside an output
abbrev mutual
  pub tree_flaws : List Declaration → Names → Bool → Tree → List Flaw
  tree_flaws gadgets names in_out (number at value) = []
  tree_flaws gadgets names in_out (var at name) = unbound_flaws names at name
  tree_flaws gadgets names in_out (joint at index) = flaw_if in_out at NotLinear ++ index_flaws names index
  tree_flaws gadgets names in_out (meas at index) = index_flaws names index
  tree_flaws gadgets names in_out (meas_or_zero at index) = index_flaws names index
  tree_flaws gadgets names in_out (sum at name from to inner) = range_flaws gadgets names at name from to ++ tree_flaws gadgets (names ++ name ∷ []) in_out inner
  tree_flaws gadgets names in_out (call at name args) = flaw_if (not (is_gadget gadgets name)) at Name ++ (flaw_if in_out at NotLinear ++ args_flaws gadgets names in_out args)
  tree_flaws gadgets names in_out (add at items) = items_flaws gadgets names in_out (in_out && has_shared_item items) items
  tree_flaws gadgets names in_out (mul at factors) = factors_flaws gadgets names in_out false factors
  tree_flaws gadgets names in_out (pow at base exponent) = flaw_if (is_shared base) at NotLinear ++ (tree_flaws gadgets names in_out base ++ index_flaws names exponent)

  -- the items of a sum; where a public one is a flaw, `mixed`
  pub items_flaws : List Declaration → Names → Bool → Bool → Items → List Flaw
  items_flaws gadgets names in_out mixed no_items = []
  items_flaws gadgets names in_out mixed (item_on minus expr more) = flaw_if (mixed && not (is_shared expr)) (tree_at expr) NotLinear ++ (tree_flaws gadgets names in_out expr ++ items_flaws gadgets names in_out mixed more)

  -- the factors of a product, behind a shared one or not
  pub factors_flaws : List Declaration → Names → Bool → Bool → Trees → List Flaw
  factors_flaws gadgets names in_out behind no_trees = []
  factors_flaws gadgets names in_out behind (tree_on expr more) = flaw_if (behind && is_shared expr) (tree_at expr) NotLinear ++ (tree_flaws gadgets names in_out expr ++ factors_flaws gadgets names in_out (behind || is_shared expr) more)

  pub arg_flaws : List Declaration → Names → Bool → Argument → List Flaw
  arg_flaws gadgets names in_out (one expr) = tree_flaws gadgets names in_out expr
  arg_flaws gadgets names in_out (each_arg at name from to inner) = range_flaws gadgets names at name from to ++ args_flaws gadgets (names ++ name ∷ []) in_out inner

  pub args_flaws : List Declaration → Names → Bool → Arguments → List Flaw
  args_flaws gadgets names in_out no_args = []
  args_flaws gadgets names in_out (arg_on arg more) = arg_flaws gadgets names in_out arg ++ args_flaws gadgets names in_out more

-- the flaws of a statement; the whole expression of an output may not be public
abbrev mutual
  pub stmt_flaws : List Declaration → Names → Statement → List Flaw
  stmt_flaws gadgets names (check at expr) = tree_flaws gadgets names false expr
  stmt_flaws gadgets names (out at expr) = flaw_if (not (is_shared expr)) (tree_at expr) NotLinear ++ tree_flaws gadgets names true expr
  stmt_flaws gadgets names (each at name from to inner) = range_flaws gadgets names at name from to ++ stmts_flaws gadgets (names ++ name ∷ []) inner

  pub stmts_flaws : List Declaration → Names → Statements → List Flaw
  stmts_flaws gadgets names no_stmts = []
  stmts_flaws gadgets names (stmt_on stmt more) = stmt_flaws gadgets names stmt ++ stmts_flaws gadgets names more

-- a gadget's name, the token after the one that begins its declaration, which an earlier declaration has
abbrev pub declarations_flaws : List Declaration → List Declaration → List Flaw
declarations_flaws earlier [] = []
declarations_flaws earlier (decl ∷ more) = flaw_if (is_gadget earlier decl.name) (suc decl.at) Twice ++ declarations_flaws (earlier ++ decl ∷ []) more

abbrev pub text_flaws : Program → List Flaw
text_flaws body = declarations_flaws [] body.gadgets ++ stmts_flaws body.gadgets [] body.stmts

-- the order of flaws: by token, and on one token `Name`, `Twice`, `NotLinear`
abbrev pub rule_number : Rule → ℕ
rule_number Name = 0
rule_number Twice = 1
rule_number NotLinear = 2

abbrev pub order_of : Flaw → ℕ
order_of flaw = 3 * flaw.at + rule_number flaw.rule

-- the one of two that comes first
abbrev pub earlier_of : Option Flaw → Option Flaw → Option Flaw
earlier_of None other = other
earlier_of (Some flaw) None = Some flaw
earlier_of (Some flaw) (Some other) = if nat_lt (order_of other) (order_of flaw) then Some other else Some flaw

-- the one of a list that comes first
abbrev pub first_flaw : List Flaw → Option Flaw
first_flaw [] = None
first_flaw (flaw ∷ more) = earlier_of (Some flaw) (first_flaw more)

-- a flaw of a list that none comes before
pub record IsFirst (flaws : List Flaw) (flaw : Flaw) : Type 0 where
  pub among : IsAmong flaws flaw
  pub least : All (λ other. order_of flaw ≤ order_of other) flaws

-- what a part of the search adds to the first flaw so far
pub record Finds (before : Option Flaw) (flaws : List Flaw) (after : Option Flaw) : Type 0 where
  pub is : after ≡ earlier_of before (first_flaw flaws)
