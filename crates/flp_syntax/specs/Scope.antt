-- What names stand for: loop variables by their values, gadgets by their numbers; and the values of indices and the numbers of arguments.
use Rattle.std.specs.Prelude.{ℕ, zero, suc, ◌+◌, ◌-◌, ◌*◌, Bool, true, false, if◌then◌else◌, List, [], ◌∷◌, ◌++◌, length, map, sum_by, Option, None, Some}
use Rattle.std.specs.Option.{option_map}
use Rattle.std.specs.Str.{bytes_eq}
use Rattle.flp_syntax.specs.Tree.{Index, index_number, index_var, index_add, index_mul, IndexItems, no_index_items, index_item_on, Indices, no_indices, index_on, Argument, one, each_arg, Arguments, no_args, arg_on, Kind, mul_kind, poly_kind, psum_kind, Declaration}

-- a loop variable and its value at this turn
pub record Bound : Type 0 where
  pub name : List ℕ
  pub value : ℕ

-- the loops round a place, the outermost first
abbrev pub Scope : Type 0
Scope = List Bound

-- the names of loops, the outermost first
abbrev pub Names : Type 0
Names = List (List ℕ)

abbrev pub has_name : Names → List ℕ → Bool
has_name [] name = false
has_name (other ∷ more) name = if bytes_eq other name then true else has_name more name

-- the names of the loops round a place
abbrev pub scope_names : Scope → Names
scope_names scope = map (λ bound. bound.name) scope

-- the scope inside one turn of a loop
abbrev pub inside : Scope → List ℕ → ℕ → Scope
inside scope name value = scope ++ record { name = name; value = value } ∷ []

-- the value of a loop variable; 0 where the name is none
abbrev pub bound_value : Scope → List ℕ → ℕ
bound_value [] name = 0
bound_value (bound ∷ more) name = if bytes_eq bound.name name then bound.value else bound_value more name

-- the value of a sum's front and one more item, which is added or subtracted
abbrev pub next_front : (minus : Bool) → ℕ → ℕ → ℕ
next_front true front value = front - value
next_front false front value = front + value

-- the value of an index; items are added and subtracted from left to right, and no difference is below 0
abbrev mutual
  pub index_value : Scope → Index → ℕ
  index_value scope (index_number at value) = value
  index_value scope (index_var at name) = bound_value scope name
  index_value scope (index_add at items) = sum_from scope 0 items
  index_value scope (index_mul at factors) = product_from scope 1 factors

  -- the value of a sum whose front has this value
  pub sum_from : Scope → ℕ → IndexItems → ℕ
  sum_from scope front no_index_items = front
  sum_from scope front (index_item_on minus index more) = sum_from scope (next_front minus front (index_value scope index)) more

  -- the value of a product whose front has this value
  pub product_from : Scope → ℕ → Indices → ℕ
  product_from scope front no_indices = front
  product_from scope front (index_on index more) = product_from scope (front * index_value scope index) more

-- the values of a loop's variable: `count` numbers from `start` on
abbrev pub numbers_from : ℕ → ℕ → List ℕ
numbers_from start zero = []
numbers_from start (suc count) = start ∷ numbers_from (suc start) count

-- the turns of a loop, each by the value of its variable; none where `from` is not below `to`
abbrev pub turns : ℕ → ℕ → List ℕ
turns from to = numbers_from from (to - from)

-- the number of arguments, loops unrolled
abbrev mutual
  pub arg_count : Scope → Argument → ℕ
  arg_count scope (one expr) = 1
  arg_count scope (each_arg at name from to inner) = sum_by (λ value. args_count (inside scope name value) inner) (turns (index_value scope from) (index_value scope to))

  pub args_count : Scope → Arguments → ℕ
  args_count scope no_args = 0
  args_count scope (arg_on arg more) = arg_count scope arg + args_count scope more

-- the number of the first gadget of this name
abbrev pub gadget_number : List Declaration → List ℕ → Option ℕ
gadget_number [] name = None
gadget_number (decl ∷ more) name = if bytes_eq decl.name name then Some 0 else option_map suc (gadget_number more name)

-- how many inputs a gadget has
abbrev pub declared_arity : Kind → ℕ
declared_arity mul_kind = 2
declared_arity (poly_kind coefs) = 1
declared_arity (psum_kind count inner) = count * declared_arity inner

-- the degree of a gadget; a polynomial's is the number of its coefficients less one
abbrev pub declared_degree : Kind → ℕ
declared_degree mul_kind = 2
declared_degree (poly_kind coefs) = length coefs - 1
declared_degree (psum_kind count inner) = declared_degree inner

-- how many inputs the gadget of a number has
abbrev pub arity_at : List Declaration → ℕ → ℕ
arity_at [] gadget = 0
arity_at (decl ∷ more) zero = declared_arity decl.kind
arity_at (decl ∷ more) (suc gadget) = arity_at more gadget
