-- What expressions and statements mean under a reading: their values, and the calls of gadgets that they take. Values inside an expression are
-- whole numbers; inputs of calls, checks and outs are taken modulo p. From a run up to statements.
use Rattle.std.specs.Prelude.{ℕ, ◌+◌, ◌-◌, ◌*◌, ◌%◌, ◌^◌, Bool, if◌then◌else◌, List, [], ◌∷◌, ◌++◌, length, map, slice_index}
use Rattle.std.specs.Option.{unwrap_or}
use Rattle.flp_field.specs.Word.{modulus}
use Rattle.flp_syntax.specs.Tree.{Tree, number, var, joint, meas, meas_or_zero, sum, call, add, mul, pow, Items, no_items, item_on, Trees, no_trees, tree_on, Argument, one, each_arg, Arguments, no_args, arg_on, Statement, check, out, each, Statements, no_stmts, stmt_on, Declaration}
use Rattle.flp_syntax.specs.Sorts.{is_shared, has_shared_item}
use Rattle.flp_syntax.specs.Scope.{Scope, inside, bound_value, index_value, turns, gadget_number}

-- ---- runs: values with the calls that they take

-- a call of a gadget: the gadget's number, and the words at its inputs
pub record Call : Type 0 where
  pub gadget : ℕ
  pub inputs : List ℕ

-- a value, and the calls that were made for it, in order
pub record Meant (A : Type 0) : Type 0 where
  pub value : A
  pub calls : List Call

-- what a part means, when so many calls were made before it
abbrev pub Run : Type 0 → Type 0
Run A = ℕ → Meant A

-- a value that takes no call
abbrev pub plain : {A : Type 0} → A → Run A
plain value made = record { value = value; calls = [] }

-- the same calls, and a value made of the value
abbrev pub map_run : {A B : Type 0} → (A → B) → Run A → Run B
map_run change part made = record { value = change (part made).value; calls = (part made).calls }

-- one part and then another, their values joined
abbrev pub then_run : {A B C : Type 0} → (A → B → C) → Run A → Run B → Run C
then_run join first second made =
    record {
      value = join (first made).value (second (made + length (first made).calls)).value;
      calls = (first made).calls ++ (second (made + length (first made).calls)).calls;
    }

-- all parts in turn, their values joined
abbrev pub in_turn : {A B : Type 0} → (A → B → B) → B → List (Run A) → Run B
in_turn join none [] = plain none
in_turn join none (part ∷ more) = then_run join part (in_turn join none more)

-- the sum, the product and the joined lists of all parts
abbrev pub total : List (Run ℕ) → Run ℕ
total = in_turn (λ a b. a + b) 0

abbrev pub product : List (Run ℕ) → Run ℕ
product = in_turn (λ a b. a * b) 1

abbrev pub concatenation : List (Run (List ℕ)) → Run (List ℕ)
concatenation = in_turn (λ xs ys. xs ++ ys) []

-- ---- readings

-- how a circuit is read: the joint words, the words of the encoding, what the constant 1 counts as, and what a call answers by its number among
-- all calls, from 0
pub record Reading : Type 0 where
  pub joint : List ℕ
  pub meas : List ℕ
  pub unit : ℕ
  pub answer : ℕ → Call → ℕ

-- a call comes behind the calls in its arguments
abbrev pub call_run : Reading → ℕ → Run (List ℕ) → Run ℕ
call_run reading gadget arguments made =
    record {
      value =
          reading.answer (made + length (arguments made).calls) (record { gadget = gadget; inputs = (arguments made).value });
      calls = (arguments made).calls ++ record { gadget = gadget; inputs = (arguments made).value } ∷ [];
    }

-- a public expression counts `unit` times its value where it stands for a shared one
abbrev pub in_units : Reading → Bool → Run ℕ → Run ℕ
in_units reading shared part = if shared then part else map_run (λ value. reading.unit * value) part

-- the negation of a number is p - 1 times it
abbrev pub value_with_sign : Bool → ℕ → ℕ
value_with_sign minus value = if minus then (modulus - 1) * value else value

-- ---- expressions

abbrev mutual
  pub meaning : List Declaration → Reading → Scope → Tree → Run ℕ
  meaning gadgets reading scope (number at value) = plain value
  meaning gadgets reading scope (var at name) = plain (bound_value scope name)
  meaning gadgets reading scope (joint at index) = plain (slice_index reading.joint (index_value scope index))
  meaning gadgets reading scope (meas at index) = plain (slice_index reading.meas (index_value scope index))
  meaning gadgets reading scope (meas_or_zero at index) = plain (slice_index reading.meas (index_value scope index))
  meaning gadgets reading scope (sum at name from to inner) =
      total
      (map
      (λ turn. meaning gadgets reading (inside scope name turn) inner)
      (turns (index_value scope from) (index_value scope to)))
  meaning gadgets reading scope (call at name args) =
      call_run reading (unwrap_or (gadget_number gadgets name) 0) (concatenation (arguments_of gadgets reading scope args))
  meaning gadgets reading scope (add at items) = total (items_of gadgets reading scope (has_shared_item items) items)
  meaning gadgets reading scope (mul at factors) = product (factors_of gadgets reading scope factors)
  meaning gadgets reading scope (pow at base exponent) =
      map_run (λ value. value ^ index_value scope exponent) (meaning gadgets reading scope base)

  -- the items of a sum; its public items count `unit` times where some item is shared
  pub items_of : List Declaration → Reading → Scope → Bool → Items → List (Run ℕ)
  items_of gadgets reading scope mixed no_items = []
  items_of gadgets reading scope mixed (item_on minus expr more) =
      map_run
      (value_with_sign minus)
      (if mixed
      then in_units reading (is_shared expr) (meaning gadgets reading scope expr)
      else meaning gadgets reading scope expr)
      ∷ items_of gadgets reading scope mixed more

  -- the factors of a product
  pub factors_of : List Declaration → Reading → Scope → Trees → List (Run ℕ)
  factors_of gadgets reading scope no_trees = []
  factors_of gadgets reading scope (tree_on expr more) =
      meaning gadgets reading scope expr ∷ factors_of gadgets reading scope more

  -- the inputs that an argument lists: its word, or those of the turns of a loop
  pub argument_of : List Declaration → Reading → Scope → Argument → Run (List ℕ)
  argument_of gadgets reading scope (one expr) =
      map_run
      (λ value. value % modulus ∷ [])
      (in_units reading (is_shared expr) (meaning gadgets reading scope expr))
  argument_of gadgets reading scope (each_arg at name from to inner) =
      concatenation
      (map
      (λ turn. concatenation (arguments_of gadgets reading (inside scope name turn) inner))
      (turns (index_value scope from) (index_value scope to)))

  pub arguments_of : List Declaration → Reading → Scope → Arguments → List (Run (List ℕ))
  arguments_of gadgets reading scope no_args = []
  arguments_of gadgets reading scope (arg_on arg more) =
      argument_of gadgets reading scope arg ∷ arguments_of gadgets reading scope more

-- ---- statements

-- the checks and the outs, in the order of the unrolled statements
pub record Results : Type 0 where
  pub checks : List ℕ
  pub outs : List ℕ

abbrev pub no_results : Results
no_results = record { checks = []; outs = [] }

abbrev pub join_results : Results → Results → Results
join_results first second = record { checks = first.checks ++ second.checks; outs = first.outs ++ second.outs }

abbrev pub one_check : ℕ → Results
one_check value = record { checks = value % modulus ∷ []; outs = [] }

abbrev pub one_out : ℕ → Results
one_out value = record { checks = []; outs = value % modulus ∷ [] }

abbrev pub all_results : List (Run Results) → Run Results
all_results = in_turn join_results no_results

abbrev mutual
  pub statement_of : List Declaration → Reading → Scope → Statement → Run Results
  statement_of gadgets reading scope (check at expr) =
      map_run one_check (in_units reading (is_shared expr) (meaning gadgets reading scope expr))
  statement_of gadgets reading scope (out at expr) = map_run one_out (meaning gadgets reading scope expr)
  statement_of gadgets reading scope (each at name from to inner) =
      all_results
      (map
      (λ turn. all_results (statements_of gadgets reading (inside scope name turn) inner))
      (turns (index_value scope from) (index_value scope to)))

  pub statements_of : List Declaration → Reading → Scope → Statements → List (Run Results)
  statements_of gadgets reading scope no_stmts = []
  statements_of gadgets reading scope (stmt_on stmt more) =
      statement_of gadgets reading scope stmt ∷ statements_of gadgets reading scope more
