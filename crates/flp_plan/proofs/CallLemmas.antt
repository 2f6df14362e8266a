-- The calls that a part makes which fits are those of its events, under every reading: as many of each gadget, each of a gadget that there is, with as
-- many inputs as it has. From lists of calls up to statements.
use Rattle.std.proofs.Common.{◌≡◌, ℕ, zero, suc, ◌+◌, ◌-◌, ◌*◌, ◌%◌, ◌^◌, ◌<◌, ◌≤◌, Bool, true, false, List, [], ◌∷◌, ◌++◌, length, map, Option, Some, None, cond, nat_le, nat_lt, slice_index, refl, sym, ◌∙◌, ap, ap₂, arith, if◌then◌else◌, ◌==◌, subst}
use Rattle.std.specs.List.{flat_map, filter, sum_by}
use Rattle.std.specs.Option.{unwrap_or, option_map}
use Rattle.std.specs.Str.{bytes_eq}
use Rattle.std.proofs.lemmas.List.{length-append}
use Rattle.std.proofs.lemmas.List.Sums.{sum_by-cons}
use Rattle.std.proofs.lemmas.Bool.{eq-eqb}
use Rattle.flp_field.specs.Word.{modulus}
use Rattle.flp_syntax.specs.Tree.{Index, index_number, index_var, index_add, index_mul, IndexItems, no_index_items, index_item_on, Indices, no_indices, index_on, Tree, number, var, joint, meas, meas_or_zero, sum, call, add, mul, pow, Items, no_items, item_on, Trees, no_trees, tree_on, Argument, one, each_arg, Arguments, no_args, arg_on, Statement, check, out, each, Statements, no_stmts, stmt_on, Declaration, Program}
use Rattle.flp_syntax.specs.Sorts.{is_shared, has_shared_item}
use Rattle.flp_syntax.specs.Scope.{Scope, inside, bound_value, next_front, index_value, turns, numbers_from, gadget_number, args_count, arg_count, arity_at}
use Rattle.flp_syntax.specs.Fits.{CallFits, TreeFits, ItemsFit, FactorsFit, ArgumentFits, ArgumentsFit, StatementFits, StatementsFit}
use Rattle.flp_check.specs.Events.{Event, visit, bad_index, bad_arity, gadget_call, a_check, an_out, in_range, not_below, in_words, step_events, index_events, range_events, sum_events, product_events, call_events, tree_events, items_events, factors_events, arg_events, args_events, stmt_events, stmts_events}
use Rattle.flp_meaning.specs.Meaning.{Call, Run, plain, map_run, then_run, in_turn, total, product, concatenation, Reading, call_run, in_units, value_with_sign, meaning, items_of, factors_of, argument_of, arguments_of, join_results, no_results, all_results, one_check, one_out, statement_of, statements_of}
use Rattle.flp_meaning.specs.Gadgets.{times}
use Rattle.flp_plan.proofs.WalkLemmas.{IsSilent, calls_in, silent_joined, silent_calls, calls_joined}

-- ---- calls one after another

abbrev pub gadgets : List Call → List ℕ
gadgets calls = map (λ (made : Call). made.gadget) calls

pub times_cons : (g x : ℕ) (xs : List ℕ) → times g (x ∷ xs) ≡ (if x == g then 1 else 0) + times g xs
times_cons g x xs =
    elim (x == g) as (λ b. length (cond b (x ∷ filter (λ other. other == g) xs) (filter (λ other. other == g) xs)) ≡ (if b then 1 else 0) + times g xs)
    [ true ↦ omega arith | false ↦ omega arith ]

pub times_joined : (g : ℕ) (xs ys : List ℕ) → times g (xs ++ ys) ≡ times g xs + times g ys
times_joined g [] ys = omega arith
times_joined g (x ∷ xs) ys =
    let first : times g (x ∷ (xs ++ ys)) ≡ (if x == g then 1 else 0) + times g (xs ++ ys) = times_cons g x (xs ++ ys) in
    let alone : times g (x ∷ xs) ≡ (if x == g then 1 else 0) + times g xs = times_cons g x xs in
    let more : times g (xs ++ ys) ≡ times g xs + times g ys = times_joined g xs ys in
    omega arith

pub gadgets_joined : (xs ys : List Call) → gadgets (xs ++ ys) ≡ gadgets xs ++ gadgets ys
gadgets_joined [] ys = refl
gadgets_joined (x ∷ xs) ys = ap (λ (l : List ℕ). x.gadget ∷ l) (gadgets_joined xs ys)

-- each call is of a gadget that there is, with as many inputs as it has
abbrev pub AreFine : List Declaration → List Call → Type 0
AreFine declared [] = Unit {0}
AreFine declared (made ∷ more) =
    (made.gadget < length declared) × (length made.inputs ≡ arity_at declared made.gadget) × AreFine declared more

pub fine_joined : (declared : List Declaration) (xs ys : List Call) → AreFine declared xs → AreFine declared ys → AreFine declared (xs ++ ys)
fine_joined declared [] ys a b = b
fine_joined declared (x ∷ xs) ys a b = (a.0, a.1, fine_joined declared xs ys a.2 b)

-- the calls of a part are those of its events
pub record MakesCalls (declared : List Declaration) {A : Type 0} (part : Run A) (events : List Event) : Type 0 where
  pub calls : (n g : ℕ) → times g (gadgets (part n).calls) ≡ calls_in g events
  pub fine : (n : ℕ) → AreFine declared (part n).calls

module _ (declared : List Declaration) where
  pub counts_plain : {A : Type 0} (value : A) (events : List Event) → ((g : ℕ) → calls_in g events ≡ 0) → MakesCalls declared (plain value) events
  counts_plain value events quiet = record { calls = λ n g. sym (quiet g); fine = λ n. tt }

  pub counts_changed : {A B : Type 0} (change : A → B) (part : Run A) (events : List Event) → MakesCalls declared part events → MakesCalls declared (map_run change part) events
  counts_changed change part events c = record { calls = c.calls; fine = c.fine }

  pub counts_then : {A B C : Type 0} (join : A → B → C) (first : Run A) (second : Run B) (xs ys : List Event)
      → MakesCalls declared first xs → MakesCalls declared second ys → MakesCalls declared (then_run join first second) (xs ++ ys)
  counts_then join first second xs ys a b = record {
    calls = λ n g.
        let here = (first n).calls in
        let there = (second (n + length (first n).calls)).calls in
        ap (times g) (gadgets_joined here there) ∙ times_joined g (gadgets here) (gadgets there)
        ∙ ap₂ (λ (s t : ℕ). s + t) (a.calls n g) (b.calls (n + length (first n).calls) g) ∙ sym (calls_joined g xs ys);
    fine = λ n. fine_joined declared (first n).calls (second (n + length (first n).calls)).calls (a.fine n) (b.fine (n + length (first n).calls));
  }

  -- the same calls behind events that are none
  pub counts_behind : {A : Type 0} (part : Run A) (front events : List Event) → ((g : ℕ) → calls_in g front ≡ 0)
      → MakesCalls declared part events → MakesCalls declared part (front ++ events)
  counts_behind part front events quiet c = record {
    calls = λ n g.
        let joined : calls_in g (front ++ events) ≡ calls_in g front + calls_in g events = calls_joined g front events in
        let none : calls_in g front ≡ 0 = quiet g in
        let same : times g (gadgets (part n).calls) ≡ calls_in g events = c.calls n g in
        omega arith;
    fine = c.fine;
  }

  pub counts_before : {A : Type 0} (part : Run A) (events back : List Event) → ((g : ℕ) → calls_in g back ≡ 0)
      → MakesCalls declared part events → MakesCalls declared part (events ++ back)
  counts_before part events back quiet c = record {
    calls = λ n g.
        let joined : calls_in g (events ++ back) ≡ calls_in g events + calls_in g back = calls_joined g events back in
        let none : calls_in g back ≡ 0 = quiet g in
        let same : times g (gadgets (part n).calls) ≡ calls_in g events = c.calls n g in
        omega arith;
    fine = c.fine;
  }

  -- the turns of a loop, which are those from one number on below another
  pub counts_turns : {A B : Type 0} (join : A → B → B) (none : B) (part : ℕ → Run A) (events : ℕ → List Event) (start count : ℕ)
      → ((turn : ℕ) → start ≤ turn → turn < start + count → MakesCalls declared (part turn) (events turn))
      → MakesCalls declared (in_turn join none (map part (numbers_from start count))) (flat_map events (numbers_from start count))
  counts_turns join none part events start zero each_turn = counts_plain none [] (λ g. refl)
  counts_turns join none part events start (suc count) each_turn =
      counts_then join (part start) (in_turn join none (map part (numbers_from (suc start) count))) (events start) (flat_map events (numbers_from (suc start) count))
      (each_turn start (omega arith) (omega arith))
      (counts_turns join none part events (suc start) count (λ turn low high. each_turn turn (omega arith) (omega arith)))

  pub counts_counted : (reading : Reading) (shared : Bool) (part : Run ℕ) (events : List Event)
      → MakesCalls declared part events → MakesCalls declared (in_units reading shared part) events
  counts_counted reading true part events c = c
  counts_counted reading false part events c = counts_changed (λ value. reading.unit * value) part events c

  pub counts_mixed : (reading : Reading) (mixed shared : Bool) (part : Run ℕ) (events : List Event)
      → MakesCalls declared part events → MakesCalls declared (if mixed then in_units reading shared part else part) events
  counts_mixed reading true shared part events c = counts_counted reading shared part events c
  counts_mixed reading false shared part events c = c

-- ---- indices make no calls

silent_range : (at value : ℕ) → IsSilent (in_range at value)
silent_range at value =
    elim (nat_le value 4294967295) as (λ b. IsSilent (if b then [] else bad_index at ∷ [])) [ true ↦ tt | false ↦ tt ]

silent_below : (at front value : ℕ) → IsSilent (not_below at front value)
silent_below at front value =
    elim (nat_le value front) as (λ b. IsSilent (if b then [] else bad_index at ∷ [])) [ true ↦ tt | false ↦ tt ]

pub silent_words : (at value words : ℕ) → IsSilent (in_words at value words)
silent_words at value words =
    elim (nat_lt value words) as (λ b. IsSilent (if b then [] else bad_index at ∷ [])) [ true ↦ tt | false ↦ tt ]

silent_step : (at : ℕ) (minus : Bool) (front value : ℕ) → IsSilent (step_events at minus front value)
silent_step at true front value = silent_below at front value
silent_step at false front value = silent_range at (front + value)

mutual
  pub silent_index : (scope : Scope) (index : Index) → IsSilent (index_events scope index)
  silent_index scope (index_number at value) = silent_range at value
  silent_index scope (index_var at name) = silent_range at (bound_value scope name)
  silent_index scope (index_add at items) = silent_sum scope at 0 items
  silent_index scope (index_mul at factors) = silent_product scope at 1 factors

  pub silent_sum : (scope : Scope) (at front : ℕ) (items : IndexItems) → IsSilent (sum_events scope at front items)
  silent_sum scope at front no_index_items = tt
  silent_sum scope at front (index_item_on minus index more) =
      let value : ℕ = index_value scope index in
      let rest : List Event = sum_events scope at (next_front minus front value) more in
      silent_joined (index_events scope index) (step_events at minus front value ++ rest) (silent_index scope index)
      (silent_joined (step_events at minus front value) rest (silent_step at minus front value) (silent_sum scope at (next_front minus front value) more))

  pub silent_product : (scope : Scope) (at front : ℕ) (factors : Indices) → IsSilent (product_events scope at front factors)
  silent_product scope at front no_indices = tt
  silent_product scope at front (index_on index more) =
      let value : ℕ = index_value scope index in
      silent_joined (index_events scope index) (in_range at (front * value) ++ product_events scope at (front * value) more)
      (silent_index scope index)
      (silent_joined (in_range at (front * value)) (product_events scope at (front * value) more)
      (silent_range at (front * value)) (silent_product scope at (front * value) more))

-- ---- calls

-- a list joined of the lists of all parts
pub listed_length : (part : Run (List ℕ)) (more : List (Run (List ℕ))) (n : ℕ)
    → length (in_turn (λ xs ys. xs ++ ys) [] (part ∷ more) n).value
    ≡ length (part n).value + length (concatenation more (n + length (part n).calls)).value
listed_length part more n = length-append (part n).value (concatenation more (n + length (part n).calls)).value

listed_turns : (part : ℕ → Run (List ℕ)) (size : ℕ → ℕ) → ((turn n : ℕ) → length (part turn n).value ≡ size turn)
    → (ts : List ℕ) (n : ℕ) → length (concatenation (map part ts) n).value ≡ sum_by size ts
listed_turns part size each_turn [] n = refl
listed_turns part size each_turn (t ∷ ts) n =
    listed_length (part t) (map part ts) n
    ∙ ap₂ (λ (a b : ℕ). a + b) (each_turn t n) (listed_turns part size each_turn ts (n + length (part t n).calls))
    ∙ sym (sum_by-cons size t ts)

mutual
  pub argument_length : (declared : List Declaration) (reading : Reading) (scope : Scope) (arg : Argument) (n : ℕ)
      → length (argument_of declared reading scope arg n).value ≡ arg_count scope arg
  argument_length declared reading scope (one expr) n = refl
  argument_length declared reading scope (each_arg at name from to inner) n =
      listed_turns (λ turn. concatenation (arguments_of declared reading (inside scope name turn) inner))
      (λ turn. args_count (inside scope name turn) inner)
      (λ turn m. arguments_length declared reading (inside scope name turn) inner m)
      (turns (index_value scope from) (index_value scope to)) n

  pub arguments_length : (declared : List Declaration) (reading : Reading) (scope : Scope) (args : Arguments) (n : ℕ)
      → length (concatenation (arguments_of declared reading scope args) n).value ≡ args_count scope args
  arguments_length declared reading scope no_args n = refl
  arguments_length declared reading scope (arg_on arg more) n =
      listed_length (argument_of declared reading scope arg) (arguments_of declared reading scope more) n
      ∙ ap₂ (λ (a b : ℕ). a + b) (argument_length declared reading scope arg n)
      (arguments_length declared reading scope more (n + length (argument_of declared reading scope arg n).calls))

-- a number that is found is one of a gadget
pub gadget_within : (declared : List Declaration) (name : List ℕ) (g : ℕ) → gadget_number declared name ≡ Some g → g < length declared
gadget_within [] name g found = cc
gadget_within (decl ∷ more) name g found =
    elim (bytes_eq decl.name name) as (λ b. (if b then Some 0 else option_map suc (gadget_number more name)) ≡ Some g → g < suc (length more)) [
      | true ↦ λ (e : Some 0 ≡ Some g). (let same : 0 ≡ g = cc in omega arith)
      | false ↦ λ e. behind (gadget_number more name) (λ h. gadget_within more name h) e
    ] found
  where
    behind : (o : Option ℕ) → ((h : ℕ) → o ≡ Some h → h < length more) → option_map suc o ≡ Some g → g < suc (length more)
    behind None below e = cc
    behind (Some h) below e = let same : suc h ≡ g = cc in let less : h < length more = below h refl in omega arith

gadgets_behind : (g : ℕ) (calls : List Call) (made : Call) → times g (gadgets (calls ++ made ∷ [])) ≡ times g (gadgets calls) + (if made.gadget == g then 1 else 0)
gadgets_behind g calls made =
    let joined : gadgets (calls ++ made ∷ []) ≡ gadgets calls ++ made.gadget ∷ [] = gadgets_joined calls (made ∷ []) in
    let split : times g (gadgets calls ++ made.gadget ∷ []) ≡ times g (gadgets calls) + times g (made.gadget ∷ []) = times_joined g (gadgets calls) (made.gadget ∷ []) in
    let last : times g (made.gadget ∷ []) ≡ (if made.gadget == g then 1 else 0) + 0 = times_cons g made.gadget [] in
    ap (times g) joined ∙ (omega arith)

-- a call with as many arguments as its gadget has inputs
counts_found : (declared : List Declaration) (reading : Reading) (at g : ℕ) (arguments : Run (List ℕ)) (events : List Event)
    → g < length declared → ((n : ℕ) → length (arguments n).value ≡ arity_at declared g) → MakesCalls declared arguments events
    → MakesCalls declared (call_run reading g arguments) (events ++ gadget_call g ∷ [])
counts_found declared reading at g arguments events below size made = record {
  calls = λ n h.
      let made_by : Call = record { gadget = g; inputs = (arguments n).value } in
      let joined : calls_in h (events ++ gadget_call g ∷ []) ≡ calls_in h events + ((if g == h then 1 else 0) + 0) = calls_joined h events (gadget_call g ∷ []) in
      let before : times h (gadgets (arguments n).calls) ≡ calls_in h events = made.calls n h in
      let behind : times h (gadgets ((arguments n).calls ++ made_by ∷ [])) ≡ times h (gadgets (arguments n).calls) + (if g == h then 1 else 0) = gadgets_behind h (arguments n).calls made_by in
      behind ∙ (omega arith);
  fine = λ n.
      fine_joined declared (arguments n).calls (record { gadget = g; inputs = (arguments n).value } ∷ []) (made.fine n)
      (below, size n, tt);
}

counts_called : (declared : List Declaration) (reading : Reading) (at count : ℕ) (name : List ℕ) (arguments : Run (List ℕ)) (events : List Event)
    → CallFits declared name count → ((n : ℕ) → length (arguments n).value ≡ count) → MakesCalls declared arguments events
    → MakesCalls declared (call_run reading (unwrap_or (gadget_number declared name) 0) arguments)
    (events ++ call_events declared at (gadget_number declared name) count)
counts_called declared reading at count name arguments events fits size made =
    let g : ℕ = fits.0 in
    let at_found : Option ℕ → Type 0 = λ found.
    MakesCalls declared (call_run reading (unwrap_or found 0) arguments) (events ++ call_events declared at found count) in
    let at_test : Bool → Type 0 = λ test.
    MakesCalls declared (call_run reading g arguments) (events ++ (if test then gadget_call g ∷ [] else bad_arity at ∷ [])) in
    subst at_found (sym fits.1)
    (subst at_test (sym (eq-eqb (arity_at declared g) count fits.2))
    (counts_found declared reading at g arguments events (gadget_within declared name g fits.1) (λ n. size n ∙ sym fits.2) made))

-- ---- loops

pub silent_range_events : (scope : Scope) (from to : Index) → IsSilent (range_events scope from to)
silent_range_events scope from to =
    silent_joined (index_events scope from) (index_events scope to) (silent_index scope from) (silent_index scope to)

counts_visit : (declared : List Declaration) {A : Type 0} (part : Run A) (events : List Event)
    → MakesCalls declared part events → MakesCalls declared part (visit ∷ events)
counts_visit declared part events c = record { calls = c.calls; fine = c.fine }

counts_result : (declared : List Declaration) {A : Type 0} (part : Run A) (event : Event) (events : List Event)
    → ((g : ℕ) → calls_in g (event ∷ events) ≡ calls_in g events)
    → MakesCalls declared part events → MakesCalls declared part (visit ∷ event ∷ events)
counts_result declared part event events same c = record { calls = λ n g. c.calls n g ∙ sym (same g); fine = c.fine }

-- a loop: the events of its bounds are no calls, and then come its turns
counts_loop : (declared : List Declaration) {A B : Type 0} (join : A → B → B) (none : B) (part : ℕ → Run A) (events : ℕ → List Event)
    (scope : Scope) (from to : Index)
    → ((turn : ℕ) → index_value scope from ≤ turn → turn < index_value scope to → MakesCalls declared (part turn) (events turn))
    → MakesCalls declared (in_turn join none (map part (turns (index_value scope from) (index_value scope to))))
    (visit ∷ (range_events scope from to ++ flat_map events (turns (index_value scope from) (index_value scope to))))
counts_loop declared join none part events scope from to each_turn =
    let low : ℕ = index_value scope from in
    let high : ℕ = index_value scope to in
    let all : List Event = flat_map events (turns low high) in
    let run = in_turn join none (map part (turns low high)) in
    counts_visit declared run (range_events scope from to ++ all)
    (counts_behind declared run (range_events scope from to) all (silent_calls (range_events scope from to) (silent_range_events scope from to))
    (counts_turns declared join none part events low (high - low) (λ turn above below. each_turn turn above (omega arith))))

-- ---- expressions

mutual
  pub counts_tree : (body : Program) (reading : Reading) (scope : Scope) (tree : Tree) → TreeFits body scope tree
      → MakesCalls body.gadgets (meaning body.gadgets reading scope tree) (tree_events body scope tree)
  counts_tree body reading scope (number at value) fits = counts_plain body.gadgets value (visit ∷ []) (λ g. refl)
  counts_tree body reading scope (var at name) fits = counts_plain body.gadgets (bound_value scope name) (visit ∷ []) (λ g. refl)
  counts_tree body reading scope (joint at index) fits =
      counts_plain body.gadgets (slice_index reading.joint (index_value scope index)) (tree_events body scope (joint at index))
      (silent_calls (tree_events body scope (joint at index)) (silent_joined (index_events scope index) (in_words at (index_value scope index) body.joint)
      (silent_index scope index) (silent_words at (index_value scope index) body.joint)))
  counts_tree body reading scope (meas at index) fits =
      counts_plain body.gadgets (slice_index reading.meas (index_value scope index)) (tree_events body scope (meas at index))
      (silent_calls (tree_events body scope (meas at index)) (silent_joined (index_events scope index) (in_words at (index_value scope index) body.meas)
      (silent_index scope index) (silent_words at (index_value scope index) body.meas)))
  counts_tree body reading scope (meas_or_zero at index) fits =
      counts_plain body.gadgets (slice_index reading.meas (index_value scope index)) (tree_events body scope (meas_or_zero at index))
      (silent_calls (tree_events body scope (meas_or_zero at index)) (silent_index scope index))
  counts_tree body reading scope (sum at name from to inner) fits =
      counts_loop body.gadgets (λ a b. a + b) 0 (λ turn. meaning body.gadgets reading (inside scope name turn) inner)
      (λ turn. tree_events body (inside scope name turn) inner) scope from to
      (λ turn low high. counts_tree body reading (inside scope name turn) inner (fits.turns turn low high))
  counts_tree body reading scope (call at name args) fits =
      let own = args_events body scope args in
      let last = call_events body.gadgets at (gadget_number body.gadgets name) (args_count scope args) in
      counts_visit body.gadgets (meaning body.gadgets reading scope (call at name args)) (own ++ last)
      (counts_called body.gadgets reading at (args_count scope args) name (concatenation (arguments_of body.gadgets reading scope args)) own fits.1
      (λ n. arguments_length body.gadgets reading scope args n)
      (counts_args body reading scope args fits.0))
  counts_tree body reading scope (add at items) fits =
      counts_visit body.gadgets (total (items_of body.gadgets reading scope (has_shared_item items) items)) (items_events body scope items)
      (counts_items body reading scope (has_shared_item items) items fits)
  counts_tree body reading scope (mul at factors) fits =
      counts_visit body.gadgets (product (factors_of body.gadgets reading scope factors)) (factors_events body scope factors)
      (counts_factors body reading scope factors fits)
  counts_tree body reading scope (pow at base exponent) fits =
      counts_visit body.gadgets (meaning body.gadgets reading scope (pow at base exponent)) (tree_events body scope base ++ index_events scope exponent)
      (counts_before body.gadgets (map_run (λ value. value ^ index_value scope exponent) (meaning body.gadgets reading scope base))
      (tree_events body scope base) (index_events scope exponent)
      (silent_calls (index_events scope exponent) (silent_index scope exponent))
      (counts_changed body.gadgets (λ value. value ^ index_value scope exponent) (meaning body.gadgets reading scope base) (tree_events body scope base)
      (counts_tree body reading scope base fits.0)))

  counts_items : (body : Program) (reading : Reading) (scope : Scope) (mixed : Bool) (items : Items) → ItemsFit body scope items
      → MakesCalls body.gadgets (total (items_of body.gadgets reading scope mixed items)) (items_events body scope items)
  counts_items body reading scope mixed no_items fits = counts_plain body.gadgets 0 [] (λ g. refl)
  counts_items body reading scope mixed (item_on minus expr more) fits =
      let part = meaning body.gadgets reading scope expr in
      counts_then body.gadgets (λ a b. a + b) (map_run (value_with_sign minus) (if mixed then in_units reading (is_shared expr) part else part))
      (total (items_of body.gadgets reading scope mixed more)) (tree_events body scope expr) (items_events body scope more)
      (counts_changed body.gadgets (value_with_sign minus) (if mixed then in_units reading (is_shared expr) part else part) (tree_events body scope expr)
      (counts_mixed body.gadgets reading mixed (is_shared expr) part (tree_events body scope expr) (counts_tree body reading scope expr fits.0)))
      (counts_items body reading scope mixed more fits.1)

  counts_factors : (body : Program) (reading : Reading) (scope : Scope) (factors : Trees) → FactorsFit body scope factors
      → MakesCalls body.gadgets (product (factors_of body.gadgets reading scope factors)) (factors_events body scope factors)
  counts_factors body reading scope no_trees fits = counts_plain body.gadgets 1 [] (λ g. refl)
  counts_factors body reading scope (tree_on expr more) fits =
      counts_then body.gadgets (λ a b. a * b) (meaning body.gadgets reading scope expr) (product (factors_of body.gadgets reading scope more))
      (tree_events body scope expr) (factors_events body scope more)
      (counts_tree body reading scope expr fits.0) (counts_factors body reading scope more fits.1)

  counts_arg : (body : Program) (reading : Reading) (scope : Scope) (arg : Argument) → ArgumentFits body scope arg
      → MakesCalls body.gadgets (argument_of body.gadgets reading scope arg) (arg_events body scope arg)
  counts_arg body reading scope (one expr) fits =
      counts_changed body.gadgets (λ value. value % modulus ∷ []) (in_units reading (is_shared expr) (meaning body.gadgets reading scope expr)) (tree_events body scope expr)
      (counts_counted body.gadgets reading (is_shared expr) (meaning body.gadgets reading scope expr) (tree_events body scope expr)
      (counts_tree body reading scope expr fits))
  counts_arg body reading scope (each_arg at name from to inner) fits =
      counts_loop body.gadgets (λ xs ys. xs ++ ys) [] (λ turn. concatenation (arguments_of body.gadgets reading (inside scope name turn) inner))
      (λ turn. args_events body (inside scope name turn) inner) scope from to
      (λ turn low high. counts_args body reading (inside scope name turn) inner (fits.turns turn low high))

  counts_args : (body : Program) (reading : Reading) (scope : Scope) (args : Arguments) → ArgumentsFit body scope args
      → MakesCalls body.gadgets (concatenation (arguments_of body.gadgets reading scope args)) (args_events body scope args)
  counts_args body reading scope no_args fits = counts_plain body.gadgets [] [] (λ g. refl)
  counts_args body reading scope (arg_on arg more) fits =
      counts_then body.gadgets (λ xs ys. xs ++ ys) (argument_of body.gadgets reading scope arg) (concatenation (arguments_of body.gadgets reading scope more))
      (arg_events body scope arg) (args_events body scope more)
      (counts_arg body reading scope arg fits.0) (counts_args body reading scope more fits.1)

-- ---- statements

mutual
  counts_stmt : (body : Program) (reading : Reading) (scope : Scope) (stmt : Statement) → StatementFits body scope stmt
      → MakesCalls body.gadgets (statement_of body.gadgets reading scope stmt) (stmt_events body scope stmt)
  counts_stmt body reading scope (check at expr) fits =
      counts_result body.gadgets (statement_of body.gadgets reading scope (check at expr)) a_check (tree_events body scope expr) (λ g. refl)
      (counts_changed body.gadgets one_check (in_units reading (is_shared expr) (meaning body.gadgets reading scope expr)) (tree_events body scope expr)
      (counts_counted body.gadgets reading (is_shared expr) (meaning body.gadgets reading scope expr) (tree_events body scope expr)
      (counts_tree body reading scope expr fits)))
  counts_stmt body reading scope (out at expr) fits =
      counts_result body.gadgets (statement_of body.gadgets reading scope (out at expr)) an_out (tree_events body scope expr) (λ g. refl)
      (counts_changed body.gadgets one_out (meaning body.gadgets reading scope expr) (tree_events body scope expr)
      (counts_tree body reading scope expr fits))
  counts_stmt body reading scope (each at name from to inner) fits =
      counts_loop body.gadgets join_results no_results (λ turn. all_results (statements_of body.gadgets reading (inside scope name turn) inner))
      (λ turn. stmts_events body (inside scope name turn) inner) scope from to
      (λ turn low high. counts_stmts body reading (inside scope name turn) inner (fits.turns turn low high))

  pub counts_stmts : (body : Program) (reading : Reading) (scope : Scope) (stmts : Statements) → StatementsFit body scope stmts
      → MakesCalls body.gadgets (all_results (statements_of body.gadgets reading scope stmts)) (stmts_events body scope stmts)
  counts_stmts body reading scope no_stmts fits = counts_plain body.gadgets no_results [] (λ g. refl)
  counts_stmts body reading scope (stmt_on stmt more) fits =
      counts_then body.gadgets join_results (statement_of body.gadgets reading scope stmt) (all_results (statements_of body.gadgets reading scope more))
      (stmt_events body scope stmt) (stmts_events body scope more)
      (counts_stmt body reading scope stmt fits.0) (counts_stmts body reading scope more fits.1)
