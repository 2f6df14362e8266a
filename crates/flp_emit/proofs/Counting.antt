-- Counts that stop at 64 bits, as far as they have come.
use Rattle.std.proofs.Common.{ℕ, ◌≡◌, ◌+◌, ◌<◌, ◌≤◌, List, [], ◌∷◌, ap, ◌∙◌, arith, refl, sym, Bool, false, cond}
use Rattle.std.specs.List.{sum_by}
use Rattle.std.proofs.lemmas.Bool.{false≢true}
use Rattle.std.proofs.lemmas.List.Sums.{sum_by-cons}
use Rattle.flp_syntax.specs.Tree.{Tree, number, var, joint, meas, meas_or_zero, sum, call, add, mul, pow, Items, no_items, item_on, Trees, no_trees, tree_on}
use Rattle.flp_syntax.specs.Sorts.{is_shared, has_shared_item, has_shared}
use Rattle.flp_syntax.specs.Scope.{Scope, inside, index_value, turns}
use Rattle.flp_syntax.proofs.Publics.{first_public, rest_public, first_item_public, rest_items_public}
use Rattle.flp_syntax.proofs.Turns.{turns_next}
use Rattle.flp_meaning.specs.Terms.{form_terms, shared_factor_terms, input_terms, input_terms_of_items, input_terms_of_factors}
use Rattle.flp_emit.specs.Counts.{capped}
use Rattle.flp_emit.specs.Emitting.{IsOneShared, first_one, later_one}

-- what was counted and what is left are all
pub record CountLeft (count rest whole : ℕ) : Type 0 where
  pub small : count ≤ 18446744073709551615
  pub all : capped (count + rest) ≡ capped whole

-- one part more
pub count_next : {count rest whole terms next : ℕ} (item : ℕ) → CountLeft count (item + rest) whole → terms ≡ capped item
    → next ≡ capped (count + terms) → CountLeft next rest whole
count_next {count} {rest} {whole} {terms} {next} item left part joined =
    let so_far : capped (count + (item + rest)) ≡ capped whole = left.all in
    record { small = omega arith; all = omega arith }

-- no part is left
pub count_ends : {count whole : ℕ} → CountLeft count 0 whole → count ≡ capped whole
count_ends {count} {whole} left =
    let small : count ≤ 18446744073709551615 = left.small in
    let all : capped (count + 0) ≡ capped whole = left.all in
    omega arith

-- a sum over turns begins with the first of them
pub sum_next : (f : ℕ → ℕ) (from to : ℕ) → from < to → sum_by f (turns from to) ≡ f from + sum_by f (turns (from + 1) to)
sum_next f from to more = ap (λ ts. sum_by f ts) (turns_next from to more) ∙ sum_by-cons f from (turns (from + 1) to)

pub turn_next : (f : ℕ → ℕ) (from to : ℕ) {count whole terms next : ℕ} → from < to → CountLeft count (sum_by f (turns from to)) whole
    → terms ≡ capped (f from) → next ≡ capped (count + terms) → CountLeft next (sum_by f (turns (from + 1) to)) whole
turn_next f from to more left part joined = count_next (f from) (rw (sum_next f from to more) at left) part joined

-- ---- a public expression is one term, and has no call inside

pub public_form : (words : ℕ) (scope : Scope) (tree : Tree) → is_shared tree ≡ false → form_terms words scope tree ≡ 1
public_form words scope (number at value) h = refl
public_form words scope (var at name) h = refl
public_form words scope (joint at index) h = refl
public_form words scope (meas at index) h = absurd (false≢true (sym h))
public_form words scope (meas_or_zero at index) h = absurd (false≢true (sym h))
public_form words scope (sum at name from to inner) h = let public : is_shared inner ≡ false = h in rw public refl
public_form words scope (call at name args) h = absurd (false≢true (sym h))
public_form words scope (add at items) h = let public : has_shared_item items ≡ false = h in rw public refl
public_form words scope (mul at factors) h = let public : has_shared factors ≡ false = h in rw public refl
public_form words scope (pow at base exponent) h = refl

none_in_turns : (f : ℕ → ℕ) (ts : List ℕ) → ((t : ℕ) → f t ≡ 0) → sum_by f ts ≡ 0
none_in_turns f [] h = refl
none_in_turns f (t ∷ ts) h = sum_by-cons f t ts ∙ (omega (arith, h t, none_in_turns f ts h))

mutual
  pub public_inputs : (words : ℕ) (scope : Scope) (tree : Tree) → is_shared tree ≡ false → input_terms words scope tree ≡ 0
  public_inputs words scope (number at value) h = refl
  public_inputs words scope (var at name) h = refl
  public_inputs words scope (joint at index) h = refl
  public_inputs words scope (meas at index) h = refl
  public_inputs words scope (meas_or_zero at index) h = refl
  public_inputs words scope (sum at name from to inner) h =
      none_in_turns (λ turn. input_terms words (inside scope name turn) inner) (turns (index_value scope from) (index_value scope to))
      (λ turn. public_inputs words (inside scope name turn) inner h)
  public_inputs words scope (call at name args) h = absurd (false≢true (sym h))
  public_inputs words scope (add at items) h = public_inputs_of_items words scope items h
  public_inputs words scope (mul at factors) h = public_inputs_of_factors words scope factors h
  public_inputs words scope (pow at base exponent) h = public_inputs words scope base h

  public_inputs_of_items : (words : ℕ) (scope : Scope) (items : Items) → has_shared_item items ≡ false → input_terms_of_items words scope items ≡ 0
  public_inputs_of_items words scope no_items h = refl
  public_inputs_of_items words scope (item_on minus expr more) h =
      omega (arith, public_inputs words scope expr (first_item_public minus expr more h), public_inputs_of_items words scope more (rest_items_public minus expr more h))

  public_inputs_of_factors : (words : ℕ) (scope : Scope) (factors : Trees) → has_shared factors ≡ false → input_terms_of_factors words scope factors ≡ 0
  public_inputs_of_factors words scope no_trees h = refl
  public_inputs_of_factors words scope (tree_on expr more) h =
      omega (arith, public_inputs words scope expr (first_public expr more h), public_inputs_of_factors words scope more (rest_public expr more h))

-- the terms of a product are those of its one shared factor
pub one_shared_form : (words : ℕ) (scope : Scope) {expr : Tree} {factors : Trees} → IsOneShared expr factors
    → shared_factor_terms words scope factors ≡ form_terms words scope expr
one_shared_form words scope (first_one {expr = expr} {more = more} shared rest) =
    ap (λ (b : Bool). cond b (form_terms words scope expr) (shared_factor_terms words scope more)) shared
one_shared_form words scope (later_one {expr = expr} {first = first} {more = more} public rest) =
    ap (λ (b : Bool). cond b (form_terms words scope first) (shared_factor_terms words scope more)) public
    ∙ one_shared_form words scope rest

pub one_shared_inputs : (words : ℕ) (scope : Scope) {expr : Tree} {factors : Trees} → IsOneShared expr factors
    → input_terms_of_factors words scope factors ≡ input_terms words scope expr
one_shared_inputs words scope (first_one {expr = expr} {more = more} shared rest) =
    omega (arith, public_inputs_of_factors words scope more rest)
one_shared_inputs words scope (later_one {expr = expr} {first = first} {more = more} public rest) =
    omega (arith, public_inputs words scope first public, one_shared_inputs words scope rest)
