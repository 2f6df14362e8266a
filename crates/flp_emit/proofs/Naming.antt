-- Loops named by their depth: bound names stay bound, and what is shared stays shared. From names up.
use Rattle.std.proofs.Common.{ℕ, zero, suc, ◌≡◌, ◌+◌, Bool, true, false, ◌||◌, List, [], ◌∷◌, ◌++◌, length, refl, ap, ap₂, subst, ◌∙◌, arith, bytes_eq, if◌then◌else◌}
use Rattle.std.proofs.lemmas.List.{map_push}
use Rattle.flp_syntax.specs.Tree.{index_var, Tree, number, var, joint, meas, meas_or_zero, sum, call, add, mul, pow, Items, no_items, item_on, Trees, no_trees, tree_on}
use Rattle.flp_syntax.specs.Sorts.{is_shared, has_shared_item, has_shared}
use Rattle.flp_syntax.specs.Scope.{Bound, Scope, Names, has_name, scope_names, inside, bound_value}
use Rattle.flp_rename.specs.Renamed.{depth_name, depth_of, loop_name, renamed_tree, renamed_items, renamed_trees, renamed_from, renamed_scope}
use Rattle.flp_rename.proofs.Meaning.{value_same}

-- ---- names of depths

same_depth : (d : ℕ) → bytes_eq (depth_name d) (depth_name d) ≡ true
same_depth zero = refl
same_depth (suc d) = same_depth d

other_depth : (d k : ℕ) → bytes_eq (depth_name d) (depth_name (suc (d + k))) ≡ false
other_depth zero k = refl
other_depth (suc d) k =
    let next : suc (suc d + k) ≡ suc (suc (d + k)) = omega arith in
    ap (λ (n : ℕ). bytes_eq (depth_name (suc d)) (depth_name n)) next ∙ other_depth d k

-- what a test of names picks
picked : {A : Type 0} (test known : Bool) (one two : A) → test ≡ known → (if test then one else two) ≡ (if known then one else two)
picked test known one two e = ap (λ (b : Bool). if b then one else two) e

has : (d : ℕ) (bound : Bound) (more : Scope) (name : List ℕ) (test : Bool) → bytes_eq bound.name name ≡ test
    → has_name (scope_names (renamed_from (suc d) more)) (depth_name (suc d + depth_of (scope_names more) name)) ≡ has_name (scope_names more) name
    → has_name (scope_names (renamed_from d (bound ∷ more))) (depth_name (d + (if test then 0 else suc (depth_of (scope_names more) name))))
    ≡ (if test then true else has_name (scope_names more) name)
has d bound more name true e later =
    let here : d + 0 ≡ d = omega arith in
    ap (λ (n : ℕ). has_name (scope_names (renamed_from d (bound ∷ more))) (depth_name n)) here
    ∙ picked (bytes_eq (depth_name d) (depth_name d)) true true (has_name (scope_names (renamed_from (suc d) more)) (depth_name d)) (same_depth d)
has d bound more name false e later =
    let k : ℕ = depth_of (scope_names more) name in
    let next : d + suc k ≡ suc (d + k) = omega arith in
    let shift : suc (d + k) ≡ suc d + k = omega arith in
    ap (λ (n : ℕ). has_name (scope_names (renamed_from d (bound ∷ more))) (depth_name n)) next
    ∙ picked (bytes_eq (depth_name d) (depth_name (suc (d + k)))) false true (has_name (scope_names (renamed_from (suc d) more)) (depth_name (suc (d + k)))) (other_depth d k)
    ∙ ap (λ (n : ℕ). has_name (scope_names (renamed_from (suc d) more)) (depth_name n)) shift
    ∙ later

has_from : (d : ℕ) (scope : Scope) (name : List ℕ)
    → has_name (scope_names (renamed_from d scope)) (depth_name (d + depth_of (scope_names scope) name)) ≡ has_name (scope_names scope) name
has_from d [] name = refl
has_from d (bound ∷ more) name = has d bound more name (bytes_eq bound.name name) refl (has_from (suc d) more name)

pub has_named : (scope : Scope) (name : List ℕ)
    → has_name (scope_names (renamed_scope scope)) (loop_name (scope_names scope) name) ≡ has_name (scope_names scope) name
has_named scope name =
    let none : depth_of (scope_names scope) name ≡ 0 + depth_of (scope_names scope) name = omega arith in
    ap (λ (n : ℕ). has_name (scope_names (renamed_scope scope)) (depth_name n)) none ∙ has_from 0 scope name

pub bound_named : (scope : Scope) (name : List ℕ) → bound_value (renamed_scope scope) (loop_name (scope_names scope) name) ≡ bound_value scope name
bound_named scope name = value_same scope (index_var 0 name)

-- ---- inside a turn

more_from : (d : ℕ) (scope : Scope) (bound : Bound)
    → renamed_from d (scope ++ bound ∷ []) ≡ renamed_from d scope ++ record { name = depth_name (d + length (scope_names scope)); value = bound.value } ∷ []
more_from d [] bound =
    let none : d ≡ d + 0 = omega arith in
    ap (λ (n : ℕ). record { name = depth_name n; value = bound.value } ∷ []) none
more_from d (first ∷ more) bound =
    let shift : suc d + length (scope_names more) ≡ d + suc (length (scope_names more)) = omega arith in
    ap (λ (rest : Scope). record { name = depth_name d; value = first.value } ∷ rest)
    (more_from (suc d) more bound
    ∙ ap (λ (n : ℕ). renamed_from (suc d) more ++ record { name = depth_name n; value = bound.value } ∷ []) shift)

-- what is said of the scope of a turn and its names
pub at_turn : (P : Scope → Names → Type 0) (scope : Scope) (name : List ℕ) (turn : ℕ)
    → P (renamed_scope (inside scope name turn)) (scope_names (inside scope name turn))
    → P (inside (renamed_scope scope) (depth_name (length (scope_names scope))) turn) (scope_names scope ++ name ∷ [])
at_turn P scope name turn h =
    let bound : Bound = record { name = name; value = turn } in
    let none : 0 + length (scope_names scope) ≡ length (scope_names scope) = omega arith in
    let scopes : renamed_scope (inside scope name turn) ≡ inside (renamed_scope scope) (depth_name (length (scope_names scope))) turn =
    more_from 0 scope bound ∙ ap (λ (n : ℕ). inside (renamed_scope scope) (depth_name n) turn) none in
    let names : scope_names (inside scope name turn) ≡ scope_names scope ++ name ∷ [] =
    map_push (λ (b : Bound). b.name) scope bound in
    subst (λ (ns : Names). P (inside (renamed_scope scope) (depth_name (length (scope_names scope))) turn) ns) names
    (subst (λ (s : Scope). P s (scope_names (inside scope name turn))) scopes h)

-- ---- sorts

mutual
  pub shared_named : (names : Names) (tree : Tree) → is_shared (renamed_tree names tree) ≡ is_shared tree
  shared_named names (number at value) = refl
  shared_named names (var at name) = refl
  shared_named names (joint at index) = refl
  shared_named names (meas at index) = refl
  shared_named names (meas_or_zero at index) = refl
  shared_named names (sum at name from to inner) = shared_named (names ++ name ∷ []) inner
  shared_named names (call at name args) = refl
  shared_named names (add at items) = shared_items names items
  shared_named names (mul at factors) = shared_factors names factors
  shared_named names (pow at base exponent) = shared_named names base

  pub shared_items : (names : Names) (items : Items) → has_shared_item (renamed_items names items) ≡ has_shared_item items
  shared_items names no_items = refl
  shared_items names (item_on minus expr more) = ap₂ (λ (a b : Bool). a || b) (shared_named names expr) (shared_items names more)

  pub shared_factors : (names : Names) (factors : Trees) → has_shared (renamed_trees names factors) ≡ has_shared factors
  shared_factors names no_trees = refl
  shared_factors names (tree_on expr more) = ap₂ (λ (a b : Bool). a || b) (shared_named names expr) (shared_factors names more)
