-- Loops that are named by their depths bind the same values.
use Rattle.std.proofs.Common.{◌≡◌, ℕ, suc, ◌+◌, ◌*◌, Bool, true, false, List, [], ◌∷◌, ◌++◌, length, refl, sym, ap, ◌∙◌, arith}
use Rattle.std.specs.Prelude.{if◌then◌else◌, sum_by}
use Rattle.std.specs.Str.{bytes_eq}
use Rattle.std.proofs.lemmas.Bool.{false≢true}
use Rattle.std.proofs.lemmas.Bool.Decides.{same_from_decides}
use Rattle.std.proofs.lemmas.List.{map-append, length-replicate}
use Rattle.std.proofs.lemmas.List.Sums.{sum_by-cons}
use Rattle.std.proofs.lemmas.Slice.Eq.{bytes_eq-Decides}
use Rattle.flp_syntax.specs.Tree.{Index, index_number, index_var, index_add, index_mul, IndexItems, no_index_items, index_item_on, Indices, no_indices, index_on, Argument, one, each_arg, Arguments, no_args, arg_on}
use Rattle.flp_syntax.specs.Scope.{Scope, Bound, Names, scope_names, inside, bound_value, next_front, index_value, sum_from, product_from, turns, arg_count, args_count}
use Rattle.flp_rename.specs.Renamed.{depth_name, depth_of, renamed_from, renamed_scope, renamed_index, renamed_index_items, renamed_indices, renamed_argument, renamed_arguments}

-- ---- names

-- each depth has a name of its own
same_depth : (k : ℕ) → bytes_eq (depth_name k) (depth_name k) ≡ true
same_depth k = same_from_decides _ true (bytes_eq-Decides (depth_name k) (depth_name k)) (λ _. refl, λ _. refl)

no_other : (k n : ℕ) → depth_name k ≡ depth_name (k + suc n) → ⊥
no_other k n e =
    let same : k ≡ k + suc n = sym (length-replicate k 0) ∙ ap length e ∙ length-replicate (k + suc n) 0 in
    absurd (omega (arith, same))

other_depth : (k n : ℕ) → bytes_eq (depth_name k) (depth_name (k + suc n)) ≡ false
other_depth k n = same_from_decides _ false (bytes_eq-Decides (depth_name k) (depth_name (k + suc n))) (λ t. absurd (false≢true t), λ e. absurd (no_other k n e))

-- the first loop of a scope, or one behind it
bound_at : (t : Bool) (k n v : ℕ) (s : Scope) (name : List ℕ)
    → bound_value (renamed_from (suc k) s) (depth_name (suc k + n)) ≡ bound_value s name
    → bound_value (record { name = depth_name k; value = v } ∷ renamed_from (suc k) s) (depth_name (k + (if t then 0 else suc n))) ≡ (if t then v else bound_value s name)
bound_at true k n v s name h =
    let e : k + 0 ≡ k = omega arith in
    rw (e, same_depth k) refl
bound_at false k n v s name h =
    let e : k + suc n ≡ suc k + n = omega arith in
    rw (other_depth k n, e) h

-- a variable has the value of its loop
bound_from : (k : ℕ) (s : Scope) (name : List ℕ) → bound_value (renamed_from k s) (depth_name (k + depth_of (scope_names s) name)) ≡ bound_value s name
bound_from k [] name = refl
bound_from k (bound ∷ s) name = bound_at (bytes_eq bound.name name) k (depth_of (scope_names s) name) bound.value s name (bound_from (suc k) s name)

-- ---- scopes

inside_from : (k : ℕ) (s : Scope) (name : List ℕ) (value : ℕ) → renamed_from k (inside s name value) ≡ inside (renamed_from k s) (depth_name (k + length (scope_names s))) value
inside_from k [] name value =
    let e : k ≡ k + 0 = omega arith in
    ap (λ m. record { name = depth_name m; value = value } ∷ []) e
inside_from k (bound ∷ s) name value =
    let e : suc k + length (scope_names s) ≡ k + suc (length (scope_names s)) = omega arith in
    ap (λ (more : Scope). record { name = depth_name k; value = bound.value } ∷ more) (inside_from (suc k) s name value ∙ ap (λ m. inside (renamed_from (suc k) s) (depth_name m) value) e)

-- what holds of a turn's scope holds of it where its loops are named by their depths
pub turn_same : {A : Type 0} (f : Scope → Names → A) (s : Scope) (name : List ℕ) (value : ℕ)
    → f (inside (renamed_scope s) (depth_name (length (scope_names s))) value) (scope_names s ++ name ∷ []) ≡ f (renamed_scope (inside s name value)) (scope_names (inside s name value))
turn_same f s name value =
    let e : length (scope_names s) ≡ 0 + length (scope_names s) = omega arith in
    ap (λ depth. f (inside (renamed_scope s) (depth_name depth) value) (scope_names s ++ name ∷ [])) e
    ∙ ap (λ scope. f scope (scope_names s ++ name ∷ [])) (sym (inside_from 0 s name value))
    ∙ ap (f (renamed_scope (inside s name value))) (sym (map-append (λ (bound : Bound). bound.name) s (record { name = name; value = value } ∷ [])))

-- ---- indices

mutual
  pub value_same : (s : Scope) (x : Index) → index_value (renamed_scope s) (renamed_index (scope_names s) x) ≡ index_value s x
  value_same s (index_number at value) = refl
  value_same s (index_var at name) =
      let e : depth_of (scope_names s) name ≡ 0 + depth_of (scope_names s) name = omega arith in
      ap (λ depth. bound_value (renamed_scope s) (depth_name depth)) e ∙ bound_from 0 s name
  value_same s (index_add at items) = sum_same s 0 items
  value_same s (index_mul at factors) = product_same s 1 factors

  pub sum_same : (s : Scope) (front : ℕ) (x : IndexItems) → sum_from (renamed_scope s) front (renamed_index_items (scope_names s) x) ≡ sum_from s front x
  sum_same s front no_index_items = refl
  sum_same s front (index_item_on minus index more) =
      ap (λ v. sum_from (renamed_scope s) (next_front minus front v) (renamed_index_items (scope_names s) more)) (value_same s index)
      ∙ sum_same s (next_front minus front (index_value s index)) more

  pub product_same : (s : Scope) (front : ℕ) (x : Indices) → product_from (renamed_scope s) front (renamed_indices (scope_names s) x) ≡ product_from s front x
  product_same s front no_indices = refl
  product_same s front (index_on index more) =
      ap (λ v. product_from (renamed_scope s) (front * v) (renamed_indices (scope_names s) more)) (value_same s index)
      ∙ product_same s (front * index_value s index) more

-- ---- arguments

sum_by_same : (f g : ℕ → ℕ) → ((v : ℕ) → f v ≡ g v) → (xs : List ℕ) → sum_by f xs ≡ sum_by g xs
sum_by_same f g h [] = refl
sum_by_same f g h (x ∷ xs) =
    let first = h x in
    let more = sum_by_same f g h xs in
    sum_by-cons f x xs ∙ ap (λ n. n + sum_by f xs) first ∙ ap (λ n. g x + n) more ∙ sym (sum_by-cons g x xs)

-- the turns of a loop are the same
pub turns_same : (s : Scope) (from to : Index) → turns (index_value (renamed_scope s) (renamed_index (scope_names s) from)) (index_value (renamed_scope s) (renamed_index (scope_names s) to)) ≡ turns (index_value s from) (index_value s to)
turns_same s from to =
    ap (λ v. turns v (index_value (renamed_scope s) (renamed_index (scope_names s) to))) (value_same s from)
    ∙ ap (turns (index_value s from)) (value_same s to)

mutual
  pub arg_count_same : (s : Scope) (x : Argument) → arg_count (renamed_scope s) (renamed_argument (scope_names s) x) ≡ arg_count s x
  arg_count_same s (one expr) = refl
  arg_count_same s (each_arg at name from to inner) =
      ap (sum_by (λ value. args_count (inside (renamed_scope s) (depth_name (length (scope_names s))) value) (renamed_arguments (scope_names s ++ name ∷ []) inner))) (turns_same s from to)
      ∙ sum_by_same _ _ (λ value. turn_same (λ scope names. args_count scope (renamed_arguments names inner)) s name value ∙ args_count_same (inside s name value) inner) (turns (index_value s from) (index_value s to))

  pub args_count_same : (s : Scope) (x : Arguments) → args_count (renamed_scope s) (renamed_arguments (scope_names s) x) ≡ args_count s x
  args_count_same s no_args = refl
  args_count_same s (arg_on arg more) =
      ap (λ n. n + args_count (renamed_scope s) (renamed_arguments (scope_names s) more)) (arg_count_same s arg)
      ∙ ap (λ n. arg_count s arg + n) (args_count_same s more)
