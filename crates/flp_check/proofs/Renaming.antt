-- Unrolling meets the same where loops are named by their depths. From indices up to statements.
use Rattle.std.proofs.Common.{◌≡◌, ℕ, ◌*◌, List, [], ◌∷◌, ◌++◌, refl, ap, subst, ◌∙◌}
use Rattle.std.specs.Prelude.{Result, MatchResult}
use Rattle.std.specs.List.{flat_map}
use Rattle.flp_syntax.specs.Tree.{Index, index_number, index_var, index_add, index_mul, IndexItems, no_index_items, index_item_on, Indices, no_indices, index_on, Tree, number, var, joint, meas, meas_or_zero, sum, call, add, mul, pow, Items, no_items, item_on, Trees, no_trees, tree_on, Argument, one, each_arg, Arguments, no_args, arg_on, Statement, check, out, each, Statements, no_stmts, stmt_on, Program}
use Rattle.flp_syntax.specs.Scope.{Scope, scope_names, inside, next_front, index_value, turns, gadget_number}
use Rattle.flp_rename.specs.Renamed.{renamed_scope, renamed_index, renamed_index_items, renamed_indices, renamed_tree, renamed_items, renamed_trees, renamed_argument, renamed_arguments, renamed_statement, renamed_statements}
use Rattle.flp_rename.proofs.Meaning.{turn_same, value_same, turns_same, args_count_same}
use Rattle.flp_check.specs.Events.{Event, visit, a_check, an_out, in_range, in_words, step_events, index_events, sum_events, product_events, range_events, call_events, tree_events, items_events, factors_events, arg_events, args_events, stmt_events, stmts_events, body_events}
use Rattle.flp_syntax.specs.declared.fault.LangFault.{LangFault}
use Rattle.flp_check.specs.declared.counter.Counter.{Counter}
use Rattle.flp_check.specs.Counts.{Reaches, Stops}
use Rattle.flp_check.specs.Held.{counts_of}
use Rattle.flp_check.specs.Verdict.{no_counts}

-- two parts, one behind the other
both : {ws xs ys zs : List Event} → ws ≡ xs → ys ≡ zs → ws ++ ys ≡ xs ++ zs
both {ws} {xs} {ys} {zs} e f = ap (λ es. es ++ ys) e ∙ ap (λ es. xs ++ es) f

met : {xs ys : List Event} → xs ≡ ys → visit ∷ xs ≡ visit ∷ ys
met e = ap (λ es. visit ∷ es) e

flat_map_same : (f g : ℕ → List Event) → ((v : ℕ) → f v ≡ g v) → (xs : List ℕ) → flat_map f xs ≡ flat_map g xs
flat_map_same f g h [] = refl
flat_map_same f g h (x ∷ xs) = both (h x) (flat_map_same f g h xs)

-- ---- indices

mutual
  index_same : (s : Scope) (x : Index) → index_events (renamed_scope s) (renamed_index (scope_names s) x) ≡ index_events s x
  index_same s (index_number at value) = refl
  index_same s (index_var at name) = ap (λ v. visit ∷ in_range at v) (value_same s (index_var at name))
  index_same s (index_add at items) = met (sum_same s at 0 items)
  index_same s (index_mul at factors) = met (product_same s at 1 factors)

  sum_same : (s : Scope) (at front : ℕ) (x : IndexItems) → sum_events (renamed_scope s) at front (renamed_index_items (scope_names s) x) ≡ sum_events s at front x
  sum_same s at front no_index_items = refl
  sum_same s at front (index_item_on minus index more) =
      ap (λ v. index_events (renamed_scope s) (renamed_index (scope_names s) index) ++ (step_events at minus front v ++ sum_events (renamed_scope s) at (next_front minus front v) (renamed_index_items (scope_names s) more))) (value_same s index)
      ∙ both (index_same s index) (both refl (sum_same s at (next_front minus front (index_value s index)) more))

  product_same : (s : Scope) (at front : ℕ) (x : Indices) → product_events (renamed_scope s) at front (renamed_indices (scope_names s) x) ≡ product_events s at front x
  product_same s at front no_indices = refl
  product_same s at front (index_on index more) =
      ap (λ v. index_events (renamed_scope s) (renamed_index (scope_names s) index) ++ (in_range at (front * v) ++ product_events (renamed_scope s) at (front * v) (renamed_indices (scope_names s) more))) (value_same s index)
      ∙ both (index_same s index) (both refl (product_same s at (front * index_value s index) more))

-- a place among so many words
place_same : (s : Scope) (at words : ℕ) (x : Index) → index_events (renamed_scope s) (renamed_index (scope_names s) x) ++ in_words at (index_value (renamed_scope s) (renamed_index (scope_names s) x)) words ≡ index_events s x ++ in_words at (index_value s x) words
place_same s at words x = both (index_same s x) (ap (λ v. in_words at v words) (value_same s x))

-- the bounds of a loop and what its turns meet
loop_same : (s : Scope) (from to : Index) (f g : ℕ → List Event) → ((v : ℕ) → f v ≡ g v)
    → range_events (renamed_scope s) (renamed_index (scope_names s) from) (renamed_index (scope_names s) to) ++ flat_map f (turns (index_value (renamed_scope s) (renamed_index (scope_names s) from)) (index_value (renamed_scope s) (renamed_index (scope_names s) to)))
    ≡ range_events s from to ++ flat_map g (turns (index_value s from) (index_value s to))
loop_same s from to f g h = both (both (index_same s from) (index_same s to)) (ap (flat_map f) (turns_same s from to) ∙ flat_map_same f g h (turns (index_value s from) (index_value s to)))

-- ---- expressions

mutual
  tree_same : (p : Program) (s : Scope) (x : Tree) → tree_events p (renamed_scope s) (renamed_tree (scope_names s) x) ≡ tree_events p s x
  tree_same p s (number at value) = refl
  tree_same p s (var at name) = refl
  tree_same p s (joint at index) = met (place_same s at p.joint index)
  tree_same p s (meas at index) = met (place_same s at p.meas index)
  tree_same p s (meas_or_zero at index) = met (index_same s index)
  tree_same p s (sum at name from to inner) = met (loop_same s from to _ _ (λ v. turn_same (λ scope names. tree_events p scope (renamed_tree names inner)) s name v ∙ tree_same p (inside s name v) inner))
  tree_same p s (call at name args) = met (both (args_same p s args) (ap (call_events p.gadgets at (gadget_number p.gadgets name)) (args_count_same s args)))
  tree_same p s (add at items) = met (items_same p s items)
  tree_same p s (mul at factors) = met (factors_same p s factors)
  tree_same p s (pow at base exponent) = met (both (tree_same p s base) (index_same s exponent))

  items_same : (p : Program) (s : Scope) (x : Items) → items_events p (renamed_scope s) (renamed_items (scope_names s) x) ≡ items_events p s x
  items_same p s no_items = refl
  items_same p s (item_on minus expr more) = both (tree_same p s expr) (items_same p s more)

  factors_same : (p : Program) (s : Scope) (x : Trees) → factors_events p (renamed_scope s) (renamed_trees (scope_names s) x) ≡ factors_events p s x
  factors_same p s no_trees = refl
  factors_same p s (tree_on expr more) = both (tree_same p s expr) (factors_same p s more)

  arg_same : (p : Program) (s : Scope) (x : Argument) → arg_events p (renamed_scope s) (renamed_argument (scope_names s) x) ≡ arg_events p s x
  arg_same p s (one expr) = tree_same p s expr
  arg_same p s (each_arg at name from to inner) = met (loop_same s from to _ _ (λ v. turn_same (λ scope names. args_events p scope (renamed_arguments names inner)) s name v ∙ args_same p (inside s name v) inner))

  args_same : (p : Program) (s : Scope) (x : Arguments) → args_events p (renamed_scope s) (renamed_arguments (scope_names s) x) ≡ args_events p s x
  args_same p s no_args = refl
  args_same p s (arg_on arg more) = both (arg_same p s arg) (args_same p s more)

-- ---- statements

mutual
  stmt_same : (p : Program) (s : Scope) (x : Statement) → stmt_events p (renamed_scope s) (renamed_statement (scope_names s) x) ≡ stmt_events p s x
  stmt_same p s (check at expr) = ap (λ xs. visit ∷ a_check ∷ xs) (tree_same p s expr)
  stmt_same p s (out at expr) = ap (λ xs. visit ∷ an_out ∷ xs) (tree_same p s expr)
  stmt_same p s (each at name from to inner) = met (loop_same s from to _ _ (λ v. turn_same (λ scope names. stmts_events p scope (renamed_statements names inner)) s name v ∙ stmts_same p (inside s name v) inner))

  pub stmts_same : (p : Program) (s : Scope) (x : Statements) → stmts_events p (renamed_scope s) (renamed_statements (scope_names s) x) ≡ stmts_events p s x
  stmts_same p s no_stmts = refl
  stmts_same p s (stmt_on stmt more) = both (stmt_same p s stmt) (stmts_same p s more)

-- a walk over the statements of a body, whose loops are named by their depths, is one over the body
body_same : (p : Program) (stmts : Statements) → stmts ≡ renamed_statements [] p.stmts → stmts_events p [] stmts ≡ body_events p
body_same p stmts e = ap (stmts_events p []) e ∙ stmts_same p [] p.stmts

pub walked_body : (p : Program) (stmts : Statements) (result : Result Counter LangFault)
    → MatchResult result (λ counter. Reaches (no_counts p) (stmts_events p [] stmts) (counts_of counter)) (λ fault. Stops (no_counts p) (stmts_events p [] stmts) fault)
    → stmts ≡ renamed_statements [] p.stmts
    → MatchResult result (λ counter. Reaches (no_counts p) (body_events p) (counts_of counter)) (λ fault. Stops (no_counts p) (body_events p) fault)
walked_body p stmts result h e =
    subst (λ events. MatchResult result (λ counter. Reaches (no_counts p) events (counts_of counter)) (λ fault. Stops (no_counts p) events fault)) (body_same p stmts e) h
