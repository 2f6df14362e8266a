-- Where unrolling meets no fault and no name is at fault, each part fits. From indices up to statements.
use Rattle.std.proofs.Common.{◌≡◌, ℕ, ◌-◌, ◌*◌, Bool, true, false, ◌&&◌, ◌||◌, eqb, List, [], ◌∷◌, ◌++◌, Option, None, Some, refl, sym, subst, arith}
use Rattle.std.specs.List.{flat_map}
use Rattle.std.specs.Prelude.{not, is_some}
use Rattle.std.proofs.lemmas.List.{map-append}
use Rattle.std.proofs.lemmas.Bool.{eqb-true}
use Rattle.flp_syntax.specs.Tree.{Index, index_number, index_var, index_add, index_mul, IndexItems, no_index_items, index_item_on, Indices, no_indices, index_on, Tree, number, var, joint, meas, meas_or_zero, sum, call, add, mul, pow, Items, no_items, item_on, Trees, no_trees, tree_on, Argument, one, each_arg, Arguments, no_args, arg_on, Statement, check, out, each, Statements, no_stmts, stmt_on, Declaration, Program, tree_at}
use Rattle.flp_syntax.specs.Scope.{Scope, Bound, Names, has_name, scope_names, inside, bound_value, next_front, index_value, turns, args_count, gadget_number, arity_at}
use Rattle.flp_syntax.specs.Sorts.{is_shared, has_shared_item}
use Rattle.flp_syntax.specs.Fits.{IndexFits, SumFits, ProductFits, LoopFits, CallFits, TreeFits, ItemsFit, FactorsFit, ArgumentFits, ArgumentsFit, StatementFits, StatementsFit}
use Rattle.flp_check.specs.declared.flaw.Flaw.{Flaw}
use Rattle.flp_check.specs.declared.flaw.Rule.TheVariants.{Name, NotLinear}
use Rattle.flp_check.specs.Flaws.{is_gadget, flaw_if, taken_flaws, index_flaws, index_items_flaws, indices_flaws, range_flaws, tree_flaws, items_flaws, factors_flaws, arg_flaws, args_flaws, stmt_flaws, stmts_flaws}
use Rattle.flp_check.specs.Events.{Event, IsClean, in_range, in_words, step_events, index_events, sum_events, product_events, range_events, call_events, tree_events, items_events, factors_events, arg_events, args_events, stmt_events, stmts_events}
use Rattle.flp_check.proofs.Clean.{append-none, is_bound, clean_both, clean_range, clean_step, clean_words, clean_arity, clean_turn}

names_inside : (s : Scope) (name : List ℕ) (value : ℕ) → scope_names (inside s name value) ≡ scope_names s ++ name ∷ []
names_inside s name value = map-append (λ (bound : Bound). bound.name) s (record { name = name; value = value } ∷ [])

-- ---- indices

mutual
  index_fits : (s : Scope) (x : Index) → IsClean (index_events s x) → index_flaws (scope_names s) x ≡ [] → IndexFits s x
  index_fits s (index_number at value) h k = clean_range at value h
  index_fits s (index_var at name) h k = (is_bound (has_name (scope_names s) name) at Name k, clean_range at (bound_value s name) h)
  index_fits s (index_add at items) h k = sum_fits s at 0 items h k
  index_fits s (index_mul at factors) h k = product_fits s at 1 factors h k

  sum_fits : (s : Scope) (at front : ℕ) (x : IndexItems) → IsClean (sum_events s at front x) → index_items_flaws (scope_names s) x ≡ [] → SumFits s front x
  sum_fits s at front no_index_items h k = tt
  sum_fits s at front (index_item_on minus index more) h k =
      let next : ℕ = next_front minus front (index_value s index) in
      let parts = clean_both (index_events s index) (step_events at minus front (index_value s index) ++ sum_events s at next more) h in
      let rest = clean_both (step_events at minus front (index_value s index)) (sum_events s at next more) parts.1 in
      let nils = append-none (index_flaws (scope_names s) index) (index_items_flaws (scope_names s) more) k in
      (index_fits s index parts.0 nils.0, clean_step at minus front (index_value s index) rest.0, sum_fits s at next more rest.1 nils.1)

  product_fits : (s : Scope) (at front : ℕ) (x : Indices) → IsClean (product_events s at front x) → indices_flaws (scope_names s) x ≡ [] → ProductFits s front x
  product_fits s at front no_indices h k = tt
  product_fits s at front (index_on index more) h k =
      let next : ℕ = front * index_value s index in
      let parts = clean_both (index_events s index) (in_range at next ++ product_events s at next more) h in
      let rest = clean_both (in_range at next) (product_events s at next more) parts.1 in
      let nils = append-none (index_flaws (scope_names s) index) (indices_flaws (scope_names s) more) k in
      (index_fits s index parts.0 nils.0, clean_range at next rest.0, product_fits s at next more rest.1 nils.1)

-- ---- calls and loops

call_fits : (gs : List Declaration) (at : ℕ) (name : List ℕ) (count : ℕ) (found : Option ℕ) → gadget_number gs name ≡ found → is_some found ≡ true → IsClean (call_events gs at found count) → CallFits gs name count
call_fits gs at name count None e some h = cc
call_fits gs at name count (Some gadget) e some h = (gadget, e, eqb-true (arity_at gs gadget) count (clean_arity (eqb (arity_at gs gadget) count) gadget at h))

-- the events of a loop and its flaws, the turns inside it
loop_fits : (gs : List Declaration) (s : Scope) (at : ℕ) (name : List ℕ) (from to : Index) (events : ℕ → List Event) (flaws : Names → List Flaw) (fits : ℕ → Type 0)
    → ((turn : ℕ) → IsClean (events turn) → flaws (scope_names (inside s name turn)) ≡ [] → fits turn)
    → IsClean (range_events s from to ++ flat_map events (turns (index_value s from) (index_value s to)))
    → range_flaws gs (scope_names s) at name from to ++ flaws (scope_names s ++ name ∷ []) ≡ []
    → LoopFits s from to fits
loop_fits gs s at name from to events flaws fits each_turn h k =
    let parts = clean_both (range_events s from to) (flat_map events (turns (index_value s from) (index_value s to))) h in
    let bounds = clean_both (index_events s from) (index_events s to) parts.0 in
    let nils = append-none (range_flaws gs (scope_names s) at name from to) (flaws (scope_names s ++ name ∷ [])) k in
    let names = (append-none (taken_flaws gs (scope_names s) at name) (index_flaws (scope_names s) from ++ index_flaws (scope_names s) to) nils.0).1 in
    let ends = append-none (index_flaws (scope_names s) from) (index_flaws (scope_names s) to) names in
    let P : Names → Type 0 = λ ns. flaws ns ≡ [] in
    record {
      from = index_fits s from bounds.0 ends.0;
      to = index_fits s to bounds.1 ends.1;
      turns = λ turn low high. each_turn turn (clean_turn events (index_value s to - index_value s from) (index_value s from) parts.1 turn low (omega arith)) (subst P (sym (names_inside s name turn)) nils.1);
    }

-- ---- expressions

mutual
  tree_fits : (p : Program) (s : Scope) (o : Bool) (x : Tree) → IsClean (tree_events p s x) → tree_flaws p.gadgets (scope_names s) o x ≡ [] → TreeFits p s x
  tree_fits p s o (number at value) h k = tt
  tree_fits p s o (var at name) h k = is_bound (has_name (scope_names s) name) at Name k
  tree_fits p s o (joint at index) h k =
      let parts = clean_both (index_events s index) (in_words at (index_value s index) p.joint) h in
      (index_fits s index parts.0 (append-none (flaw_if o at NotLinear) (index_flaws (scope_names s) index) k).1, clean_words at (index_value s index) p.joint parts.1)
  tree_fits p s o (meas at index) h k =
      let parts = clean_both (index_events s index) (in_words at (index_value s index) p.meas) h in
      (index_fits s index parts.0 k, clean_words at (index_value s index) p.meas parts.1)
  tree_fits p s o (meas_or_zero at index) h k = index_fits s index h k
  tree_fits p s o (sum at name from to inner) h k =
      loop_fits p.gadgets s at name from to (λ turn. tree_events p (inside s name turn) inner) (λ ns. tree_flaws p.gadgets ns o inner) (λ turn. TreeFits p (inside s name turn) inner)
      (λ turn. tree_fits p (inside s name turn) o inner) h k
  tree_fits p s o (call at name args) h k =
      let parts = clean_both (args_events p s args) (call_events p.gadgets at (gadget_number p.gadgets name) (args_count s args)) h in
      let nils = append-none (flaw_if (not (is_gadget p.gadgets name)) at Name) (flaw_if o at NotLinear ++ args_flaws p.gadgets (scope_names s) o args) k in
      let more = append-none (flaw_if o at NotLinear) (args_flaws p.gadgets (scope_names s) o args) nils.1 in
      (args_fit p s o args parts.0 more.1, call_fits p.gadgets at name (args_count s args) (gadget_number p.gadgets name) refl (is_bound (is_gadget p.gadgets name) at Name nils.0) parts.1)
  tree_fits p s o (add at items) h k = items_fit p s o (o && has_shared_item items) items h k
  tree_fits p s o (mul at factors) h k = factors_fit p s o false factors h k
  tree_fits p s o (pow at base exponent) h k =
      let parts = clean_both (tree_events p s base) (index_events s exponent) h in
      let more = (append-none (flaw_if (is_shared base) at NotLinear) (tree_flaws p.gadgets (scope_names s) o base ++ index_flaws (scope_names s) exponent) k).1 in
      let nils = append-none (tree_flaws p.gadgets (scope_names s) o base) (index_flaws (scope_names s) exponent) more in
      (tree_fits p s o base parts.0 nils.0, index_fits s exponent parts.1 nils.1)

  items_fit : (p : Program) (s : Scope) (o m : Bool) (x : Items) → IsClean (items_events p s x) → items_flaws p.gadgets (scope_names s) o m x ≡ [] → ItemsFit p s x
  items_fit p s o m no_items h k = tt
  items_fit p s o m (item_on minus expr rest) h k =
      let parts = clean_both (tree_events p s expr) (items_events p s rest) h in
      let more = (append-none (flaw_if (m && not (is_shared expr)) (tree_at expr) NotLinear) (tree_flaws p.gadgets (scope_names s) o expr ++ items_flaws p.gadgets (scope_names s) o m rest) k).1 in
      let nils = append-none (tree_flaws p.gadgets (scope_names s) o expr) (items_flaws p.gadgets (scope_names s) o m rest) more in
      (tree_fits p s o expr parts.0 nils.0, items_fit p s o m rest parts.1 nils.1)

  factors_fit : (p : Program) (s : Scope) (o b : Bool) (x : Trees) → IsClean (factors_events p s x) → factors_flaws p.gadgets (scope_names s) o b x ≡ [] → FactorsFit p s x
  factors_fit p s o b no_trees h k = tt
  factors_fit p s o b (tree_on expr rest) h k =
      let parts = clean_both (tree_events p s expr) (factors_events p s rest) h in
      let more = (append-none (flaw_if (b && is_shared expr) (tree_at expr) NotLinear) (tree_flaws p.gadgets (scope_names s) o expr ++ factors_flaws p.gadgets (scope_names s) o (b || is_shared expr) rest) k).1 in
      let nils = append-none (tree_flaws p.gadgets (scope_names s) o expr) (factors_flaws p.gadgets (scope_names s) o (b || is_shared expr) rest) more in
      (tree_fits p s o expr parts.0 nils.0, factors_fit p s o (b || is_shared expr) rest parts.1 nils.1)

  arg_fits : (p : Program) (s : Scope) (o : Bool) (x : Argument) → IsClean (arg_events p s x) → arg_flaws p.gadgets (scope_names s) o x ≡ [] → ArgumentFits p s x
  arg_fits p s o (one expr) h k = tree_fits p s o expr h k
  arg_fits p s o (each_arg at name from to inner) h k =
      loop_fits p.gadgets s at name from to (λ turn. args_events p (inside s name turn) inner) (λ ns. args_flaws p.gadgets ns o inner) (λ turn. ArgumentsFit p (inside s name turn) inner)
      (λ turn. args_fit p (inside s name turn) o inner) h k

  args_fit : (p : Program) (s : Scope) (o : Bool) (x : Arguments) → IsClean (args_events p s x) → args_flaws p.gadgets (scope_names s) o x ≡ [] → ArgumentsFit p s x
  args_fit p s o no_args h k = tt
  args_fit p s o (arg_on arg more) h k =
      let parts = clean_both (arg_events p s arg) (args_events p s more) h in
      let nils = append-none (arg_flaws p.gadgets (scope_names s) o arg) (args_flaws p.gadgets (scope_names s) o more) k in
      (arg_fits p s o arg parts.0 nils.0, args_fit p s o more parts.1 nils.1)

mutual
  stmt_fits : (p : Program) (s : Scope) (x : Statement) → IsClean (stmt_events p s x) → stmt_flaws p.gadgets (scope_names s) x ≡ [] → StatementFits p s x
  stmt_fits p s (check at expr) h k = tree_fits p s false expr h k
  stmt_fits p s (out at expr) h k = tree_fits p s true expr h (append-none (flaw_if (not (is_shared expr)) (tree_at expr) NotLinear) (tree_flaws p.gadgets (scope_names s) true expr) k).1
  stmt_fits p s (each at name from to inner) h k =
      loop_fits p.gadgets s at name from to (λ turn. stmts_events p (inside s name turn) inner) (λ ns. stmts_flaws p.gadgets ns inner) (λ turn. StatementsFit p (inside s name turn) inner)
      (λ turn. stmts_fit p (inside s name turn) inner) h k

  pub stmts_fit : (p : Program) (s : Scope) (x : Statements) → IsClean (stmts_events p s x) → stmts_flaws p.gadgets (scope_names s) x ≡ [] → StatementsFit p s x
  stmts_fit p s no_stmts h k = tt
  stmts_fit p s (stmt_on stmt more) h k =
      let parts = clean_both (stmt_events p s stmt) (stmts_events p s more) h in
      let nils = append-none (stmt_flaws p.gadgets (scope_names s) stmt) (stmts_flaws p.gadgets (scope_names s) more) k in
      (stmt_fits p s stmt parts.0 nils.0, stmts_fit p s more parts.1 nils.1)
