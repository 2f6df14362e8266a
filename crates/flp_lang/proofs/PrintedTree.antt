-- Expressions that were read are read again where they are printed, but for their token numbers, under no more levels.
use Rattle.std.proofs.Common.{ℕ, suc, ◌+◌, ◌≤◌, ◌≡◌, Bool, true, false, ◌||◌, List, [], ◌∷◌, Some, refl, ap}
use Rattle.flp_lang.specs.Grammar.{IsIndex, IsExpr, an_expr, a_minus_expr, MoreTerms, no_term, plus_term, minus_term, IsTerm, a_term, MoreFactors, no_factor, star_factor, IsFactor, a_factor, no_exponent, an_exponent, IsPrim, a_number, a_joint, a_meas, a_meas_or_zero, a_sum, a_call, a_var, a_group, IsArgs, some_args, MoreArgs, no_arg, comma_arg, IsArg, an_arg, an_each_arg}
use Rattle.flp_syntax.specs.Tree.{Index, Tree, number, var, joint, meas, meas_or_zero, sum, call, pow, items, trees, arguments, Argument, one, each_arg, sum_of, product_of, power_of}
use Rattle.flp_lang.specs.Print.{wrap, put_index, put_exponent, put_tree, put_more_items, put_more_factors, put_arg, put_args, put_more_args, is_add, is_mul, is_pow}
use Rattle.flp_lang.specs.Bare.{bare_index, bare_tree, bare_items, bare_trees, bare_arg, bare_args}
use Rattle.flp_lang.proofs.Reprint.{Clean, Reprint, Reprints, fits, closed, close, close_bracket, room, up, over}
use Rattle.flp_lang.proofs.PrintedIndex.{PlainIndex, index_printed, index_prim_printed, range_printed}
use Rattle.flp_syntax.specs.declared.token.Token.{Token}
use Rattle.flp_syntax.specs.declared.token.Token.TheVariants.{Fixed}
use Rattle.flp_syntax.specs.declared.token.Mark.TheVariants.{CloseBracket, Close, Caret}

-- sums, products and powers of parts that are equal but for their token numbers
bare_sum : (minus : Bool) (v w : Tree) (more more' : List (Bool × Tree)) → bare_tree v ≡ bare_tree w → bare_items (items more) ≡ bare_items (items more') → bare_tree (sum_of minus v more) ≡ bare_tree (sum_of minus w more')
bare_sum true v w more more' e f = cc
bare_sum false v w [] [] e f = e
bare_sum false v w [] (x ∷ xs) e f = cc
bare_sum false v w (x ∷ xs) [] e f = cc
bare_sum false v w (x ∷ xs) (y ∷ ys) e f = cc

bare_product : (v w : Tree) (more more' : List Tree) → bare_tree v ≡ bare_tree w → bare_trees (trees more) ≡ bare_trees (trees more') → bare_tree (product_of v more) ≡ bare_tree (product_of w more')
bare_product v w [] [] e f = e
bare_product v w [] (x ∷ xs) e f = cc
bare_product v w (x ∷ xs) [] e f = cc
bare_product v w (x ∷ xs) (y ∷ ys) e f = cc

more_items_same : (minus : Bool) (v w : Tree) (more more' : List (Bool × Tree)) → bare_tree v ≡ bare_tree w → bare_items (items more) ≡ bare_items (items more') → bare_items (items ((minus, v) ∷ more)) ≡ bare_items (items ((minus, w) ∷ more'))
more_items_same minus v w more more' e f = cc

more_factors_same : (v w : Tree) (more more' : List Tree) → bare_tree v ≡ bare_tree w → bare_trees (trees more) ≡ bare_trees (trees more') → bare_trees (trees (v ∷ more)) ≡ bare_trees (trees (w ∷ more'))
more_factors_same v w more more' e f = cc

power_same : (v w : Tree) (e f : Index) → bare_tree v ≡ bare_tree w → bare_index e ≡ bare_index f → pow 0 (bare_tree v) (bare_index e) ≡ pow 0 (bare_tree w) (bare_index f)
power_same v w e f p q = cc

loop_same : (name : List ℕ) (a b c d : Index) (v w : Tree) → bare_index a ≡ bare_index c → bare_index b ≡ bare_index d → bare_tree v ≡ bare_tree w → sum 0 name (bare_index a) (bare_index b) (bare_tree v) ≡ sum 0 name (bare_index c) (bare_index d) (bare_tree w)
loop_same name a b c d v w p q r = cc

each_same : (name : List ℕ) (a b c d : Index) (v w : List Argument) → bare_index a ≡ bare_index c → bare_index b ≡ bare_index d → bare_args (arguments v) ≡ bare_args (arguments w) → each_arg 0 name (bare_index a) (bare_index b) (bare_args (arguments v)) ≡ each_arg 0 name (bare_index c) (bare_index d) (bare_args (arguments w))
each_same name a b c d v w p q r = cc

args_same : (v w : Argument) (more more' : List Argument) → bare_arg v ≡ bare_arg w → bare_args (arguments more) ≡ bare_args (arguments more') → bare_args (arguments (v ∷ more)) ≡ bare_args (arguments (w ∷ more'))
args_same v w more more' e f = cc

abbrev Exprs : Tree → (List Token → List Token) → ℕ → Type 0
Exprs v put a = Reprints IsExpr bare_tree (bare_tree v) put a

abbrev Terms : Tree → (List Token → List Token) → ℕ → Type 0
Terms v put a = Reprints IsTerm bare_tree (bare_tree v) put a

abbrev Factors : Tree → (List Token → List Token) → ℕ → Type 0
Factors v put a = Reprints IsFactor bare_tree (bare_tree v) put a

abbrev Prims : Tree → (List Token → List Token) → ℕ → Type 0
Prims v put a = Reprints IsPrim bare_tree (bare_tree v) put a

-- as an expression, and where it is no sum, product or power, also where none of these may stand
pub record PlainTree (v : Tree) (a : ℕ) : Type 0 where
  pub whole : Reprints IsExpr bare_tree (bare_tree v) (put_tree v) a
  pub term : is_add v ≡ false → Reprints IsTerm bare_tree (bare_tree v) (put_tree v) a
  pub factor : (is_add v || is_mul v) ≡ false → Reprints IsFactor bare_tree (bare_tree v) (put_tree v) a
  pub prim : (is_add v || is_mul v || is_pow v) ≡ false → Reprints IsPrim bare_tree (bare_tree v) (put_tree v) a

-- with the parentheses that it needs: as an item, a factor and a base
abbrev AsItem : Tree → ℕ → Type 0
AsItem v a = Terms v (wrap (is_add v) (put_tree v)) a

abbrev AsFactor : Tree → ℕ → Type 0
AsFactor v a = Factors v (wrap (is_add v || is_mul v) (put_tree v)) a

abbrev AsBase : Tree → ℕ → Type 0
AsBase v a = Prims v (wrap (is_add v || is_mul v || is_pow v) (put_tree v)) a

-- a primary expression is a factor, a factor a term, and a term an expression
prim_as_factor : (v : Tree) (put : List Token → List Token) (a : ℕ) → Prims v put a → Factors v put a
prim_as_factor v put a f a' k u h c =
    let r = f a' k u h c in
    record { end = r.end; tree = r.tree; reads = a_factor r.reads no_exponent; same = r.same; clean = r.clean }

factor_as_term : (v : Tree) (put : List Token → List Token) (a : ℕ) → Factors v put a → Terms v put a
factor_as_term v put a f a' k u h c =
    let r = f a' k u h c in
    record { end = r.end; tree = r.tree; reads = a_term r.reads no_factor; same = r.same; clean = r.clean }

term_as_expr : (v : Tree) (put : List Token → List Token) (a : ℕ) → Terms v put a → Exprs v put a
term_as_expr v put a f a' k u h c =
    let r = f a' k u h c in
    record { end = r.end; tree = r.tree; reads = an_expr r.reads no_term; same = r.same; clean = r.clean }

-- an expression in parentheses is a primary one, a level further out
group_as_prim : (v : Tree) (put : List Token → List Token) (a : ℕ) → suc a + 0 ≤ 64 → Exprs v put (suc a) → Prims v (wrap true put) a
group_as_prim v put a n f a' k u h c =
    let r = f (suc a') (suc k) (Fixed Close ∷ u) (up a a' h) (close a' u (room a a' h n) c) in
    record { end = suc r.end; tree = r.tree; reads = a_group r.reads; same = r.same; clean = (fits (a', 0) u c, tt, r.clean) }

outer : (v : Tree) (a : ℕ) → PlainTree v (suc a) → PlainTree v a
outer v a p = record {
  whole = λ a' k u h c. p.whole a' k u (over a a' h) c;
  term = λ e a' k u h c. p.term e a' k u (over a a' h) c;
  factor = λ e a' k u h c. p.factor e a' k u (over a a' h) c;
  prim = λ e a' k u h c. p.prim e a' k u (over a a' h) c;
}

as_item : (v : Tree) (a : ℕ) (b : Bool) → is_add v ≡ b → suc a + 0 ≤ 64 → PlainTree v (suc a) → Terms v (wrap b (put_tree v)) a
as_item v a true e n p = factor_as_term v (wrap true (put_tree v)) a (prim_as_factor v (wrap true (put_tree v)) a (group_as_prim v (put_tree v) a n p.whole))
as_item v a false e n p = λ a' k u h c. p.term e a' k u (over a a' h) c

as_factor : (v : Tree) (a : ℕ) (b : Bool) → (is_add v || is_mul v) ≡ b → suc a + 0 ≤ 64 → PlainTree v (suc a) → Factors v (wrap b (put_tree v)) a
as_factor v a true e n p = prim_as_factor v (wrap true (put_tree v)) a (group_as_prim v (put_tree v) a n p.whole)
as_factor v a false e n p = λ a' k u h c. p.factor e a' k u (over a a' h) c

as_base : (v : Tree) (a : ℕ) (b : Bool) → (is_add v || is_mul v || is_pow v) ≡ b → suc a + 0 ≤ 64 → PlainTree v (suc a) → Prims v (wrap b (put_tree v)) a
as_base v a true e n p = group_as_prim v (put_tree v) a n p.whole
as_base v a false e n p = λ a' k u h c. p.prim e a' k u (over a a' h) c

-- what is printed without parentheses everywhere
pub record PrimFacts (v : Tree) (a : ℕ) : Type 0 where
  pub plain : PlainTree v a
  pub base : Reprints IsPrim bare_tree (bare_tree v) (wrap (is_add v || is_mul v || is_pow v) (put_tree v)) a
  pub factor : Reprints IsFactor bare_tree (bare_tree v) (wrap (is_add v || is_mul v) (put_tree v)) a
  pub item : Reprints IsTerm bare_tree (bare_tree v) (wrap (is_add v) (put_tree v)) a

simple : (v : Tree) (a : ℕ) → is_add v ≡ false → is_mul v ≡ false → is_pow v ≡ false → Prims v (put_tree v) a → PrimFacts v a
simple v a e i j f =
    let g = prim_as_factor v (put_tree v) a f in
    let t = factor_as_term v (put_tree v) a g in
    record {
      plain = record { whole = term_as_expr v (put_tree v) a t; term = λ _. t; factor = λ _. g; prim = λ _. f };
      base = rw (e, i, j) f;
      factor = rw (e, i) g;
      item = rw e t;
    }

group : (v : Tree) (a : ℕ) → suc a + 0 ≤ 64 → PlainTree v (suc a) → PrimFacts v a
group v a n p = record {
  plain = outer v a p;
  base = as_base v a (is_add v || is_mul v || is_pow v) refl n p;
  factor = as_factor v a (is_add v || is_mul v) refl n p;
  item = as_item v a (is_add v) refl n p;
}

-- an index in brackets, behind what a place begins with
bracketed : (index : Index) (a a' k : ℕ) (u : List Token) → suc a + 0 ≤ 64 → PlainIndex index (suc a) → a' ≤ a → Clean (a', 0) u → Reprint IsIndex bare_index (bare_index index) (put_index index) (suc a', 0) k (Fixed CloseBracket ∷ u)
bracketed index a a' k u n p h c = p.whole (suc a') k (Fixed CloseBracket ∷ u) (up a a' h) (close_bracket a' u (room a a' h n) c)

mutual
  pub expr_printed : {k k' : ℕ} {s s' : List Token} {v : Tree} → IsExpr k s k' s' v → (a : ℕ) → Clean (a, 0) s → PlainTree v a × Clean (a, 0) s'
  expr_printed (an_expr {v = v} {more = []} d m) a c = let f = term_printed d a c in let g = terms_printed m a f.2 in (f.0, g.1)
  expr_printed (an_expr {v = v} {more = x ∷ more} d m) a c =
      let f = term_printed d a c in
      let g = terms_printed m a f.2 in (
        record {
          whole = λ a' k u h i.
              let r = f.1 a' k (put_more_items (items (x ∷ more)) u) h ((g.0 a' k u h i).clean) in
              let q = g.0 a' r.end u h i in
              record { end = q.end; tree = sum_of false r.tree q.tree; reads = an_expr r.reads q.reads; same = bare_sum false r.tree v q.tree (x ∷ more) r.same q.same; clean = r.clean };
          term = λ e. cc;
          factor = λ e. cc;
          prim = λ e. cc;
        },
        g.1,
      )
  expr_printed (a_minus_expr {v = v} {more = more} d m) a c =
      let f = term_printed d a c.2 in
      let g = terms_printed m a f.2 in (
        record {
          whole = λ a' k u h i.
              let r = f.1 a' (suc k) (put_more_items (items more) u) h ((g.0 a' k u h i).clean) in
              let q = g.0 a' r.end u h i in
              record { end = q.end; tree = sum_of true r.tree q.tree; reads = a_minus_expr r.reads q.reads; same = bare_sum true r.tree v q.tree more r.same q.same; clean = (fits (a', 0) u i, tt, r.clean) };
          term = λ e. cc;
          factor = λ e. cc;
          prim = λ e. cc;
        },
        g.1,
      )

  terms_printed : {k k' : ℕ} {s s' : List Token} {v : List (Bool × Tree)} → MoreTerms k s k' s' v → (a : ℕ) → Clean (a, 0) s → Reprints MoreTerms (λ (xs : List (Bool × Tree)). bare_items (items xs)) (bare_items (items v)) (put_more_items (items v)) a × Clean (a, 0) s'
  terms_printed no_term a c = ((λ a' k u h i. record { end = k; tree = []; reads = no_term; same = refl; clean = i }), c)
  terms_printed (plus_term {v = v} {more = more} d m) a c =
      let f = term_printed d a c.2 in
      let g = terms_printed m a f.2 in (
        (λ a' k u h i.
            let r = f.1 a' (suc k) (put_more_items (items more) u) h ((g.0 a' k u h i).clean) in
            let q = g.0 a' r.end u h i in
            record { end = q.end; tree = (false, r.tree) ∷ q.tree; reads = plus_term r.reads q.reads; same = more_items_same false r.tree v q.tree more r.same q.same; clean = (fits (a', 0) u i, tt, r.clean) }),
        g.1,
      )
  terms_printed (minus_term {v = v} {more = more} d m) a c =
      let f = term_printed d a c.2 in
      let g = terms_printed m a f.2 in (
        (λ a' k u h i.
            let r = f.1 a' (suc k) (put_more_items (items more) u) h ((g.0 a' k u h i).clean) in
            let q = g.0 a' r.end u h i in
            record { end = q.end; tree = (true, r.tree) ∷ q.tree; reads = minus_term r.reads q.reads; same = more_items_same true r.tree v q.tree more r.same q.same; clean = (fits (a', 0) u i, tt, r.clean) }),
        g.1,
      )

  term_printed : {k k' : ℕ} {s s' : List Token} {v : Tree} → IsTerm k s k' s' v → (a : ℕ) → Clean (a, 0) s → PlainTree v a × AsItem v a × Clean (a, 0) s'
  term_printed (a_term {v = v} {more = []} d m) a c = let f = factor_printed d a c in let g = factors_printed m a f.3 in (f.0, f.2, g.1)
  term_printed (a_term {v = v} {more = x ∷ more} d m) a c =
      let f = factor_printed d a c in
      let g = factors_printed m a f.3 in
      let term : Terms (product_of v (x ∷ more)) (put_tree (product_of v (x ∷ more))) a = λ a' k u h i.
      let r = f.1 a' k (put_more_factors (trees (x ∷ more)) u) h ((g.0 a' k u h i).clean) in
      let q = g.0 a' r.end u h i in
      record { end = q.end; tree = product_of r.tree q.tree; reads = a_term r.reads q.reads; same = bare_product r.tree v q.tree (x ∷ more) r.same q.same; clean = r.clean } in
      (record { whole = term_as_expr (product_of v (x ∷ more)) (put_tree (product_of v (x ∷ more))) a term; term = λ e. term; factor = λ e. cc; prim = λ e. cc }, term, g.1)

  factors_printed : {k k' : ℕ} {s s' : List Token} {v : List Tree} → MoreFactors k s k' s' v → (a : ℕ) → Clean (a, 0) s → Reprints MoreFactors (λ (xs : List Tree). bare_trees (trees xs)) (bare_trees (trees v)) (put_more_factors (trees v)) a × Clean (a, 0) s'
  factors_printed no_factor a c = ((λ a' k u h i. record { end = k; tree = []; reads = no_factor; same = refl; clean = i }), c)
  factors_printed (star_factor {v = v} {more = more} d m) a c =
      let f = factor_printed d a c.2 in
      let g = factors_printed m a f.3 in (
        (λ a' k u h i.
            let r = f.1 a' (suc k) (put_more_factors (trees more) u) h ((g.0 a' k u h i).clean) in
            let q = g.0 a' r.end u h i in
            record { end = q.end; tree = r.tree ∷ q.tree; reads = star_factor r.reads q.reads; same = more_factors_same r.tree v q.tree more r.same q.same; clean = (fits (a', 0) u i, tt, r.clean) }),
        g.1,
      )

  factor_printed : {k k' : ℕ} {s s' : List Token} {v : Tree} → IsFactor k s k' s' v → (a : ℕ) → Clean (a, 0) s → PlainTree v a × AsFactor v a × AsItem v a × Clean (a, 0) s'
  factor_printed (a_factor {v = v} d no_exponent) a c = let f = prim_printed d a c in (f.0.plain, f.0.factor, f.0.item, f.1)
  factor_printed (a_factor {v = v} d (an_exponent {v = e} m)) a c =
      let f = prim_printed d a c in
      let g = index_prim_printed m a f.1.2 in
      let w = power_of v (Some e) in
      let factor : Factors (power_of v (Some e)) (put_tree (power_of v (Some e))) a = λ a' k u h i.
      let n = fits (a', 0) u i in
      let r = f.0.base a' k (Fixed Caret ∷ put_exponent e u) h (n, tt, (g.1 a' k u h i).clean) in
      let q = g.1 a' (suc r.end) u h i in
      record { end = q.end; tree = power_of r.tree (Some q.tree); reads = a_factor r.reads (an_exponent q.reads); same = power_same r.tree v q.tree e r.same q.same; clean = r.clean } in
      let term = factor_as_term w (put_tree w) a factor in
      (record { whole = term_as_expr w (put_tree w) a term; term = λ e. term; factor = λ e. factor; prim = λ e. cc }, factor, term, g.3)

  prim_printed : {k k' : ℕ} {s s' : List Token} {v : Tree} → IsPrim k s k' s' v → (a : ℕ) → Clean (a, 0) s → PrimFacts v a × Clean (a, 0) s'
  prim_printed (a_number {k = k₀} {n = n}) a c =
      (simple (number k₀ n) a refl refl refl (λ a' k u h i. record { end = suc k; tree = number k n; reads = a_number; same = refl; clean = (fits (a', 0) u i, c.1, i) }), c.2)
  prim_printed (a_joint {k = k₀} {s' = s'} {v = v} d) a c =
      let p = index_printed d (suc a) c.2.2 in
      let m = p.1.0 in (
        simple (joint k₀ v) a refl refl refl (λ a' k u h i.
            let n = fits (a', 0) u i in
            let r = bracketed v a a' (suc (suc k)) u m p.0 h i in
            record { end = suc r.end; tree = joint k r.tree; reads = a_joint r.reads; same = ap (joint 0) r.same; clean = (n, tt, (n, tt, r.clean)) }),
        closed a s' p.1.2,
      )
  prim_printed (a_meas {k = k₀} {s' = s'} {v = v} d) a c =
      let p = index_printed d (suc a) c.2.2 in
      let m = p.1.0 in (
        simple (meas k₀ v) a refl refl refl (λ a' k u h i.
            let n = fits (a', 0) u i in
            let r = bracketed v a a' (suc (suc k)) u m p.0 h i in
            record { end = suc r.end; tree = meas k r.tree; reads = a_meas r.reads; same = ap (meas 0) r.same; clean = (n, tt, (n, tt, r.clean)) }),
        closed a s' p.1.2,
      )
  prim_printed (a_meas_or_zero {k = k₀} {s' = s'} {v = v} d) a c =
      let p = index_printed d (suc a) c.2.2.2 in
      let m = p.1.0 in (
        simple (meas_or_zero k₀ v) a refl refl refl (λ a' k u h i.
            let n = fits (a', 0) u i in
            let r = bracketed v a a' (suc (suc (suc k))) u m p.0 h i in
            record { end = suc r.end; tree = meas_or_zero k r.tree; reads = a_meas_or_zero r.reads; same = ap (meas_or_zero 0) r.same; clean = (n, tt, (n, tt, (n, tt, r.clean))) }),
        closed a s' p.1.2,
      )
  prim_printed (a_sum {k = k₀} {n = name} {s' = s'} {from = from} {to = to} {v = v} d e t) a c =
      let p = index_printed d a c.2.2.2 in
      let q = index_printed e a p.1.2 in
      let w = expr_printed t (suc a) q.1.2 in
      let m = w.1.0 in (
        simple (sum k₀ name from to v) a refl refl refl (λ a' k u h i.
            let n = fits (a', 0) u i in
            let inner : Clean (suc a', 0) (Fixed Close ∷ u) = close a' u (room a a' h m) i in
            let z = range_printed name from to a c.2.1 p.0 q.0 a' k (put_tree v (Fixed Close ∷ u)) h n ((w.0.whole (suc a') k (Fixed Close ∷ u) (up a a' h) inner).clean) in
            let r = w.0.whole (suc a') (suc z.end) (Fixed Close ∷ u) (up a a' h) inner in
            record { end = suc r.end; tree = sum k name z.first z.last r.tree; reads = a_sum z.first_reads z.last_reads r.reads; same = loop_same name z.first z.last from to r.tree v z.first_same z.last_same r.same; clean = (n, tt, z.clean) }),
        closed a s' w.1.2,
      )
  prim_printed (a_call {k = k₀} {n = name} {s' = s'} {args = args} d) a c =
      let p = args_printed d (suc a) c.2.2 in
      let m = p.1.0 in (
        simple (call k₀ name (arguments args)) a refl refl refl (λ a' k u h i.
            let n = fits (a', 0) u i in
            let r = p.0 (suc a') (suc (suc k)) (Fixed Close ∷ u) (up a a' h) (close a' u (room a a' h m) i) in
            record { end = suc r.end; tree = call k name (arguments r.tree); reads = a_call r.reads; same = ap (call 0 name) r.same; clean = (n, c.1, (n, tt, r.clean)) }),
        closed a s' p.1.2,
      )
  prim_printed (a_var {k = k₀} {n = name}) a c =
      (simple (var k₀ name) a refl refl refl (λ a' k u h i. record { end = suc k; tree = var k name; reads = a_var; same = refl; clean = (fits (a', 0) u i, c.1, i) }), c.2)
  prim_printed (a_group {s' = s'} {v = v} d) a c =
      let p = expr_printed d (suc a) c.2 in
      (group v a p.1.0 p.0, closed a s' p.1.2)

  args_printed : {k k' : ℕ} {s s' : List Token} {v : List Argument} → IsArgs k s k' s' v → (a : ℕ) → Clean (a, 0) s → Reprints IsArgs (λ (xs : List Argument). bare_args (arguments xs)) (bare_args (arguments v)) (put_args (arguments v)) a × Clean (a, 0) s'
  args_printed (some_args {v = v} {more = more} d m) a c =
      let f = arg_printed d a c in
      let g = more_args_printed m a f.1 in (
        (λ a' k u h i.
            let r = f.0 a' k (put_more_args (arguments more) u) h ((g.0 a' k u h i).clean) in
            let q = g.0 a' r.end u h i in
            record { end = q.end; tree = r.tree ∷ q.tree; reads = some_args r.reads q.reads; same = args_same r.tree v q.tree more r.same q.same; clean = r.clean }),
        g.1,
      )

  more_args_printed : {k k' : ℕ} {s s' : List Token} {v : List Argument} → MoreArgs k s k' s' v → (a : ℕ) → Clean (a, 0) s → Reprints MoreArgs (λ (xs : List Argument). bare_args (arguments xs)) (bare_args (arguments v)) (put_more_args (arguments v)) a × Clean (a, 0) s'
  more_args_printed no_arg a c = ((λ a' k u h i. record { end = k; tree = []; reads = no_arg; same = refl; clean = i }), c)
  more_args_printed (comma_arg {v = v} {more = more} d m) a c =
      let f = arg_printed d a c.2 in
      let g = more_args_printed m a f.1 in (
        (λ a' k u h i.
            let r = f.0 a' (suc k) (put_more_args (arguments more) u) h ((g.0 a' k u h i).clean) in
            let q = g.0 a' r.end u h i in
            record { end = q.end; tree = r.tree ∷ q.tree; reads = comma_arg r.reads q.reads; same = args_same r.tree v q.tree more r.same q.same; clean = (fits (a', 0) u i, tt, r.clean) }),
        g.1,
      )

  arg_printed : {k k' : ℕ} {s s' : List Token} {v : Argument} → IsArg k s k' s' v → (a : ℕ) → Clean (a, 0) s → Reprints IsArg bare_arg (bare_arg v) (put_arg v) a × Clean (a, 0) s'
  arg_printed (an_arg {v = v} d) a c =
      let p = expr_printed d a c in
      ((λ a' k u h i. let r = p.0.whole a' k u h i in record { end = r.end; tree = one r.tree; reads = an_arg r.reads; same = ap one r.same; clean = r.clean }), p.1)
  arg_printed (an_each_arg {n = name} {s' = s'} {from = from} {to = to} {args = args} d e t) a c =
      let p = index_printed d a c.2.2.2 in
      let q = index_printed e a p.1.2 in
      let w = args_printed t (suc a) q.1.2 in
      let m = w.1.0 in (
        (λ a' k u h i.
            let n = fits (a', 0) u i in
            let inner : Clean (suc a', 0) (Fixed Close ∷ u) = close a' u (room a a' h m) i in
            let z = range_printed name from to a c.2.1 p.0 q.0 a' k (put_args (arguments args) (Fixed Close ∷ u)) h n ((w.0 (suc a') k (Fixed Close ∷ u) (up a a' h) inner).clean) in
            let r = w.0 (suc a') (suc z.end) (Fixed Close ∷ u) (up a a' h) inner in
            record { end = suc r.end; tree = each_arg k name z.first z.last (arguments r.tree); reads = an_each_arg z.first_reads z.last_reads r.reads; same = each_same name z.first z.last from to r.tree args z.first_same z.last_same r.same; clean = (n, tt, z.clean) }),
        closed a s' w.1.2,
      )
