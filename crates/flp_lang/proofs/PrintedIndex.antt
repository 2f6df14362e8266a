-- Indices that were read are read again where they are printed, but for their token numbers, under no more levels.
use Rattle.std.proofs.Common.{ℕ, suc, ◌+◌, ◌≤◌, ◌≡◌, Bool, true, false, ◌||◌, List, [], ◌∷◌, refl}
use Rattle.flp_lang.specs.Grammar.{IsIndex, an_index, MoreIndexTerms, no_index_term, plus_index_term, minus_index_term, IsIndexTerm, an_index_term, MoreIndexFactors, no_index_factor, star_index_factor, IsIndexPrim, an_index_number, an_index_var, an_index_group}
use Rattle.flp_syntax.specs.Tree.{Index, index_number, index_var, index_items, indices, index_sum, index_product}
use Rattle.flp_lang.specs.Print.{wrap, put_index, put_more_index_items, put_more_index_factors, put_exponent, put_range, is_index_add, is_index_mul}
use Rattle.flp_lang.specs.Bare.{bare_index, bare_index_items, bare_indices}
use Rattle.flp_lang.proofs.WellFormed.{IsReal}
use Rattle.flp_lang.proofs.Reprint.{Clean, Reprints, fits, closed, close, room, up, over}
use Rattle.flp_syntax.specs.declared.token.Token.{Token}
use Rattle.flp_syntax.specs.declared.token.Token.TheVariants.{Name, Fixed}
use Rattle.flp_syntax.specs.declared.token.Mark.TheVariants.{DotDot, Open, Close}

-- sums and products of parts that are equal but for their token numbers
bare_index_sum : (v w : Index) (more more' : List (Bool × Index)) → bare_index v ≡ bare_index w → bare_index_items (index_items more) ≡ bare_index_items (index_items more') → bare_index (index_sum v more) ≡ bare_index (index_sum w more')
bare_index_sum v w [] [] e f = e
bare_index_sum v w [] (x ∷ xs) e f = cc
bare_index_sum v w (x ∷ xs) [] e f = cc
bare_index_sum v w (x ∷ xs) (y ∷ ys) e f = cc

bare_index_product : (v w : Index) (more more' : List Index) → bare_index v ≡ bare_index w → bare_indices (indices more) ≡ bare_indices (indices more') → bare_index (index_product v more) ≡ bare_index (index_product w more')
bare_index_product v w [] [] e f = e
bare_index_product v w [] (x ∷ xs) e f = cc
bare_index_product v w (x ∷ xs) [] e f = cc
bare_index_product v w (x ∷ xs) (y ∷ ys) e f = cc

more_items_same : (minus : Bool) (v w : Index) (more more' : List (Bool × Index)) → bare_index v ≡ bare_index w → bare_index_items (index_items more) ≡ bare_index_items (index_items more') → bare_index_items (index_items ((minus, v) ∷ more)) ≡ bare_index_items (index_items ((minus, w) ∷ more'))
more_items_same minus v w more more' e f = cc

more_factors_same : (v w : Index) (more more' : List Index) → bare_index v ≡ bare_index w → bare_indices (indices more) ≡ bare_indices (indices more') → bare_indices (indices (v ∷ more)) ≡ bare_indices (indices (w ∷ more'))
more_factors_same v w more more' e f = cc

-- as an index, as a term where it is no sum, and as a primary index where it is no product either
pub record PlainIndex (v : Index) (a : ℕ) : Type 0 where
  pub whole : Reprints IsIndex bare_index (bare_index v) (put_index v) a
  pub term : is_index_add v ≡ false → Reprints IsIndexTerm bare_index (bare_index v) (put_index v) a
  pub prim : (is_index_add v || is_index_mul v) ≡ false → Reprints IsIndexPrim bare_index (bare_index v) (put_index v) a

-- with the parentheses that it needs: as an item, and as a factor or exponent
abbrev pub AsIndexItem : Index → ℕ → Type 0
AsIndexItem v a = Reprints IsIndexTerm bare_index (bare_index v) (wrap (is_index_add v) (put_index v)) a

abbrev pub AsIndexFactor : Index → ℕ → Type 0
AsIndexFactor v a = Reprints IsIndexPrim bare_index (bare_index v) (put_exponent v) a

-- a primary index is a term, and a term an index
prim_as_term : (v : Index) (put : List Token → List Token) (a : ℕ) → Reprints IsIndexPrim bare_index (bare_index v) put a → Reprints IsIndexTerm bare_index (bare_index v) put a
prim_as_term v put a f a' k u h c =
    let r = f a' k u h c in
    record { end = r.end; tree = r.tree; reads = an_index_term r.reads no_index_factor; same = r.same; clean = r.clean }

term_as_index : (v : Index) (put : List Token → List Token) (a : ℕ) → Reprints IsIndexTerm bare_index (bare_index v) put a → Reprints IsIndex bare_index (bare_index v) put a
term_as_index v put a f a' k u h c =
    let r = f a' k u h c in
    record { end = r.end; tree = r.tree; reads = an_index r.reads no_index_term; same = r.same; clean = r.clean }

-- an index in parentheses is a primary one, a level further out
group_as_prim : (v : Index) (put : List Token → List Token) (a : ℕ) → suc a + 0 ≤ 64 → Reprints IsIndex bare_index (bare_index v) put (suc a) → Reprints IsIndexPrim bare_index (bare_index v) (wrap true put) a
group_as_prim v put a n f a' k u h c =
    let r = f (suc a') (suc k) (Fixed Close ∷ u) (up a a' h) (close a' u (room a a' h n) c) in
    record { end = suc r.end; tree = r.tree; reads = an_index_group r.reads; same = r.same; clean = (fits (a', 0) u c, tt, r.clean) }

outer_index : (v : Index) (a : ℕ) → PlainIndex v (suc a) → PlainIndex v a
outer_index v a p = record {
  whole = λ a' k u h c. p.whole a' k u (over a a' h) c;
  term = λ e a' k u h c. p.term e a' k u (over a a' h) c;
  prim = λ e a' k u h c. p.prim e a' k u (over a a' h) c;
}

as_item : (v : Index) (a : ℕ) (b : Bool) → is_index_add v ≡ b → suc a + 0 ≤ 64 → PlainIndex v (suc a) → Reprints IsIndexTerm bare_index (bare_index v) (wrap b (put_index v)) a
as_item v a true e n p = prim_as_term v (wrap true (put_index v)) a (group_as_prim v (put_index v) a n p.whole)
as_item v a false e n p = λ a' k u h c. p.term e a' k u (over a a' h) c

as_factor : (v : Index) (a : ℕ) (b : Bool) → (is_index_add v || is_index_mul v) ≡ b → suc a + 0 ≤ 64 → PlainIndex v (suc a) → Reprints IsIndexPrim bare_index (bare_index v) (wrap b (put_index v)) a
as_factor v a true e n p = group_as_prim v (put_index v) a n p.whole
as_factor v a false e n p = λ a' k u h c. p.prim e a' k u (over a a' h) c

-- what is printed without parentheses everywhere
simple : (v : Index) (a : ℕ) → Reprints IsIndexPrim bare_index (bare_index v) (put_index v) a → PlainIndex v a
simple v a f = record {
  whole = term_as_index v (put_index v) a (prim_as_term v (put_index v) a f);
  term = λ e. prim_as_term v (put_index v) a f;
  prim = λ e. f;
}

mutual
  pub index_printed : {k k' : ℕ} {s s' : List Token} {v : Index} → IsIndex k s k' s' v → (a : ℕ) → Clean (a, 0) s → PlainIndex v a × Clean (a, 0) s'
  index_printed (an_index {v = v} {more = []} d m) a c = let f = index_term_printed d a c in let g = index_terms_printed m a f.2 in (f.0, g.1)
  index_printed (an_index {v = v} {more = x ∷ more} d m) a c =
      let f = index_term_printed d a c in
      let g = index_terms_printed m a f.2 in (
        record {
          whole = λ a' k u h i.
              let r = f.1 a' k (put_more_index_items (index_items (x ∷ more)) u) h ((g.0 a' k u h i).clean) in
              let q = g.0 a' r.end u h i in
              record { end = q.end; tree = index_sum r.tree q.tree; reads = an_index r.reads q.reads; same = bare_index_sum r.tree v q.tree (x ∷ more) r.same q.same; clean = r.clean };
          term = λ e. cc;
          prim = λ e. cc;
        },
        g.1,
      )

  index_terms_printed : {k k' : ℕ} {s s' : List Token} {v : List (Bool × Index)} → MoreIndexTerms k s k' s' v → (a : ℕ) → Clean (a, 0) s → Reprints MoreIndexTerms (λ (xs : List (Bool × Index)). bare_index_items (index_items xs)) (bare_index_items (index_items v)) (put_more_index_items (index_items v)) a × Clean (a, 0) s'
  index_terms_printed no_index_term a c = ((λ a' k u h i. record { end = k; tree = []; reads = no_index_term; same = refl; clean = i }), c)
  index_terms_printed (plus_index_term {v = v} {more = more} d m) a c =
      let f = index_term_printed d a c.2 in
      let g = index_terms_printed m a f.2 in (
        (λ a' k u h i.
            let r = f.1 a' (suc k) (put_more_index_items (index_items more) u) h ((g.0 a' k u h i).clean) in
            let q = g.0 a' r.end u h i in
            record { end = q.end; tree = (false, r.tree) ∷ q.tree; reads = plus_index_term r.reads q.reads; same = more_items_same false r.tree v q.tree more r.same q.same; clean = (fits (a', 0) u i, tt, r.clean) }),
        g.1,
      )
  index_terms_printed (minus_index_term {v = v} {more = more} d m) a c =
      let f = index_term_printed d a c.2 in
      let g = index_terms_printed m a f.2 in (
        (λ a' k u h i.
            let r = f.1 a' (suc k) (put_more_index_items (index_items more) u) h ((g.0 a' k u h i).clean) in
            let q = g.0 a' r.end u h i in
            record { end = q.end; tree = (true, r.tree) ∷ q.tree; reads = minus_index_term r.reads q.reads; same = more_items_same true r.tree v q.tree more r.same q.same; clean = (fits (a', 0) u i, tt, r.clean) }),
        g.1,
      )

  index_term_printed : {k k' : ℕ} {s s' : List Token} {v : Index} → IsIndexTerm k s k' s' v → (a : ℕ) → Clean (a, 0) s → PlainIndex v a × AsIndexItem v a × Clean (a, 0) s'
  index_term_printed (an_index_term {v = v} {more = []} d m) a c = let f = index_prim_printed d a c in let g = index_factors_printed m a f.3 in (f.0, f.2, g.1)
  index_term_printed (an_index_term {v = v} {more = x ∷ more} d m) a c =
      let f = index_prim_printed d a c in
      let g = index_factors_printed m a f.3 in
      let term : Reprints IsIndexTerm bare_index (bare_index (index_product v (x ∷ more))) (put_index (index_product v (x ∷ more))) a = λ a' k u h i.
      let r = f.1 a' k (put_more_index_factors (indices (x ∷ more)) u) h ((g.0 a' k u h i).clean) in
      let q = g.0 a' r.end u h i in
      record { end = q.end; tree = index_product r.tree q.tree; reads = an_index_term r.reads q.reads; same = bare_index_product r.tree v q.tree (x ∷ more) r.same q.same; clean = r.clean } in
      (record { whole = term_as_index (index_product v (x ∷ more)) (put_index (index_product v (x ∷ more))) a term; term = λ e. term; prim = λ e. cc }, term, g.1)

  index_factors_printed : {k k' : ℕ} {s s' : List Token} {v : List Index} → MoreIndexFactors k s k' s' v → (a : ℕ) → Clean (a, 0) s → Reprints MoreIndexFactors (λ (xs : List Index). bare_indices (indices xs)) (bare_indices (indices v)) (put_more_index_factors (indices v)) a × Clean (a, 0) s'
  index_factors_printed no_index_factor a c = ((λ a' k u h i. record { end = k; tree = []; reads = no_index_factor; same = refl; clean = i }), c)
  index_factors_printed (star_index_factor {v = v} {more = more} d m) a c =
      let f = index_prim_printed d a c.2 in
      let g = index_factors_printed m a f.3 in (
        (λ a' k u h i.
            let r = f.1 a' (suc k) (put_more_index_factors (indices more) u) h ((g.0 a' k u h i).clean) in
            let q = g.0 a' r.end u h i in
            record { end = q.end; tree = r.tree ∷ q.tree; reads = star_index_factor r.reads q.reads; same = more_factors_same r.tree v q.tree more r.same q.same; clean = (fits (a', 0) u i, tt, r.clean) }),
        g.1,
      )

  pub index_prim_printed : {k k' : ℕ} {s s' : List Token} {v : Index} → IsIndexPrim k s k' s' v → (a : ℕ) → Clean (a, 0) s → PlainIndex v a × AsIndexFactor v a × AsIndexItem v a × Clean (a, 0) s'
  index_prim_printed (an_index_number {k = k₀} {n = n}) a c =
      let f : AsIndexFactor (index_number k₀ n) a = λ a' k u h i. record { end = suc k; tree = index_number k n; reads = an_index_number; same = refl; clean = (fits (a', 0) u i, c.1, i) } in
      (simple (index_number k₀ n) a f, f, prim_as_term (index_number k₀ n) (put_index (index_number k₀ n)) a f, c.2)
  index_prim_printed (an_index_var {k = k₀} {n = n}) a c =
      let f : AsIndexFactor (index_var k₀ n) a = λ a' k u h i. record { end = suc k; tree = index_var k n; reads = an_index_var; same = refl; clean = (fits (a', 0) u i, c.1, i) } in
      (simple (index_var k₀ n) a f, f, prim_as_term (index_var k₀ n) (put_index (index_var k₀ n)) a f, c.2)
  index_prim_printed (an_index_group {s' = s'} {v = v} d) a c =
      let p = index_printed d (suc a) c.2 in
      let n = p.1.0 in
      (outer_index v a p.0, as_factor v a (is_index_add v || is_index_mul v) refl n p.0, as_item v a (is_index_add v) refl n p.0, closed a s' p.1.2)

-- a loop's name and bounds, up to the parenthesis that it opens
pub record RangeReprint (name : List ℕ) (from to : Index) (a k : ℕ) (u : List Token) : Type 0 where
  pub middle : ℕ
  pub end : ℕ
  pub first : Index
  pub last : Index
  pub first_reads : IsIndex (suc (suc (suc k))) (put_index from (Fixed DotDot ∷ put_index to (Fixed Open ∷ u))) middle (Fixed DotDot ∷ put_index to (Fixed Open ∷ u)) first
  pub last_reads : IsIndex (suc middle) (put_index to (Fixed Open ∷ u)) end (Fixed Open ∷ u) last
  pub first_same : bare_index first ≡ bare_index from
  pub last_same : bare_index last ≡ bare_index to
  pub clean : Clean (a, 0) (put_range name from to u)

pub range_printed : (name : List ℕ) (from to : Index) (a : ℕ) → IsReal (Name name) → PlainIndex from a → PlainIndex to a → (a' k : ℕ) (u : List Token) → a' ≤ a → a' + 0 ≤ 64 → Clean (suc a', 0) u → RangeReprint name from to a' k u
range_printed name from to a real p q a' k u h n c =
    let after : Clean (a', 0) (Fixed Open ∷ u) = (n, tt, c) in
    let rest : Clean (a', 0) (Fixed DotDot ∷ put_index to (Fixed Open ∷ u)) = (n, tt, (q.whole a' k (Fixed Open ∷ u) h after).clean) in
    let r = p.whole a' (suc (suc (suc k))) (Fixed DotDot ∷ put_index to (Fixed Open ∷ u)) h rest in
    let t = q.whole a' (suc r.end) (Fixed Open ∷ u) h after in
    record { middle = r.end; end = t.end; first = r.tree; last = t.tree; first_reads = r.reads; last_reads = t.reads; first_same = r.same; last_same = t.same; clean = (n, real, (n, tt, r.clean)) }
