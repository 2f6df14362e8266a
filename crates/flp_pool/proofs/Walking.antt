-- A walk, one turn at a time.
use Rattle.std.proofs.Common.{◌≡◌, ℕ, ◌+◌, ◌-◌, ◌≤◌, ◌≢◌, ◌⊎◌, inl, inr, Option, List, [], ◌∷◌, ◌++◌, sym, refl, ap, ◌∙◌, subst, arith, append_assoc, append-nil, length-append}
use mathlib.Core.Logic.{dite}
use native.Mathlib.Decide.{ℕ_discrete}
use Rattle.flp_tally.specs.declared.view.View.{View}
use Rattle.flp_tally.specs.Views.{times, with_seen, with_missed}
use Rattle.flp_pool.specs.Work.{Did}
use Rattle.flp_pool.specs.Range.{once, with_run}
use Rattle.flp_pool.specs.Walk.{Walks}
use Rattle.flp_pool.proofs.Once.{once_in, once_le, once_empty, once_other}
use Rattle.flp_pool.proofs.Lists.{times-append, times_one, times_none, with_run-with_run, with_run-none, with_run-missed}

module _ {S : Type 0} (room : S → ℕ) (done : S → List ℕ) (right : S → Type 0) (row_of : ℕ → Option (List ℕ)) where
  pub did_none : (s : S) → right s → Did room done right s s []
  did_none s ok = record { grown = sym (append-nil (done s)); spare = omega arith; fits = ok }

  did_then : (s t u : S) (xs ys : List ℕ) → Did room done right s t xs → Did room done right t u ys → Did room done right s u (xs ++ ys)
  did_then s t u xs ys p q = record {
    grown = q.grown ∙ (ap (λ (l : List ℕ). l ++ ys) p.grown ∙ append_assoc (done s) xs ys);
    spare = let a = p.spare in let b = q.spare in let l = length-append xs ys in omega arith;
    fits = q.fits;
  }

  pub walks_none : (a : ℕ) (v : View) (s : S) → right s → Walks room done right row_of a a v v s s
  walks_none a v s ok = record {
    claimed = [];
    seen = [];
    missed = [];
    did = did_none s ok;
    few = omega arith;
    met = λ x. sym (once_empty a x);
    alone = λ full x none. refl;
    view = sym (with_run-none row_of v);
  }

  -- a walk over one range and then one over another, which together are a range
  pub walks_then : (a b c d e f : ℕ) → ((x : ℕ) → once a b x + once c d x ≡ once e f x) → b - a + (d - c) ≤ f - e
      → (v w z : View) (s t u : S) → Walks room done right row_of a b v w s t → Walks room done right row_of c d w z t u → Walks room done right row_of e f v z s u
  walks_then a b c d e f parts lens v w z s t u p q = record {
    claimed = p.claimed ++ q.claimed;
    seen = p.seen ++ q.seen;
    missed = p.missed ++ q.missed;
    did = did_then s t u p.claimed q.claimed p.did q.did;
    few = let l = length-append p.claimed q.claimed in let i = p.few in let j = q.few in omega arith;
    met = λ x. let i = times-append x p.claimed q.claimed in let j = times-append x p.seen q.seen in let m = p.met x in let n = q.met x in let o = parts x in omega arith;
    alone = λ full x none. let seen = times-append x p.seen q.seen in let one = p.alone full x none in let m = p.met x in let n = q.met x in let o = parts x in let le = once_le e f x in
        let weight = ap (λ (y : View). y.weight) p.view in let whole = ap (λ (y : View). y.full) p.view in
        let grown : times x w.claimed ≡ times x v.claimed + times x p.claimed = ap (λ (y : View). times x y.claimed) p.view ∙ times-append x v.claimed p.claimed in
        dite (ℕ_discrete (times x p.claimed) 0) (λ free. let two = q.alone (omega arith) x (omega arith) in omega arith) (λ mine. omega arith);
    view = q.view ∙ (ap (λ (y : View). with_run row_of y q.claimed q.seen q.missed) p.view ∙ with_run-with_run row_of v p.claimed p.seen p.missed q.claimed q.seen q.missed);
  }

  once_here : (n x : ℕ) → times x (n ∷ []) ≡ once n (n + 1) x
  once_here n x = dite (ℕ_discrete x n) (λ e. subst (λ (z : ℕ). times z (n ∷ []) ≡ once n (n + 1) z) (sym e) (times_one n ∙ sym (once_in n (n + 1) n (omega arith) (omega arith)))) (λ ne. times_none n x ne ∙ sym (once_other n x ne))

  -- a turn at a number that was free
  pub walks_mine : (n : ℕ) (v w : View) (s t : S) → Did room done right s t (n ∷ []) → w ≡ with_run row_of v (n ∷ []) [] [] → Walks room done right row_of n (n + 1) v w s t
  walks_mine n v w s t did view = record {
    claimed = n ∷ [];
    seen = [];
    missed = [];
    did = did;
    few = omega arith;
    met = λ x. let o = once_here n x in omega arith;
    alone = λ full x none. refl;
    view = view;
  }

  -- a turn at a number that was taken
  pub walks_taken : (n : ℕ) (v w : View) (s : S) → right s → w ≡ with_seen v n → (v.weight ≡ v.full → times n v.claimed ≢ 0) → Walks room done right row_of n (n + 1) v w s s
  walks_taken n v w s ok view not_free = record {
    claimed = [];
    seen = n ∷ [];
    missed = [];
    did = did_none s ok;
    few = omega arith;
    met = λ x. let o = once_here n x in omega arith;
    alone = λ full x none. dite (ℕ_discrete x n) (λ e. absurd (not_free full (subst (λ (z : ℕ). times z v.claimed ≡ 0) e none))) (λ ne. times_none n x ne);
    view = view ∙ (λ i. record v { claimed = sym (append-nil v.claimed) i; seen = v.seen ++ n ∷ []; missed = sym (append-nil v.missed) i; added = sym (append-nil v.added) i });
  }

  -- a look that found a number free, and what came after it
  walks_missed : (a b n : ℕ) (v u w : View) (s t : S) → u ≡ with_missed v n → Walks room done right row_of a b u w s t → Walks room done right row_of a b v w s t
  walks_missed a b n v u w s t look walk = let p = subst (λ (z : View). Walks room done right row_of a b z w s t) look walk in record {
    claimed = p.claimed;
    seen = p.seen;
    missed = n ∷ p.missed;
    did = p.did;
    few = p.few;
    met = p.met;
    alone = p.alone;
    view = p.view ∙ with_run-missed row_of v n p.claimed p.seen p.missed;
  }

  -- so where there was a look or none
  pub walks_looked : (a b n : ℕ) (v u w : View) (s t : S) → (u ≡ v) ⊎ (u ≡ with_missed v n) → Walks room done right row_of a b u w s t → Walks room done right row_of a b v w s t
  walks_looked a b n v u w s t (inl same) walk = subst (λ (z : View). Walks room done right row_of a b z w s t) same walk
  walks_looked a b n v u w s t (inr look) walk = walks_missed a b n v u w s t look walk
