-- Each kind of step keeps the rule, from any state that meets it.
use Rattle.std.proofs.Common.{◌≡◌, ℕ, ◌+◌, ◌*◌, ◌<◌, ◌≤◌, ◌≢◌, List, [], ◌∷◌, ◌++◌, length, get_or, set, sym, refl, ap, ◌∙◌, subst, ⊎_elim, arith, length-set}
use Rattle.std.proofs.lemmas.List.Sums.{sum_by_push}
use mathlib.Core.Logic.{dite}
use mathlib.Core.Option.{some}
use native.Mathlib.Decide.{ℕ_discrete}
use lib.ListN.{get_elem?}
use Rattle.atomic_table.proofs.Lists.{at_set, at_snoc, set_else}
use Rattle.flp_tally.specs.declared.view.View.{View}
use Rattle.flp_tally.specs.Views.{times, amount_in, with_claimed, with_seen, with_missed, with_weight, fresh, joined_view, spent_view}
use Rattle.flp_tally.specs.Rule.{blocks, claim_word, claim_bit, cell_word, Fits, Tallies}
use Rattle.flp_tally.proofs.Sums.{sum_set}
use Rattle.flp_tally.proofs.Bits.{marked, bit-lt, marked_same, marked_other, marked_word}
use Rattle.flp_tally.proofs.Lists.{times-append, times_same, times_other, times_le, entries-append, amount-append, fit-append}

-- What a step on one word and one view changes, in balance: the view v becomes w, and the words ws become ws'.
pub record Change (n r m : ℕ) (ws ws' : List ℕ) (v w : View) : Type 0 where
  pub heads : (get_or ws' 0 0 ≡ get_or ws 0 0) × (get_or ws' 1 0 ≡ get_or ws 1 0) × (get_or ws' 2 0 ≡ get_or ws 2 0)
  pub long : length ws' ≡ length ws
  pub weight : w.weight ≡ v.weight
  pub fits : Fits n r m ws' w
  pub bits : (x : ℕ) → x < r → claim_bit ws x ≤ claim_bit ws' x
  pub claims : (x : ℕ) → x < r → times x w.claimed + claim_bit ws x ≡ times x v.claimed + claim_bit ws' x
  pub beyond : (x : ℕ) → r ≤ x → times x w.claimed ≡ times x v.claimed
  pub clear : (x : ℕ) → r ≤ x → x < 64 * blocks r → claim_bit ws' x ≡ claim_bit ws x
  pub cells : (c : ℕ) → c < 2 * m → get_or ws' (cell_word r c) 0 + amount_in c v.added ≡ get_or ws (cell_word r c) 0 + amount_in c w.added

-- a view still fits where no bit below r was lost
pub refits : (n r m : ℕ) (ws ws' : List ℕ) (u : View) → Fits n r m ws u → ((x : ℕ) → x < r → claim_bit ws x ≤ claim_bit ws' x) → Fits n r m ws' u
refits n r m ws ws' u f more = record {
  numbers = f.numbers;
  idle = f.idle;
  seen = λ x h. let s = f.seen x h in let up = more x s.0 in let is = s.1 in let lt = bit-lt ws' x in (s.0, omega arith);
  owns = f.owns;
  entries = f.entries;
}

pub moved : (n r m : ℕ) (ws ws' : List ℕ) (vs : List View) (id : ℕ) (v w : View) → Tallies n r m ws vs → get_elem? vs id ≡ some v → Change n r m ws ws' v w → Tallies n r m ws' (set vs id w)
moved n r m ws ws' vs id v w k at d = record {
  heads = (d.heads.0 ∙ k.heads.0, d.heads.1 ∙ k.heads.1, d.heads.2 ∙ k.heads.2);
  bounds = k.bounds;
  long = d.long ∙ k.long;
  weights = let s = sum_set (λ (u : View). u.weight) vs id v w at in let is = k.weights in let same = d.weight in omega arith;
  each = λ j u e. ⊎_elim (λ t. subst (λ (z : View). Fits n r m ws' z) t.1 d.fits) (λ t. refits n r m ws ws' u (k.each j u t.1) d.bits) (at_set vs id j w u e);
  claims = λ x h. let s = sum_set (λ (u : View). times x u.claimed) vs id v w at in let is = k.claims x h in let b = d.claims x h in omega arith;
  beyond = λ x h. let s = sum_set (λ (u : View). times x u.claimed) vs id v w at in let is = k.beyond x h in let b = d.beyond x h in omega arith;
  clear = λ x h g. d.clear x h g ∙ k.clear x h g;
  cells = λ c h. let s = sum_set (λ (u : View). amount_in c u.added) vs id v w at in let is = k.cells c h in let b = d.cells c h in omega arith;
}

-- the word with the bit of a report is one of the words
pub claim-word-lt : (n r m : ℕ) (ws : List ℕ) (vs : List View) (x : ℕ) → Tallies n r m ws vs → x < r → claim_word x < length ws
claim-word-lt n r m ws vs x k h = let long = k.long in omega arith

-- x was seen, and nothing else changed
pub with_seen_fits : (n r m : ℕ) (ws : List ℕ) (v : View) (x : ℕ) → Fits n r m ws v → 1 ≤ v.weight → x < r → claim_bit ws x ≡ 1 → Fits n r m ws (with_seen v x)
with_seen_fits n r m ws v x f some_weight below is = record {
  numbers = f.numbers;
  idle = λ none. absurd (omega arith);
  seen = λ y h. dite (ℕ_discrete y x) (λ e. (subst (λ (z : ℕ). z < r) (sym e) below, subst (λ (z : ℕ). claim_bit ws z ≡ 1) (sym e) is)) (λ ne. let t = times_other x y v.seen ne in f.seen y (omega arith));
  owns = f.owns;
  entries = f.entries;
}

-- the same words, and a view with the same claimed and the same amounts
pub stays : (n r m : ℕ) (ws : List ℕ) (v w : View) → w.weight ≡ v.weight → w.claimed ≡ v.claimed → ((c : ℕ) → amount_in c w.added ≡ amount_in c v.added) → Fits n r m ws w → Change n r m ws ws v w
stays n r m ws v w weight claimed amounts fits = record {
  heads = (refl, refl, refl);
  long = refl;
  weight = weight;
  fits = fits;
  bits = λ x h. omega arith;
  claims = λ x h. ap (λ (l : List ℕ). times x l + claim_bit ws x) claimed;
  beyond = λ x h. ap (times x) claimed;
  clear = λ x h g. refl;
  cells = λ c h. let t = amounts c in omega arith;
}

module _ (n r m : ℕ) (ws : List ℕ) (vs : List View) (id : ℕ) (v : View) (k : Tallies n r m ws vs) (at : get_elem? vs id ≡ some v) where
  -- a load of word 0 that changes nothing
  pub load_keeps : Tallies n r m ws (set vs id v)
  load_keeps = moved n r m ws ws vs id v v k at (stays n r m ws v v refl refl (λ c. refl) (k.each id v at))

  module _ (x : ℕ) (some_weight : 1 ≤ v.weight) (below : x < r) where
    seen_keeps : claim_bit ws x ≡ 1 → Tallies n r m ws (set vs id (with_seen v x))
    seen_keeps is = moved n r m ws ws vs id v (with_seen v x) k at (stays n r m ws v (with_seen v x) refl refl (λ c. refl) (with_seen_fits n r m ws v x (k.each id v at) some_weight below is))

    missed_keeps : Tallies n r m ws (set vs id (with_missed v x))
    missed_keeps = let f = k.each id v at in moved n r m ws ws vs id v (with_missed v x) k at (stays n r m ws v (with_missed v x) refl refl (λ c. refl)
        record { numbers = f.numbers; idle = λ none. absurd (omega arith); seen = f.seen; owns = f.owns; entries = f.entries })

    -- the load of a claim word
    pub peek_keeps : (w : View) → (claim_bit ws x ≡ 0 → w ≡ with_missed v x) → (claim_bit ws x ≡ 1 → w ≡ with_seen v x) → Tallies n r m ws (set vs id w)
    peek_keeps w miss hit = dite (ℕ_discrete (claim_bit ws x) 1)
        (λ is. subst (λ (z : View). Tallies n r m ws (set vs id z)) (sym (hit is)) (seen_keeps is))
        (λ not. let lt = bit-lt ws x in let is : claim_bit ws x ≡ 0 = omega arith in subst (λ (z : View). Tallies n r m ws (set vs id z)) (sym (miss is)) missed_keeps)

    marks : (y : ℕ) → claim_bit ws y ≤ claim_bit (marked ws x) y
    marks y = let long = claim-word-lt n r m ws vs x k below in let lt = bit-lt ws y in
        dite (ℕ_discrete y x) (λ e. subst (λ (z : ℕ). claim_bit ws z ≤ claim_bit (marked ws x) z) (sym e) (let is = marked_same ws x long in let lt' = bit-lt ws x in omega arith)) (λ ne. let is = marked_other ws x y long ne in omega arith)

    marked_change : (w : View) → w.weight ≡ v.weight → w.added ≡ v.added → Fits n r m (marked ws x) w → times x w.claimed + claim_bit ws x ≡ times x v.claimed + 1 → ((y : ℕ) → y ≢ x → times y w.claimed ≡ times y v.claimed) → Change n r m ws (marked ws x) v w
    marked_change w weight added fits here else = let long = claim-word-lt n r m ws vs x k below in record {
      heads = (marked_word ws x 0 (λ e. omega arith), marked_word ws x 1 (λ e. omega arith), marked_word ws x 2 (λ e. omega arith));
      long = length-set ws (claim_word x) _;
      weight = weight;
      fits = fits;
      bits = λ y h. marks y;
      claims = λ y h. dite (ℕ_discrete y x)
          (λ e. subst (λ (z : ℕ). times z w.claimed + claim_bit ws z ≡ times z v.claimed + claim_bit (marked ws x) z) (sym e) (let is = marked_same ws x long in omega arith))
          (λ ne. let t = else y ne in let is = marked_other ws x y long ne in omega arith);
      beyond = λ y h. else y (λ e. omega arith);
      clear = λ y h g. marked_other ws x y long (λ e. omega arith);
      cells = λ c h. let same = marked_word ws x (cell_word r c) (λ e. omega arith) in let t = ap (amount_in c) added in omega arith;
    }

    -- the fetch_or of a claim bit
    pub claim_keeps : (w : View) → (claim_bit ws x ≡ 0 → w ≡ with_claimed v x) → (claim_bit ws x ≡ 1 → w ≡ with_seen v x) → Tallies n r m (marked ws x) (set vs id w)
    claim_keeps w mine taken = let f = k.each id v at in let f' = refits n r m ws (marked ws x) v f (λ y h. marks y) in let long = claim-word-lt n r m ws vs x k below in dite (ℕ_discrete (claim_bit ws x) 1)
        (λ is. subst (λ (z : View). Tallies n r m (marked ws x) (set vs id z)) (sym (taken is)) (moved n r m ws (marked ws x) vs id v (with_seen v x) k at
        (marked_change (with_seen v x) refl refl (with_seen_fits n r m (marked ws x) v x f' some_weight below (marked_same ws x long)) (omega arith) (λ y ne. refl))))
        (λ not. let lt = bit-lt ws x in let is : claim_bit ws x ≡ 0 = omega arith in subst (λ (z : View). Tallies n r m (marked ws x) (set vs id z)) (sym (mine is)) (moved n r m ws (marked ws x) vs id v (with_claimed v x) k at
        (marked_change (with_claimed v x) refl refl
        record { numbers = f'.numbers; idle = λ none. absurd (omega arith); seen = f'.seen; owns = λ y c. let o = f'.owns y c in let t = times_le x y v.claimed in omega arith; entries = f'.entries }
        (let t = times_same x v.claimed in omega arith) (λ y ne. times_other x y v.claimed ne))))

  -- the weight divided, and a new view with no list
  pub split_keeps : (a b : ℕ) → 1 ≤ a → 1 ≤ b → a + b ≡ v.weight → Tallies n r m ws (set vs id (with_weight v a) ++ fresh v b ∷ [])
  split_keeps a b pa pb whole = let f = k.each id v at in let left : View = with_weight v a in let right : View = fresh v b in let some_weight : 1 ≤ v.weight = omega arith in record {
    heads = k.heads;
    bounds = k.bounds;
    long = k.long;
    weights = let s = sum_set (λ (u : View). u.weight) vs id v left at in let p = sum_by_push (λ (u : View). u.weight) (set vs id left) right in let is = k.weights in omega arith;
    each = λ j u e. ⊎_elim
        (λ t. ⊎_elim (λ q. subst (λ (z : View). Fits n r m ws z) q.1 record { numbers = λ h. f.numbers some_weight; idle = λ none. absurd (omega arith); seen = f.seen; owns = f.owns; entries = f.entries }) (λ q. k.each j u q.1) (at_set vs id j left u t))
        (λ t. subst (λ (z : View). Fits n r m ws z) t record { numbers = λ h. f.numbers some_weight; idle = λ none. (refl, refl, refl, refl); seen = λ x h. absurd (omega arith); owns = λ x c. omega arith; entries = λ j d h. absurd (omega arith) })
        (at_snoc (set vs id left) right u j e);
    claims = λ x h. let s = sum_set (λ (u : View). times x u.claimed) vs id v left at in let p = sum_by_push (λ (u : View). times x u.claimed) (set vs id left) right in let is = k.claims x h in omega arith;
    beyond = λ x h. let s = sum_set (λ (u : View). times x u.claimed) vs id v left at in let p = sum_by_push (λ (u : View). times x u.claimed) (set vs id left) right in let is = k.beyond x h in omega arith;
    clear = k.clear;
    cells = λ c h. let s = sum_set (λ (u : View). amount_in c u.added) vs id v left at in let p = sum_by_push (λ (u : View). amount_in c u.added) (set vs id left) right in let is = k.cells c h in omega arith;
  }

  -- two views made one
  pub join_keeps : (other : ℕ) (w : View) → other ≢ id → get_elem? vs other ≡ some w → 1 ≤ v.weight → Tallies n r m ws (set (set vs id (joined_view v w)) other spent_view)
  join_keeps other w apart that some_weight = let f = k.each id v at in let g = k.each other w that in let both : View = joined_view v w in
      let that' : get_elem? (set vs id both) other ≡ some w = set_else vs id other both apart ∙ that in record {
        heads = k.heads;
        bounds = k.bounds;
        long = k.long;
        weights = let s = sum_set (λ (u : View). u.weight) vs id v both at in let p = sum_set (λ (u : View). u.weight) (set vs id both) other w spent_view that' in let is = k.weights in omega arith;
        each = λ j u e. ⊎_elim
            (λ t. subst (λ (z : View). Fits n r m ws z) t.1 record { numbers = λ h. absurd (omega arith); idle = λ none. (refl, refl, refl, refl); seen = λ x h. absurd (omega arith); owns = λ x c. omega arith; entries = λ j d h. absurd (omega arith) })
            (λ t. ⊎_elim (λ q. subst (λ (z : View). Fits n r m ws z) q.1 record {
              numbers = λ h. f.numbers some_weight;
              idle = λ none. absurd (omega arith);
              seen = λ x h. let s = times-append x v.seen w.seen in dite (ℕ_discrete (times x v.seen) 0) (λ e. g.seen x (omega arith)) (λ ne. f.seen x (omega arith));
              owns = λ x c. let p = f.owns x c in let q' = g.owns x c in let s = times-append x v.claimed w.claimed in let z = entries-append x c v.added w.added in omega arith;
              entries = fit-append m v.added w.added f.entries g.entries;
            })
            (λ q. k.each j u q.1) (at_set vs id j both u t.1))
            (at_set (set vs id both) other j spent_view u e);
        claims = λ x h. let s = sum_set (λ (u : View). times x u.claimed) vs id v both at in let p = sum_set (λ (u : View). times x u.claimed) (set vs id both) other w spent_view that' in let t = times-append x v.claimed w.claimed in let is = k.claims x h in omega arith;
        beyond = λ x h. let s = sum_set (λ (u : View). times x u.claimed) vs id v both at in let p = sum_set (λ (u : View). times x u.claimed) (set vs id both) other w spent_view that' in let t = times-append x v.claimed w.claimed in let is = k.beyond x h in omega arith;
        clear = k.clear;
        cells = λ c h. let s = sum_set (λ (u : View). amount_in c u.added) vs id v both at in let p = sum_set (λ (u : View). amount_in c u.added) (set vs id both) other w spent_view that' in let t = amount-append c v.added w.added in let is = k.cells c h in omega arith;
      }
