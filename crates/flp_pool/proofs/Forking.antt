-- What one worker did, and what two parts of a fork did together.
use Rattle.std.proofs.Common.{◌≡◌, ℕ, zero, suc, ◌+◌, ◌-◌, ◌/◌, ◌≤◌, Option, Some, List, [], ◌∷◌, ◌++◌, length, get_or, set, All, sym, ap, ◌∙◌, subst, ⊎_elim, arith, append_assoc, zero-add}
use Rattle.std.proofs.lemmas.List.Sums.{sum_by-append}
use Rattle.std.proofs.lemmas.List.Elements.{All-append}
use mathlib.Core.Logic.{dite}
use native.Mathlib.Decide.{ℕ_discrete}
use Rattle.flp_tally.specs.declared.view.View.{View}
use Rattle.flp_tally.specs.Views.{times, NoneTwice, SeenIsClaimed, kept_half, given_half, joined_view}
use Rattle.flp_tally.specs.Held.{Held, Board, IsSeatOf}
use Rattle.flp_tally.specs.Rows.{rows_entries}
use Rattle.flp_pool.specs.Work.{EachDid, Ready, rows_of}
use Rattle.flp_pool.specs.Range.{once, with_run, LacksRange, TakesRange, Ran}
use Rattle.flp_pool.specs.Walk.{Walks}
use Rattle.flp_pool.specs.Fork.{RanPart, RanIn, HasSeat}
use Rattle.flp_pool.proofs.Once.{once_where, once_above}
use Rattle.flp_pool.proofs.Lists.{times-append, entries-append, onto}

module _ {S : Type 0} (room : S → ℕ) (done : S → List ℕ) (right : S → Type 0) where
  each-append : (a a' b b' : List S) (l m : List (List ℕ)) → EachDid room done right a a' l → EachDid room done right b b' m → EachDid room done right (a ++ b) (a' ++ b') (l ++ m)
  each-append [] [] b b' [] m p q = q
  each-append [] [] b b' (x ∷ l) m p q = absurd p
  each-append [] (y ∷ a') b b' l m p q = absurd p
  each-append (s ∷ a) [] b b' l m p q = absurd p
  each-append (s ∷ a) (t ∷ a') b b' [] m p q = absurd p
  each-append (s ∷ a) (t ∷ a') b b' (x ∷ l) m p q = (p.0, each-append a a' b b' l m p.1 q)

  module _ (row_of : ℕ → Option (List ℕ)) (lo hi : ℕ) where
    pub part_one : (v w : View) (states : List S) (d t : S) → length states ≡ 1 → Walks room done right row_of lo hi v w (get_or states 0 d) t → RanPart room done right row_of lo hi v w states (set states 0 t)
    part_one v w [] d t one p = absurd (omega arith)
    part_one v w (r ∷ (q ∷ qs)) d t one p = absurd (omega arith)
    part_one v w (r ∷ []) d t one p = record {
      lists = p.claimed ∷ [];
      claimed = p.claimed;
      seen = p.seen;
      missed = p.missed;
      did = (p.did, tt);
      few = λ k e h. let first : k ≡ 0 = omega arith in subst (λ (z : ℕ). length (get_or (p.claimed ∷ []) z e) ≤ hi - lo) (sym first) p.few;
      together = λ x. zero-add (times x p.claimed);
      inside = λ x none. let m = p.met x in omega arith;
      met = λ x one. let m = p.met x in omega arith;
      whole = λ full x one free. let m = p.met x in let a = p.alone full x free in omega arith;
      view = p.view;
    }

    both_view : (v : View) (xs ys zs xs' ys' zs' : List ℕ) → joined_view (with_run row_of (kept_half v) xs ys zs) (with_run row_of (given_half v) xs' ys' zs') ≡ with_run row_of v (xs ++ xs') (ys ++ ys') (zs ++ zs')
    both_view v xs ys zs xs' ys' zs' = let weight : v.weight - v.weight / 2 + v.weight / 2 ≡ v.weight = omega arith in λ i. record {
      weight = weight i;
      full = v.full;
      reports = v.reports;
      elements = v.elements;
      claimed = append_assoc v.claimed xs xs' i;
      seen = append_assoc v.seen ys ys' i;
      missed = append_assoc v.missed zs zs' i;
      added = onto v.added (rows_entries (rows_of row_of xs)) (rows_entries (rows_of row_of xs')) (rows_entries (rows_of row_of (xs ++ xs'))) (entries-append row_of xs xs') i;
    }

    pub part_both : (v w z : View) (a a' b b' : List S) → RanPart room done right row_of lo hi (kept_half v) w a a' → RanPart room done right row_of lo hi (given_half v) z b b'
        → NoneTwice (joined_view w z).claimed → ((joined_view w z).weight ≡ (joined_view w z).full → SeenIsClaimed (joined_view w z)) → RanPart room done right row_of lo hi v (joined_view w z) (a ++ b) (a' ++ b')
    part_both v w z a a' b b' p q once_each all =
        let xs = p.claimed ++ q.claimed in let ys = p.seen ++ q.seen in let zs = p.missed ++ q.missed in
        let view : joined_view w z ≡ with_run row_of v xs ys zs = (λ i. joined_view (p.view i) (q.view i)) ∙ both_view v p.claimed p.seen p.missed q.claimed q.seen q.missed in
        let weight = ap (λ (u : View). u.weight) view in let full = ap (λ (u : View). u.full) view in
        let claims = λ (x : ℕ). ap (λ (u : View). times x u.claimed) view ∙ times-append x v.claimed xs in
        let sees = λ (x : ℕ). ap (λ (u : View). times x u.seen) view ∙ times-append x v.seen ys in record {
          lists = p.lists ++ q.lists;
          claimed = xs;
          seen = ys;
          missed = zs;
          did = each-append a a' b b' p.lists q.lists p.did q.did;
          few = All-append (λ (l : List ℕ). length l ≤ hi - lo) p.lists q.lists p.few q.few;
          together = λ x. sum_by-append (λ (l : List ℕ). times x l) p.lists q.lists ∙ ((λ i. p.together x i + q.together x i) ∙ sym (times-append x p.claimed q.claimed));
          inside = λ x none. let i = p.inside x none in let j = q.inside x none in let s = times-append x p.claimed q.claimed in omega arith;
          met = λ x one. let m = p.met x one in let s = times-append x p.claimed q.claimed in let r = times-append x p.seen q.seen in omega arith;
          whole = λ alone x one free. let m = p.met x one in let s = times-append x p.claimed q.claimed in let r = times-append x p.seen q.seen in let c = claims x in let d = sees x in let o = once_each x in
              dite (ℕ_discrete (times x p.claimed) 0) (λ e. let k = all (omega arith) x (omega arith) in omega arith) (λ ne. omega arith);
          view = view;
        }

    -- the same for the seats in slots
    pub ran_one : (slot : Option Held) (seat after : Held) (tally : Board) (n : ℕ) (states : List S) (d t : S) → slot ≡ Some seat → HasSeat tally n slot → IsSeatOf tally after → length states ≡ 1
        → Walks room done right row_of lo hi seat.view after.view (get_or states 0 d) t → RanIn room done right row_of lo hi slot (Some after) states (set states 0 t)
    ran_one slot seat after tally n states d t here owned same one walk = let mine = subst (HasSeat tally n) here owned in
        subst (λ (o : Option Held). RanIn room done right row_of lo hi o (Some after) states (set states 0 t)) (sym here) (same.0 ∙ sym mine.0.0, part_one seat.view after.view states d t one walk)

    pub ran_both : (slot o1 o2 : Option Held) (seat one two one' two' whole : Held) (tally : Board) (n : ℕ) (states a b a' b' : List S) → slot ≡ Some seat → o1 ≡ Some one' → o2 ≡ Some two' → HasSeat tally n slot → IsSeatOf tally whole
        → one.view ≡ kept_half seat.view → two.view ≡ given_half seat.view → whole.view ≡ joined_view one'.view two'.view → NoneTwice whole.view.claimed → (whole.view.weight ≡ whole.view.full → SeenIsClaimed whole.view)
        → states ≡ a ++ b → RanIn room done right row_of lo hi (Some one) o1 a a' → RanIn room done right row_of lo hi (Some two) o2 b b' → RanIn room done right row_of lo hi slot (Some whole) states (a' ++ b')
    ran_both slot o1 o2 seat one two one' two' whole tally n states a b a' b' here first second owned same kept given view once_each all cut p q =
        let mine = subst (HasSeat tally n) here owned in
        let p' = subst (λ (o : Option Held). RanIn room done right row_of lo hi (Some one) o a a') first p in
        let q' = subst (λ (o : Option Held). RanIn room done right row_of lo hi (Some two) o b b') second q in
        let left = subst (λ (v : View). RanPart room done right row_of lo hi v one'.view a a') kept p'.1 in
        let right' = subst (λ (v : View). RanPart room done right row_of lo hi v two'.view b b') given q'.1 in
        let both = part_both seat.view one'.view two'.view a a' b b' left right' (subst (λ (v : View). NoneTwice v.claimed) view once_each) (subst (λ (v : View). v.weight ≡ v.full → SeenIsClaimed v) view all) in
        let part = subst (λ (v : View). RanPart room done right row_of lo hi seat.view v (a ++ b) (a' ++ b')) (sym view) both in
        let part' = subst (λ (l : List S). RanPart room done right row_of lo hi seat.view whole.view l (a' ++ b')) (sym cut) part in
        subst (λ (o : Option Held). RanIn room done right row_of lo hi o (Some whole) states (a' ++ b')) (sym here) (same.0 ∙ sym mine.0.0, part')

    -- the whole of a run, where the range was free
    pub ran_all : (slot : Option Held) (seat after : Held) (before states : List S) → slot ≡ Some after → lo ≤ hi → seat.view.weight ≡ seat.view.full → LacksRange lo hi seat.view.claimed
        → RanIn room done right row_of lo hi (Some seat) slot before states → (after.table ≡ seat.table) × Ran room done right row_of lo hi seat.view after.view before states × ((l : List (List ℕ)) × EachDid room done right before states l × All (λ x. length x ≤ hi - lo) l)
    ran_all slot seat after before states here le full free p =
        let q = subst (λ (o : Option Held). RanIn room done right row_of lo hi (Some seat) o before states) here p in let part = q.1 in
        let all_once = λ (x : ℕ). ⊎_elim {C = times x part.claimed ≡ once lo hi x} (λ t. part.whole full x t.2 (free x t.0 t.1) ∙ sym t.2) (λ out. part.inside x out ∙ sym out) (once_where lo hi x) in (
          q.0,
          record { lists = part.lists; did = part.did; each_once = λ x. part.together x ∙ all_once x; taken = record { claimed = part.claimed; seen = part.seen; missed = part.missed; each_once = all_once; view = part.view } },
          (part.lists, part.did, part.few),
        )

  -- room for n more is left where there was room for both ranges
  pub still_ready : (n k : ℕ) (before after : List S) (lists : List (List ℕ)) → EachDid room done right before after lists → All (λ l. length l ≤ n) lists → Ready room right (n + k) before → Ready room right k after
  still_ready n k [] [] lists did few ready i d h = absurd (omega arith)
  still_ready n k [] (t ∷ after) lists did few ready i d h = absurd did
  still_ready n k (s ∷ before) [] lists did few ready i d h = absurd did
  still_ready n k (s ∷ before) (t ∷ after) [] did few ready i d h = absurd did
  still_ready n k (s ∷ before) (t ∷ after) (x ∷ lists) did few ready zero d h = let one = did.0 in let short : length x ≤ n = few 0 x (omega arith) in let was = (ready 0 s (omega arith)).1 in let spare = one.spare in (one.fits, omega arith)
  still_ready n k (s ∷ before) (t ∷ after) (x ∷ lists) did few ready (suc i) d h = still_ready n k before after lists did.1 (λ j e l. few (suc j) e (omega arith)) (λ j e l. ready (suc j) e (omega arith)) i d (omega arith)

-- what was free above the range still is
pub still_free : (row_of : ℕ → Option (List ℕ)) (lo hi top : ℕ) (v w : View) → lo ≤ hi → TakesRange row_of lo hi v w → LacksRange lo top v.claimed → LacksRange hi top w.claimed
still_free row_of lo hi top v w le t free x a b = let c = ap (λ (u : View). times x u.claimed) t.view ∙ times-append x v.claimed t.claimed in let f = free x (omega arith) b in let e = t.each_once x in let o = once_above lo hi x a in omega arith
