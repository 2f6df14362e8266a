-- Each step of `src/steps.rt` is allowed by the rule, and tells what its play says.
use Rattle.std.proofs.Common.{◌≡◌, ℕ, ◌+◌, ◌-◌, ◌*◌, ◌/◌, ◌%◌, ◌^◌, ◌<◌, ◌≤◌, List, get_or, set, bit_or, sym, refl, ap, ◌∙◌, subst, arith}
use mathlib.Core.Logic.{dite}
use native.Mathlib.Decide.{ℕ_discrete}
use lib.Seq.{set-get_or}
use Rattle.std.specs.Int.{bit_at}
use Rattle.std.proofs.lemmas.Nat.Bits.{bit_at-lt}
use Rattle.atomic_table.specs.Table.{Me, keeps, Allows, Splits, Joins}
use Rattle.atomic_table.proofs.Lists.{set_else}
use Rattle.flp_tally.specs.declared.view.View.{View}
use Rattle.flp_tally.specs.declared.view.Entry.{Entry}
use Rattle.flp_tally.specs.declared.view.Shape.{Shape}
use Rattle.flp_tally.specs.Views.{with_claimed, with_seen, with_missed, with_entry, MayAdd, kept_half, given_half, joined_view, spent_view}
use Rattle.flp_tally.specs.Rule.{claim_word, claim_bit, cell_word, Tallies, holds}
use Rattle.flp_tally.specs.Steps.{Finds, Claimed, Peeked, Added, Noted, Learned}
use Rattle.flp_tally.proofs.Moves.{load_keeps, peek_keeps, claim_keeps, split_keeps, join_keeps}
use Rattle.flp_tally.proofs.Adding.{add_keeps, note_keeps}
use Rattle.flp_tally.proofs.Learning.{tells, learned}

-- one view where the bit is clear, and another where it is set
pick : (bit : ℕ) (p q : View) → (w : View) × (bit ≡ 0 → w ≡ p) × (bit ≡ 1 → w ≡ q)
pick bit p q = dite (ℕ_discrete bit 1) (λ is. (q, (λ e. absurd (omega arith)), λ e. refl)) (λ not. (p, (λ e. refl), λ is. absurd (not is)))

-- what holds of both views that a step may leave holds of the one that it leaves
pub either_way : (P : View → Type 0) (x word found : ℕ) (v p q w : View) → Finds x word found v p q w → P p → P q → P w
either_way P x word found v p q w f on_clear on_marked = let lt = bit_at-lt found (x % 64) in dite (ℕ_discrete (bit_at found (x % 64)) 1)
    (λ is. subst P (sym (f.marked is)) on_marked)
    (λ not. let is : bit_at found (x % 64) ≡ 0 = omega arith in subst P (sym (f.clear is)) on_clear)

-- a load writes back what it found
unwritten : (n r m : ℕ) (ws : List ℕ) (vs : List View) (i : ℕ) → Tallies n r m ws vs → Tallies n r m (set ws i (get_or ws i 0)) vs
unwritten n r m ws vs i k = subst (λ (l : List ℕ). Tallies n r m l vs) (sym (set-get_or ws i 0)) k

module _ (shape : Shape) (slots id : ℕ) (me : Me ℕ View) (some_weight : 1 ≤ me.0.weight) where
  pub take_allowed : (x y : ℕ) → x ≡ y → x < shape.reports → Allows (holds shape) slots id me (claim_word x) (λ n. bit_or n (1 * 2 ^ (x % 64) % 2 ^ 64)) (λ found w. Claimed y (claim_word x) me.0 found w.0 × (w.1 ≡ me.1))
  take_allowed x y same below s k len at fits = let v = me.0 in let p = pick (claim_bit s.words x) (with_claimed v x) (with_seen v x) in (
    p.0,
    keeps,
    tt,
    claim_keeps shape.weight shape.reports shape.elements s.words s.views id v k at x some_weight below p.0 p.1 p.2,
    (
      subst (λ (z : ℕ). Claimed z (claim_word x) v (get_or s.words (claim_word x) 0) p.0) same
          record { place = refl; tells = tells shape.weight shape.reports shape.elements s.words s.views id v k at some_weight x below; clear = p.1; marked = p.2 },
      refl,
    ),
  )

  pub look_allowed : (x y : ℕ) → x ≡ y → x < shape.reports → Allows (holds shape) slots id me (claim_word x) (λ n. n) (λ found w. Peeked y (claim_word x) me.0 found w.0 × (w.1 ≡ me.1))
  look_allowed x y same below s k len at fits = let v = me.0 in let p = pick (claim_bit s.words x) (with_missed v x) (with_seen v x) in (
    p.0,
    keeps,
    tt,
    unwritten shape.weight shape.reports shape.elements s.words (set s.views id p.0) (claim_word x) (peek_keeps shape.weight shape.reports shape.elements s.words s.views id v k at x some_weight below p.0 p.1 p.2),
    (
      subst (λ (z : ℕ). Peeked z (claim_word x) v (get_or s.words (claim_word x) 0) p.0) same
          record { place = refl; tells = tells shape.weight shape.reports shape.elements s.words s.views id v k at some_weight x below; clear = p.1; marked = p.2 },
      refl,
    ),
  )

  pub learn_allowed : Allows (holds shape) slots id me 0 (λ n. n) (λ found w. Learned me.0 w.0 × (w.1 ≡ me.1))
  learn_allowed s k len at fits = let v = me.0 in (
    v,
    keeps,
    tt,
    unwritten shape.weight shape.reports shape.elements s.words (set s.views id v) 0 (load_keeps shape.weight shape.reports shape.elements s.words s.views id v k at),
    (learned shape.weight shape.reports shape.elements s.words s.views id v k at some_weight, refl),
  )

module _ (shape : Shape) (slots id : ℕ) (me : Me ℕ View) (e d : Entry) (some_weight : 1 ≤ me.0.weight) (same : d ≡ e) (may : MayAdd shape.elements me.0 e) where
  pub put_allowed : (i : ℕ) → i ≡ cell_word shape.reports e.cell → me.0.reports ≡ shape.reports → Allows (holds shape) slots id me i (λ n. (n + e.amount) % 2 ^ 64) (λ found w. Added d i e.amount me.0 w.0 × (w.1 ≡ me.1))
  put_allowed i is reports s k len at fits = let v = me.0 in (
    with_entry v e,
    keeps,
    tt,
    subst (λ (z : ℕ). Tallies shape.weight shape.reports shape.elements (set s.words z ((get_or s.words z 0 + e.amount) % 2 ^ 64)) (set s.views id (with_entry v e))) (sym is)
        (add_keeps shape.weight shape.reports shape.elements s.words s.views id v k at e some_weight may),
    (
      subst (λ (z : Entry). Added z i e.amount v (with_entry v e)) (sym same) record { place = is ∙ ap (λ (r : ℕ). cell_word r e.cell) (sym reports); half = refl; after = refl },
      refl,
    ),
  )

  pub note_allowed : e.amount ≡ 0 → Allows (holds shape) slots id me 0 (λ n. n) (λ found w. Noted d 0 me.0 w.0 × (w.1 ≡ me.1))
  note_allowed nothing s k len at fits = let v = me.0 in (
    with_entry v e,
    keeps,
    tt,
    unwritten shape.weight shape.reports shape.elements s.words (set s.views id (with_entry v e)) 0 (note_keeps shape.weight shape.reports shape.elements s.words s.views id v k at e some_weight may nothing),
    (subst (λ (z : Entry). Noted z 0 v (with_entry v e)) (sym same) record { place = refl; nothing = nothing; after = refl }, refl),
  )

pub split_allowed : (shape : Shape) (id : ℕ) (v : View) → 2 ≤ v.weight → Splits (holds shape) id v (kept_half v) (given_half v)
split_allowed shape id v two s k at = split_keeps shape.weight shape.reports shape.elements s.words s.views id v k at (v.weight - v.weight / 2) (v.weight / 2) (omega arith) (omega arith) (omega arith)

pub join_allowed : (shape : Shape) (id other : ℕ) (v w : View) → 1 ≤ v.weight → Joins (holds shape) id v other w (joined_view v w) spent_view
join_allowed shape id other v w some_weight s k at apart that =
    join_keeps shape.weight shape.reports shape.elements s.words s.views id v k at other w apart (sym (set_else s.views id other (joined_view v w) apart) ∙ that) some_weight
