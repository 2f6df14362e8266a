-- The laws over states, from the lemmas over words and views.
use Rattle.std.proofs.Common.{◌≡◌, ℕ, suc, ◌*◌, ◌%◌, ◌^◌, ◌≤◌, List, [], ◌∷◌, get_or, set, bit_or, sum_by, sym, refl, ap, ◌∙◌, subst₂, arith, one-mul, mod-eq_of_lt}
use Rattle.std.proofs.lemmas.List.Sums.{sum_by-cons}
use mathlib.Core.Logic.{dite}
use mathlib.Core.Option.{some}
use native.Mathlib.Decide.{dec_le}
use lib.ListN.{get_elem?}
use Rattle.std.proofs.lemmas.Nat.{pow_below}
use Rattle.atomic_table.specs.Table.{State}
use Rattle.flp_tally.specs.declared.view.View.{View}
use Rattle.flp_tally.specs.Views.{times}
use Rattle.flp_tally.specs.Rule.{claim_word, Tallies}
use Rattle.flp_tally.specs.Kinds.{Keeps, SplitStep, JoinStep, ClaimStep, AddStep, NoteStep, PeekStep, LearnStep, NeverWraps, ClaimedOnce, BitIsClaimed, SeenIsClaimedBySome, AddedOnce}
use Rattle.flp_tally.proofs.Sums.{at_le}
use Rattle.flp_tally.proofs.Bits.{marked, bit-lt}
use Rattle.flp_tally.proofs.Moves.{split_keeps, join_keeps, claim_keeps, peek_keeps}
use Rattle.flp_tally.proofs.Adding.{add_keeps, note_keeps, never_wraps}
use Rattle.flp_tally.proofs.Learning.{once}

-- the rule at the words and views that a step says it leaves
arrives : (n r m : ℕ) (t : State ℕ View) (ws : List ℕ) (vs : List View) → t.words ≡ ws → t.views ≡ vs → Tallies n r m ws vs → Tallies n r m t.words t.views
arrives n r m t ws vs words views k = subst₂ (λ (a : List ℕ) (b : List View). Tallies n r m a b) (sym words) (sym views) k

pub split_law : Keeps SplitStep
split_law n r m s t k d = arrives n r m t _ _ d.words d.views (split_keeps n r m s.words s.views d.id d.view k d.at d.kept d.given d.parts.0 d.parts.1 d.parts.2)

pub join_law : Keeps JoinStep
join_law n r m s t k d = arrives n r m t _ _ d.words d.views (join_keeps n r m s.words s.views d.id d.view k d.at d.other d.away d.apart d.away_at d.weight.0)

pub claim_law : Keeps ClaimStep
claim_law n r m s t k d = let i = claim_word d.number in let bit : 2 ^ (d.number % 64) ≡ 1 * 2 ^ (d.number % 64) % 2 ^ 64 = sym (mod-eq_of_lt (rw one-mul (pow_below (d.number % 64) 64 (omega arith))) ∙ one-mul (2 ^ (d.number % 64))) in
    arrives n r m t (marked s.words d.number) _ (d.words ∙ ap (λ (z : ℕ). set s.words i (bit_or (get_or s.words i 0) z)) bit) d.views (claim_keeps n r m s.words s.views d.id d.view k d.at d.number d.weight d.below d.after d.clear d.marked)

pub add_law : Keeps AddStep
add_law n r m s t k d = arrives n r m t _ _ d.words d.views (add_keeps n r m s.words s.views d.id d.view k d.at d.entry d.weight d.may_add)

pub note_law : Keeps NoteStep
note_law n r m s t k d = arrives n r m t _ _ d.words d.views (note_keeps n r m s.words s.views d.id d.view k d.at d.entry d.weight d.may_add d.nothing)

pub peek_law : Keeps PeekStep
peek_law n r m s t k d = arrives n r m t _ _ d.words d.views (peek_keeps n r m s.words s.views d.id d.view k d.at d.number d.weight d.below d.after d.clear d.marked)

pub learn_law : Keeps LearnStep
learn_law n r m s t k d = arrives n r m t s.words s.views d.words d.views k

pub wraps_law : NeverWraps
wraps_law n r m s t k d = never_wraps n r m s.words s.views d.id d.view k d.at d.entry d.weight d.may_add

pub once_law : ClaimedOnce
once_law n r m ws vs x k = dite (dec_le r x)
    (λ h. let none = k.beyond x h in (omega arith, λ some_claim. absurd (omega arith)))
    (λ h. let is = k.claims x (omega arith) in let lt = bit-lt ws x in (omega arith, λ some_claim. omega arith))

-- some member has a part of a sum that is not 0
some_member : (f : View → ℕ) (vs : List View) → 1 ≤ sum_by f vs → (id : ℕ) × (v : View) × (get_elem? vs id ≡ some v) × (1 ≤ f v)
some_member f [] h = absurd (omega arith)
some_member f (v ∷ vs) h = let c = sum_by-cons f v vs in dite (dec_le 1 (f v)) (λ here. (0, v, refl, here)) (λ not. let rest = some_member f vs (omega arith) in (suc rest.0, rest.1, rest.2, rest.3))

pub bit_law : BitIsClaimed
bit_law n r m ws vs x k h = let is = k.claims x h in (
  (λ bit. some_member (λ (v : View). times x v.claimed) vs (omega arith)),
  (λ claimed. let le = at_le (λ (v : View). times x v.claimed) vs claimed.0 claimed.1 claimed.2 in let some_claim = claimed.3 in let lt = bit-lt ws x in omega arith),
)

pub seen_law : SeenIsClaimedBySome
seen_law n r m ws vs id v x k at h = let s = (k.each id v at).seen x h in let is = k.claims x s.0 in let bit = s.1 in some_member (λ (u : View). times x u.claimed) vs (omega arith)

pub added_law : AddedOnce
added_law n r m ws vs id v x c k at = let own = (k.each id v at).owns x c in let o = once n r m ws vs id v k at x in ((λ h. omega arith), omega arith)
