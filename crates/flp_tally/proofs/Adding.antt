-- A fetch_add of one entry keeps the rule, and never wraps. An entry with the amount 0 keeps it where no word changes.
use Rattle.std.proofs.Common.{◌≡◌, ℕ, ◌+◌, ◌*◌, ◌%◌, ◌^◌, ◌<◌, ◌≤◌, ◌≢◌, List, [], ◌∷◌, get_or, set, sym, refl, ap, subst, ⊎_elim, arith, length-set, get_or-set_same, get_or-set_other}
use Rattle.std.specs.Int.{bit_at}
use mathlib.Core.Logic.{dite}
use mathlib.Core.Option.{some}
use native.Mathlib.Decide.{ℕ_discrete}
use lib.ListN.{get_elem?}
use Rattle.atomic_table.proofs.Lists.{at_set}
use Rattle.flp_tally.specs.declared.view.View.{View}
use Rattle.flp_tally.specs.declared.view.Entry.{Entry}
use Rattle.flp_tally.specs.Views.{times, amount_in, MayAdd, Owns, EntriesFit, with_entry}
use Rattle.flp_tally.specs.Rule.{blocks, claim_word, claim_bit, cell_word, claims_of, sum_in, Fits, Tallies}
use Rattle.flp_tally.proofs.Sums.{sum_set}
use Rattle.flp_tally.proofs.Lists.{owns-with_entry, amount-append, amount_here, amount_else, fit-append}
use Rattle.flp_tally.proofs.Learning.{claims_once}
use Rattle.flp_tally.proofs.Bound.{cell_fits}
use Rattle.flp_tally.proofs.Moves.{moved, refits, stays}

module _ (n r m : ℕ) (ws : List ℕ) (vs : List View) (id : ℕ) (v : View) (k : Tallies n r m ws vs) (at : get_elem? vs id ≡ some v)
    (e : Entry) (some_weight : 1 ≤ v.weight) (may : MayAdd m v e) where
  owns : Owns (with_entry v e)
  owns = owns-with_entry v e may.claimed may.free (k.each id v at).owns

  entries : EntriesFit m (with_entry v e).added
  entries = fit-append m v.added (e ∷ []) (k.each id v at).entries (λ j d h. let first : j ≡ 0 = omega arith in subst (λ (z : ℕ). ((get_or (e ∷ []) z d).cell < 2 * m) × ((get_or (e ∷ []) z d).amount < 2 ^ 32)) (sym first) (may.cell, may.amount))

  same_claims : (x : ℕ) → claims_of x (set vs id (with_entry v e)) ≡ claims_of x vs
  same_claims x = let s = sum_set (λ (u : View). times x u.claimed) vs id v (with_entry v e) at in omega arith

  grown : (c : ℕ) → sum_in c (set vs id (with_entry v e)) ≡ sum_in c vs + amount_in c (e ∷ [])
  grown c = let s = sum_set (λ (u : View). amount_in c u.added) vs id v (with_entry v e) at in let t = amount-append c v.added (e ∷ []) in omega arith

  pub never_wraps : get_or ws (cell_word r e.cell) 0 + e.amount < 2 ^ 64
  never_wraps = let is = k.cells e.cell may.cell in let g = grown e.cell in let a = amount_here e.cell e [] refl in
      let b = cell_fits r m e.cell (set vs id (with_entry v e)) k.bounds.1
      (λ i u h. ⊎_elim (λ t. subst (λ (z : View). Owns z × EntriesFit m z.added) t.1 (owns, entries)) (λ t. ((k.each i u t.1).owns, (k.each i u t.1).entries)) (at_set vs id i (with_entry v e) u h))
      (λ x. let c = same_claims x in let o = claims_once n r m ws vs id v k at x in omega arith)
      (λ x h. let c = same_claims x in let o = k.beyond x h in omega arith) in omega arith

  still_fits : (ws' : List ℕ) → ((x : ℕ) → x < r → claim_bit ws' x ≡ claim_bit ws x) → Fits n r m ws' (with_entry v e)
  still_fits ws' same = let f = k.each id v at in refits n r m ws ws' (with_entry v e) record { numbers = f.numbers; idle = λ none. absurd (omega arith); seen = f.seen; owns = owns; entries = entries } (λ x h. let is = same x h in omega arith)

  pub note_keeps : e.amount ≡ 0 → Tallies n r m ws (set vs id (with_entry v e))
  note_keeps nothing = moved n r m ws ws vs id v (with_entry v e) k at (stays n r m ws v (with_entry v e) refl refl
      (λ c. let t = amount-append c v.added (e ∷ []) in dite (ℕ_discrete e.cell c) (λ here. let a = amount_here c e [] here in omega arith) (λ ne. let a = amount_else c e [] ne in omega arith))
      (still_fits ws (λ x h. refl)))

  pub add_keeps : Tallies n r m (set ws (cell_word r e.cell) ((get_or ws (cell_word r e.cell) 0 + e.amount) % 2 ^ 64)) (set vs id (with_entry v e))
  add_keeps = let i = cell_word r e.cell in let found = get_or ws i 0 in let after = (found + e.amount) % 2 ^ 64 in let ws' = set ws i after in let w = with_entry v e in let cell = may.cell in
      let else = λ (j : ℕ) (ne : j ≢ i). get_or-set_other ws i j after 0 ne in
      let bit = λ (x : ℕ) (h : x < 64 * blocks r). ap (λ (z : ℕ). bit_at z (x % 64)) (else (claim_word x) (λ q. omega arith)) in
      let same = λ (x : ℕ) (h : x < r). let is : claim_bit ws' x ≡ claim_bit ws x = bit x (omega arith) in is in
      moved n r m ws ws' vs id v w k at record {
        heads = (else 0 (λ q. omega arith), else 1 (λ q. omega arith), else 2 (λ q. omega arith));
        long = length-set ws i after;
        weight = refl;
        fits = still_fits ws' same;
        bits = λ x h. let is = same x h in omega arith;
        claims = λ x h. let is = same x h in omega arith;
        beyond = λ x h. refl;
        clear = λ x h g. bit x g;
        cells = λ c h. let t = amount-append c v.added (e ∷ []) in dite (ℕ_discrete e.cell c)
            (λ here. subst (λ (z : ℕ). get_or ws' (cell_word r z) 0 + amount_in z v.added ≡ get_or ws (cell_word r z) 0 + amount_in z w.added) here
            (let b = never_wraps in let long = k.long in let here' : get_or ws' i 0 ≡ after = get_or-set_same ws i after 0 (omega arith) in let a = amount_here e.cell e [] refl in let t' = amount-append e.cell v.added (e ∷ []) in omega arith))
            (λ ne. let o = else (cell_word r c) (λ q. ne (omega arith)) in let a = amount_else c e [] ne in omega arith);
      }
