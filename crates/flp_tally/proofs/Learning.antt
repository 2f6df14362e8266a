-- What the rule tells a seat of its own view at a step.
use Rattle.std.proofs.Common.{◌≡◌, ℕ, ◌^◌, ◌<◌, ◌≤◌, List, refl, ap, arith}
use mathlib.Core.Logic.{dite}
use mathlib.Core.Option.{some}
use native.Mathlib.Decide.{ℕ_discrete, dec_le}
use lib.ListN.{get_elem?}
use Rattle.flp_tally.specs.declared.view.View.{View}
use Rattle.flp_tally.specs.Views.{times, NoneTwice, SeenIsClaimed}
use Rattle.flp_tally.specs.Rule.{claim_bit, claims_of, Tallies}
use Rattle.flp_tally.specs.Steps.{Tells, Learned}
use Rattle.flp_tally.proofs.Sums.{at_le, sum_only}
use Rattle.flp_tally.proofs.Bits.{bit-lt}

module _ (n r m : ℕ) (ws : List ℕ) (vs : List View) (id : ℕ) (v : View) (k : Tallies n r m ws vs) (at : get_elem? vs id ≡ some v) where
  -- in all views together no number is claimed twice
  pub claims_once : (x : ℕ) → claims_of x vs ≤ 1
  claims_once x = let lt = bit-lt ws x in dite (dec_le r x) (λ h. let is = k.beyond x h in omega arith) (λ h. let is = k.claims x (omega arith) in omega arith)

  pub once : NoneTwice v.claimed
  once x = let le = at_le (λ (u : View). times x u.claimed) vs id v at in let all = claims_once x in omega arith

  pub small : v.weight < 2 ^ 32
  small = let le = at_le (λ (u : View). u.weight) vs id v at in let is = k.weights in let b = k.bounds.0 in omega arith

  module _ (some_weight : 1 ≤ v.weight) where
    -- who has the full weight has all claims
    pub only : v.weight ≡ v.full → (x : ℕ) → claims_of x vs ≡ times x v.claimed
    only full x = let f = k.each id v at in let is = (f.numbers some_weight).0 in let all = k.weights in
        sum_only (λ (u : View). u.weight) (λ (u : View). times x u.claimed) vs id v at (omega arith) (λ j u e none. ap (times x) ((k.each j u e).idle none).0)

    pub tells : (x : ℕ) → x < r → Tells v x (claim_bit ws x)
    tells x below = record {
      known = λ h. let lt = bit-lt ws x in let le = at_le (λ (u : View). times x u.claimed) vs id v at in let is = k.claims x below in
          dite (ℕ_discrete (times x v.claimed) 0) (λ e. ((k.each id v at).seen x (omega arith)).1) (λ ne. omega arith);
      free = λ full none. let all = only full x in let is = k.claims x below in omega arith;
    }

    pub whole : v.weight ≡ v.full → SeenIsClaimed v
    whole full x h = let s = (k.each id v at).seen x h in let all = only full x in let is = k.claims x s.0 in let bit = s.1 in omega arith

    pub learned : Learned v v
    learned = record { same = refl; once = once; whole = whole; small = small }
