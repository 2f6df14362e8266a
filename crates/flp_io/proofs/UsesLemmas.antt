-- How what several calls did with one source or sink adds up.
use Rattle.std.proofs.Common.{ℕ, ◌+◌, ◌≤◌, arith, le_trans}
use Rattle.flp_io.specs.Faults.{Rose, Uses}

-- a count that rose after it had not fallen rose
Rose-after : (a b c : ℕ) → a ≤ b → Rose b c → Rose a c
Rose-after a b c le rose = omega arith

module _ {S : Type 0} {faults : S → ℕ} {ready : S → Type 0} where
  -- no call, which does not fail
  pub Uses-none : (a : S) {failed went_on : Type 0} → (failed → ⊥) → (went_on → ready a) → Uses faults ready a a failed went_on
  Uses-none a quiet may = record { later = omega arith; cause = λ f. absurd (quiet f); again = may }

  -- after one call, another, which alone says whether it failed and went on
  pub Uses-after : {a b c : S} {failed went_on failed' went_on' : Type 0} → Uses faults ready a b failed went_on → Uses faults ready b c failed' went_on' → Uses faults ready a c failed' went_on'
  Uses-after p q = record { later = le_trans p.later q.later; cause = λ f. Rose-after _ _ _ p.later (q.cause f); again = q.again }

  -- a call whose answer is told on in other words
  pub Uses-as : {a b : S} {failed went_on failed' went_on' : Type 0} → Uses faults ready a b failed went_on → (failed' → failed) → (went_on' → went_on) → Uses faults ready a b failed' went_on'
  Uses-as p f w = record { later = p.later; cause = λ x. p.cause (f x); again = λ x. p.again (w x) }
