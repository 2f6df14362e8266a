-- Faults that are tried in one order: which is the first, and what is known where none is met.
use Rattle.std.proofs.Common.{◌≡◌, ℕ, zero, suc, ◌+◌, ◌≤◌, List, [], ◌∷◌, length, get_or, Bool, true, false, ltb, Option, Some, None, refl}
use Rattle.std.proofs.lemmas.Bool.{ltb-false}
use Rattle.flp_report.specs.declared.fault.BatchFault.{BatchFault}
use Rattle.flp_report.specs.declared.fault.BatchFault.TheVariants.{Truncated}
use Rattle.flp_report.specs.Fault.{met, first_of, ended}

-- a fault in front of others is the first
pub first_of-here : (a : Option BatchFault) (rest : List (Option BatchFault)) (b : BatchFault) → a ≡ Some b → first_of (a ∷ rest) ≡ Some b
first_of-here a rest b is = rw is refl

-- what is behind no fault
pub first_of-next : (a : Option BatchFault) (rest : List (Option BatchFault)) → a ≡ None → first_of (a ∷ rest) ≡ first_of rest
first_of-next a rest none = rw none refl

-- the last of all
pub first_of-last : (a : Option BatchFault) → first_of (a ∷ []) ≡ a
first_of-last None = refl
first_of-last (Some b) = refl

-- the first fault of two stays the first of more
pub first_of-two : (a b : Option BatchFault) (more : List (Option BatchFault)) (fault : BatchFault) → first_of (a ∷ b ∷ []) ≡ Some fault → first_of (a ∷ b ∷ more) ≡ Some fault
first_of-two None None more fault is = cc
first_of-two None (Some b) more fault is = is
first_of-two (Some a) b more fault is = is

-- where none is met the first is not met, nor one behind it
pub no-first : (fault : Option BatchFault) (rest : List (Option BatchFault)) → first_of (fault ∷ rest) ≡ None → (fault ≡ None) × (first_of rest ≡ None)
no-first None rest none = (refl, none)
no-first (Some fault) rest none = let no : ⊥ = cc in absurd no

-- nor any of them
pub none-at : (faults : List (Option BatchFault)) (k : ℕ) → first_of faults ≡ None → get_or faults k None ≡ None
none-at [] k none = refl
none-at (fault ∷ rest) zero none = (no-first fault rest none).0
none-at (fault ∷ rest) (suc k) none = none-at rest k (no-first fault rest none).1

-- a test that is not met
pub none-met : (test : Bool) (fault : BatchFault) → met test fault ≡ None → test ≡ false
none-met true fault none = let no : ⊥ = cc in absurd no
none-met false fault none = refl

-- so a number is not above its limit
pub none-above : (limit n : ℕ) (fault : BatchFault) → met (ltb limit n) fault ≡ None → n ≤ limit
none-above limit n fault none = ltb-false limit n (none-met (ltb limit n) fault none)

-- and the input does not end early
pub none-short : (before need : ℕ) (rest : List ℕ) → ended before need rest ≡ None → need ≤ before + length rest
none-short before need rest none =
    ltb-false (before + length rest) need (none-met (ltb (before + length rest) need) (Truncated (before + length rest) need) none)
