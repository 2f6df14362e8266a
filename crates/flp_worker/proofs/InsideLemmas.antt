-- Proofs that are looked at one after another: the first with a query point in a domain, and whether all hold.
use Rattle.std.proofs.Common.{ℕ, zero, suc, ◌≡◌, ◌+◌, ◌<◌, ◌≤◌, List, [], ◌∷◌, map, refl, ap, sym, ◌∙◌, ⊎_elim, arith}
use Rattle.std.specs.Prelude.{Option, None, Some, Bool, true, false, ◌&&◌}
use Rattle.std.specs.List.{range_with_len, list_all}
use Rattle.std.proofs.lemmas.List.Folds.{list_all-append}
use Rattle.std.proofs.Math.Nat.{eq-or-lt_of_le}
use Rattle.flp_query.proofs.DecisionLemmas.{range-more}
use Rattle.flp_worker.specs.Verdict.{first_named}

-- a proof that names none is passed over
passed-over : (proof : ℕ) (here : Option ℕ) (more : List (Option ℕ)) → here ≡ None → first_named proof (here ∷ more) ≡ first_named (proof + 1) more
passed-over proof here more none = ap (λ (h : Option ℕ). first_named proof (h ∷ more)) none

-- none is named
pub none-named : (found : ℕ → Option ℕ) (start count : ℕ) → ((k : ℕ) → k < start + count → found k ≡ None)
    → first_named start (map found (range_with_len start count)) ≡ None
none-named found start zero none = refl
none-named found start (suc count) none =
    passed-over start (found start) (map found (range_with_len (start + 1) count)) (none start (omega arith))
    ∙ none-named found (start + 1) count (λ k below. none k (omega arith))

-- the first that names one is found
pub first-is : (found : ℕ → Option ℕ) (start count proof gadget : ℕ) → start ≤ proof → proof < start + count
    → ((k : ℕ) → k < proof → found k ≡ None) → found proof ≡ Some gadget
    → first_named start (map found (range_with_len start count)) ≡ Some (proof, gadget)
first-is found start zero proof gadget from below none here = absurd (omega arith)
first-is found start (suc count) proof gadget from below none here =
    ⊎_elim
    (λ (same : start ≡ proof).
    ap (λ (h : Option ℕ). first_named start (h ∷ map found (range_with_len (start + 1) count))) (ap found same ∙ here)
    ∙ ap (λ (p : ℕ). Some (p, gadget)) same)
    (λ (before : start < proof).
    passed-over start (found start) (map found (range_with_len (start + 1) count)) (none start before)
    ∙ first-is found (start + 1) count proof gadget (omega arith) (omega arith) none here)
    (eq-or-lt_of_le from)

-- ---- whether all hold

with-true : (b : Bool) → (b && true) ≡ b
with-true true = refl
with-true false = refl

-- one proof more
pub all-more : (holds : ℕ → Bool) (count : ℕ) → list_all holds (range_with_len 0 (count + 1)) ≡ (list_all holds (range_with_len 0 count) && holds count)
all-more holds count =
    ap (λ (l : List ℕ). list_all holds l) (range-more count)
    ∙ list_all-append holds (range_with_len 0 count) (count ∷ [])
    ∙ ap (λ (b : Bool). list_all holds (range_with_len 0 count) && b) (with-true (holds count))

-- the answer so far, and with it that on one proof more
pub both-hold : (next hold holds : Bool) → hold ≡ true → next ≡ holds → next ≡ (hold && holds)
both-hold next hold holds before is = is ∙ ap (λ (b : Bool). b && holds) (sym before)

pub none-holds : (next hold holds : Bool) → hold ≡ false → next ≡ hold → next ≡ (hold && holds)
none-holds next hold holds before is = is ∙ before ∙ ap (λ (b : Bool). b && holds) (sym before)
