-- Lists without a fault: events that are none, and their parts.
use Rattle.std.proofs.Common.{◌≡◌, ◌≢◌, ℕ, zero, suc, ◌+◌, ◌^◌, ◌<◌, ◌≤◌, Bool, true, false, cond, leb, ltb, List, [], ◌∷◌, ◌++◌, Ok, refl, sym, subst, ⊎_elim, arith}
use Rattle.std.specs.List.{flat_map}
use Rattle.std.specs.Prelude.{not}
use Rattle.std.proofs.lemmas.Bool.{cases_eq, leb-true, ltb-true}
use Rattle.flp_syntax.specs.Scope.{numbers_from}
use Rattle.flp_syntax.specs.Fits.{CanMove}
use Rattle.flp_check.specs.declared.flaw.Rule.{Rule}
use Rattle.flp_check.specs.Flaws.{flaw_if}
use Rattle.flp_check.specs.Events.{Event, visit, bad_index, bad_arity, gadget_call, a_check, an_out, IsClean, in_range, in_words, step_events}
use Rattle.flp_check.specs.Counts.{Counts, meet, walk}
use Rattle.flp_check.proofs.Walking.{go_on_ok}

-- where two lists together are empty, each is
pub append-none : {A : Type 0} (xs ys : List A) → xs ++ ys ≡ [] → (xs ≡ []) × (ys ≡ [])
append-none [] ys h = (refl, h)
append-none (x ∷ xs) ys h = cc

-- ---- flaws

pub no_flaw : (flawed : Bool) (at : ℕ) (rule : Rule) → flaw_if flawed at rule ≡ [] → flawed ≡ false
no_flaw true at rule h = cc
no_flaw false at rule h = refl

pub is_bound : (known : Bool) (at : ℕ) (rule : Rule) → flaw_if (not known) at rule ≡ [] → known ≡ true
is_bound true at rule h = refl
is_bound false at rule h = cc

-- ---- events

-- a walk to its end met no fault
pub walk_clean : (es : List Event) (a b : Counts) → walk a es ≡ Ok b → IsClean es
walk_clean [] a b h = tt
walk_clean (visit ∷ es) a b h = let m = go_on_ok (meet a visit) (λ c. walk c es) b h in walk_clean es m.0 b m.2
walk_clean (bad_index at ∷ es) a b h = cc
walk_clean (bad_arity at ∷ es) a b h = cc
walk_clean (gadget_call g ∷ es) a b h = let m = go_on_ok (meet a (gadget_call g)) (λ c. walk c es) b h in walk_clean es m.0 b m.2
walk_clean (a_check ∷ es) a b h = let m = go_on_ok (meet a a_check) (λ c. walk c es) b h in walk_clean es m.0 b m.2
walk_clean (an_out ∷ es) a b h = let m = go_on_ok (meet a an_out) (λ c. walk c es) b h in walk_clean es m.0 b m.2

pub clean_both : (xs ys : List Event) → IsClean (xs ++ ys) → IsClean xs × IsClean ys
clean_both [] ys h = (tt, h)
clean_both (visit ∷ xs) ys h = clean_both xs ys h
clean_both (bad_index at ∷ xs) ys h = absurd h
clean_both (bad_arity at ∷ xs) ys h = absurd h
clean_both (gadget_call g ∷ xs) ys h = clean_both xs ys h
clean_both (a_check ∷ xs) ys h = clean_both xs ys h
clean_both (an_out ∷ xs) ys h = clean_both xs ys h

pub clean_left : (xs ys : List Event) → IsClean (xs ++ ys) → IsClean xs
clean_left xs ys h = (clean_both xs ys h).0

pub clean_right : (xs ys : List Event) → IsClean (xs ++ ys) → IsClean ys
clean_right xs ys h = (clean_both xs ys h).1

-- a turn of a loop
pub clean_turn : (f : ℕ → List Event) (n i : ℕ) → IsClean (flat_map f (numbers_from i n)) → (v : ℕ) → i ≤ v → v < i + n → IsClean (f v)
clean_turn f zero i h v low high = absurd (omega arith)
clean_turn f (suc n) i h v low high =
    let both = clean_both (f i) (flat_map f (numbers_from (suc i) n)) h in
    let P : ℕ → Type 0 = λ w. IsClean (f w) in
    ⊎_elim (λ (e : v ≡ i). subst P (sym e) both.0) (λ (ne : v ≢ i). clean_turn f n (suc i) both.1 v (omega arith) (omega arith)) (cases_eq v i)

-- ---- what tests that find no fault say

test_holds : (b : Bool) (at : ℕ) → IsClean (cond b [] (bad_index at ∷ [])) → b ≡ true
test_holds true at h = refl
test_holds false at h = absurd h

pub clean_range : (at value : ℕ) → IsClean (in_range at value) → value < 2 ^ 32
clean_range at value h = let few : value ≤ 4294967295 = leb-true value 4294967295 (test_holds (leb value 4294967295) at h) in omega arith

pub clean_words : (at value words : ℕ) → IsClean (in_words at value words) → value < words
clean_words at value words h = ltb-true value words (test_holds (ltb value words) at h)

pub clean_step : (at : ℕ) (minus : Bool) (front value : ℕ) → IsClean (step_events at minus front value) → CanMove minus front value
clean_step at true front value h = leb-true value front (test_holds (leb value front) at h)
clean_step at false front value h = clean_range at (front + value) h

pub clean_arity : (b : Bool) (gadget at : ℕ) → IsClean (cond b (gadget_call gadget ∷ []) (bad_arity at ∷ [])) → b ≡ true
clean_arity true gadget at h = refl
clean_arity false gadget at h = absurd h
