-- The numbers of calls among those of their gadget, one call more.
use Rattle.std.proofs.Common.{◌≡◌, ◌≢◌, ℕ, zero, suc, ◌+◌, ◌<◌, ◌≤◌, ◌⊎◌, inl, inr, Bool, true, false, List, [], ◌∷◌, ◌++◌, length, take, get_or, set, refl, sym, ◌∙◌, ap, subst, arith, below_more, ◌==◌, eqb}
use Rattle.std.proofs.lemmas.List.{take_more, get_or-set_same, get_or-set_other}
use Rattle.std.proofs.lemmas.Bool.Decides.{eqb_tells}
use Rattle.flp_meaning.specs.Gadgets.{times}
use Rattle.flp_plan.proofs.CallLemmas.{times_cons, times_joined}
use Rattle.flp_plan.proofs.TimesLemmas.{flag, one_if, none_if}

flag_small : (test : Bool) → flag test ≤ 1
flag_small true = omega arith
flag_small false = omega arith

pub times_length : (g : ℕ) (xs : List ℕ) → times g xs ≤ length xs
times_length g [] = omega arith
times_length g (x ∷ xs) =
    let here : times g (x ∷ xs) ≡ flag (x == g) + times g xs = times_cons g x xs in
    let small : flag (x == g) ≤ 1 = flag_small (x == g) in
    let rest : times g xs ≤ length xs = times_length g xs in
    omega arith

-- one more call
pub times_next : (called : List ℕ) (i g : ℕ) → i < length called
    → times g (take (i + 1) called) ≡ times g (take i called) + flag (get_or called i 0 == g)
times_next called i g below =
    let split : take (i + 1) called ≡ take i called ++ get_or called i 0 ∷ [] = take_more called i 0 below in
    let joined : times g (take i called ++ get_or called i 0 ∷ []) ≡ times g (take i called) + times g (get_or called i 0 ∷ []) =
    times_joined g (take i called) (get_or called i 0 ∷ []) in
    let last : times g (get_or called i 0 ∷ []) ≡ flag (get_or called i 0 == g) + 0 = times_cons g (get_or called i 0) [] in
    ap (times g) split ∙ (omega arith)

pub count_step : (called counts : List ℕ) (i g₀ next bound : ℕ) → get_or called i 0 ≡ g₀ → i < length called → length counts ≡ bound → g₀ < bound
    → ((g : ℕ) → g < bound → get_or counts g 0 ≡ times g (take i called)) → next ≡ get_or counts g₀ 0 + 1
    → (g : ℕ) → g < bound → get_or (set counts g₀ next) g 0 ≡ times g (take (i + 1) called)
count_step called counts i g₀ next bound here below size there so_far is g within =
    by_test (eqb_tells g₀ g)
  where
    by_test : ((eqb g₀ g ≡ true) × (g₀ ≡ g)) ⊎ ((eqb g₀ g ≡ false) × (g₀ ≢ g)) → get_or (set counts g₀ next) g 0 ≡ times g (take (i + 1) called)
    by_test (inl told) =
        let more : times g (take (i + 1) called) ≡ times g (take i called) + flag (get_or called i 0 == g) = times_next called i g below in
        let own : flag (get_or called i 0 == g) ≡ 1 = one_if (get_or called i 0) g (here ∙ told.1) in
        let old : get_or counts g 0 ≡ times g (take i called) = so_far g within in
        let new : next ≡ get_or counts g 0 + 1 = is ∙ ap (λ (n : ℕ). get_or counts n 0 + 1) told.1 in
        ap (λ (n : ℕ). get_or (set counts n next) g 0) told.1 ∙ get_or-set_same counts g next 0 (omega arith) ∙ (omega arith)
    by_test (inr told) =
        let more : times g (take (i + 1) called) ≡ times g (take i called) + flag (get_or called i 0 == g) = times_next called i g below in
        let none : flag (get_or called i 0 == g) ≡ 0 = none_if (get_or called i 0) g (λ e. told.1 (sym here ∙ e)) in
        let old : get_or counts g 0 ≡ times g (take i called) = so_far g within in
        get_or-set_other counts g₀ g next 0 (λ e. told.1 (sym e)) ∙ (omega arith)

-- the number of the next call is how often its gadget was called with it
pub next_is : (called counts : List ℕ) (i g₀ next bound : ℕ) → get_or called i 0 ≡ g₀ → i < length called → g₀ < bound
    → ((g : ℕ) → g < bound → get_or counts g 0 ≡ times g (take i called)) → next ≡ get_or counts g₀ 0 + 1
    → next ≡ times (get_or called i 0) (take (i + 1) called)
next_is called counts i g₀ next bound here below there so_far is =
    let g : ℕ = get_or called i 0 in
    let more : times g (take (i + 1) called) ≡ times g (take i called) + flag (get_or called i 0 == g) = times_next called i g below in
    let own : flag (get_or called i 0 == g) ≡ 1 = one_if g g refl in
    let old : get_or counts g 0 ≡ times g (take i called) = so_far g (subst (λ (n : ℕ). n < bound) (sym here) there) in
    let new : next ≡ get_or counts g 0 + 1 = is ∙ ap (λ (n : ℕ). get_or counts n 0 + 1) (sym here) in
    omega arith

get_or-front : (xs : List ℕ) (x k : ℕ) → k < length xs → get_or (xs ++ x ∷ []) k 0 ≡ get_or xs k 0
get_or-front [] x k below = absurd (omega arith)
get_or-front (y ∷ xs) x zero below = refl
get_or-front (y ∷ xs) x (suc k) below = get_or-front xs x k (omega arith)

get_or-last : (xs : List ℕ) (x : ℕ) → get_or (xs ++ x ∷ []) (length xs) 0 ≡ x
get_or-last [] x = refl
get_or-last (y ∷ xs) x = get_or-last xs x

pub numbers_step : (numbers : List ℕ) (i next : ℕ) (right : ℕ → ℕ) → length numbers ≡ i
    → ((k : ℕ) → k < i → get_or numbers k 0 ≡ right k) → next ≡ right i
    → (k : ℕ) → k < i + 1 → get_or (numbers ++ next ∷ []) k 0 ≡ right k
numbers_step numbers i next right size so_far is =
    below_more (λ k. get_or (numbers ++ next ∷ []) k 0 ≡ right k) i
    (λ k below. get_or-front numbers next k (omega arith) ∙ so_far k below)
    (subst (λ (n : ℕ). get_or (numbers ++ next ∷ []) n 0 ≡ right i) size (get_or-last numbers next ∙ is))

pub length_push : (xs : List ℕ) (x : ℕ) → length (xs ++ x ∷ []) ≡ length xs + 1
length_push [] x = omega arith
length_push (y ∷ xs) x = let rest : length (xs ++ x ∷ []) ≡ length xs + 1 = length_push xs x in omega arith
