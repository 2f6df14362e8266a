-- What runs give, however many calls were made before them; and sums over the turns of loops.
use Rattle.std.proofs.Common.{ℕ, ◌+◌, ◌-◌, ◌≡◌, List, [], ◌∷◌, ◌++◌, map, sym, ap, ap₂, ◌∙◌, refl, arith}
use Rattle.std.specs.List.{sum_by, flat_map}
use Rattle.std.proofs.lemmas.List.Sums.{sum_by-cons}
use Rattle.flp_syntax.specs.Scope.{turns, numbers_from}
use Rattle.flp_meaning.specs.Meaning.{Call, Run, plain, map_run, in_turn, total, concatenation, all_results, Reading, call_run, Results, no_results, join_results}

-- the run gives this value, wherever it begins
pub record Gives {A : Type 0} (part : Run A) (value : A) : Type 0 where
  pub at : (made : ℕ) → (part made).value ≡ value

pub gives_as : {A : Type 0} (part : Run A) (v w : A) → Gives part v → v ≡ w → Gives part w
gives_as part v w h e = record { at = λ made. h.at made ∙ e }

pub gives_plain : {A : Type 0} (value : A) → Gives (plain value) value
gives_plain value = record { at = λ made. refl }

pub gives_changed : {A B : Type 0} (change : A → B) (part : Run A) (v : A) → Gives part v → Gives (map_run change part) (change v)
gives_changed change part v h = record { at = λ made. ap change (h.at made) }

pub gives_nil : {A B : Type 0} (join : A → B → B) (none : B) → Gives (in_turn join none []) none
gives_nil join none = record { at = λ made. refl }

pub gives_cons : {A B : Type 0} (join : A → B → B) (none : B) (part : Run A) (more : List (Run A)) (a : A) (b : B) → Gives part a → Gives (in_turn join none more) b → Gives (in_turn join none (part ∷ more)) (join a b)
gives_cons join none part more a b h k = record { at = λ made. ap₂ join (h.at made) (k.at _) }

-- values joined from the last to the first
abbrev pub joined : {A B : Type 0} → (A → B → B) → B → List A → B
joined join none [] = none
joined join none (x ∷ more) = join x (joined join none more)

-- each turn of a loop gives a value
pub gives_turns : {A B : Type 0} (join : A → B → B) (none : B) (part : ℕ → Run A) (value : ℕ → A) → ((turn : ℕ) → Gives (part turn) (value turn)) → (list : List ℕ) → Gives (in_turn join none (map part list)) (joined join none (map value list))
gives_turns join none part value each [] = gives_nil join none
gives_turns join none part value each (turn ∷ more) =
    gives_cons join none (part turn) (map part more) (value turn) (joined join none (map value more)) (each turn) (gives_turns join none part value each more)

pub joined-sum : (f : ℕ → ℕ) (list : List ℕ) → joined (λ (a b : ℕ). a + b) 0 (map f list) ≡ sum_by f list
joined-sum f [] = refl
joined-sum f (t ∷ more) = ap (λ (x : ℕ). f t + x) (joined-sum f more) ∙ sym (sum_by-cons f t more)

pub joined-lists : (f : ℕ → List ℕ) (list : List ℕ) → joined (λ (a b : List ℕ). a ++ b) [] (map f list) ≡ flat_map f list
joined-lists f [] = refl
joined-lists f (t ∷ more) = ap (λ (x : List ℕ). f t ++ x) (joined-lists f more)

-- a loop from 0 has so many turns
pub turns-zero : (n : ℕ) → turns 0 n ≡ numbers_from 0 n
turns-zero n = let whole : n - 0 ≡ n = omega arith in ap (numbers_from 0) whole

-- the sum over a loop from 0
pub gives_sum : (part : ℕ → Run ℕ) (value : ℕ → ℕ) (n : ℕ) → ((turn : ℕ) → Gives (part turn) (value turn)) → Gives (total (map part (turns 0 n))) (sum_by value (numbers_from 0 n))
gives_sum part value n each =
    gives_as (total (map part (turns 0 n))) (joined (λ (a b : ℕ). a + b) 0 (map value (turns 0 n))) (sum_by value (numbers_from 0 n)) (gives_turns (λ (a b : ℕ). a + b) 0 part value each (turns 0 n))
    (joined-sum value (turns 0 n) ∙ ap (sum_by value) (turns-zero n))

-- the arguments that a loop from 0 lists
pub gives_list : (part : ℕ → Run (List ℕ)) (value : ℕ → List ℕ) (n : ℕ) → ((turn : ℕ) → Gives (part turn) (value turn)) → Gives (concatenation (map part (turns 0 n))) (flat_map value (numbers_from 0 n))
gives_list part value n each =
    gives_as (concatenation (map part (turns 0 n))) (joined (λ (a b : List ℕ). a ++ b) [] (map value (turns 0 n))) (flat_map value (numbers_from 0 n)) (gives_turns (λ (a b : List ℕ). a ++ b) [] part value each (turns 0 n))
    (joined-lists value (turns 0 n) ∙ ap (flat_map value) (turns-zero n))

abbrev pub checks_only : List ℕ → Results
checks_only list = record { checks = list; outs = [] }

abbrev pub outs_only : List ℕ → Results
outs_only list = record { checks = []; outs = list }

pub joined-checks : (f : ℕ → ℕ) (list : List ℕ) → joined join_results no_results (map (λ t. checks_only (f t ∷ [])) list) ≡ checks_only (map f list)
joined-checks f [] = refl
joined-checks f (t ∷ more) = ap (join_results (checks_only (f t ∷ []))) (joined-checks f more)

pub joined-outs : (f : ℕ → ℕ) (list : List ℕ) → joined join_results no_results (map (λ t. outs_only (f t ∷ [])) list) ≡ outs_only (map f list)
joined-outs f [] = refl
joined-outs f (t ∷ more) = ap (join_results (outs_only (f t ∷ []))) (joined-outs f more)

-- a loop from 0 with one check, or one out, a turn
pub gives_checks : (part : ℕ → Run Results) (f : ℕ → ℕ) (n : ℕ) → ((turn : ℕ) → Gives (part turn) (checks_only (f turn ∷ []))) → Gives (all_results (map part (turns 0 n))) (checks_only (map f (numbers_from 0 n)))
gives_checks part f n each =
    gives_as (all_results (map part (turns 0 n))) (joined join_results no_results (map (λ t. checks_only (f t ∷ [])) (turns 0 n))) (checks_only (map f (numbers_from 0 n))) (gives_turns join_results no_results part (λ t. checks_only (f t ∷ [])) each (turns 0 n))
    (joined-checks f (turns 0 n) ∙ ap (λ (list : List ℕ). checks_only (map f list)) (turns-zero n))

pub gives_outs : (part : ℕ → Run Results) (f : ℕ → ℕ) (n : ℕ) → ((turn : ℕ) → Gives (part turn) (outs_only (f turn ∷ []))) → Gives (all_results (map part (turns 0 n))) (outs_only (map f (numbers_from 0 n)))
gives_outs part f n each =
    gives_as (all_results (map part (turns 0 n))) (joined join_results no_results (map (λ t. outs_only (f t ∷ [])) (turns 0 n))) (outs_only (map f (numbers_from 0 n))) (gives_turns join_results no_results part (λ t. outs_only (f t ∷ [])) each (turns 0 n))
    (joined-outs f (turns 0 n) ∙ ap (λ (list : List ℕ). outs_only (map f list)) (turns-zero n))

-- a call answers by what its arguments give, where answers do not depend on the number of the call
pub gives_called : (reading : Reading) (gadget : ℕ) (args : Run (List ℕ)) (inputs : List ℕ) (answer : Call → ℕ) → ((number : ℕ) (call : Call) → reading.answer number call ≡ answer call) → Gives args inputs → Gives (call_run reading gadget args) (answer (record { gadget = gadget; inputs = inputs }))
gives_called reading gadget args inputs answer direct h =
    record { at = λ made. direct _ _ ∙ ap (λ (list : List ℕ). answer (record { gadget = gadget; inputs = list })) (h.at made) }
