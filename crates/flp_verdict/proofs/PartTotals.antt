-- Sums over a list that is put into parts.
use Rattle.std.proofs.Common.{◌≡◌, ℕ, zero, suc, ◌+◌, ◌%◌, ◌<◌, ◌≤◌, true, false, List, [], ◌∷◌, refl, ◌∙◌, arith, ⊎_elim}
use Rattle.std.specs.Prelude.{◌==◌, if◌then◌else◌, filter}
use Rattle.std.specs.List.{range_with_len, sum_by}
use Rattle.std.proofs.lemmas.Bool.{cases_Bool, eq-eqb, eqb-true}
use Rattle.std.proofs.lemmas.List.Sums.{sum_by-cons}
use Rattle.flp_field.specs.Word.{modulus}

-- a value that one number alone adds: nothing in front of it, and all where it is met
abbrev hit : ℕ → ℕ → ℕ → ℕ
hit at value k = if at == k then value else 0

hit-other : (at value k : ℕ) → (at ≡ k → ⊥) → hit at value k ≡ 0
hit-other at value k other =
    ⊎_elim (λ (is : (at == k) ≡ true). absurd (other (eqb-true at k is))) (λ (is : (at == k) ≡ false). rw is refl) (cases_Bool (at == k))

hit-here : (at value : ℕ) → hit at value at ≡ value
hit-here at value = let is : (at == at) ≡ true = eq-eqb at at refl in rw is refl

sum-missed : (at value first count : ℕ) → at < first → sum_by (hit at value) (range_with_len first count) ≡ 0
sum-missed at value first zero before = refl
sum-missed at value first (suc count) before =
    let here : hit at value first ≡ 0 = hit-other at value first (λ is. omega (arith, is)) in
    let rest : sum_by (hit at value) (range_with_len (first + 1) count) ≡ 0 = sum-missed at value (first + 1) count (omega arith) in
    let whole : sum_by (hit at value) (range_with_len first (suc count)) ≡ hit at value first + sum_by (hit at value) (range_with_len (first + 1) count) =
    sum_by-cons (hit at value) first (range_with_len (first + 1) count) in
    omega arith

sum-hit : (at value first count : ℕ) → first ≤ at → at < first + count → sum_by (hit at value) (range_with_len first count) ≡ value
sum-hit at value first zero low high = absurd (omega arith)
sum-hit at value first (suc count) low high =
    let whole : sum_by (hit at value) (range_with_len first (suc count)) ≡ hit at value first + sum_by (hit at value) (range_with_len (first + 1) count) =
    sum_by-cons (hit at value) first (range_with_len (first + 1) count) in
    ⊎_elim
    (λ (is : (at == first) ≡ true).
    let same : at ≡ first = eqb-true at first is in
    let here : hit at value first ≡ value = rw is refl in
    let rest : sum_by (hit at value) (range_with_len (first + 1) count) ≡ 0 = sum-missed at value (first + 1) count (omega (arith, same)) in
    omega arith)
    (λ (is : (at == first) ≡ false).
    let here : hit at value first ≡ 0 = rw is refl in
    let other : at ≡ first → ⊥ = λ same. (let yes : (at == first) ≡ true = eq-eqb at first same in let no : ⊥ = cc (yes, is) in no) in
    let less : first + 1 ≤ at = omega (arith, low, other) in
    let rest : sum_by (hit at value) (range_with_len (first + 1) count) ≡ value = sum-hit at value (first + 1) count less (omega arith) in
    omega arith)
    (cases_Bool (at == first))

-- the sum of two sums
sum-plus : {X : Type 0} (f g : X → ℕ) (xs : List X) → sum_by (λ x. f x + g x) xs ≡ sum_by f xs + sum_by g xs
sum-plus f g [] = refl
sum-plus f g (x ∷ xs) =
    let both = sum_by-cons (λ y. f y + g y) x xs in
    let left = sum_by-cons f x xs in
    let right = sum_by-cons g x xs in
    let rest = sum-plus f g xs in
    omega (arith, both, left, right, rest)

sum-none : {X : Type 0} (xs : List X) → sum_by (λ x. 0) xs ≡ 0
sum-none [] = refl
sum-none (x ∷ xs) = let whole = sum_by-cons (λ y. 0) x xs in let rest = sum-none xs in omega (arith, whole, rest)

-- what one element adds to its part
part-cons : {X : Type 0} (f : X → ℕ) (part : X → ℕ) (x : X) (xs : List X) (k : ℕ)
    → sum_by f (filter (λ y. part y == k) (x ∷ xs)) ≡ hit (part x) (f x) k + sum_by f (filter (λ y. part y == k) xs)
part-cons f part x xs k =
    ⊎_elim
    (λ (is : (part x == k) ≡ true). rw is (sum_by-cons f x (filter (λ y. part y == k) xs)))
    (λ (is : (part x == k) ≡ false).
    let rest = sum_by f (filter (λ y. part y == k) xs) in
    let same : rest ≡ 0 + rest = omega arith in
    rw is same)
    (cases_Bool (part x == k))

-- the sums of all parts are the sum of the whole
pub parts-total : {X : Type 0} (f : X → ℕ) (part : X → ℕ) (parts : ℕ) → ((x : X) → part x < parts) → (xs : List X)
    → sum_by (λ k. sum_by f (filter (λ y. part y == k) xs)) (range_with_len 0 parts) ≡ sum_by f xs
parts-total f part parts below [] = sum-none (range_with_len 0 parts)
parts-total f part parts below (x ∷ xs) =
    let all = range_with_len 0 parts in
    let each : sum_by (λ k. sum_by f (filter (λ y. part y == k) (x ∷ xs))) all ≡ sum_by (λ k. hit (part x) (f x) k + sum_by f (filter (λ y. part y == k) xs)) all =
    (λ i. sum_by (λ k. part-cons f part x xs k i) all) in
    let split = sum-plus (hit (part x) (f x)) (λ k. sum_by f (filter (λ y. part y == k) xs)) all in
    let here : sum_by (hit (part x) (f x)) all ≡ f x = sum-hit (part x) (f x) 0 parts (omega arith) (omega (arith, below x)) in
    let rest = parts-total f part parts below xs in
    let whole = sum_by-cons f x xs in
    each ∙ split ∙ omega (arith, here, rest, whole)

-- remainders may be taken before or after
pub sum-remainders : {X : Type 0} (f : X → ℕ) (xs : List X) → sum_by (λ x. f x % modulus) xs % modulus ≡ sum_by f xs % modulus
sum-remainders f [] = refl
sum-remainders f (x ∷ xs) =
    let left = sum_by-cons (λ y. f y % modulus) x xs in
    let right = sum_by-cons f x xs in
    let rest = sum-remainders f xs in
    omega (arith, left, right, rest)
