-- Bits of which one is 1.
use Rattle.std.proofs.Common.{ℕ, zero, suc, ◌+◌, ◌-◌, ◌*◌, ◌<◌, ◌≤◌, ◌≡◌, Bool, true, false, cond, eqb, Option, None, Some, List, [], ◌∷◌, ◌++◌, length, drop, get_or, replicate, position, sym, ap, ap₂, ◌∙◌, refl, arith}
use Rattle.std.specs.Option.{unwrap_or}
use Rattle.std.specs.List.{position_from}
use Rattle.std.proofs.lemmas.Bool.{ne_eqb, eqb-true}
use Rattle.std.proofs.lemmas.Iterator.Adapters.{position_from-zero}
use Rattle.std.proofs.lemmas.List.Quantifiers.{position-Some}
use Rattle.std.proofs.lemmas.List.Elements.{All-head, All-tail}
use Rattle.std.proofs.lemmas.List.Sums.{sum_by-cons, count_by-le-length}
use Rattle.std.proofs.lemmas.List.Folds.{sum_by-replicate}
use Rattle.flp_circuits.specs.Encoding.{one_at, weight_of}
use Rattle.flp_joint.specs.Decoding.{AreBits}

weight-cons : (n : ℕ) (more : List ℕ) → weight_of (n ∷ more) ≡ cond (eqb n 1) 1 0 + weight_of more
weight-cons n more = sum_by-cons (λ (x : ℕ). cond (eqb x 1) 1 0) n more

weight-zero : (more : List ℕ) → weight_of (0 ∷ more) ≡ weight_of more
weight-zero more = weight-cons 0 more ∙ (let same : 0 + weight_of more ≡ weight_of more = omega arith in same)

weight-one : (more : List ℕ) → weight_of (1 ∷ more) ≡ suc (weight_of more)
weight-one more = weight-cons 1 more ∙ (let same : 1 + weight_of more ≡ suc (weight_of more) = omega arith in same)

pub weight-le-length : (x : List ℕ) → weight_of x ≤ length x
weight-le-length x = count_by-le-length (λ n. eqb n 1) x

-- one 1 has weight 1
pub weight-one_at : (before after : ℕ) → weight_of (replicate before 0 ++ 1 ∷ replicate after 0) ≡ 1
weight-one_at zero after =
    weight-one (replicate after 0) ∙ ap suc (sum_by-replicate (λ (x : ℕ). cond (eqb x 1) 1 0) after 0 ∙ (let none : after * 0 ≡ 0 = omega arith in none))
weight-one_at (suc before) after = weight-zero (replicate before 0 ++ 1 ∷ replicate after 0) ∙ weight-one_at before after

-- bits without weight are 0
zeros : (x : List ℕ) → AreBits x → weight_of x ≡ 0 → replicate (length x) 0 ≡ x
zeros [] h e = refl
zeros (zero ∷ more) h e = ap (λ (l : List ℕ). 0 ∷ l) (zeros more (All-tail (λ n. n < 2) 0 more h) (sym (weight-zero more) ∙ e))
zeros (suc zero ∷ more) h e = absurd (omega (arith, weight-one more))
zeros (suc (suc n) ∷ more) h e = absurd (let small : suc (suc n) < 2 = All-head (λ n. n < 2) (suc (suc n)) more h in omega arith)

-- a 1 has weight
some_one : (x : List ℕ) (place : ℕ) → place < length x → get_or x place 0 ≡ 1 → 1 ≤ weight_of x
some_one [] place h e = absurd (omega arith)
some_one (w ∷ more) zero h e = rw e (omega (arith, weight-one more))
some_one (w ∷ more) (suc place) h e = omega (arith, weight-cons w more, some_one more place (omega arith) e)

-- where the weight is 1, each place of a 1 tells the bits
pub one_place : (x : List ℕ) (place : ℕ) → AreBits x → weight_of x ≡ 1 → place < length x → get_or x place 0 ≡ 1 → one_at (length x) place ≡ x
one_place [] place bits one h e = absurd (omega arith)
one_place (w ∷ more) zero bits one h e =
    let rest : weight_of more ≡ 0 = omega (arith, weight-one more, ap (λ (k : ℕ). weight_of (k ∷ more)) (sym e) ∙ one) in
    let left : length (w ∷ more) - 1 ≡ length more = omega arith in
    ap₂ (λ (a : ℕ) (l : List ℕ). a ∷ l) (sym e) (ap (λ (n : ℕ). replicate n 0) left ∙ zeros more (All-tail (λ n. n < 2) w more bits) rest)
one_place (zero ∷ more) (suc place) bits one h e =
    let left : length (0 ∷ more) - suc (suc place) ≡ length more - suc place = omega arith in
    ap (λ (n : ℕ). 0 ∷ replicate place 0 ++ 1 ∷ replicate n 0) left
    ∙ ap (λ (l : List ℕ). 0 ∷ l) (one_place more place (All-tail (λ n. n < 2) 0 more bits) (sym (weight-zero more) ∙ one) (omega arith) e)
one_place (suc zero ∷ more) (suc place) bits one h e = absurd (omega (arith, weight-one more, some_one more place (omega arith) e))
one_place (suc (suc n) ∷ more) (suc place) bits one h e = absurd (let small : suc (suc n) < 2 = All-head (λ n. n < 2) (suc (suc n)) more bits in omega arith)

-- a place of a 1
pub record IsPlaceOfOne (x : List ℕ) : Type 0 where
  pub place : ℕ
  pub below : place < length x
  pub is_one : get_or x place 0 ≡ 1

later : (w : ℕ) (more : List ℕ) → IsPlaceOfOne more → IsPlaceOfOne (w ∷ more)
later w more found = record { place = suc found.place; below = omega (arith, found.below); is_one = found.is_one }

pub find_one : (x : List ℕ) → 1 ≤ weight_of x → IsPlaceOfOne x
find_one [] h = absurd (omega arith)
find_one (zero ∷ more) h = later 0 more (find_one more (omega (arith, weight-zero more)))
find_one (suc zero ∷ more) h = record { place = 0; below = omega arith; is_one = refl }
find_one (suc (suc n) ∷ more) h =
    let same : weight_of (suc (suc n) ∷ more) ≡ 0 + weight_of more =
    weight-cons (suc (suc n)) more ∙ ap (λ (b : Bool). cond b 1 0 + weight_of more) (ne_eqb (suc (suc n)) 1 (omega arith)) in
    later (suc (suc n)) more (find_one more (omega arith))

-- the list tells the place
pub place_same : (a b m n : ℕ) → ◌≡◌ {A = List ℕ} (replicate a 0 ++ 1 ∷ replicate m 0) (replicate b 0 ++ 1 ∷ replicate n 0) → a ≡ b
place_same zero zero m n e = refl
place_same zero (suc b) m n e = absurd (let apart : ◌≡◌ {A = ℕ} 1 0 = ap (λ (l : List ℕ). get_or l 0 0) e in omega arith)
place_same (suc a) zero m n e = absurd (let apart : ◌≡◌ {A = ℕ} 0 1 = ap (λ (l : List ℕ). get_or l 0 0) e in omega arith)
place_same (suc a) (suc b) m n e = ap suc (place_same a b m n (ap (λ (l : List ℕ). drop 1 l) e))

-- where no 1 is found there is no weight
none_weighs : (x : List ℕ) (i : ℕ) → position_from (λ n. eqb n 1) i x ≡ None → weight_of x ≡ 0
none_weighs [] i e = refl
none_weighs (w ∷ more) i e = weight-cons w more ∙ passed (eqb w 1) (position_from (λ n. eqb n 1) (i + 1) more) e (none_weighs more (i + 1))
  where
    passed : (b : Bool) (o : Option ℕ) → cond b (Some i) o ≡ None → (o ≡ None → weight_of more ≡ 0) → cond b 1 0 + weight_of more ≡ 0
    passed true o e rest = cc
    passed false o e rest = omega (arith, rest e)

-- the first 1 is found
pub found : (x : List ℕ) (place : ℕ) → AreBits x → weight_of x ≡ 1 → place ≡ unwrap_or (position (λ n. eqb n 1) x) 0 → (place < length x) × (one_at (length x) place ≡ x)
found x place bits one e = by_cases (position (λ n. eqb n 1) x) refl
  where
    by_cases : (o : Option ℕ) → position (λ n. eqb n 1) x ≡ o → (place < length x) × (one_at (length x) place ≡ x)
    by_cases None none = absurd (omega (arith, none_weighs x 0 (sym (position_from-zero (λ n. eqb n 1) x) ∙ none)))
    by_cases (Some i) some =
        let there = position-Some (λ n. eqb n 1) x i 0 some in
        let same : place ≡ i = e ∙ ap (λ (o : Option ℕ). unwrap_or o 0) some in
        let below : place < length x = omega (arith, there.0) in
        (below, one_place x place bits one below (ap (λ (k : ℕ). get_or x k 0) same ∙ eqb-true (get_or x i 0) 1 there.1))
