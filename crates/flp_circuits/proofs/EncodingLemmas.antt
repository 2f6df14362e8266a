-- What a measurement that is not refused keeps to.
use Rattle.std.proofs.Common.{ℕ, zero, suc, ◌+◌, ◌<◌, ◌≤◌, ◌≡◌, Bool, true, false, cond, eqb, ltb, leb, List, [], ◌∷◌, length, Option, None, Some, All, sum, sym, ap, ◌∙◌, refl, arith}
use Rattle.std.specs.Option.{option_or}
use Rattle.std.proofs.lemmas.Bool.{ltb-true, leb-true, eqb-true}
use Rattle.std.proofs.lemmas.List.Elements.{All-nil, All-cons, All-head, All-tail}
use Rattle.std.proofs.lemmas.List.Sums.{sum_by-cons}
use Rattle.flp_syntax.specs.declared.syntax.Params.{Params}
use Rattle.flp_syntax.specs.declared.syntax.Params.TheVariants.{Multihot}
use Rattle.flp_circuits.specs.Sizes.{input_len_of}
use Rattle.flp_circuits.specs.Encoding.{range_of, range_fault, weight_of, weight_fault, meas_fault}

pub cond_none : {A : Type 0} (b : Bool) (o : Option A) (x : A) → cond b o (Some x) ≡ None → (b ≡ true) × (o ≡ None)
cond_none true o x h = (refl, h)
cond_none false o x h = cc

pub option_or_none : {A : Type 0} (o p : Option A) → option_or o p ≡ None → (o ≡ None) × (p ≡ None)
option_or_none None p h = (refl, h)
option_or_none (Some x) p h = cc

-- no number is out of range
pub range_all : (range place : ℕ) (input : List ℕ) → range_fault range place input ≡ None → All (λ n. n < range) input
range_all range place [] h = All-nil (λ n. n < range)
range_all range place (n ∷ more) h =
    let parts = cond_none (ltb n range) (range_fault range (suc place) more) _ h in
    All-cons (λ n. n < range) n more (ltb-true n range parts.0) (range_all range (suc place) more parts.1)

-- a measurement that is not refused has the circuit's count of numbers, each in range, and no more ones than the weight
pub record IsTaken (params : Params) (input : List ℕ) : Type 0 where
  pub count : length input ≡ input_len_of params
  pub in_range : All (λ n. n < range_of params) input
  pub light : weight_fault params input ≡ None

pub taken : (params : Params) (input : List ℕ) → meas_fault params input ≡ None → IsTaken params input
taken params input h =
    let parts = cond_none (eqb (length input) (input_len_of params)) (option_or (range_fault (range_of params) 0 input) (weight_fault params input)) _ h in
    let faults = option_or_none (range_fault (range_of params) 0 input) (weight_fault params input) parts.1 in
    record { count = eqb-true _ _ parts.0; in_range = range_all (range_of params) 0 input faults.0; light = faults.1 }

-- of numbers that are 0 or 1, the sum is how many are 1
pub weight_of-bits : (input : List ℕ) → All (λ n. n < 2) input → weight_of input ≡ sum input
weight_of-bits [] h = refl
weight_of-bits (n ∷ more) h =
    let bit : n < 2 = All-head (λ n. n < 2) n more h in
    let rest : weight_of more ≡ sum more = weight_of-bits more (All-tail (λ n. n < 2) n more h) in
    let here : cond (eqb n 1) 1 0 ≡ n = is_one n bit in
    sum_by-cons (λ (x : ℕ). cond (eqb x 1) 1 0) n more ∙ ap (λ (x : ℕ). x + weight_of more) here ∙ ap (λ (x : ℕ). n + x) rest ∙ sym (sum_by-cons (λ (x : ℕ). x) n more)
  where
    is_one : (n : ℕ) → n < 2 → cond (eqb n 1) 1 0 ≡ n
    is_one zero h = refl
    is_one (suc zero) h = refl
    is_one (suc (suc n)) h = absurd (omega arith)

-- so the sum of a bounded multi-hot vector is at most the weight
pub multihot_light : (length weight chunk : ℕ) (input : List ℕ) → IsTaken (Multihot length weight chunk) input → sum input ≤ weight
multihot_light length weight chunk input h =
    let parts = cond_none (leb (weight_of input) weight) None _ h.light in
    let light : weight_of input ≤ weight = leb-true (weight_of input) weight parts.0 in
    omega (arith, weight_of-bits input h.in_range)
