-- Sums of lists of which one has a last word that is one more.
use Rattle.std.proofs.Common.{ℕ, ◌≡◌, ◌+◌, ◌-◌, ◌%◌, ◌<◌, ◌≤◌, List, [], ◌∷◌, length, set, get_or, slice_index, sym, ap, ◌∙◌, arith, ⊎_elim}
use Rattle.std.proofs.lemmas.Bool.{cases_eq}
use Rattle.std.proofs.lemmas.List.{length-set, get_or-set_same, get_or-set_other}
use Rattle.std.proofs.lemmas.List.Sums.{sum_by-cons}
use Rattle.flp_field.specs.Word.{modulus, word_sum}
use Rattle.flp_field.specs.Sums.{total_at, sum_of_lists}
use Rattle.flp_field.proofs.ListSums.{length-sum_of_lists, get_or-sum_of_lists, sum_of_lists_from}
use Rattle.flp_trial.proofs.RaisedLemmas.{raised}

-- the words of two lists with one index
total-two : (a b : List ℕ) (k : ℕ) → total_at (a ∷ b ∷ []) k ≡ slice_index a k + (slice_index b k + 0)
total-two a b k =
    sum_by-cons (λ (words : List ℕ). slice_index words k) a (b ∷ []) ∙ ap (λ (n : ℕ). slice_index a k + n) (sum_by-cons (λ (words : List ℕ). slice_index words k) b [])

pub raise-sum : (n : ℕ) (a b : List ℕ) → 1 ≤ n → length a ≡ n
    → sum_of_lists n (set a (n - 1) (word_sum (slice_index a (n - 1)) 1) ∷ b ∷ []) ≡ raised (sum_of_lists n (a ∷ b ∷ []))
raise-sum n a b some long =
    let j : ℕ = n - 1 in
    let v : ℕ = word_sum (slice_index a j) 1 in
    let whole : List ℕ = sum_of_lists n (a ∷ b ∷ []) in
    let w : ℕ = word_sum (slice_index whole j) 1 in
    let size : length whole ≡ n = length-sum_of_lists n (a ∷ b ∷ []) in
    let at : raised whole ≡ set whole j w = ap (λ (m : ℕ). set whole (m - 1) (word_sum (slice_index whole (m - 1)) 1)) size in
    let each : (k : ℕ) → k < n → get_or (set whole j w) k 0 ≡ total_at (set a j v ∷ b ∷ []) k % modulus =
    λ k below.
    let sums : get_or whole k 0 ≡ total_at (a ∷ b ∷ []) k % modulus = get_or-sum_of_lists n (a ∷ b ∷ []) k below in
    let old : total_at (a ∷ b ∷ []) k ≡ slice_index a k + (slice_index b k + 0) = total-two a b k in
    let new : total_at (set a j v ∷ b ∷ []) k ≡ slice_index (set a j v) k + (slice_index b k + 0) = total-two (set a j v) b k in
    ⊎_elim
    (λ (is : k ≡ j).
    let here : get_or (set whole j w) k 0 ≡ w = ap (λ (i : ℕ). get_or (set whole j w) i 0) is ∙ get_or-set_same whole j w 0 (omega (arith, size)) in
    let there : slice_index (set a j v) k ≡ v = ap (λ (i : ℕ). get_or (set a j v) i 0) is ∙ get_or-set_same a j v 0 (omega (arith, long)) in
    let first : slice_index a j ≡ slice_index a k = ap (slice_index a) (sym is) in
    let word : slice_index whole j ≡ slice_index whole k = ap (slice_index whole) (sym is) in
    omega (arith, here, there, first, word, sums, old, new))
    (λ (other : k ≡ j → ⊥).
    let here : get_or (set whole j w) k 0 ≡ get_or whole k 0 = get_or-set_other whole j k w 0 other in
    let there : slice_index (set a j v) k ≡ slice_index a k = get_or-set_other a j k v 0 other in
    omega (arith, here, there, sums, old, new))
    (cases_eq k j) in
    sym (at ∙ sum_of_lists_from n (set whole j w) (set a j v ∷ b ∷ []) (length-set whole j w ∙ size) each)
