-- Sums over groups of one size, one after another.
use Rattle.std.proofs.Common.{ℕ, zero, suc, ◌≡◌, ◌+◌, ◌-◌, ◌*◌, ◌%◌, length, List, map, take, drop, arith, ap, ap₂, sym, ◌∙◌}
use Rattle.std.specs.List.{sum}
use Rattle.std.proofs.lemmas.List.{map-append, length-take, length-drop}
use Rattle.std.proofs.lemmas.List.Sums.{sum_by-append}
use Rattle.flp_field.specs.Word.{modulus}
use Rattle.flp_field.specs.Sums.{parts_of}
use Rattle.flp_field.proofs.Congruence.{same_add, same_mod}
use Rattle.flp_field.proofs.ListParts.{parts_of-more, parts_of-take}
use Rattle.flp_gadget.specs.Formulas.{sum_over_groups}
use Rattle.flp_gadget.specs.LawProofs.{sum-more}

-- two sums over groups, one after the other
joined : (value : List ℕ → ℕ) (size n k : ℕ) (xs : List ℕ)
    → (sum_over_groups value size n xs + sum_over_groups value size k (drop (n * size) xs)) % modulus
    ≡ sum_over_groups value size (n + k) xs
joined value size n k xs =
    let front : List (List ℕ) = parts_of n size xs in
    let back : List (List ℕ) = parts_of k size (drop (n * size) xs) in
    same_add (sum_over_groups value size n xs) (sum (map value front)) (sum_over_groups value size k (drop (n * size) xs))
    (sum (map value back)) (same_mod (sum (map value front))) (same_mod (sum (map value back)))
    ∙ ap (λ s. s % modulus)
    (sym (sum_by-append (λ x. x) (map value front) (map value back))
    ∙ ap sum (sym (map-append value front back) ∙ ap (map value) (sym (parts_of-more n k size xs))))

-- a sum over one group
one : (value : List ℕ → ℕ) (size : ℕ) (xs : List ℕ) → sum_over_groups value size 1 xs ≡ value (take size xs) % modulus
one value size xs =
    let alone : 0 + value (take size xs) ≡ value (take size xs) = omega arith in
    ap (λ s. s % modulus) alone

-- one group more, cut from one end to the other
pub sum_over_groups-step : (value : List ℕ → ℕ) (size n : ℕ) (xs : List ℕ) (a s v : ℕ) → a ≡ size
    → s ≡ sum_over_groups value size n xs → v ≡ value (take ((n + 1) * a - n * a) (drop (n * a) xs))
    → (s + v) % modulus ≡ sum_over_groups value size (n + 1) xs
sum_over_groups-step value size n xs a s v same before here =
    let long : (n + 1) * a - n * a ≡ a = omega arith in
    let own : v ≡ value (take size (drop (n * size) xs)) =
    here ∙ ap (λ (k : ℕ). value (take k (drop (n * a) xs))) long
    ∙ ap (λ (k : ℕ). value (take k (drop (n * k) xs))) same in
    let last : sum_over_groups value size 1 (drop (n * size) xs) ≡ value (take size (drop (n * size) xs)) % modulus =
    one value size (drop (n * size) xs) in
    let both : (sum_over_groups value size n xs + sum_over_groups value size 1 (drop (n * size) xs)) % modulus
    ≡ sum_over_groups value size (n + 1) xs = joined value size n 1 xs in
    omega arith

-- all groups were met
pub sum_over_groups-all : (value : List ℕ → ℕ) (size i count : ℕ) (xs : List ℕ) (s : ℕ)
    → s ≡ sum_over_groups value size i xs → i ≡ count → s ≡ sum_over_groups value size count xs
sum_over_groups-all value size i count xs s so_far done = so_far ∙ ap (λ k. sum_over_groups value size k xs) done

-- where each group is summed over n groups of its own, all are
pub sum_over_groups-nested : (value whole : List ℕ → ℕ) (size n : ℕ)
    → ((ys : List ℕ) → length ys ≡ n * size → whole ys ≡ sum_over_groups value size n ys) → (m : ℕ) (xs : List ℕ)
    → length xs ≡ m * (n * size) → sum_over_groups whole (n * size) m xs ≡ sum_over_groups value size (m * n) xs
sum_over_groups-nested value whole size n same zero xs fits =
    let none : 0 ≡ 0 * n = omega arith in ap (λ k. sum_over_groups value size k xs) none
sum_over_groups-nested value whole size n same (suc m) xs fits =
    let all : length xs ≡ n * size + m * (n * size) = fits ∙ (omega arith) in
    let front : length (take (n * size) xs) ≡ n * size = length-take (n * size) xs ∙ (omega arith) in
    let back : length (drop (n * size) xs) ≡ m * (n * size) = length-drop (n * size) xs ∙ (omega arith) in
    let first : whole (take (n * size) xs) ≡ sum_over_groups value size n xs =
    same (take (n * size) xs) front ∙ ap (λ l. sum (map value l) % modulus) (parts_of-take n size xs) in
    let rest : sum_over_groups whole (n * size) m (drop (n * size) xs)
    ≡ sum_over_groups value size (m * n) (drop (n * size) xs) =
    sum_over_groups-nested value whole size n same m (drop (n * size) xs) back in
    let count : n + m * n ≡ suc m * n = omega arith in
    sym (sum-more (whole (take (n * size) xs)) (map whole (parts_of m (n * size) (drop (n * size) xs))))
    ∙ ap₂ (λ (a b : ℕ). (a + b) % modulus) first rest
    ∙ joined value size n (m * n) xs
    ∙ ap (λ k. sum_over_groups value size k xs) count
