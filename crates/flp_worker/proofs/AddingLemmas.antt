-- Sums over the shares, one share after another.
use Rattle.std.proofs.Common.{ℕ, ◌≡◌, ◌+◌, List, [], ◌∷◌, ◌++◌, length, map, sym, ap, ◌∙◌, arith}
use Rattle.std.specs.List.{range_with_len}
use Rattle.std.proofs.lemmas.List.FromFn.{map-range_with_len_more}
use Rattle.flp_field.specs.Sums.{sum_of_lists}
use Rattle.flp_share.specs.Adding.{AddsList}

-- a share more
pub adds-share : (f : ℕ → List ℕ) (n k : ℕ) (old words new : List ℕ) → length old ≡ n → AddsList words old new → words ≡ f k
    → old ≡ sum_of_lists n (map f (range_with_len 0 k)) → new ≡ sum_of_lists n (map f (range_with_len 0 (k + 1)))
adds-share f n k old words new long adds own before =
    let lists : List (List ℕ) = map f (range_with_len 0 k) in
    adds lists (before ∙ ap (λ (m : ℕ). sum_of_lists m lists) (sym long))
    ∙ ap (λ (m : ℕ). sum_of_lists m (lists ++ words ∷ [])) long
    ∙ ap (λ (l : List ℕ). sum_of_lists n (lists ++ l ∷ [])) own
    ∙ ap (λ (ls : List (List ℕ)). sum_of_lists n ls) (sym (map-range_with_len_more f 0 k k (omega arith)))

-- no share
pub adds-none : (n m : ℕ) (sum : List ℕ) → m ≡ n → sum ≡ sum_of_lists m [] → sum ≡ sum_of_lists n []
adds-none n m sum same is = is ∙ ap (λ (k : ℕ). sum_of_lists k []) same
