-- Sums of lists of words, word by word. From the words of one index up to the parts of one list, and the laws.
use Rattle.std.specs.Prelude.{ℕ, zero, suc, ◌≡◌, ◌+◌, ◌%◌, ◌≤◌, List, [], ◌∷◌, length, map, take, drop, replicate, slice_index, sum, sum_by, ◌*◌}
use Rattle.std.specs.List.{range_with_len}
use Rattle.flp_field.specs.Word.{modulus, AreWords}

-- the words with this index, one of each list, added as numbers
abbrev pub total_at : List (List ℕ) → ℕ → ℕ
total_at lists k = sum_by (λ words. slice_index words k) lists

-- and as words
abbrev pub sum_at : List (List ℕ) → ℕ → ℕ
sum_at lists k = total_at lists k % modulus

-- the sum of lists of n words each, word by word: n words too
abbrev pub sum_of_lists : ℕ → List (List ℕ) → List ℕ
sum_of_lists n lists = map (λ k. sum_at lists k) (range_with_len 0 n)

-- so many parts of n elements each, one after another from the front of a list
abbrev pub parts_of : {A : Type 0} → ℕ → ℕ → List A → List (List A)
parts_of zero n xs = []
parts_of (suc count) n xs = take n xs ∷ parts_of count n (drop n xs)

-- the sum of these parts, word by word
abbrev pub sum_of_parts : ℕ → ℕ → List ℕ → List ℕ
sum_of_parts count n words = sum_of_lists n (parts_of count n words)

-- whatever is added, the sum has n words
abbrev pub SumHasWords : Type 0
SumHasWords = (n : ℕ) (lists : List (List ℕ)) → (length (sum_of_lists n lists) ≡ n) × AreWords (sum_of_lists n lists)

-- the sum of no lists is 0 everywhere
abbrev pub SumOfNoLists : Type 0
SumOfNoLists = (n : ℕ) → sum_of_lists n [] ≡ replicate n 0

-- the sum of one list of words is that list
abbrev pub SumOfOneList : Type 0
SumOfOneList = (words : List ℕ) → AreWords words → sum_of_lists (length words) (words ∷ []) ≡ words

-- the sum of several lists is the sum of the first and of the sum of the others
abbrev pub SumHasFirst : Type 0
SumHasFirst =
    (n : ℕ) (words : List ℕ) (lists : List (List ℕ))
    → sum_of_lists n (words ∷ lists) ≡ sum_of_lists n (words ∷ sum_of_lists n lists ∷ [])

-- a part of the sum is the sum of the parts at the same place
abbrev pub SumHasParts : Type 0
SumHasParts =
    (n start count : ℕ) (lists : List (List ℕ)) → start + count ≤ n
    → take count (drop start (sum_of_lists n lists)) ≡ sum_of_lists count (map (λ words. take count (drop start words)) lists)

-- ---- sums of products

-- the products of the elements with one index, added as numbers
abbrev pub sum_of_products : List ℕ → List ℕ → ℕ
sum_of_products xs ys = sum (map (λ k. slice_index xs k * slice_index ys k) (range_with_len 0 (length xs)))

-- and as words
abbrev pub dot_product : List ℕ → List ℕ → ℕ
dot_product xs ys = sum_of_products xs ys % modulus
