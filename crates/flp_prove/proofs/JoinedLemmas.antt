-- Lists of words in one: what stands where.
use Rattle.std.proofs.Common.{ℕ, zero, suc, ◌≡◌, ◌+◌, ◌*◌, ◌<◌, ◌≤◌, List, [], ◌∷◌, ◌++◌, length, take, map, get_or, refl, ap, sym, ◌∙◌, arith}
use Rattle.std.specs.List.{range_with_len}
use Rattle.std.specs.Prelude.{slice_index}
use Rattle.std.proofs.lemmas.List.{append-nil, append_assoc, get_or_append_left, get_or-append-add, get_or_past}
use Rattle.std.proofs.lemmas.List.FromFn.{map-range_with_len_more, length-map-range_with_len, get_or-map-range_with_len}
use Rattle.std.proofs.lemmas.Slice.{take-put_mid}
use borrow.Rule.Slice.PartMut.{put_mid}
use Rattle.flp_plan.specs.Rows.{column}
use Rattle.flp_prove.specs.Rows.{joined, HaveLength}

pub joined-push : (parts : List (List ℕ)) (part : List ℕ) → joined (parts ++ part ∷ []) ≡ joined parts ++ part
joined-push [] part = append-nil part
joined-push (first ∷ parts) part =
    ap (λ (l : List ℕ). first ++ l) (joined-push parts part) ∙ sym (append_assoc first (joined parts) part)

-- the word at a place of a part
pub joined-at : (size : ℕ) (parts : List (List ℕ)) (i k : ℕ) → HaveLength size parts → k < size
    → slice_index (joined parts) (i * size + k) ≡ slice_index (get_or parts i []) k
joined-at size [] i k sizes low = refl
joined-at size (part ∷ parts) zero k sizes low =
    let own : length part ≡ size = sizes 0 (omega arith) in
    let first : 0 * size + k ≡ k = omega arith in
    ap (λ n. slice_index (part ++ joined parts) n) first
    ∙ get_or_append_left part (joined parts) 0 k (omega arith)
joined-at size (part ∷ parts) (suc i) k sizes low =
    let own : length part ≡ size = sizes 0 (omega arith) in
    let far : suc i * size + k ≡ length part + (i * size + k) = omega arith in
    ap (λ n. slice_index (part ++ joined parts) n) far
    ∙ get_or-append-add part (joined parts) (i * size + k) 0
    ∙ joined-at size parts i k (λ n h. sizes (suc n) (omega arith)) low

-- one more part of a function of the index
pub joined-more : (f : ℕ → List ℕ) (n : ℕ) → joined (map f (range_with_len 0 (n + 1))) ≡ joined (map f (range_with_len 0 n)) ++ f n
joined-more f n =
    ap joined (map-range_with_len_more f 0 n n (omega arith)) ∙ joined-push (map f (range_with_len 0 n)) (f n)

-- ---- columns

pub column-at : (count width : ℕ) (rows : List ℕ) (input k : ℕ) → k < count
    → slice_index (column count width rows input) k ≡ slice_index rows (k * width + input)
column-at count width rows input k low =
    get_or-map-range_with_len (λ row. slice_index rows (row * width + input)) 0 count k k 0 low (omega arith)

pub length-column : (count width : ℕ) (rows : List ℕ) (input : ℕ) → length (column count width rows input) ≡ count
length-column count width rows input = length-map-range_with_len (λ row. slice_index rows (row * width + input)) 0 count

pub column-past : (count width : ℕ) (rows : List ℕ) (input k : ℕ) → count ≤ k → slice_index (column count width rows input) k ≡ 0
column-past count width rows input k high =
    let size : length (column count width rows input) ≡ count = length-column count width rows input in
    get_or_past (column count width rows input) k 0 (omega arith)

-- a place of a row is inside
pub row-inside : (k count width input n : ℕ) → k < count → input < width → count * width ≤ n → k * width + input < n
row-inside k count width input n low inside fits =
    let more : (k + 1) * width ≤ count * width = grind arith in
    omega arith

-- ---- parts that are written

-- what was written behind a part
pub part-written : (a k : ℕ) (xs ys before : List ℕ) (n : ℕ) → take a xs ≡ before → n ≡ a + length ys → a ≤ length xs
    → take n (put_mid a k xs ys) ≡ before ++ ys
part-written a k xs ys before n same more inside = take-put_mid a k xs ys n more inside ∙ ap (λ (l : List ℕ). l ++ ys) same
