-- Share 0 and the others sum up to the encoding, and shares that do are those of a split.
use Rattle.std.proofs.Common.{ℕ, zero, suc, ◌≡◌, ◌+◌, ◌-◌, ◌*◌, ◌%◌, ◌<◌, List, ◌∷◌, ◌++◌, length, get_or, take, drop, arith, ap, sym, ◌∙◌, refl}
use Rattle.std.proofs.Math.Nat.{suc-mul}
use Rattle.std.proofs.lemmas.List.{length-take-le, length-append, take-append-drop}
use Rattle.std.proofs.lemmas.List.Elements.{All-append, All-take, All-from_get_or, All-get_or}
use Rattle.std.proofs.lemmas.List.FromFn.{length-map-range_with_len, get_or-map-range_with_len, fill_by_all}
use Rattle.flp_field.specs.Word.{modulus, IsWord, AreWords, word_difference}
use Rattle.flp_field.specs.Sums.{total_at, sum_of_lists, parts_of, sum_of_parts}
use Rattle.flp_field.proofs.Congruence.{mod_word}
use Rattle.flp_field.proofs.ListSums.{total_at-cons, get_or-sum_of_lists, sum_of_lists_from}
use Rattle.flp_field.proofs.ListParts.{parts_of-append}
use Rattle.flp_share.specs.Shares.{difference_of, first_share, shares_of}

pub length-difference_of : (xs ys : List ℕ) → length (difference_of xs ys) ≡ length xs
length-difference_of xs ys =
    length-map-range_with_len (λ (k : ℕ). word_difference (get_or xs k 0) (get_or ys k 0)) 0 (length xs)

pub get_or-difference_of : (xs ys : List ℕ) (k : ℕ) → k < length xs → get_or (difference_of xs ys) k 0 ≡ word_difference (get_or xs k 0) (get_or ys k 0)
get_or-difference_of xs ys k below =
    get_or-map-range_with_len (λ (j : ℕ). word_difference (get_or xs j 0) (get_or ys j 0)) 0 (length xs) k k 0 below
    (omega arith)

pub words-difference_of : (xs ys : List ℕ) → AreWords (difference_of xs ys)
words-difference_of xs ys =
    let size : length (difference_of xs ys) ≡ length xs = length-difference_of xs ys in
    All-from_get_or IsWord (difference_of xs ys) 0
    (λ (k : ℕ) (below : k < length (difference_of xs ys)).
    let read : get_or (difference_of xs ys) k 0 ≡ word_difference (get_or xs k 0) (get_or ys k 0) =
    get_or-difference_of xs ys k (omega arith) in
    omega arith)

-- a word is the sum of its difference from another, and of that
pub difference_undone : (a b : ℕ) → a < modulus → b < modulus → (word_difference a b + b) % modulus ≡ a
difference_undone a b a_below b_below = omega arith

-- a first share that makes up what the others lack sums up with them to the encoding
pub sum_with_first : (shares count : ℕ) (x first words : List ℕ) → suc count ≡ shares → length first ≡ length x → ((k : ℕ) → k < length x → (get_or first k 0 + get_or (sum_of_parts count (length x) words) k 0) % modulus ≡ get_or x k 0) → sum_of_parts shares (length x) (first ++ words) ≡ x
sum_with_first shares count x first words more size undone =
    ap (λ (c : ℕ). sum_of_parts c (length x) (first ++ words)) (sym more)
    ∙ ap (λ (lists : List (List ℕ)). sum_of_lists (length x) lists) (parts_of-append count (length x) first words size)
    ∙ sym
    (sum_of_lists_from (length x) x (first ∷ parts_of count (length x) words) refl
    (λ (k : ℕ) (below : k < length x).
    let whole : total_at (first ∷ parts_of count (length x) words) k ≡ get_or first k 0 + total_at (parts_of count (length x) words) k =
    total_at-cons first (parts_of count (length x) words) k in
    let others : get_or (sum_of_parts count (length x) words) k 0 ≡ total_at (parts_of count (length x) words) k % modulus =
    get_or-sum_of_lists (length x) (parts_of count (length x) words) k below in
    let here : (get_or first k 0 + get_or (sum_of_parts count (length x) words) k 0) % modulus ≡ get_or x k 0 =
    undone k below in
    omega arith))

pub shares_sum_up : (shares : ℕ) (x words : List ℕ) → 0 < shares → AreWords x → sum_of_parts shares (length x) (shares_of shares x words) ≡ x
shares_sum_up shares x words some are =
    sum_with_first shares (shares - 1) x (first_share shares x words) words (omega arith)
    (length-difference_of x (sum_of_parts (shares - 1) (length x) words))
    (λ (k : ℕ) (below : k < length x).
    let word : get_or x k 0 < modulus = All-get_or IsWord x k 0 below are in
    let others : get_or (sum_of_parts (shares - 1) (length x) words) k 0 ≡ total_at (parts_of (shares - 1) (length x) words) k % modulus =
    get_or-sum_of_lists (length x) (parts_of (shares - 1) (length x) words) k below in
    let sum_word : total_at (parts_of (shares - 1) (length x) words) k % modulus < modulus =
    mod_word (total_at (parts_of (shares - 1) (length x) words) k) in
    ap (λ (d : ℕ). (d + get_or (sum_of_parts (shares - 1) (length x) words) k 0) % modulus)
    (get_or-difference_of x (sum_of_parts (shares - 1) (length x) words) k below)
    ∙ difference_undone (get_or x k 0) (get_or (sum_of_parts (shares - 1) (length x) words) k 0) word (omega arith))

-- a word in front of others whose sum with them is known is the difference
recovered : (t c x s : ℕ) → t < modulus → x ≡ (t + c) % modulus → s ≡ c % modulus → t ≡ word_difference x s
recovered t c x s below whole others = omega arith

pub each_sharing_is_split : (shares : ℕ) (x all : List ℕ) → 0 < shares → AreWords all → length all ≡ shares * length x → sum_of_parts shares (length x) all ≡ x → shares_of shares x (drop (length x) all) ≡ all
each_sharing_is_split zero x all some are size sum = absurd (omega arith)
each_sharing_is_split (suc count) x all some are size sum =
    let one_less : suc count - 1 ≡ count = omega arith in
    let one : suc count * length x ≡ count * length x + length x = suc-mul count (length x) in
    let first_size : length (take (length x) all) ≡ length x = length-take-le (length x) all (omega arith) in
    let first : take (length x) all ≡ difference_of x (sum_of_parts count (length x) (drop (length x) all)) =
    fill_by_all
    (λ (k : ℕ). word_difference (get_or x k 0) (get_or (sum_of_parts count (length x) (drop (length x) all)) k 0))
    (take (length x) all) (length x) 0 first_size
    (λ (k : ℕ) (below : k < length x).
    recovered (get_or (take (length x) all) k 0) (total_at (parts_of count (length x) (drop (length x) all)) k)
    (get_or x k 0) (get_or (sum_of_parts count (length x) (drop (length x) all)) k 0)
    (All-get_or IsWord (take (length x) all) k 0 (omega arith) (All-take IsWord (length x) all are))
    (ap (λ (words : List ℕ). get_or words k 0) (sym sum)
    ∙ get_or-sum_of_lists (length x) (parts_of (suc count) (length x) all) k below
    ∙ ap (λ (c : ℕ). c % modulus)
    (total_at-cons (take (length x) all) (parts_of count (length x) (drop (length x) all)) k))
    (get_or-sum_of_lists (length x) (parts_of count (length x) (drop (length x) all)) k below)) in
    ap (λ (c : ℕ). difference_of x (sum_of_parts c (length x) (drop (length x) all)) ++ drop (length x) all) one_less
    ∙ ap (λ (words : List ℕ). words ++ drop (length x) all) (sym first)
    ∙ take-append-drop (length x) all

pub length-shares_of : (shares : ℕ) (x words : List ℕ) → 0 < shares → length words ≡ (shares - 1) * length x → length (shares_of shares x words) ≡ shares * length x
length-shares_of zero x words some size = absurd (omega arith)
length-shares_of (suc count) x words some size =
    let one : suc count * length x ≡ count * length x + length x = suc-mul count (length x) in
    let one_less : (suc count - 1) * length x ≡ count * length x = ap (λ (c : ℕ). c * length x) (omega arith) in
    let whole : length (shares_of (suc count) x words) ≡ length (first_share (suc count) x words) + length words =
    length-append (first_share (suc count) x words) words in
    let first : length (first_share (suc count) x words) ≡ length x =
    length-difference_of x (sum_of_parts (suc count - 1) (length x) words) in
    omega arith

pub words-shares_of : (shares : ℕ) (x words : List ℕ) → AreWords words → AreWords (shares_of shares x words)
words-shares_of shares x words are =
    All-append IsWord (first_share shares x words) words
    (words-difference_of x (sum_of_parts (shares - 1) (length x) words)) are
