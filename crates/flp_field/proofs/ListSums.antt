-- Sums of lists of words, word by word: how long they are, what stands in them, and what one list more and a part of each make of them.
use Rattle.std.proofs.Common.{ℕ, zero, suc, ◌≡◌, ◌+◌, ◌-◌, ◌*◌, ◌%◌, ◌<◌, ◌≤◌, List, [], ◌∷◌, ◌++◌, length, get_or, map, take, drop, replicate, arith, ap, ap₂, sym, ◌∙◌, refl}
use Rattle.std.specs.List.{sum_by, range_with_len}
use Rattle.std.proofs.lemmas.List.{length-take-le, length-drop, length-replicate, get_or-replicate}
use Rattle.std.proofs.lemmas.List.Elements.{All-from_get_or, All-get_or}
use Rattle.std.proofs.lemmas.List.FromFn.{length-map-range_with_len, get_or-map-range_with_len, fill_by_all}
use Rattle.std.proofs.lemmas.List.Sums.{sum_by-cons, sum_by_push}
use Rattle.std.proofs.Math.Nat.{suc-mul}
use Rattle.flp_field.specs.Word.{modulus, IsWord, AreWords, word_sum}
use Rattle.flp_field.specs.Sums.{total_at, sum_at, sum_of_lists}
use Rattle.flp_field.proofs.Congruence.{word_mod, mod_word}
use Rattle.flp_field.proofs.WordLists.{get_or-words_at}

-- so many times one number
pub sum-alike : (n first count : ℕ) → sum_by (λ (k : ℕ). n) (range_with_len first count) ≡ count * n
sum-alike n first zero = omega arith
sum-alike n first (suc count) =
    sum_by-cons (λ (k : ℕ). n) first (range_with_len (first + 1) count)
    ∙ ap (λ (m : ℕ). n + m) (sum-alike n (first + 1) count) ∙ omega (arith, suc-mul count n)

-- ---- sums of lists

pub total_at-cons : (words : List ℕ) (lists : List (List ℕ)) (k : ℕ) → total_at (words ∷ lists) k ≡ get_or words k 0 + total_at lists k
total_at-cons words lists k = sum_by-cons (λ (xs : List ℕ). get_or xs k 0) words lists

pub length-sum_of_lists : (n : ℕ) (lists : List (List ℕ)) → length (sum_of_lists n lists) ≡ n
length-sum_of_lists n lists = length-map-range_with_len (λ (k : ℕ). sum_at lists k) 0 n

pub get_or-sum_of_lists : (n : ℕ) (lists : List (List ℕ)) (k : ℕ) → k < n → get_or (sum_of_lists n lists) k 0 ≡ total_at lists k % modulus
get_or-sum_of_lists n lists k below =
    get_or-map-range_with_len (λ (j : ℕ). sum_at lists j) 0 n k k 0 below (omega arith)

-- n words that are the sums at each index are the sum of the lists
pub sum_of_lists_from : (n : ℕ) (words : List ℕ) (lists : List (List ℕ)) → length words ≡ n → ((k : ℕ) → k < n → get_or words k 0 ≡ total_at lists k % modulus) → words ≡ sum_of_lists n lists
sum_of_lists_from n words lists size same = fill_by_all (λ (k : ℕ). sum_at lists k) words n 0 size same

pub words-sum_of_lists : (n : ℕ) (lists : List (List ℕ)) → AreWords (sum_of_lists n lists)
words-sum_of_lists n lists =
    let size : length (sum_of_lists n lists) ≡ n = length-sum_of_lists n lists in
    All-from_get_or IsWord (sum_of_lists n lists) 0
    (λ (k : ℕ) (below : k < length (sum_of_lists n lists)).
    let read : get_or (sum_of_lists n lists) k 0 ≡ total_at lists k % modulus = get_or-sum_of_lists n lists k (omega arith) in
    let word : total_at lists k % modulus < modulus = mod_word (total_at lists k) in
    omega arith)

pub sum_of_one_list : (words : List ℕ) → AreWords words → sum_of_lists (length words) (words ∷ []) ≡ words
sum_of_one_list words are =
    sym
    (sum_of_lists_from (length words) words (words ∷ []) refl
    (λ (k : ℕ) (below : k < length words).
    let word : get_or words k 0 < modulus = All-get_or IsWord words k 0 below are in
    let whole : total_at (words ∷ []) k ≡ get_or words k 0 + total_at [] k = total_at-cons words [] k in
    let same : total_at (words ∷ []) k ≡ get_or words k 0 = omega arith in
    sym (ap (λ (x : ℕ). x % modulus) same ∙ word_mod (get_or words k 0) word)))

pub sum_has_first : (n : ℕ) (words : List ℕ) (lists : List (List ℕ)) → sum_of_lists n (words ∷ lists) ≡ sum_of_lists n (words ∷ sum_of_lists n lists ∷ [])
sum_has_first n words lists =
    sum_of_lists_from n (sum_of_lists n (words ∷ lists)) (words ∷ sum_of_lists n lists ∷ [])
    (length-sum_of_lists n (words ∷ lists))
    (λ (k : ℕ) (below : k < n).
    let all : get_or (sum_of_lists n (words ∷ lists)) k 0 ≡ total_at (words ∷ lists) k % modulus =
    get_or-sum_of_lists n (words ∷ lists) k below in
    let others : get_or (sum_of_lists n lists) k 0 ≡ total_at lists k % modulus = get_or-sum_of_lists n lists k below in
    let left : total_at (words ∷ lists) k ≡ get_or words k 0 + total_at lists k = total_at-cons words lists k in
    let right : total_at (words ∷ sum_of_lists n lists ∷ []) k ≡ get_or words k 0 + total_at (sum_of_lists n lists ∷ []) k =
    total_at-cons words (sum_of_lists n lists ∷ []) k in
    let last : total_at (sum_of_lists n lists ∷ []) k ≡ get_or (sum_of_lists n lists) k 0 + total_at [] k =
    total_at-cons (sum_of_lists n lists) [] k in
    omega arith)

pub sum_of_no_lists : (n : ℕ) → sum_of_lists n [] ≡ replicate n 0
sum_of_no_lists n =
    sym
    (sum_of_lists_from n (replicate n 0) [] (length-replicate n 0)
    (λ (k : ℕ) (below : k < n). get_or-replicate n k 0 0 below))

-- words to each of which that of a list is added are the sum with this list in the last place
pub sum_has_last : (n : ℕ) (lists : List (List ℕ)) (words old new : List ℕ) → old ≡ sum_of_lists n lists → length new ≡ length old → ((k : ℕ) → k < length old → get_or new k 0 ≡ word_sum (get_or old k 0) (get_or words k 0)) → new ≡ sum_of_lists n (lists ++ words ∷ [])
sum_has_last n lists words old new is size each =
    let long : length old ≡ n = ap (λ (l : List ℕ). length l) is ∙ length-sum_of_lists n lists in
    sum_of_lists_from n new (lists ++ words ∷ []) (size ∙ long)
    (λ (k : ℕ) (below : k < n).
    let here : get_or new k 0 ≡ (get_or old k 0 + get_or words k 0) % modulus = each k (omega arith) in
    let before : get_or old k 0 ≡ total_at lists k % modulus =
    ap (λ (l : List ℕ). get_or l k 0) is ∙ get_or-sum_of_lists n lists k below in
    let last : total_at (lists ++ words ∷ []) k ≡ total_at lists k + get_or words k 0 =
    sum_by_push (λ (l : List ℕ). get_or l k 0) lists words in
    omega arith)

-- the words with an index of a part are those with this index behind its start
total_at-parts : (start count k : ℕ) (lists : List (List ℕ)) → k < count → total_at lists (start + k) ≡ total_at (map (λ (l : List ℕ). take count (drop start l)) lists) k
total_at-parts start count k [] below = refl
total_at-parts start count k (words ∷ lists) below =
    total_at-cons words lists (start + k)
    ∙ ap₂ (λ (a b : ℕ). a + b) (sym (get_or-words_at start count k words below)) (total_at-parts start count k lists below)
    ∙ sym (total_at-cons (take count (drop start words)) (map (λ (l : List ℕ). take count (drop start l)) lists) k)

pub sum_has_parts : (n start count : ℕ) (lists : List (List ℕ)) → start + count ≤ n → take count (drop start (sum_of_lists n lists)) ≡ sum_of_lists count (map (λ (l : List ℕ). take count (drop start l)) lists)
sum_has_parts n start count lists fits =
    let whole : List ℕ = sum_of_lists n lists in
    let long : length whole ≡ n = length-sum_of_lists n lists in
    let behind : length (drop start whole) ≡ length whole - start = length-drop start whole in
    sum_of_lists_from count (take count (drop start whole)) (map (λ (l : List ℕ). take count (drop start l)) lists)
    (length-take-le count (drop start whole) (omega arith))
    (λ (k : ℕ) (below : k < count).
    get_or-words_at start count k whole below
    ∙ get_or-sum_of_lists n lists (start + k) (omega arith)
    ∙ ap (λ (c : ℕ). c % modulus) (total_at-parts start count k lists below))
