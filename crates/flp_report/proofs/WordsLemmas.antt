-- Words of a file, one by one.
use Rattle.std.proofs.Common.{◌≡◌, ℕ, zero, suc, ◌+◌, ◌-◌, ◌*◌, ◌<◌, ◌≤◌, List, [], ◌∷◌, ◌++◌, length, get_or, drop, Option, Some, None, nat_le, refl, ap, subst, ◌∙◌, arith}
use Rattle.std.proofs.lemmas.Bool.{lt-leb, le-leb}
use Rattle.std.proofs.lemmas.List.{drop-drop}
use Rattle.std.proofs.lemmas.List.Elements.{All-get_or}
use Rattle.std.specs.List.{position_from, All}
use Rattle.byteorder.specs.Endian.{little_number}
use Rattle.flp_field.specs.Word.{modulus, IsWord}
use Rattle.flp_report.specs.Words.{words, bad_word_in}

-- there are as many as are asked for
pub length-words : (n : ℕ) (bytes : List ℕ) → length (words n bytes) ≡ n
length-words zero bytes = refl
length-words (suc n) bytes = let rest = length-words n (drop 8 bytes) in omega arith

-- 8 bytes on, and then 8 for each of k
pub drop-word : (k : ℕ) (bytes : List ℕ) → drop (8 * k) (drop 8 bytes) ≡ drop (8 * suc k) bytes
drop-word k bytes =
    let places : 8 + 8 * k ≡ 8 * suc k = omega arith in
    drop-drop (8 * k) 8 bytes ∙ ap (λ (n : ℕ). drop n bytes) places

-- the word of each place
pub get_or-words : (n k : ℕ) (bytes : List ℕ) → k < n → get_or (words n bytes) k 0 ≡ little_number 8 (drop (8 * k) bytes)
get_or-words zero k bytes below = absurd (omega arith)
get_or-words (suc n) zero bytes below = refl
get_or-words (suc n) (suc k) bytes below =
    let less : k < n = omega arith in
    get_or-words n k (drop 8 bytes) less ∙ ap (little_number 8) (drop-word k bytes)

-- one word more is the next one behind the others
pub words_more : (n : ℕ) (bytes : List ℕ) → words (n + 1) bytes ≡ words n bytes ++ little_number 8 (drop (8 * n) bytes) ∷ []
words_more zero bytes = refl
words_more (suc n) bytes =
    let next : suc n + 1 ≡ suc (n + 1) = omega arith in
    let rest = words_more n (drop 8 bytes) in
    let place = ap (little_number 8) (drop-word n bytes) in
    ap (λ (m : ℕ). words m bytes) next
    ∙ ap (λ (ws : List ℕ). little_number 8 bytes ∷ ws) (rest ∙ ap (λ (w : ℕ). words n (drop 8 bytes) ++ w ∷ []) place)

-- each of the first n words is one of the field
pub IsWord-words : (n k : ℕ) (bytes : List ℕ) → All IsWord (words n bytes) → k < n → IsWord (little_number 8 (drop (8 * k) bytes))
IsWord-words n k bytes all below =
    let inside : k < length (words n bytes) = omega (arith, length-words n bytes) in
    subst IsWord (get_or-words n k bytes below) (All-get_or IsWord (words n bytes) k 0 inside all)

-- the search for a number that is no word, from place k on
abbrev pub bad_from : ℕ → ℕ → List ℕ → Option ℕ
bad_from k n bytes = position_from (λ w. nat_le modulus w) k (words (n - k) (drop (8 * k) bytes))

-- the words from place k on begin with that of place k
words-drop : (k n : ℕ) (bytes : List ℕ) → k < n → words (n - k) (drop (8 * k) bytes) ≡ little_number 8 (drop (8 * k) bytes) ∷ words (n - (k + 1)) (drop (8 * (k + 1)) bytes)
words-drop k n bytes below =
    let count : n - k ≡ suc (n - (k + 1)) = omega arith in
    let places : 8 * k + 8 ≡ 8 * (k + 1) = omega arith in
    let rest : drop 8 (drop (8 * k) bytes) ≡ drop (8 * (k + 1)) bytes = drop-drop 8 (8 * k) bytes ∙ ap (λ (n : ℕ). drop n bytes) places in
    ap (λ (m : ℕ). words m (drop (8 * k) bytes)) count
    ∙ ap (λ (b : List ℕ). little_number 8 (drop (8 * k) bytes) ∷ words (n - (k + 1)) b) rest

-- at a word it goes on
pub bad_from-word : (k n : ℕ) (bytes : List ℕ) → k < n → IsWord (little_number 8 (drop (8 * k) bytes)) → bad_from k n bytes ≡ bad_from (k + 1) n bytes
bad_from-word k n bytes below word =
    let test = lt-leb modulus (little_number 8 (drop (8 * k) bytes)) word in
    rw (words-drop k n bytes below) (rw test refl)

-- at a number that is none it ends
pub bad_from-bad : (k n : ℕ) (bytes : List ℕ) → k < n → modulus ≤ little_number 8 (drop (8 * k) bytes) → bad_from k n bytes ≡ Some k
bad_from-bad k n bytes below bad =
    let test = le-leb modulus (little_number 8 (drop (8 * k) bytes)) bad in
    rw (words-drop k n bytes below) (rw test refl)

-- past the last word there is none
pub bad_from-end : (n : ℕ) (bytes : List ℕ) → bad_from n n bytes ≡ None
bad_from-end n bytes =
    let none : n - n ≡ 0 = omega arith in
    ap (λ (m : ℕ). position_from (λ w. nat_le modulus w) n (words m (drop (8 * n) bytes))) none

-- from the first word on it is the search in all of them
pub bad_from-start : (n : ℕ) (bytes : List ℕ) → bad_from 0 n bytes ≡ bad_word_in (words n bytes)
bad_from-start n bytes =
    let all : n - 0 ≡ n = omega arith in
    ap (λ (m : ℕ). bad_word_in (words m bytes)) all
