-- The words of a part of a record or a job are those of the whole at the part's place.
use Rattle.std.proofs.Common.{◌≡◌, ℕ, zero, suc, ◌+◌, ◌-◌, ◌*◌, ◌<◌, ◌≤◌, List, ◌∷◌, take, drop, refl, sym, ap, ◌∙◌, arith}
use Rattle.std.proofs.lemmas.List.{drop-drop, drop-take}
use Rattle.std.proofs.Math.Nat.{mul-le-mul_right}
use Rattle.byteorder.specs.Endian.{little_number}
use Rattle.byteorder.specs.Numbers.{little_from-take}
use Rattle.flp_report.specs.Words.{words}
use Rattle.flp_report.proofs.WordsLemmas.{drop-word}

-- the first words of bytes need no more than 8 bytes each
words-take : (n : ℕ) (bytes : List ℕ) → words n (take (8 * n) bytes) ≡ words n bytes
words-take zero bytes = refl
words-take (suc n) bytes =
    let size : 8 * suc n ≡ 8 + 8 * n = omega arith in
    let first : little_number 8 (take (8 * suc n) bytes) ≡ little_number 8 bytes = little_from-take 0 8 (8 * suc n) bytes (omega arith) in
    let rest : drop 8 (take (8 * suc n) bytes) ≡ take (8 * n) (drop 8 bytes) = ap (λ (m : ℕ). drop 8 (take m bytes)) size ∙ drop-take 8 (8 * n) bytes in
    ap (λ (w : ℕ). w ∷ words n (drop 8 (take (8 * suc n) bytes))) first
    ∙ (ap (λ (b : List ℕ). little_number 8 bytes ∷ words n b) rest
    ∙ ap (λ (l : List ℕ). little_number 8 bytes ∷ l) (words-take n (drop 8 bytes)))

-- the first of more words
take-words : (n m : ℕ) (bytes : List ℕ) → n ≤ m → take n (words m bytes) ≡ words n bytes
take-words zero m bytes fits = refl
take-words (suc n) zero bytes fits = absurd (omega arith)
take-words (suc n) (suc m) bytes fits = ap (λ (l : List ℕ). little_number 8 bytes ∷ l) (take-words n m (drop 8 bytes) (omega arith))

-- the words from one on
drop-words : (k m : ℕ) (bytes : List ℕ) → drop k (words m bytes) ≡ words (m - k) (drop (8 * k) bytes)
drop-words zero m bytes =
    let all : m ≡ m - 0 = omega arith in
    let start : 0 ≡ 8 * 0 = omega arith in
    ap (λ (n : ℕ). words n bytes) all ∙ ap (λ (n : ℕ). words (m - 0) (drop n bytes)) start
drop-words (suc k) zero bytes =
    let none : 0 ≡ 0 - suc k = omega arith in
    ap (λ (n : ℕ). words n (drop (8 * suc k) bytes)) none
drop-words (suc k) (suc m) bytes =
    let count : m - k ≡ suc m - suc k = omega arith in
    drop-words k m (drop 8 bytes)
    ∙ (ap (λ (b : List ℕ). words (m - k) b) (drop-word k bytes)
    ∙ ap (λ (n : ℕ). words n (drop (8 * suc k) bytes)) count)

-- n words from number k on, of m that begin at a place
pub words-part : (n k m front place : ℕ) (bytes : List ℕ) → k + n ≤ m → place ≡ front + 8 * k → words n (take (8 * n) (drop place bytes)) ≡ take n (drop k (words m (drop front bytes)))
words-part n k m front place bytes fits same =
    let rest = drop front bytes in
    let less : n ≤ m - k = omega (arith, fits) in
    let start : drop place bytes ≡ drop (8 * k) rest = ap (λ (p : ℕ). drop p bytes) same ∙ sym (drop-drop (8 * k) front bytes) in
    ap (λ (b : List ℕ). words n (take (8 * n) b)) start
    ∙ (words-take n (drop (8 * k) rest)
    ∙ sym (ap (λ (l : List ℕ). take n l) (drop-words k m rest) ∙ take-words n (m - k) (drop (8 * k) rest) less))

-- the words of one of several are within those of all
pub one_fits : (one count size before : ℕ) → one < count → before + one * size + size ≤ before + count * size
one_fits one count size before below =
    let more : one + 1 ≤ count = omega arith in
    omega (arith, mul-le-mul_right size more)
