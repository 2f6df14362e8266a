-- Lists of words: that they are words where no number is found to be none, what stands in a part, and how long lists of one length are together.
use Rattle.std.proofs.Common.{ℕ, zero, suc, ◌≡◌, ◌+◌, ◌-◌, ◌*◌, ◌<◌, ◌≤◌, List, [], ◌∷◌, length, get_or, take, drop, Some, None, true, false, nat_le, refl, ap, sym, ◌∙◌, ⊎_elim, arith}
use Rattle.std.specs.List.{position_from, range_with_len, flat_map}
use Rattle.std.proofs.lemmas.Bool.{cases_Bool, leb-false, lt-leb}
use Rattle.std.proofs.lemmas.List.{length-append, get_or-take, get_or-drop, drop-drop, drop-take, take-take}
use Rattle.std.proofs.lemmas.List.Elements.{All-nil, All-cons, All-head, All-tail}
use Rattle.std.proofs.Math.Nat.{suc-mul, zero-mul}
use Rattle.flp_field.specs.Word.{modulus, IsWord, AreWords}

-- ---- which numbers are words

-- where no number is found to be none, each is a word
pub words-from : (i : ℕ) (numbers : List ℕ) → position_from (λ n. nat_le modulus n) i numbers ≡ None → AreWords numbers
words-from i [] none = All-nil IsWord
words-from i (n ∷ numbers) none =
    ⊎_elim
    (λ (bad : nat_le modulus n ≡ true). let found : Some i ≡ None = sym (rw bad refl) ∙ none in absurd cc)
    (λ (good : nat_le modulus n ≡ false). All-cons IsWord n numbers (leb-false modulus n good) (words-from (i + 1) numbers (rw good at none)))
    (cases_Bool (nat_le modulus n))

-- of words none is found
pub none-from_words : (i : ℕ) (numbers : List ℕ) → AreWords numbers → position_from (λ n. nat_le modulus n) i numbers ≡ None
none-from_words i [] are = refl
none-from_words i (n ∷ numbers) are =
    let test : nat_le modulus n ≡ false = lt-leb modulus n (All-head IsWord n numbers are) in
    rw test (none-from_words (i + 1) numbers (All-tail IsWord n numbers are))

-- ---- parts

-- a word of a part
pub get_or-words_at : (start count k : ℕ) (words : List ℕ) → k < count → get_or (take count (drop start words)) k 0 ≡ get_or words (start + k) 0
get_or-words_at start count k words below = get_or-take count (drop start words) k 0 below ∙ get_or-drop start words k 0

-- a part of a part
pub words_at-words_at : (from n start count : ℕ) (words : List ℕ) → start + count ≤ n → take count (drop start (take n (drop from words))) ≡ take count (drop (from + start) words)
words_at-words_at from n start count words fits =
    let whole : start + (n - start) ≡ n = omega arith in
    ap (λ (m : ℕ). take count (drop start (take m (drop from words)))) (sym whole)
    ∙ ap (λ (l : List ℕ). take count l) (drop-take start (n - start) (drop from words))
    ∙ take-take count (n - start) (drop start (drop from words)) (omega arith)
    ∙ ap (λ (l : List ℕ). take count l) (drop-drop start from words)

-- ---- lists of one length, one after another

pub length-flat_alike : {X : Type 0} (f : X → List ℕ) (n : ℕ) (xs : List X) → ((x : X) → length (f x) ≡ n) → length (flat_map f xs) ≡ length xs * n
length-flat_alike f n [] sizes = sym (zero-mul n)
length-flat_alike f n (x ∷ xs) sizes =
    length-append (f x) (flat_map f xs) ∙ omega (arith, sizes x, length-flat_alike f n xs sizes, suc-mul (length xs) n)

-- where the lists are numbered
pub length-flat_below : (f : ℕ → List ℕ) (n first count : ℕ) → ((k : ℕ) → first ≤ k → k < first + count → length (f k) ≡ n) → length (flat_map f (range_with_len first count)) ≡ count * n
length-flat_below f n first zero sizes = sym (zero-mul n)
length-flat_below f n first (suc count) sizes =
    let here : length (f first) ≡ n = sizes first (omega arith) (omega arith) in
    let rest : length (flat_map f (range_with_len (first + 1) count)) ≡ count * n =
    length-flat_below f n (first + 1) count (λ (k : ℕ) (from : first + 1 ≤ k) (below : k < first + 1 + count). sizes k (omega arith) (omega arith)) in
    length-append (f first) (flat_map f (range_with_len (first + 1) count)) ∙ omega (arith, here, rest, suc-mul count n)
