-- The parts of a list: how long they are, what stands in them, and that parts in order are the list.
use Rattle.std.proofs.Common.{ℕ, zero, suc, ◌≡◌, ◌+◌, ◌-◌, ◌*◌, ◌≤◌, List, [], ◌∷◌, ◌++◌, length, map, take, drop, arith, ap, ap₂, sym, ◌∙◌, refl}
use Rattle.std.specs.List.{concat, All, range_with_len}
use Rattle.std.proofs.lemmas.List.{length-take-le, length-drop, length-append, take-append-drop, take_at, drop_at, drop_all, drop-drop, drop-take, take-take}
use Rattle.std.proofs.lemmas.List.Elements.{All-nil, All-cons, All-head, All-tail, All-append, All-take, All-drop}
use Rattle.std.proofs.Math.Nat.{suc-mul, zero-mul}
use Rattle.flp_field.specs.Word.{IsWord, AreWords}
use Rattle.flp_field.specs.Sums.{parts_of}

pub length-parts_of : {A : Type 0} (count n : ℕ) (xs : List A) → length (parts_of count n xs) ≡ count
length-parts_of zero n xs = refl
length-parts_of (suc count) n xs = ap suc (length-parts_of count n (drop n xs))

-- the words behind the first part are as many as the other parts have
length-behind : (count n : ℕ) (words : List ℕ) → length words ≡ suc count * n → length (drop n words) ≡ count * n
length-behind count n words size =
    let one : suc count * n ≡ count * n + n = suc-mul count n in
    let rest : length (drop n words) ≡ length words - n = length-drop n words in
    omega arith

-- each part has n words, where the list has as many as all parts
pub parts_of-size : (count n : ℕ) (words : List ℕ) → length words ≡ count * n → All (λ (part : List ℕ). length part ≡ n) (parts_of count n words)
parts_of-size zero n words size = All-nil (λ (part : List ℕ). length part ≡ n)
parts_of-size (suc count) n words size =
    let one : suc count * n ≡ count * n + n = suc-mul count n in
    All-cons (λ (part : List ℕ). length part ≡ n) (take n words) (parts_of count n (drop n words))
    (length-take-le n words (omega arith))
    (parts_of-size count n (drop n words) (length-behind count n words size))

pub parts_of-words : (count n : ℕ) (words : List ℕ) → AreWords words → All AreWords (parts_of count n words)
parts_of-words zero n words are = All-nil AreWords
parts_of-words (suc count) n words are =
    All-cons AreWords (take n words) (parts_of count n (drop n words)) (All-take IsWord n words are)
    (parts_of-words count n (drop n words) (All-drop IsWord n words are))

-- the parts in order are the list
pub concat-parts_of : (count n : ℕ) (words : List ℕ) → length words ≡ count * n → concat (parts_of count n words) ≡ words
concat-parts_of zero n words size =
    let none : 0 * n ≡ 0 = zero-mul n in
    let empty : length words ≤ 0 = omega arith in
    sym (drop_all 0 words empty)
concat-parts_of (suc count) n words size =
    ap (λ (xs : List ℕ). take n words ++ xs)
    (concat-parts_of count n (drop n words) (length-behind count n words size))
    ∙ take-append-drop n words

-- a list of n words in front of others is the first part
pub parts_of-append : (count n : ℕ) (part words : List ℕ) → length part ≡ n → parts_of (suc count) n (part ++ words) ≡ part ∷ parts_of count n words
parts_of-append count n part words size =
    ap₂ (λ (first : List ℕ) (rest : List ℕ). first ∷ parts_of count n rest) (take_at part words n size)
    (drop_at part words n size)

-- lists of n words each are the parts of their words in order
pub parts_of-concat : (n : ℕ) (lists : List (List ℕ)) → All (λ (part : List ℕ). length part ≡ n) lists → parts_of (length lists) n (concat lists) ≡ lists
parts_of-concat n [] sizes = refl
parts_of-concat n (part ∷ lists) sizes =
    parts_of-append (length lists) n part (concat lists)
    (All-head (λ (xs : List ℕ). length xs ≡ n) part lists sizes)
    ∙ ap (λ (rest : List (List ℕ)). part ∷ rest)
    (parts_of-concat n lists (All-tail (λ (xs : List ℕ). length xs ≡ n) part lists sizes))

pub length-concat : (n : ℕ) (lists : List (List ℕ)) → All (λ (part : List ℕ). length part ≡ n) lists → length (concat lists) ≡ length lists * n
length-concat n [] sizes = sym (zero-mul n)
length-concat n (part ∷ lists) sizes =
    let here : length part ≡ n = All-head (λ (xs : List ℕ). length xs ≡ n) part lists sizes in
    let rest : length (concat lists) ≡ length lists * n =
    length-concat n lists (All-tail (λ (xs : List ℕ). length xs ≡ n) part lists sizes) in
    let whole : length (part ++ concat lists) ≡ length part + length (concat lists) = length-append part (concat lists) in
    let one : suc (length lists) * n ≡ length lists * n + n = suc-mul (length lists) n in
    omega arith

pub words-concat : (lists : List (List ℕ)) → All AreWords lists → AreWords (concat lists)
words-concat [] are = All-nil IsWord
words-concat (part ∷ lists) are =
    All-append IsWord part (concat lists) (All-head AreWords part lists are)
    (words-concat lists (All-tail AreWords part lists are))

-- ---- parts by their number

-- the parts behind so many, each by its number
parts_of-behind : {A : Type 0} (first count n : ℕ) (xs : List A) → parts_of count n (drop (first * n) xs) ≡ map (λ (part : ℕ). take n (drop (part * n) xs)) (range_with_len first count)
parts_of-behind first zero n xs = refl
parts_of-behind first (suc count) n xs =
    let next : first * n + n ≡ (first + 1) * n = omega (arith, suc-mul first n) in
    ap (λ l. take n (drop (first * n) xs) ∷ parts_of count n l)
    (drop-drop n (first * n) xs ∙ ap (λ (i : ℕ). drop i xs) next)
    ∙ ap (λ l. take n (drop (first * n) xs) ∷ l) (parts_of-behind (first + 1) count n xs)

pub parts_of-numbers : {A : Type 0} (count n : ℕ) (xs : List A) → parts_of count n xs ≡ map (λ (part : ℕ). take n (drop (part * n) xs)) (range_with_len 0 count)
parts_of-numbers count n xs =
    let front : 0 ≡ 0 * n = sym (zero-mul n) in
    ap (λ (i : ℕ). parts_of count n (drop i xs)) front ∙ parts_of-behind 0 count n xs

-- ---- parts one after another

pub parts_of-more : {A : Type 0} (count more n : ℕ) (xs : List A) → parts_of (count + more) n xs ≡ parts_of count n xs ++ parts_of more n (drop (count * n) xs)
parts_of-more zero more n xs =
    let all : 0 + more ≡ more = omega arith in
    let front : 0 ≡ 0 * n = sym (zero-mul n) in
    ap (λ (m : ℕ). parts_of m n xs) all ∙ ap (λ (i : ℕ). parts_of more n (drop i xs)) front
parts_of-more (suc count) more n xs =
    let again : suc count + more ≡ suc (count + more) = omega arith in
    let place : n + count * n ≡ suc count * n = omega (arith, suc-mul count n) in
    ap (λ (m : ℕ). parts_of m n xs) again
    ∙ ap (λ l. take n xs ∷ l) (parts_of-more count more n (drop n xs))
    ∙ ap (λ l. take n xs ∷ (parts_of count n (drop n xs) ++ parts_of more n l))
    (drop-drop (count * n) n xs ∙ ap (λ (i : ℕ). drop i xs) place)

-- what is not in the parts does not matter
pub parts_of-take : {A : Type 0} (count n : ℕ) (xs : List A) → parts_of count n (take (count * n) xs) ≡ parts_of count n xs
parts_of-take zero n xs = refl
parts_of-take (suc count) n xs =
    let place : n + count * n ≡ suc count * n = omega (arith, suc-mul count n) in
    let within : n ≤ suc count * n = omega arith in
    ap₂ (λ part l. part ∷ parts_of count n l) (take-take n (suc count * n) xs within)
    (ap (λ (m : ℕ). drop n (take m xs)) (sym place) ∙ drop-take n (count * n) xs)
    ∙ ap (λ l. take n xs ∷ l) (parts_of-take count n (drop n xs))
