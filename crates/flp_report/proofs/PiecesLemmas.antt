-- Bytes cut into pieces, and the search for a nonce that is not above the one before.
use Rattle.std.proofs.Common.{◌≡◌, ℕ, zero, suc, ◌+◌, ◌-◌, ◌*◌, ◌<◌, ◌≤◌, List, [], ◌∷◌, ◌++◌, length, Option, Some, None, true, false, take, drop, refl, sym, ap, ◌∙◌, arith, length-drop, take-append-drop}
use Rattle.std.specs.Prelude.{slice_get}
use Rattle.std.specs.List.{All, concat}
use Rattle.std.proofs.lemmas.List.Elements.{All-nil, All-cons}
use Rattle.std.proofs.lemmas.List.{drop-drop, drop-take, take-take, take-append-le, drop-append-le, length-take-le}
use Rattle.flp_report.specs.Pieces.{pieces, is_below, fall_after, fall_in, IsCut}

-- the piece of this number
abbrev pub piece : ℕ → ℕ → List ℕ → List ℕ
piece size k bytes = take size (drop (size * k) bytes)

-- the pieces from number k on begin with that one
pub pieces-drop : (size k n : ℕ) (bytes : List ℕ) → k < n → pieces size (n - k) (drop (size * k) bytes) ≡ piece size k bytes ∷ pieces size (n - (k + 1)) (drop (size * (k + 1)) bytes)
pieces-drop size k n bytes below =
    let count : n - k ≡ suc (n - (k + 1)) = omega arith in
    let places : size * k + size ≡ size * (k + 1) = grind arith in
    let rest : drop size (drop (size * k) bytes) ≡ drop (size * (k + 1)) bytes = drop-drop size (size * k) bytes ∙ ap (λ (n : ℕ). drop n bytes) places in
    ap (λ (m : ℕ). pieces size m (drop (size * k) bytes)) count
    ∙ ap (λ (b : List ℕ). piece size k bytes ∷ pieces size (n - (k + 1)) b) rest

-- the search from the nonce of number k on
abbrev pub fall_from : ℕ → ℕ → List ℕ → Option ℕ
fall_from k n bytes = fall_after k (piece 16 (k - 1) bytes) (pieces 16 (n - k) (drop (16 * k) bytes))

-- at a nonce above the one before it goes on
pub fall_from-above : (k n : ℕ) (bytes : List ℕ) → k < n → is_below (piece 16 (k - 1) bytes) (piece 16 k bytes) ≡ true → fall_from k n bytes ≡ fall_from (k + 1) n bytes
fall_from-above k n bytes below above =
    let one : suc k ≡ k + 1 = omega arith in
    let back : k + 1 - 1 ≡ k = omega arith in
    rw (pieces-drop 16 k n bytes below) (rw above (rw (one, back) refl))

-- at another it ends
pub fall_from-other : (k n : ℕ) (bytes : List ℕ) → k < n → is_below (piece 16 (k - 1) bytes) (piece 16 k bytes) ≡ false → fall_from k n bytes ≡ Some k
fall_from-other k n bytes below other = rw (pieces-drop 16 k n bytes below) (rw other refl)

-- past the last it has found none
pub fall_from-end : (k n : ℕ) (bytes : List ℕ) → n ≤ k → fall_from k n bytes ≡ None
fall_from-end k n bytes all =
    let none : n - k ≡ 0 = omega arith in
    rw none refl

-- from the second on it is the search among all
pub fall_from-start : (n : ℕ) (bytes : List ℕ) → 0 < n → fall_in (pieces 16 n bytes) ≡ fall_from 1 n bytes
fall_from-start n bytes some =
    let all : n - 0 ≡ n = omega arith in
    let first = pieces-drop 16 0 n bytes some in
    ap (λ (m : ℕ). fall_in (pieces 16 m bytes)) (sym all) ∙ ap fall_in first

-- the first pieces of joined bytes
pub pieces-append : (size n : ℕ) (front rest : List ℕ) → n * size ≤ length front → pieces size n (front ++ rest) ≡ pieces size n front
pieces-append size zero front rest long = refl
pieces-append size (suc n) front rest long =
    let first : size ≤ length front = omega (arith, long) in
    let more : n * size ≤ length (drop size front) = omega (arith, long, length-drop size front) in
    ap (λ (b : List ℕ). b ∷ pieces size n (drop size (front ++ rest))) (take-append-le size front rest first)
    ∙ (ap (λ (b : List ℕ). take size front ∷ pieces size n b) (drop-append-le size front rest first)
    ∙ ap (λ (l : List (List ℕ)). take size front ∷ l) (pieces-append size n (drop size front) rest more))

-- as many bytes as the pieces have are enough
pub pieces-take : (size n : ℕ) (bytes : List ℕ) → pieces size n (take (n * size) bytes) ≡ pieces size n bytes
pieces-take size zero bytes = refl
pieces-take size (suc n) bytes =
    let whole : suc n * size ≡ size + n * size = omega arith in
    let first : take size (take (size + n * size) bytes) ≡ take size bytes = take-take size (size + n * size) bytes (omega arith) in
    let rest : drop size (take (size + n * size) bytes) ≡ take (n * size) (drop size bytes) = drop-take size (n * size) bytes in
    ap (λ (m : ℕ). take size (take m bytes) ∷ pieces size n (drop size (take m bytes))) whole
    ∙ (ap (λ (b : List ℕ). b ∷ pieces size n (drop size (take (size + n * size) bytes))) first
    ∙ (ap (λ (b : List ℕ). take size bytes ∷ pieces size n b) rest
    ∙ ap (λ (l : List (List ℕ)). take size bytes ∷ l) (pieces-take size n (drop size bytes))))

-- the piece of each number
pub slice_get-pieces : (size n k : ℕ) (bytes : List ℕ) → k < n → slice_get (pieces size n bytes) k ≡ Some (piece size k bytes)
slice_get-pieces size zero k bytes below = absurd (omega arith)
slice_get-pieces size (suc n) zero bytes below =
    let start : 0 ≡ size * 0 = omega arith in
    ap (λ (m : ℕ). Some (take size (drop m bytes))) start
slice_get-pieces size (suc n) (suc k) bytes below =
    let less : k < n = omega arith in
    let places : size + size * k ≡ size * suc k = grind arith in
    slice_get-pieces size n k (drop size bytes) less
    ∙ ap (λ (b : List ℕ). Some (take size b)) (drop-drop (size * k) size bytes ∙ ap (λ (m : ℕ). drop m bytes) places)

-- there are as many as are asked for
pub length-pieces : (size n : ℕ) (bytes : List ℕ) → length (pieces size n bytes) ≡ n
length-pieces size zero bytes = refl
length-pieces size (suc n) bytes = let rest = length-pieces size n (drop size bytes) in omega (arith, rest)

-- no bytes are no pieces
none_left : (bytes : List ℕ) → length bytes ≡ 0 → [] ≡ bytes
none_left [] none = refl
none_left (b ∷ bytes) none = absurd (omega (arith, none))

-- the pieces of bytes are these bytes, one after the other
concat-pieces : (size n : ℕ) (bytes : List ℕ) → length bytes ≡ n * size → concat (pieces size n bytes) ≡ bytes
concat-pieces size zero bytes whole = none_left bytes (omega (arith, whole))
concat-pieces size (suc n) bytes whole =
    let more : length (drop size bytes) ≡ n * size = omega (arith, whole, length-drop size bytes) in
    ap (λ (b : List ℕ). take size bytes ++ b) (concat-pieces size n (drop size bytes) more) ∙ take-append-drop size bytes

-- and each has the size
sizes-pieces : (size n : ℕ) (bytes : List ℕ) → n * size ≤ length bytes → All (λ p. length p ≡ size) (pieces size n bytes)
sizes-pieces size zero bytes long = All-nil (λ p. length p ≡ size)
sizes-pieces size (suc n) bytes long =
    let first : size ≤ length bytes = omega (arith, long) in
    let more : n * size ≤ length (drop size bytes) = omega (arith, long, length-drop size bytes) in
    All-cons (λ p. length p ≡ size) (take size bytes) (pieces size n (drop size bytes)) (length-take-le size bytes first) (sizes-pieces size n (drop size bytes) more)

pub IsCut-pieces : (size n : ℕ) (bytes : List ℕ) → length bytes ≡ n * size → IsCut size n bytes (pieces size n bytes)
IsCut-pieces size n bytes whole =
    let long : n * size ≤ length bytes = omega (arith, whole) in
    record { whole = whole; joined = concat-pieces size n bytes whole; number = length-pieces size n bytes; sizes = sizes-pieces size n bytes long }
