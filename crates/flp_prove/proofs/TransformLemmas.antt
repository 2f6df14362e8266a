-- Polynomials and their values on larger domains.
use Rattle.std.proofs.Common.{ℕ, ◌≡◌, ◌+◌, ◌-◌, ◌%◌, ◌<◌, ◌≤◌, List, ◌++◌, length, take, drop, ap, sym, subst, ◌∙◌, arith, ⊎_elim, length-drop, length-append}
use Rattle.std.specs.Prelude.{slice_index}
use Rattle.std.proofs.lemmas.Bool.{cases_lt}
use Rattle.std.proofs.lemmas.List.{get_or_append_left, get_or-append_right, get_or_past, get_or-drop, ext_get_or}
use Rattle.std.proofs.lemmas.List.FromFn.{take-map-range_with_len, get_or-map-range_with_len}
use Rattle.flp_field.specs.Word.{modulus, IsWord, AreWords}
use Rattle.flp_poly.specs.Polynomial.{value_at, values_on}
use Rattle.flp_poly.specs.Interpolation.{Interpolates, interpolated}
use Rattle.flp_poly.proofs.Horner.{value_at-horner, horner_same}
use Rattle.flp_poly.proofs.Interpolation.{length-interpolated}
use Rattle.flp_poly.proofs.Vanishing.{length-values_on, get_or-values_on}
use Rattle.flp_meaning.specs.Wires.{with_zeros}
use Rattle.flp_meaning.proofs.WireLemmas.{length-with_zeros, slice-word}

-- the value is that of the coefficients, however many zeros follow
pub value-same_coefficients : (p q : List ℕ) (t : ℕ) → ((k : ℕ) → slice_index p k ≡ slice_index q k) → value_at p t ≡ value_at q t
value-same_coefficients p q t same =
    value_at-horner p t ∙ horner_same p q t (λ k. ap (λ (n : ℕ). n % modulus) (same k)) ∙ sym (value_at-horner q t)

pub values_on-same : (size : ℕ) (p q : List ℕ) → ((k : ℕ) → slice_index p k ≡ slice_index q k) → values_on size p ≡ values_on size q
values_on-same size p q same =
    ext_get_or 0 (values_on size p) (values_on size q) (length-values_on size p ∙ sym (length-values_on size q))
    (λ k low.
    let count : length (values_on size p) ≡ size = length-values_on size p in
    get_or-values_on size p k (omega arith)
    ∙ value-same_coefficients p q _ same
    ∙ sym (get_or-values_on size q k (omega arith)))

pub filled-at : (size : ℕ) (xs : List ℕ) (k : ℕ) → length xs ≤ size → slice_index (with_zeros size xs) k ≡ slice_index xs k
filled-at size xs k short =
    ⊎_elim
    (λ (low : k < size). get_or-map-range_with_len (λ j. slice_index xs j) 0 size k k 0 low (omega arith))
    (λ (high : size ≤ k).
    let count : length (with_zeros size xs) ≡ size = length-with_zeros size xs in
    get_or_past (with_zeros size xs) k 0 (omega arith) ∙ sym (get_or_past xs k 0 (omega arith)))
    (cases_lt k size)

pub filled-own : (xs : List ℕ) → with_zeros (length xs) xs ≡ xs
filled-own xs =
    ext_get_or 0 (with_zeros (length xs) xs) xs (length-with_zeros (length xs) xs)
    (λ k low.
    let count : length (with_zeros (length xs) xs) ≡ length xs = length-with_zeros (length xs) xs in
    filled-at (length xs) xs k (omega arith))

-- the front of a filled list is filled
pub take-filled : (size points : ℕ) (xs : List ℕ) → size ≤ points → take size (with_zeros points xs) ≡ with_zeros size xs
take-filled size points xs fits = take-map-range_with_len (λ k. slice_index xs k) 0 points size fits

-- what was put in the front of a filled list has zeros behind it
pub front-padded : (front xs : List ℕ) (size points : ℕ) → length front ≡ size → length xs ≤ size → size ≤ points
    → (k : ℕ) → slice_index (front ++ drop size (with_zeros points xs)) k ≡ slice_index front k
front-padded front xs size points count short fits k =
    ⊎_elim
    (λ (low : k < size). get_or_append_left front (drop size (with_zeros points xs)) 0 k (omega arith))
    (λ (high : size ≤ k).
    let place : size + (k - size) ≡ k = omega arith in
    get_or-append_right front (drop size (with_zeros points xs)) size k 0 count high
    ∙ get_or-drop size (with_zeros points xs) (k - size) 0
    ∙ ap (λ n. slice_index (with_zeros points xs) n) place
    ∙ filled-at points xs k (omega arith)
    ∙ get_or_past xs k 0 (omega arith)
    ∙ sym (get_or_past front k 0 (omega arith)))
    (cases_lt k size)

-- the polynomial with these values on a domain that has a point for each coefficient
pub padded-interpolates : (points : ℕ) (f values : List ℕ) → AreWords f → length f ≤ points → values ≡ values_on points f
    → Interpolates (with_zeros points f) values
padded-interpolates points f values words short same =
    let count : length values ≡ points = ap (λ (l : List ℕ). length l) same ∙ length-values_on points f in
    record {
      words = λ k d low.
          let own : length (with_zeros points f) ≡ points = length-with_zeros points f in
          subst IsWord
          (sym (get_or-map-range_with_len (λ j. slice_index f j) 0 points k k d (omega arith) (omega arith)))
          (slice-word f k words);
      size = length-with_zeros points f ∙ sym count;
      agrees =
          ap (λ n. values_on n (with_zeros points f)) count
          ∙ values_on-same points (with_zeros points f) f (λ k. filled-at points f k short)
          ∙ sym same;
    }

-- its front is the polynomial
pub front-of_padded : (points : ℕ) (f : List ℕ) (count : ℕ) → length f ≡ count → count ≤ points → take count (with_zeros points f) ≡ f
front-of_padded points f count size fits =
    take-filled count points f fits ∙ ap (λ n. with_zeros n f) (sym size) ∙ filled-own f

-- a column, transformed at its front and then whole, becomes the values of its wire on the larger domain
pub wire-transformed : (size points : ℕ) (col written front out : List ℕ) → length col ≡ size → size ≤ points → written ≡ with_zeros points col
    → front ≡ interpolated (take size written) → out ≡ values_on (length (front ++ drop size written)) (front ++ drop size written)
    → out ≡ values_on points (interpolated col)
wire-transformed size points col written front out short fits wrote inverted transformed =
    let own : interpolated (take size written) ≡ interpolated col =
    ap (λ (l : List ℕ). interpolated (take size l)) wrote
    ∙ ap interpolated (take-filled size points col fits ∙ ap (λ n. with_zeros n col) (sym short) ∙ filled-own col) in
    let whole : length written ≡ points = ap (λ (l : List ℕ). length l) wrote ∙ length-with_zeros points col in
    let count : length front ≡ size =
    ap (λ (l : List ℕ). length l) (inverted ∙ own) ∙ length-interpolated col ∙ short in
    let rest : length (drop size written) ≡ length written - size = length-drop size written in
    let both : length (front ++ drop size written) ≡ length front + length (drop size written) = length-append front (drop size written) in
    let all : length (front ++ drop size written) ≡ points = omega arith in
    transformed
    ∙ ap (λ n. values_on n (front ++ drop size written)) all
    ∙ ap (λ (l : List ℕ). values_on points (front ++ drop size l)) wrote
    ∙ values_on-same points (front ++ drop size (with_zeros points col)) front (front-padded front col size points count (omega arith) fits)
    ∙ ap (λ (l : List ℕ). values_on points l) (inverted ∙ own)
