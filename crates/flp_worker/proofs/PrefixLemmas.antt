-- Lists that are filled from the front, part by part.
use Rattle.std.proofs.Common.{ℕ, suc, ◌≡◌, ◌+◌, ◌-◌, ◌*◌, ◌<◌, ◌≤◌, List, length, take, drop, ap, sym, ◌∙◌, arith}
use borrow.Rule.Slice.PartMut.{put_mid}
use Rattle.std.specs.List.{range_with_len, flat_map}
use Rattle.std.proofs.Math.Nat.{suc-mul, mul_assoc, mul-le-mul_right}
use Rattle.flp_meaning.proofs.PartLemmas.{length-words_at}
use Rattle.flp_query.proofs.VerifierLemmas.{parts-more}

-- one part more than so many
one-more : (k n : ℕ) → (k + 1) * n ≡ k * n + n
one-more k n =
    let next : k + 1 ≡ suc k = omega arith in
    ap (λ (m : ℕ). m * n) next ∙ suc-mul k n

-- one of several parts ends where all do, or before
pub part-fits : (one count size : ℕ) → one < count → one * size + size ≤ count * size
part-fits one count size below =
    let more : one + 1 ≤ count = omega arith in
    omega (arith, one-more one size, mul-le-mul_right size more)

-- likewise where the size is known by another name
pub part-within : (one count size part held : ℕ) → one < count → size ≡ part → held ≡ count * part → one * size + size ≤ held
part-within one count size part held below same all =
    let many : count * size ≡ count * part = ap (λ (n : ℕ). count * n) same in
    omega (arith, part-fits one count size below, many, all)

-- how long a part is that is lent from one place up to another
pub length-part : (parts : List ℕ) (start size : ℕ) → start + size ≤ length parts → length (take (start + size - start) (drop start parts)) ≡ size
length-part parts start size fits =
    let same : start + size - start ≡ size = omega arith in
    length-words_at start (start + size - start) parts (omega (arith, fits, same)) ∙ same

-- one list more of lists of one length that are written one after another
pub flat-more : (f : ℕ → List ℕ) (parts part : List ℕ) (k size n m : ℕ) → size ≡ n → length part ≡ n → k * n ≤ length parts
    → take (k * n) parts ≡ flat_map f (range_with_len 0 k) → part ≡ f k
    → take ((k + 1) * n) (put_mid (k * size) m parts part) ≡ flat_map f (range_with_len 0 (k + 1))
flat-more f parts part k size n m same long there before own =
    let more : (k + 1) * n ≡ k * n + n = one-more k n in
    ap (λ (s : ℕ). take ((k + 1) * n) (put_mid (k * s) m parts part)) same
    ∙ parts-more f k (k * n) ((k + 1) * n) m parts part (more ∙ ap (λ (l : ℕ). k * n + l) (sym long)) there before own

-- ---- parts of parts

-- the parts of one of several, each of so many parts, end where all do, or before
pub parts-fit : (one count parts n size held : ℕ) → one < count → size ≡ parts * n → held ≡ count * parts * n → one * size + size ≤ held
parts-fit one count parts n size held below sized all =
    let fits : one * size + size ≤ count * size = part-fits one count size below in
    let same : count * size ≡ count * parts * n = ap (λ (s : ℕ). count * s) sized ∙ sym (mul_assoc count parts n) in
    omega (arith, fits, same, all)

-- so does one of these parts
pub part-of-parts-fits : (inner one count parts n : ℕ) → inner < parts → one < count → (one * parts + inner) * n + n ≤ count * parts * n
part-of-parts-fits inner one count parts n below outer =
    let fits : one * parts + parts ≤ count * parts = part-fits one count parts outer in
    part-fits (one * parts + inner) (count * parts) n (omega (arith, fits))
