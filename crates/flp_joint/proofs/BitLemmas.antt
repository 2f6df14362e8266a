-- Numbers and their bits.
use Rattle.std.proofs.Common.{ℕ, zero, suc, ◌+◌, ◌-◌, ◌*◌, ◌/◌, ◌%◌, ◌^◌, ◌<◌, ◌≤◌, ◌≡◌, lit<, List, [], ◌∷◌, ◌++◌, length, take, drop, get_or, All, sym, subst, ap, ap₂, ◌∙◌, refl, length-drop, arith}
use Rattle.std.specs.List.{flat_map}
use Rattle.std.proofs.Math.Nat.{pow-le-pow_right, pow-succ'}
use Rattle.std.proofs.Math.Seq.{take-append_seam, drop-append_seam, drop-cons}
use Rattle.std.proofs.lemmas.Nat.{one_shl}
use Rattle.std.proofs.lemmas.List.{get_or_read, length-take-le, take-append-drop}
use Rattle.std.proofs.lemmas.List.Elements.{All-nil, All-cons, All-head, All-tail, All-take, All-drop, All-get_or}
use Rattle.flp_circuits.specs.Bits.{bit_length, headroom, bits_of}
use Rattle.flp_circuits.specs.Formulas.{word, sum_below}
use Rattle.flp_circuits.specs.Laws.{BitLengthsAreLeast}
use Rattle.flp_circuits.proofs.WordLemmas.{number-bits_of}
use Rattle.flp_joint.specs.Decoding.{AreBits}

pub length-bits_of : (count n : ℕ) → length (bits_of count n) ≡ count
length-bits_of zero n = refl
length-bits_of (suc count) n = ap suc (length-bits_of count (n / 2))

-- the bits tell the number
pub bits_of_one : (count m n : ℕ) → m < 2 ^ count → n < 2 ^ count → bits_of count m ≡ bits_of count n → m ≡ n
bits_of_one count m n h k e =
    sym (number-bits_of count m h) ∙ ap (λ (x : List ℕ). sum_below count (λ i. 2 ^ i * word x i)) e ∙ number-bits_of count n k

-- one bit more in front
pub bits_of_front : (count b n : ℕ) → b < 2 → bits_of (suc count) (2 * n + b) ≡ b ∷ bits_of count n
bits_of_front count b n h =
    let low : (2 * n + b) % 2 ≡ b = omega arith in
    let high : (2 * n + b) / 2 ≡ n = omega arith in
    ap₂ (λ (c m : ℕ). c ∷ bits_of count m) low high

-- lists of one length in front tell the parts
pub parts_same : (xs us ys vs : List ℕ) → length xs ≡ length us → xs ++ ys ≡ us ++ vs → (xs ≡ us) × (ys ≡ vs)
parts_same xs us ys vs long e = (
  sym (take-append_seam xs ys) ∙ ap₂ (λ (n : ℕ) (l : List ℕ). take n l) long e ∙ take-append_seam us vs,
  sym (drop-append_seam xs ys) ∙ ap₂ (λ (n : ℕ) (l : List ℕ). drop n l) long e ∙ drop-append_seam us vs,
)

-- the bit length of a number below 2^63
pub length_limit : BitLengthsAreLeast → (n : ℕ) → n < 2 ^ 63 → bit_length n ≤ 63
length_limit lengths n h = (lengths n).1 63 h

-- the power of the bit length, and the headroom in it
pub headroom_is : BitLengthsAreLeast → (n : ℕ) → n + headroom n + 1 ≡ 2 ^ bit_length n
unfolding headroom
headroom_is lengths n = let top : n < 2 ^ bit_length n = (lengths n).0 in omega arith

-- it is less than half of that power where the number is not 0
pub headroom_small : BitLengthsAreLeast → (n : ℕ) → n < 2 ^ 63 → headroom n < 2 ^ 63
headroom_small lengths n h =
    let top : 2 ^ bit_length n ≤ 2 ^ 63 = pow-le-pow_right {n = 2} (lit< tt) (length_limit lengths n h) in
    omega (arith, headroom_is lengths n)

pub shifted : BitLengthsAreLeast → (n bits : ℕ) → n < 2 ^ 63 → bits ≡ bit_length n → (1 * 2 ^ bits) % 18446744073709551616 ≡ 2 ^ bit_length n
shifted lengths n bits h e =
    let below : bits < 64 = omega (arith, length_limit lengths n h) in
    one_shl bits 64 below ∙ ap (λ (k : ℕ). 2 ^ k) e

-- one bit more of a list is read, from its end
pub one_more : (bits : List ℕ) (left number bit : ℕ) → AreBits bits → 0 < left → left ≤ length bits → bit ≡ get_or bits (left - 1) bit → number < 2 ^ (length bits - left) → bits_of (length bits - left) number ≡ drop left bits → (2 * number + bit < 2 ^ (length bits - (left - 1))) × (bits_of (length bits - (left - 1)) (2 * number + bit) ≡ drop (left - 1) bits)
one_more bits left number bit all some inside read below is =
    let more : length bits - (left - 1) ≡ suc (length bits - left) = omega arith in
    let here : bit ≡ get_or bits (left - 1) 0 = get_or_read bits (left - 1) bit (omega arith) read 0 in
    let small : bit < 2 = rw here (All-get_or (λ n. n < 2) bits (left - 1) 0 (omega arith) all) in
    let power : 2 ^ suc (length bits - left) ≡ 2 * 2 ^ (length bits - left) = pow-succ' 2 (length bits - left) in
    let next : suc (left - 1) ≡ left = omega arith in
    let opened : drop (left - 1) bits ≡ get_or bits (left - 1) 0 ∷ drop (suc (left - 1)) bits = drop-cons bits (left - 1) 0 (omega arith) in
    let top : 2 * number + bit < 2 * 2 ^ (length bits - left) = omega arith in
    (rw (more, power) top, rw more (bits_of_front (length bits - left) bit number small ∙ ap₂ (λ (a : ℕ) (l : List ℕ). a ∷ l) here (is ∙ ap (λ (n : ℕ). drop n bits) (sym next)) ∙ sym opened))

-- bits are those of some number
pub number_in : (bits : List ℕ) → AreBits bits → (n : ℕ) × (n < 2 ^ length bits) × (bits_of (length bits) n ≡ bits)
number_in [] h = (0, lit< tt, refl)
number_in (b ∷ more) h =
    let rest = number_in more (All-tail (λ n. n < 2) b more h) in
    let small : b < 2 = All-head (λ n. n < 2) b more h in
    let power : 2 ^ suc (length more) ≡ 2 * 2 ^ length more = pow-succ' 2 (length more) in
    let below : rest.0 < 2 ^ length more = rest.1 in
    let top : 2 * rest.0 + b < 2 * 2 ^ length more = omega arith in
    (2 * rest.0 + b, rw power top, bits_of_front (length more) b rest.0 small ∙ ap (λ (l : List ℕ). b ∷ l) rest.2)

-- numbers of one count of bits are told by their bits
pub numbers_same : (bits : ℕ) (xs ys : List ℕ) → length xs ≡ length ys → All (λ n. n < 2 ^ bits) xs → All (λ n. n < 2 ^ bits) ys → flat_map (bits_of bits) xs ≡ flat_map (bits_of bits) ys → xs ≡ ys
numbers_same bits [] [] long h k e = refl
numbers_same bits [] (y ∷ ys) long h k e = absurd (omega arith)
numbers_same bits (x ∷ xs) [] long h k e = absurd (omega arith)
numbers_same bits (x ∷ xs) (y ∷ ys) long h k e =
    let parts = parts_same (bits_of bits x) (bits_of bits y) (flat_map (bits_of bits) xs) (flat_map (bits_of bits) ys) (length-bits_of bits x ∙ sym (length-bits_of bits y)) e in
    ap₂ (λ (a : ℕ) (l : List ℕ). a ∷ l)
    (bits_of_one bits x y (All-head (λ n. n < 2 ^ bits) x xs h) (All-head (λ n. n < 2 ^ bits) y ys k) parts.0)
    (numbers_same bits xs ys (omega arith) (All-tail (λ n. n < 2 ^ bits) x xs h) (All-tail (λ n. n < 2 ^ bits) y ys k) parts.1)

-- numbers of so many bits each, one after another in a list of bits
pub record NumbersIn (bits count : ℕ) (x : List ℕ) : Type 0 where
  pub numbers : List ℕ
  pub size : length numbers ≡ count
  pub below : All (λ n. n < 2 ^ bits) numbers
  pub same : flat_map (bits_of bits) numbers ≡ x

pub numbers_in : (bits count : ℕ) (x : List ℕ) → AreBits x → length x ≡ count * bits → NumbersIn bits count x
numbers_in bits zero [] h long = record { numbers = []; size = refl; below = All-nil (λ n. n < 2 ^ bits); same = refl }
numbers_in bits zero (b ∷ more) h long = absurd (omega arith)
numbers_in bits (suc count) x h long =
    let room : bits ≤ length x = omega arith in
    let front : length (take bits x) ≡ bits = length-take-le bits x room in
    let back : length (drop bits x) ≡ count * bits = length-drop bits x ∙ (let left : length x - bits ≡ count * bits = omega arith in left) in
    let first = number_in (take bits x) (All-take (λ n. n < 2) bits x h) in
    let rest = numbers_in bits count (drop bits x) (All-drop (λ n. n < 2) bits x h) back in
    record {
      numbers = first.0 ∷ rest.numbers;
      size = ap suc rest.size;
      below = All-cons (λ n. n < 2 ^ bits) first.0 rest.numbers (subst (λ (k : ℕ). first.0 < 2 ^ k) front first.1) rest.below;
      same = ap₂ (λ (a b : List ℕ). a ++ b) (ap (λ (k : ℕ). bits_of k first.0) (sym front) ∙ first.2) rest.same ∙ take-append-drop bits x;
    }

-- a number of at most 63 bits
pub two_limit : (n count : ℕ) → count ≤ 63 → n < 2 ^ count → n < 2 ^ 63
two_limit n count few below =
    let top : 2 ^ count ≤ 2 ^ 63 = pow-le-pow_right {n = 2} (lit< tt) few in
    omega arith

pub two_more : (n : ℕ) → 2 ^ suc n ≡ 2 * 2 ^ n
two_more n = pow-succ' 2 n
