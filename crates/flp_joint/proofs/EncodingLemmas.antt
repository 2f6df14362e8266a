-- What a measurement that is not refused keeps to, and which words are encodings: circuit by circuit.
use Rattle.std.proofs.Common.{ℕ, suc, ◌+◌, ◌-◌, ◌*◌, ◌/◌, ◌^◌, ◌<◌, ◌≤◌, ◌≡◌, ◌↔◌, IsTrue, lit<, Bool, cond, eqb, List, [], ◌∷◌, ◌++◌, length, take, drop, replicate, slice_set, sum, Option, None, Some, All, sym, subst, ap, ap₂, ◌∙◌, refl, length-drop, arith}
use Rattle.std.specs.List.{flat_map}
use Rattle.std.specs.Option.{option_or}
use Rattle.std.proofs.lemmas.Bool.{lt-ltb, le-leb, eq-eqb, eqb-true}
use Rattle.std.proofs.Math.Seq.{take-append_seam, take-add}
use Rattle.std.proofs.Math.Nat.{mul-le-mul_right}
use Rattle.std.proofs.lemmas.Grind.{flat_map-append}
use Rattle.std.proofs.lemmas.List.{length-take-le, take-append-drop, take_more_set, append-nil}
use Rattle.std.proofs.lemmas.List.Elements.{All-nil, All-cons, All-head, All-tail, All-append, All-replicate, All-take, All-get_or}
use Rattle.flp_syntax.specs.declared.syntax.Params.{Params}
use Rattle.flp_syntax.specs.declared.syntax.Params.TheVariants.{Count, Sum, SumVec, Histogram, Multihot}
use Rattle.flp_circuits.specs.declared.fault.MeasFault.{MeasFault}
use Rattle.flp_circuits.specs.declared.fault.MeasFault.TheVariants as fault
use Rattle.flp_circuits.specs.Bits.{bit_length, headroom, bits_of}
use Rattle.flp_circuits.specs.Laws.{BitLengthsAreLeast}
use Rattle.flp_circuits.specs.Sizes.{Fits, input_len_of, meas_len_of}
use Rattle.flp_circuits.specs.Encoding.{the_number, one_at, encoding_of, range_of, range_fault, weight_of, weight_fault, meas_fault}
use Rattle.flp_circuits.proofs.EncodingLemmas.{IsTaken, taken, weight_of-bits, multihot_light}
use Rattle.flp_circuits.proofs.Encodings.{encodings_have_length}
use Rattle.flp_circuits.proofs.Fitting.{fitting}
use Rattle.flp_circuits.proofs.WordLemmas.{bits_of-bits, flat_map-bits}
use Rattle.flp_joint.specs.Decoding.{AreBits, Encodes, IsEncoding}
use Rattle.flp_joint.proofs.BitLemmas.{length-bits_of, bits_of_one, parts_same, headroom_is, numbers_same, numbers_in}
use Rattle.flp_joint.proofs.PlaceLemmas.{one_place, find_one, place_same, weight-one_at}

-- ---- what is taken

range_none : (range place : ℕ) (input : List ℕ) → All (λ n. n < range) input → range_fault range place input ≡ None
range_none range place [] h = refl
range_none range place (n ∷ more) h =
    ap (λ (b : Bool). cond b (range_fault range (suc place) more) (Some (fault.Range place n))) (lt-ltb n range (All-head (λ n. n < range) n more h))
    ∙ range_none range (suc place) more (All-tail (λ n. n < range) n more h)

-- a measurement that keeps to the rules is not refused
pub not_refused : (params : Params) (input : List ℕ) → IsTaken params input → meas_fault params input ≡ None
not_refused params input h =
    ap (λ (b : Bool). cond b (option_or (range_fault (range_of params) 0 input) (weight_fault params input)) (Some (fault.Count (length input)))) (eq-eqb (length input) (input_len_of params) h.count)
    ∙ ap₂ (λ (o p : Option MeasFault). option_or o p) (range_none (range_of params) 0 input h.in_range) h.light

-- a list of one number
one_number : (input : List ℕ) → length input ≡ 1 → input ≡ the_number input ∷ []
one_number [] h = absurd (omega arith)
one_number (n ∷ []) h = refl
one_number (n ∷ m ∷ more) h = absurd (omega arith)

one_in_range : (range n : ℕ) → n < range → All (λ k. k < range) (n ∷ [])
one_in_range range n h = All-cons (λ k. k < range) n [] h (All-nil (λ k. k < range))

number_in_range : (params : Params) (input : List ℕ) → IsTaken params input → length input ≡ 1 → the_number input < range_of params
number_in_range params input h one = All-get_or (λ n. n < range_of params) input 0 0 (omega arith) h.in_range

-- ---- encodings are bits

one_at-bits : (n place : ℕ) → AreBits (one_at n place)
one_at-bits n place =
    All-append (λ n. n < 2) (replicate place 0) (1 ∷ replicate (n - suc place) 0) (All-replicate (λ n. n < 2) place 0 (lit< tt))
    (All-cons (λ n. n < 2) 1 (replicate (n - suc place) 0) (lit< tt) (All-replicate (λ n. n < 2) (n - suc place) 0 (lit< tt)))

bits_taken : (params : Params) (input : List ℕ) → IsTaken params input → AreBits (encoding_of params input)
bits_taken Count input h = one_in_range 2 (the_number input) (number_in_range Count input h h.count)
bits_taken (Sum max) input h =
    All-append (λ n. n < 2) (bits_of (bit_length max) (the_number input)) (bits_of (bit_length max) (the_number input + headroom max)) (bits_of-bits (bit_length max) (the_number input)) (bits_of-bits (bit_length max) (the_number input + headroom max))
bits_taken (SumVec count bits chunk) input h = flat_map-bits bits input
bits_taken (Histogram count chunk) input h = one_at-bits count (the_number input)
bits_taken (Multihot count weight chunk) input h =
    All-append (λ n. n < 2) input (bits_of (bit_length weight) (sum input + headroom weight)) h.in_range (bits_of-bits (bit_length weight) (sum input + headroom weight))

pub encoding-bits : (params : Params) (x : List ℕ) → IsEncoding params x → AreBits x
encoding-bits params x (input, e) = subst AreBits e.words (bits_taken params input (taken params input e.taken))

-- ---- counts

count_encodes : (x : List ℕ) → length x ≡ 1 → AreBits x → Encodes Count x x
count_encodes x long bits = record {
  taken = not_refused Count x (record { count = long; in_range = bits; light = refl });
  words = sym (one_number x long);
}

pub count_is : (x : List ℕ) → length x ≡ 1 → AreBits x → IsEncoding Count x
count_is x long bits = (x, count_encodes x long bits)

-- ---- sums

-- the parts of the encoding of a number up to max
sum_encodes : BitLengthsAreLeast → (max n : ℕ) (x : List ℕ) → n ≤ max → bits_of (bit_length max) n ++ bits_of (bit_length max) (n + headroom max) ≡ x → Encodes (Sum max) (n ∷ []) x
sum_encodes lengths max n x within e = record {
  taken = not_refused (Sum max) (n ∷ []) (record { count = refl; in_range = one_in_range (suc max) n (omega arith); light = refl });
  words = e;
}

-- with the number of each half
pub sum_iff : BitLengthsAreLeast → (max : ℕ) (low high : List ℕ) (n m : ℕ) → length low ≡ bit_length max → length high ≡ bit_length max → n < 2 ^ bit_length max → bits_of (bit_length max) n ≡ low → m < 2 ^ bit_length max → bits_of (bit_length max) m ≡ high → (n + headroom max ≡ m) ↔ IsEncoding (Sum max) (low ++ high)
sum_iff lengths max low high n m front back n_below n_is m_below m_is = (
  λ (e : n + headroom max ≡ m).
      let within : n ≤ max = omega (arith, headroom_is lengths max) in
      (n ∷ [], sum_encodes lengths max n (low ++ high) within (ap₂ (λ (a b : List ℕ). a ++ b) n_is (ap (bits_of (bit_length max)) e ∙ m_is))),
  λ (whole : IsEncoding (Sum max) (low ++ high)).
      let h = taken (Sum max) whole.0 whole.1.taken in
      let k = the_number whole.0 in
      let within : k < suc max = number_in_range (Sum max) whole.0 h h.count in
      let parts = parts_same (bits_of (bit_length max) k) low (bits_of (bit_length max) (k + headroom max)) high (length-bits_of (bit_length max) k ∙ sym front) whole.1.words in
      let low_same : k ≡ n = bits_of_one (bit_length max) k n (omega (arith, headroom_is lengths max)) n_below (parts.0 ∙ sym n_is) in
      let high_same : k + headroom max ≡ m = bits_of_one (bit_length max) (k + headroom max) m (omega (arith, headroom_is lengths max)) m_below (parts.1 ∙ sym m_is) in
      omega arith,
)

-- the number whose bits are the first half is the measurement
pub sum_read : BitLengthsAreLeast → (max n : ℕ) (x : List ℕ) → IsEncoding (Sum max) x → n < 2 ^ bit_length max → bits_of (bit_length max) n ≡ take (bit_length max) x → Encodes (Sum max) (n ∷ []) x
sum_read lengths max n x (input, e) below is =
    let h = taken (Sum max) input e.taken in
    let k = the_number input in
    let within : k < suc max = number_in_range (Sum max) input h h.count in
    let front : take (bit_length max) (bits_of (bit_length max) k ++ bits_of (bit_length max) (k + headroom max)) ≡ bits_of (bit_length max) k =
    ap (λ (i : ℕ). take i (bits_of (bit_length max) k ++ bits_of (bit_length max) (k + headroom max))) (sym (length-bits_of (bit_length max) k)) ∙ take-append_seam (bits_of (bit_length max) k) (bits_of (bit_length max) (k + headroom max)) in
    let same : k ≡ n = bits_of_one (bit_length max) k n (omega (arith, headroom_is lengths max)) below (sym front ∙ ap (take (bit_length max)) e.words ∙ sym is) in
    subst (λ (i : ℕ). Encodes (Sum max) (i ∷ []) x) same (subst (λ (l : List ℕ). Encodes (Sum max) l x) (one_number input h.count) e)

-- ---- vectors of sums

pub sum_vec_encodes : (count bits chunk : ℕ) (x input : List ℕ) → length input ≡ count → All (λ n. n < 2 ^ bits) input → flat_map (bits_of bits) input ≡ x → Encodes (SumVec count bits chunk) input x
sum_vec_encodes count bits chunk x input size below same = record {
  taken = not_refused (SumVec count bits chunk) input (record { count = size; in_range = below; light = refl });
  words = same;
}

pub sum_vec_is : (count bits chunk : ℕ) (x : List ℕ) → length x ≡ count * bits → AreBits x → IsEncoding (SumVec count bits chunk) x
sum_vec_is count bits chunk x long all =
    let made = numbers_in bits count x all long in
    (made.numbers, sum_vec_encodes count bits chunk x made.numbers made.size made.below made.same)

-- ---- histograms

pub histogram_encodes : (count chunk place : ℕ) (x : List ℕ) → length x ≡ count → place < length x → one_at (length x) place ≡ x → Encodes (Histogram count chunk) (place ∷ []) x
histogram_encodes count chunk place x long below same = record {
  taken = not_refused (Histogram count chunk) (place ∷ []) (record { count = refl; in_range = one_in_range count place (omega arith); light = refl });
  words = ap (λ (n : ℕ). one_at n place) (sym long) ∙ same;
}

pub histogram_iff : (count chunk : ℕ) (x : List ℕ) → length x ≡ count → AreBits x → (weight_of x ≡ 1) ↔ IsEncoding (Histogram count chunk) x
histogram_iff count chunk x long bits = (
  λ (one : weight_of x ≡ 1).
      let found = find_one x (omega arith) in
      (found.place ∷ [], histogram_encodes count chunk found.place x long found.below (one_place x found.place bits one found.below found.is_one)),
  λ (whole : IsEncoding (Histogram count chunk) x).
      ap weight_of (sym whole.1.words) ∙ weight-one_at (the_number whole.0) (count - suc (the_number whole.0)),
)

-- ---- bounded multi-hot vectors

pub multihot_encodes : BitLengthsAreLeast → (count weight chunk : ℕ) (input bits : List ℕ) → length input ≡ count → AreBits input → weight_of input + headroom weight < 2 ^ bit_length weight → bits_of (bit_length weight) (weight_of input + headroom weight) ≡ bits → Encodes (Multihot count weight chunk) input (input ++ bits)
multihot_encodes lengths count weight chunk input bits size all below same =
    let within : weight_of input ≤ weight = omega (arith, headroom_is lengths weight) in
    record {
      taken = not_refused (Multihot count weight chunk) input (record {
        count = size;
        in_range = all;
        light = ap (λ (b : Bool). cond b None (Some (fault.Weight (weight_of input)))) (le-leb (weight_of input) weight within);
      });
      words = ap (λ (k : ℕ). input ++ bits_of (bit_length weight) (k + headroom weight)) (sym (weight_of-bits input all)) ∙ ap (λ (l : List ℕ). input ++ l) same;
    }

pub multihot_iff : BitLengthsAreLeast → (count weight chunk : ℕ) (numbers bits : List ℕ) (m : ℕ) → length numbers ≡ count → AreBits numbers → m < 2 ^ bit_length weight → bits_of (bit_length weight) m ≡ bits → (weight_of numbers + headroom weight ≡ m) ↔ IsEncoding (Multihot count weight chunk) (numbers ++ bits)
multihot_iff lengths count weight chunk numbers bits m size all m_below m_is = (
  λ (e : weight_of numbers + headroom weight ≡ m).
      (numbers, multihot_encodes lengths count weight chunk numbers bits size all (omega arith) (ap (bits_of (bit_length weight)) e ∙ m_is)),
  λ (whole : IsEncoding (Multihot count weight chunk) (numbers ++ bits)).
      let h = taken (Multihot count weight chunk) whole.0 whole.1.taken in
      let light : sum whole.0 ≤ weight = multihot_light count weight chunk whole.0 h in
      let parts = parts_same whole.0 numbers (bits_of (bit_length weight) (sum whole.0 + headroom weight)) bits (h.count ∙ sym size) whole.1.words in
      let high_same : sum whole.0 + headroom weight ≡ m = bits_of_one (bit_length weight) (sum whole.0 + headroom weight) m (omega (arith, headroom_is lengths weight)) m_below (parts.1 ∙ sym m_is) in
      let low_same : weight_of numbers ≡ sum whole.0 = ap weight_of (sym parts.0) ∙ weight_of-bits whole.0 h.in_range in
      omega arith,
)

-- the words in front are the measurement
pub multihot_read : (count weight chunk : ℕ) (x : List ℕ) → IsEncoding (Multihot count weight chunk) x → Encodes (Multihot count weight chunk) (take count x) x
multihot_read count weight chunk x (input, e) =
    let h = taken (Multihot count weight chunk) input e.taken in
    let bits = bits_of (bit_length weight) (sum input + headroom weight) in
    let front : input ≡ take count x =
    sym (take-append_seam input bits) ∙ ap (λ (i : ℕ). take i (input ++ bits)) h.count ∙ ap (take count) e.words in
    subst (λ (l : List ℕ). Encodes (Multihot count weight chunk) l x) front e

-- ---- one measurement

pub one_input : BitLengthsAreLeast → (params : Params) (input other x : List ℕ) → Encodes params input x → Encodes params other x → input ≡ other
one_input lengths params input other x e f = same params input other (taken params input e.taken) (taken params other f.taken) (e.words ∙ sym f.words)
  where
    same : (params : Params) (input other : List ℕ) → IsTaken params input → IsTaken params other → encoding_of params input ≡ encoding_of params other → input ≡ other
    same Count input other h k e = one_number input h.count ∙ e ∙ sym (one_number other k.count)
    same (Sum max) input other h k e =
        let low : the_number input < suc max = number_in_range (Sum max) input h h.count in
        let high : the_number other < suc max = number_in_range (Sum max) other k k.count in
        let parts = parts_same (bits_of (bit_length max) (the_number input)) (bits_of (bit_length max) (the_number other)) (bits_of (bit_length max) (the_number input + headroom max)) (bits_of (bit_length max) (the_number other + headroom max)) (length-bits_of (bit_length max) (the_number input) ∙ sym (length-bits_of (bit_length max) (the_number other))) e in
        let number : the_number input ≡ the_number other = bits_of_one (bit_length max) (the_number input) (the_number other) (omega (arith, headroom_is lengths max)) (omega (arith, headroom_is lengths max)) parts.0 in
        one_number input h.count ∙ ap (λ (n : ℕ). n ∷ []) number ∙ sym (one_number other k.count)
    same (SumVec count bits chunk) input other h k e = numbers_same bits input other (h.count ∙ sym k.count) h.in_range k.in_range e
    same (Histogram count chunk) input other h k e =
        one_number input h.count ∙ ap (λ (n : ℕ). n ∷ []) (place_same (the_number input) (the_number other) (count - suc (the_number input)) (count - suc (the_number other)) e) ∙ sym (one_number other k.count)
    same (Multihot count weight chunk) input other h k e =
        (parts_same input other (bits_of (bit_length weight) (sum input + headroom weight)) (bits_of (bit_length weight) (sum other + headroom weight)) (h.count ∙ sym k.count) e).0

-- ---- tests

-- the test of a sum's halves
pub sum_test : BitLengthsAreLeast → (max : ℕ) (x low high : List ℕ) (n m : ℕ) → length x ≡ 2 * bit_length max → low ≡ take (length x / 2) x → high ≡ drop (length x / 2) x → n < 2 ^ length low → bits_of (length low) n ≡ low → m < 2 ^ length high → bits_of (length high) m ≡ high → IsTrue (eqb (n + headroom max) m) ↔ IsEncoding (Sum max) x
sum_test lengths max x low high n m long low_is high_is n_below n_is m_below m_is =
    let half : length x / 2 ≡ bit_length max = omega arith in
    let front : length low ≡ bit_length max = ap length low_is ∙ length-take-le (length x / 2) x (omega arith) ∙ half in
    let back : length high ≡ bit_length max = ap length high_is ∙ length-drop (length x / 2) x ∙ (let left : length x - length x / 2 ≡ bit_length max = omega arith in left) in
    let whole : low ++ high ≡ x = ap₂ (λ (a b : List ℕ). a ++ b) low_is high_is ∙ take-append-drop (length x / 2) x in
    let iff = sum_iff lengths max low high n m front back (subst (λ (k : ℕ). n < 2 ^ k) front n_below) (ap (λ (k : ℕ). bits_of k n) (sym front) ∙ n_is) (subst (λ (k : ℕ). m < 2 ^ k) back m_below) (ap (λ (k : ℕ). bits_of k m) (sym back) ∙ m_is) in (
      λ (h : IsTrue (eqb (n + headroom max) m)). subst (IsEncoding (Sum max)) whole (iff.0 (eqb-true (n + headroom max) m h)),
      λ (h : IsEncoding (Sum max) x). eq-eqb (n + headroom max) m (iff.1 (subst (IsEncoding (Sum max)) (sym whole) h)),
    )

-- the test of a bounded multi-hot vector's parts
pub multihot_test : BitLengthsAreLeast → (count weight chunk : ℕ) (x numbers bits : List ℕ) (m : ℕ) → length x ≡ count + bit_length weight → AreBits x → numbers ≡ take count x → bits ≡ drop count x → m < 2 ^ length bits → bits_of (length bits) m ≡ bits → IsTrue (eqb (weight_of numbers + headroom weight) m) ↔ IsEncoding (Multihot count weight chunk) x
multihot_test lengths count weight chunk x numbers bits m long all numbers_is bits_is m_below m_is =
    let front : length numbers ≡ count = ap length numbers_is ∙ length-take-le count x (omega arith) in
    let back : length bits ≡ bit_length weight = ap length bits_is ∙ length-drop count x ∙ (let left : length x - count ≡ bit_length weight = omega arith in left) in
    let whole : numbers ++ bits ≡ x = ap₂ (λ (a b : List ℕ). a ++ b) numbers_is bits_is ∙ take-append-drop count x in
    let iff = multihot_iff lengths count weight chunk numbers bits m front (subst AreBits (sym numbers_is) (All-take (λ n. n < 2) count x all)) (subst (λ (k : ℕ). m < 2 ^ k) back m_below) (ap (λ (k : ℕ). bits_of k m) (sym back) ∙ m_is) in (
      λ (h : IsTrue (eqb (weight_of numbers + headroom weight) m)). subst (IsEncoding (Multihot count weight chunk)) whole (iff.0 (eqb-true (weight_of numbers + headroom weight) m h)),
      λ (h : IsEncoding (Multihot count weight chunk) x). eq-eqb (weight_of numbers + headroom weight) m (iff.1 (subst (IsEncoding (Multihot count weight chunk)) (sym whole) h)),
    )

-- the weight of parameters that fit, and the bits of a number
pub weight_limit : (count weight chunk : ℕ) → Fits (Multihot count weight chunk) → (count ≤ 65536) × (weight ≤ 65536)
weight_limit count weight chunk h =
    let within = (fitting (Multihot count weight chunk) h).1 in
    let first : count ≤ 65536 = within.0 in
    let second : weight ≤ count = within.1.0 in
    (first, omega arith)

pub sum_limit : (max : ℕ) → Fits (Sum max) → max < 2 ^ 63
sum_limit max h =
    let within = (fitting (Sum max) h).1 in
    let first : max ≤ 9223372036854775807 = within.0 in
    omega arith

pub bits_limit : (count bits chunk : ℕ) → Fits (SumVec count bits chunk) → bits ≤ 63
bits_limit count bits chunk h = (fitting (SumVec count bits chunk) h).1.1.0

pub histogram_test : (count chunk : ℕ) (x : List ℕ) → length x ≡ count → AreBits x → IsTrue (eqb (weight_of x) 1) ↔ IsEncoding (Histogram count chunk) x
histogram_test count chunk x long bits =
    let iff = histogram_iff count chunk x long bits in
    (λ (h : IsTrue (eqb (weight_of x) 1)). iff.0 (eqb-true (weight_of x) 1 h), λ (h : IsEncoding (Histogram count chunk) x). eq-eqb (weight_of x) 1 (iff.1 h))

-- ---- what is read

pub encoding-length : (params : Params) (x : List ℕ) → IsEncoding params x → length x ≡ meas_len_of params
encoding-length params x (input, e) = ap length (sym e.words) ∙ encodings_have_length params input e.taken

-- the only place is written
pub set_one : (out : List ℕ) (n : ℕ) → length out ≡ 1 → slice_set out 0 n ≡ n ∷ []
set_one [] n h = absurd (omega arith)
set_one (m ∷ []) n h = refl
set_one (m ∷ k ∷ more) n h = absurd (omega arith)

pub half-few : (x : List ℕ) (bits : ℕ) → length x ≡ 2 * bits → bits ≤ 63 → length (take (length x / 2) x) ≤ 63
half-few x bits long few = omega (arith, length-take-le (length x / 2) x (omega arith))

-- a sum is read from the first half
pub sum_answer : BitLengthsAreLeast → (max n : ℕ) (x out : List ℕ) → IsEncoding (Sum max) x → length out ≡ 1 → n < 2 ^ length (take (length x / 2) x) → bits_of (length (take (length x / 2) x)) n ≡ take (length x / 2) x → Encodes (Sum max) (slice_set out 0 n) x
sum_answer lengths max n x out whole one below is =
    let long : length x ≡ 2 * bit_length max = encoding-length (Sum max) x whole in
    let half : length x / 2 ≡ bit_length max = omega arith in
    let front : length (take (length x / 2) x) ≡ bit_length max = length-take-le (length x / 2) x (omega arith) ∙ half in
    subst (λ (l : List ℕ). Encodes (Sum max) l x) (sym (set_one out n one))
    (sum_read lengths max n x whole (subst (λ (k : ℕ). n < 2 ^ k) front below) (ap (λ (k : ℕ). bits_of k n) (sym front) ∙ is ∙ ap (λ (k : ℕ). take k x) half))

-- the place of a histogram's 1 is read
pub histogram_answer : (count chunk place : ℕ) (x out : List ℕ) → IsEncoding (Histogram count chunk) x → length out ≡ 1 → place < length x → one_at (length x) place ≡ x → Encodes (Histogram count chunk) (slice_set out 0 place) x
histogram_answer count chunk place x out whole one below same =
    subst (λ (l : List ℕ). Encodes (Histogram count chunk) l x) (sym (set_one out place one))
    (histogram_encodes count chunk place x (encoding-length (Histogram count chunk) x whole) below same)

-- one number more of a vector is read
pub numbers_more : (bits : ℕ) (out x : List ℕ) (i at n : ℕ) → i < length out → length x ≡ length out * bits → at ≡ i * bits → All (λ n. n < 2 ^ bits) (take i out) → flat_map (bits_of bits) (take i out) ≡ take at x → n < 2 ^ length (take (at + bits - at) (drop at x)) → bits_of (length (take (at + bits - at) (drop at x))) n ≡ take (at + bits - at) (drop at x) → (at + bits ≡ (i + 1) * bits) × All (λ n. n < 2 ^ bits) (take (i + 1) (slice_set out i n)) × (flat_map (bits_of bits) (take (i + 1) (slice_set out i n)) ≡ take (at + bits) x)
numbers_more bits out x i at n here long at_is below same n_below n_is =
    let span : at + bits - at ≡ bits = omega arith in
    let room : (i + 1) * bits ≤ length out * bits = mul-le-mul_right bits (let next : i + 1 ≤ length out = omega arith in next) in
    let size : length (take (at + bits - at) (drop at x)) ≡ bits =
    ap (λ (k : ℕ). length (take k (drop at x))) span ∙ length-take-le bits (drop at x) (omega (arith, length-drop at x)) in
    let number : bits_of bits n ≡ take bits (drop at x) = ap (λ (k : ℕ). bits_of k n) (sym size) ∙ n_is ∙ ap (λ (k : ℕ). take k (drop at x)) span in (
      omega arith,
      subst (All (λ n. n < 2 ^ bits)) (sym (take_more_set out i n here)) (All-append (λ n. n < 2 ^ bits) (take i out) (n ∷ []) below (one_in_range (2 ^ bits) n (subst (λ (k : ℕ). n < 2 ^ k) size n_below))),
      ap (flat_map (bits_of bits)) (take_more_set out i n here) ∙ flat_map-append (bits_of bits) (take i out) (n ∷ [])
          ∙ ap₂ (λ (a b : List ℕ). a ++ b) same (append-nil (bits_of bits n) ∙ number) ∙ sym (take-add at bits x),
    )
