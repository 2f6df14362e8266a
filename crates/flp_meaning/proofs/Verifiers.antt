-- The verifier of a sum of shares is the sum of their verifiers, since everything between is linear: parts of proofs, values of polynomials, wires.
use Rattle.std.proofs.Common.{ℕ, zero, suc, min, ◌≡◌, ◌+◌, ◌*◌, ◌%◌, ◌<◌, ◌≤◌, Bool, true, false, List, [], ◌∷◌, ◌++◌, length, map, take, drop, refl, ap, ap₂, sym, subst, ◌∙◌, arith, ⊎_elim, length-append, length-take}
use Rattle.std.specs.List.{All, range_with_len, flat_map, sum_by}
use Rattle.std.specs.Prelude.{slice_index, nat_lt, if◌then◌else◌}
use Rattle.std.proofs.lemmas.Bool.{cases_lt}
use Rattle.std.proofs.lemmas.List.{get_or_past, get_or-take, get_or-drop, length-map, ext_get_or}
use Rattle.std.proofs.lemmas.List.FromFn.{length-map-range_with_len, get_or-map-range_with_len}
use Rattle.std.proofs.lemmas.List.Sums.{sum_by-cons}
use Rattle.flp_field.specs.Word.{modulus, word_sum, word_power, word_product}
use Rattle.flp_field.specs.Domain.{alpha}
use Rattle.flp_field.specs.Sums.{sum_at, sum_of_lists}
use Rattle.flp_field.proofs.ListSums.{length-sum_of_lists}
use Rattle.flp_field.proofs.Congruence.{same_add, same_mod, mod_word}
use Rattle.flp_poly.specs.Polynomial.{value_at}
use Rattle.flp_poly.specs.Interpolation.{interpolated, inverse_root, inverse_size}
use Rattle.flp_poly.proofs.Horner.{horner, value_at-horner}
use Rattle.flp_syntax.specs.Tree.{Program}
use Rattle.flp_meaning.specs.Meaning.{Call}
use Rattle.flp_meaning.specs.Circuit.{calls_of, checks_of}
use Rattle.flp_meaning.specs.Gadgets.{gadgets_of, arity_of, size_of, calls_to, call_count, call_gadget, call_number, check_count}
use Rattle.flp_meaning.specs.Lengths.{start_of, coefficient_count, proof_part, verifier_part, lengths_of}
use Rattle.flp_meaning.specs.Wires.{with_zeros, inputs_at, wire_values, wires_of}
use Rattle.flp_meaning.specs.Proof.{words_at, seeds_in, polynomial_in, answer_in, answers_in, with_proof}
use Rattle.flp_meaning.specs.Verifier.{point_of, combination, check_of, verifier_of}
use Rattle.flp_syntax.specs.Linear.{IsLinear}
use Rattle.flp_meaning.specs.LinearLaws.{ReportShare, verifier_on, VerifiersHaveLength, sum_of_shares, HasSize, VerifiersSumUp}
use Rattle.flp_meaning.proofs.Sums.{IsSumOf, Share, ShareIsSum, Adds, WordsAdd, no_words, word_on, CallsAdd, words-append, circuit_adds, is_sum-words, calls_to-adds, inputs_at-adds, adds-sum, adds-scaled, adds-word, word-adds}
use Rattle.flp_meaning.proofs.PartLemmas.{length-parts}

-- ---- words of sums

no_sum : 0 ≡ word_sum 0 0
no_sum = refl

-- past the end nothing is added
sum-past : (a b c : List ℕ) (k : ℕ) → length a ≤ k → length b ≤ k → length c ≤ k → slice_index a k ≡ word_sum (slice_index b k) (slice_index c k)
sum-past a b c k pa pb pc =
    get_or_past a k 0 pa ∙ sym (ap₂ word_sum (get_or_past b k 0 pb) (get_or_past c k 0 pc))

-- so many values by their numbers
sum-numbered : (f g h : ℕ → ℕ) (n : ℕ) → ((k : ℕ) → k < n → f k ≡ word_sum (g k) (h k))
    → IsSumOf (map f (range_with_len 0 n)) (map g (range_with_len 0 n)) (map h (range_with_len 0 n))
sum-numbered f g h n same k =
    ⊎_elim
    (λ (low : k < n).
    get_or-map-range_with_len f 0 n k k 0 low (omega arith)
    ∙ same k low
    ∙ sym (ap₂ word_sum (get_or-map-range_with_len g 0 n k k 0 low (omega arith)) (get_or-map-range_with_len h 0 n k k 0 low (omega arith))))
    (λ (high : n ≤ k).
    sum-past (map f (range_with_len 0 n)) (map g (range_with_len 0 n)) (map h (range_with_len 0 n)) k
    (subst (λ m. m ≤ k) (sym (length-map-range_with_len f 0 n)) high)
    (subst (λ m. m ≤ k) (sym (length-map-range_with_len g 0 n)) high)
    (subst (λ m. m ≤ k) (sym (length-map-range_with_len h 0 n)) high))
    (cases_lt k n)

words-numbered : (f g h : ℕ → ℕ) (a n : ℕ) → ((k : ℕ) → f k ≡ word_sum (g k) (h k))
    → WordsAdd (map f (range_with_len a n)) (map g (range_with_len a n)) (map h (range_with_len a n))
words-numbered f g h a zero same = no_words
words-numbered f g h a (suc n) same = word_on (same a) (words-numbered f g h (a + 1) n same)

words-flat_map : (f g h : ℕ → List ℕ) (a n : ℕ) → ((k : ℕ) → WordsAdd (f k) (g k) (h k))
    → WordsAdd (flat_map f (range_with_len a n)) (flat_map g (range_with_len a n)) (flat_map h (range_with_len a n))
words-flat_map f g h a zero same = no_words
words-flat_map f g h a (suc n) same = words-append (same a) (words-flat_map f g h (a + 1) n same)

sum-words_at : (start count : ℕ) (a b c : List ℕ) → IsSumOf a b c → IsSumOf (words_at start count a) (words_at start count b) (words_at start count c)
sum-words_at start count a b c sum k =
    ⊎_elim
    (λ (low : k < count).
    let at : (l : List ℕ) → slice_index (words_at start count l) k ≡ slice_index l (start + k) =
    λ l. get_or-take count (drop start l) k 0 low ∙ get_or-drop start l k 0 in
    at a ∙ sum (start + k) ∙ sym (ap₂ word_sum (at b) (at c)))
    (λ (high : count ≤ k).
    let short : (l : List ℕ) → length (words_at start count l) ≤ k =
    λ l. let cut : length (take count (drop start l)) ≡ min count (length (drop start l)) = length-take count (drop start l) in omega arith in
    sum-past (words_at start count a) (words_at start count b) (words_at start count c) k (short a) (short b) (short c))
    (cases_lt k count)

map-map : {A B C : Type 0} (f : A → B) (g : B → C) (xs : List A) → map g (map f xs) ≡ map (λ x. g (f x)) xs
map-map f g [] = refl
map-map f g (x ∷ xs) = ap (λ l. g (f x) ∷ l) (map-map f g xs)

-- ---- values of polynomials

horner-first : (cs : List ℕ) (t : ℕ) → horner cs t ≡ slice_index cs 0 + t * horner (drop 1 cs) t
horner-first [] t = omega arith
horner-first (c ∷ cs) t = refl

horner-none : (cs : List ℕ) (t : ℕ) → length cs ≤ 0 → horner cs t ≡ 0
horner-none [] t none = refl
horner-none (c ∷ cs) t none = absurd (omega arith)

length-rest : (cs : List ℕ) (n : ℕ) → length cs ≤ suc n → length (drop 1 cs) ≤ n
length-rest [] n h = omega arith
length-rest (c ∷ cs) n h = omega arith

rest-at : (cs : List ℕ) (k : ℕ) → slice_index (drop 1 cs) k ≡ slice_index cs (suc k)
rest-at [] k = refl
rest-at (c ∷ cs) k = refl

horner-adds : (n : ℕ) (p q r : List ℕ) (t : ℕ) → length p ≤ n → length q ≤ n → length r ≤ n → IsSumOf p q r
    → Adds (horner p t) (horner q t) (horner r t)
horner-adds zero p q r t np nq nr sum =
    ap (λ (x : ℕ). x % modulus) (horner-none p t np)
    ∙ sym (ap₂ (λ (x y : ℕ). (x + y) % modulus) (horner-none q t nq) (horner-none r t nr))
horner-adds (suc n) p q r t np nq nr sum =
    let rest : Adds (horner (drop 1 p) t) (horner (drop 1 q) t) (horner (drop 1 r) t) =
    horner-adds n (drop 1 p) (drop 1 q) (drop 1 r) t (length-rest p n np) (length-rest q n nq) (length-rest r n nr)
    (λ k. rest-at p k ∙ sum (suc k) ∙ sym (ap₂ word_sum (rest-at q k) (rest-at r k))) in
    let first : Adds (slice_index p 0) (slice_index q 0) (slice_index r 0) = adds-word _ _ _ (sum 0) in
    ap (λ (x : ℕ). x % modulus) (horner-first p t)
    ∙ adds-sum _ _ _ _ _ _ first (adds-scaled t _ _ _ rest)
    ∙ sym (ap₂ (λ (x y : ℕ). (x + y) % modulus) (horner-first q t) (horner-first r t))

value-adds : (p q r : List ℕ) (t : ℕ) → IsSumOf p q r → value_at p t ≡ word_sum (value_at q t) (value_at r t)
value-adds p q r t sum =
    value_at-horner p t
    ∙ word-adds _ _ _ (horner-adds (length p + length q + length r) p q r t (omega arith) (omega arith) (omega arith) sum)
    ∙ sym (ap₂ word_sum (value_at-horner q t) (value_at-horner r t))

-- the polynomial through sums of values is the sum of the polynomials
interpolated-adds : (n : ℕ) (p q r : List ℕ) → length p ≡ n → length q ≡ n → length r ≡ n → IsSumOf p q r
    → IsSumOf (interpolated p) (interpolated q) (interpolated r)
unfolding interpolated
interpolated-adds n p q r np nq nr sum =
    let made : (m : ℕ) → List ℕ → List ℕ = λ m l.
    map (λ k. word_product (inverse_size m) (value_at l (word_power (inverse_root m) k))) (range_with_len 0 m) in
    let alike : IsSumOf (made n p) (made n q) (made n r) =
    sum-numbered (λ k. word_product (inverse_size n) (value_at p (word_power (inverse_root n) k)))
    (λ k. word_product (inverse_size n) (value_at q (word_power (inverse_root n) k)))
    (λ k. word_product (inverse_size n) (value_at r (word_power (inverse_root n) k))) n
    (λ k low.
    word-adds _ _ _
    (adds-scaled (inverse_size n) _ _ _ (adds-word _ _ _ (value-adds p q r (word_power (inverse_root n) k) sum)))) in
    subst (λ m. IsSumOf (made m p) (interpolated q) (interpolated r)) (sym np)
    (subst (λ m. IsSumOf (made n p) (made m q) (interpolated r)) (sym nq)
    (subst (λ m. IsSumOf (made n p) (made n q) (made m r)) (sym nr) alike))

-- ---- a query on three shares

record ReportIsSum (whole one two : ReportShare) : Type 0 where
  words : IsSumOf whole.x one.x two.x
  proofs : IsSumOf whole.proof one.proof two.proof
  unit : whole.unit ≡ word_sum one.unit two.unit

module _ (body : Program) (words query : List ℕ) (whole left right : ReportShare) (linear : IsLinear body) (sums : ReportIsSum whole left right) where
  read_by : ReportShare → Share
  read_by share = record { x = share.x; unit = share.unit; answers = answers_in body share.proof }

  polynomials : (gadget : ℕ) → IsSumOf (polynomial_in body whole.proof gadget) (polynomial_in body left.proof gadget) (polynomial_in body right.proof gadget)
  polynomials gadget =
      sum-words_at (start_of (proof_part body) gadget + arity_of body gadget) (coefficient_count body gadget) whole.proof left.proof right.proof sums.proofs

  seeds : (gadget : ℕ) → IsSumOf (seeds_in body whole.proof gadget) (seeds_in body left.proof gadget) (seeds_in body right.proof gadget)
  seeds gadget = sum-words_at (start_of (proof_part body) gadget) (arity_of body gadget) whole.proof left.proof right.proof sums.proofs

  shares_add : ShareIsSum (read_by whole) (read_by left) (read_by right)
  unfolding read_by
  shares_add = record {
    words = sums.words;
    unit = sums.unit;
    answers = sum-numbered (answer_in body whole.proof) (answer_in body left.proof) (answer_in body right.proof) (call_count body)
        (λ k low.
        value-adds (polynomial_in body whole.proof (call_gadget body k)) (polynomial_in body left.proof (call_gadget body k)) (polynomial_in body right.proof (call_gadget body k))
        (word_power (alpha (size_of body (call_gadget body k))) (call_number body k)) (polynomials (call_gadget body k)));
  }

  calls_in : ReportShare → List Call
  calls_in share = calls_of body (with_proof body share.x words share.proof share.unit)

  circuits_add : WordsAdd
      (checks_of body (with_proof body whole.x words whole.proof whole.unit))
      (checks_of body (with_proof body left.x words left.proof left.unit))
      (checks_of body (with_proof body right.x words right.proof right.unit))
      × CallsAdd (calls_in whole) (calls_in left) (calls_in right)
  unfolding read_by calls_in
  circuits_add =
      circuit_adds body words (read_by whole) (read_by left) (read_by right) linear shares_add

  given : ReportShare → ℕ → ℕ → List ℕ
  given share gadget input = slice_index (seeds_in body share.proof gadget) input ∷ inputs_at input (calls_to gadget (calls_in share))

  given_adds : (gadget input : ℕ) → IsSumOf (given whole gadget input) (given left gadget input) (given right gadget input)
  unfolding given
  given_adds gadget input = is_sum-words (word_on (seeds gadget input) (inputs_at-adds input (calls_to-adds gadget circuits_add.1)))

  wire : ReportShare → ℕ → ℕ → List ℕ
  wire share gadget input = interpolated (wire_values body (calls_in share) (seeds_in body share.proof gadget) gadget input)

  wire_adds : (gadget input : ℕ) → IsSumOf (wire whole gadget input) (wire left gadget input) (wire right gadget input)
  unfolding given wire
  wire_adds gadget input =
      let n : ℕ = size_of body gadget in
      let long : (l : List ℕ) → length (with_zeros n l) ≡ n = λ l. length-map-range_with_len (λ k. slice_index l k) 0 n in
      interpolated-adds n (with_zeros n (given whole gadget input)) (with_zeros n (given left gadget input)) (with_zeros n (given right gadget input))
      (long (given whole gadget input)) (long (given left gadget input)) (long (given right gadget input))
      (sum-numbered (λ k. slice_index (given whole gadget input) k) (λ k. slice_index (given left gadget input) k) (λ k. slice_index (given right gadget input) k) n
      (λ k low. given_adds gadget input k))

  verifier_part_of : ReportShare → ℕ → List ℕ
  verifier_part_of share gadget = verifier_of body share.x words share.proof query share.unit gadget

  -- the values of the wires, by their numbers
  by_number : ReportShare → ℕ → List ℕ
  by_number share gadget =
      map (λ input. value_at (wire share gadget input) (point_of body query gadget)) (range_with_len 0 (arity_of body gadget))
      ++ value_at (polynomial_in body share.proof gadget) (point_of body query gadget) ∷ []

  by_number-is : (share : ReportShare) (gadget : ℕ) → verifier_part_of share gadget ≡ by_number share gadget
  unfolding verifier_part_of by_number wire calls_in
  by_number-is share gadget =
      ap (λ (l : List ℕ). l ++ value_at (polynomial_in body share.proof gadget) (point_of body query gadget) ∷ [])
      (map-map (λ input. wire share gadget input) (λ p. value_at p (point_of body query gadget)) (range_with_len 0 (arity_of body gadget)))

  part_adds : (gadget : ℕ) → WordsAdd (verifier_part_of whole gadget) (verifier_part_of left gadget) (verifier_part_of right gadget)
  unfolding by_number
  part_adds gadget =
      let t : ℕ = point_of body query gadget in
      let made : WordsAdd (by_number whole gadget) (by_number left gadget) (by_number right gadget) =
      words-append
      (words-numbered (λ input. value_at (wire whole gadget input) t) (λ input. value_at (wire left gadget input) t) (λ input. value_at (wire right gadget input) t) 0 (arity_of body gadget)
      (λ input. value-adds (wire whole gadget input) (wire left gadget input) (wire right gadget input) t (wire_adds gadget input)))
      (word_on (value-adds (polynomial_in body whole.proof gadget) (polynomial_in body left.proof gadget) (polynomial_in body right.proof gadget) t (polynomials gadget)) no_words) in
      subst (λ l. WordsAdd l (verifier_part_of left gadget) (verifier_part_of right gadget)) (sym (by_number-is whole gadget))
      (subst (λ l. WordsAdd (by_number whole gadget) l (verifier_part_of right gadget)) (sym (by_number-is left gadget))
      (subst (λ l. WordsAdd (by_number whole gadget) (by_number left gadget) l) (sym (by_number-is right gadget)) made))

  combined-adds : {a b c : List ℕ} (q : List ℕ) → WordsAdd a b c → Adds (combination a q) (combination b q) (combination c q)
  combined-adds q no_words = refl
  combined-adds q (word_on e more) =
      adds-sum _ _ _ _ _ _ (adds-scaled (slice_index q 0) _ _ _ (adds-word _ _ _ e)) (combined-adds (drop 1 q) more)

  check-adds : {a b c : List ℕ} → WordsAdd a b c → check_of body a query ≡ word_sum (check_of body b query) (check_of body c query)
  check-adds {a} {b} {c} h = either (nat_lt 1 (check_count body))
    where
      either : (test : Bool)
          → (if test then combination a query % modulus else slice_index a 0)
          ≡ word_sum (if test then combination b query % modulus else slice_index b 0) (if test then combination c query % modulus else slice_index c 0)
      either true = word-adds _ _ _ (combined-adds query h)
      either false = is_sum-words h 0

  verifier_adds : WordsAdd (verifier_on body words query whole) (verifier_on body words query left) (verifier_on body words query right)
  unfolding verifier_part_of
  verifier_adds =
      word_on (check-adds circuits_add.0)
      (words-flat_map (verifier_part_of whole) (verifier_part_of left) (verifier_part_of right) 0 (length body.gadgets) part_adds)

-- the verifier of the sum of two shares is the sum of the verifiers
verifiers_add_up : (body : Program) (joint query : List ℕ) (whole one two : ReportShare) → IsLinear body → ReportIsSum whole one two
    → IsSumOf (verifier_on body joint query whole) (verifier_on body joint query one) (verifier_on body joint query two)
verifiers_add_up body words query whole left right linear sums =
    is_sum-words (verifier_adds body words query whole left right linear sums)

-- ---- any number of shares

pub verifiers_have_length : VerifiersHaveLength
verifiers_have_length body words query share =
    let long : length (flat_map (verifier_of body share.x words share.proof query share.unit) (gadgets_of body)) ≡ sum_by (verifier_part body) (gadgets_of body) =
    length-parts (verifier_of body share.x words share.proof query share.unit) (verifier_part body) 0 (length body.gadgets)
    (λ gadget low.
    let wires : List (List ℕ) = wires_of body (calls_of body (with_proof body share.x words share.proof share.unit)) (seeds_in body share.proof gadget) gadget in
    length-append (map (λ wire. value_at wire (point_of body query gadget)) wires) _
    ∙ ap (λ k. k + 1)
    (length-map wires (λ wire. value_at wire (point_of body query gadget))
    ∙ length-map-range_with_len (λ input. interpolated (wire_values body (calls_of body (with_proof body share.x words share.proof share.unit)) (seeds_in body share.proof gadget) gadget input)) 0 (arity_of body gadget))) in
    omega arith

-- the sum of no lists is 0
sum-none : (n k : ℕ) → slice_index (sum_of_lists n []) k ≡ 0
sum-none n k =
    ⊎_elim
    (λ (low : k < n). get_or-map-range_with_len (sum_at []) 0 n k k 0 low (omega arith))
    (λ (high : n ≤ k). get_or_past (sum_of_lists n []) k 0 (subst (λ m. m ≤ k) (sym (length-sum_of_lists n [])) high))
    (cases_lt k n)

-- the sum of several lists is the first and the sum of the others
sum-first : (n : ℕ) (first : List ℕ) (lists : List (List ℕ)) → length first ≡ n → IsSumOf (sum_of_lists n (first ∷ lists)) first (sum_of_lists n lists)
sum-first n first lists size k =
    ⊎_elim
    (λ (low : k < n).
    let rest : ℕ = sum_by (λ words. slice_index words k) lists in
    get_or-map-range_with_len (sum_at (first ∷ lists)) 0 n k k 0 low (omega arith)
    ∙ ap (λ (s : ℕ). s % modulus) (sum_by-cons (λ words. slice_index words k) first lists)
    ∙ same_add (slice_index first k) (slice_index first k) rest (rest % modulus) refl (sym (same_mod rest))
    ∙ ap (λ s. word_sum (slice_index first k) s) (sym (get_or-map-range_with_len (sum_at lists) 0 n k k 0 low (omega arith))))
    (λ (high : n ≤ k).
    sum-past (sum_of_lists n (first ∷ lists)) first (sum_of_lists n lists) k
    (subst (λ m. m ≤ k) (sym (length-sum_of_lists n (first ∷ lists))) high)
    (subst (λ m. m ≤ k) (sym size) high)
    (subst (λ m. m ≤ k) (sym (length-sum_of_lists n lists)) high))
    (cases_lt k n)

-- a word that is twice itself is 0
twice : (v : ℕ) → v ≡ word_sum v v → v ≡ 0
twice v same = let below : v < modulus = subst (λ k. k < modulus) (sym same) (mod_word (v + v)) in omega arith

verifiers-sum : (body : Program) (words query : List ℕ) (n m : ℕ) (shares : List ReportShare) → IsLinear body → All (HasSize n m) shares → (k : ℕ)
    → slice_index (verifier_on body words query (sum_of_shares n m shares)) k
    ≡ slice_index (sum_of_lists (lengths_of body).verifier (map (verifier_on body words query) shares)) k
verifiers-sum body words query n m [] linear sizes k =
    let none : ReportShare = sum_of_shares n m [] in
    let zero_sum : (l : ℕ) → IsSumOf (sum_of_lists l []) (sum_of_lists l []) (sum_of_lists l []) =
    λ l j. sum-none l j ∙ sym (ap₂ word_sum (sum-none l j) (sum-none l j)) in
    let sums : ReportIsSum none none none = record { words = zero_sum n; proofs = zero_sum m; unit = refl } in
    twice (slice_index (verifier_on body words query none) k) (verifiers_add_up body words query none none none linear sums k)
    ∙ sym (sum-none (lengths_of body).verifier k)
verifiers-sum body words query n m (share ∷ shares) linear sizes k =
    let whole : ReportShare = sum_of_shares n m (share ∷ shares) in
    let rest : ReportShare = sum_of_shares n m shares in
    let own : HasSize n m share = sizes 0 share (omega arith) in
    let units : ℕ = sum_by (λ (s : ReportShare). s.unit) shares in
    let sums : ReportIsSum whole share rest = record {
      words = sum-first n share.x (map (λ (s : ReportShare). s.x) shares) own.words;
      proofs = sum-first m share.proof (map (λ (s : ReportShare). s.proof) shares) own.proofs;
      unit =
          ap (λ (s : ℕ). s % modulus) (sum_by-cons (λ (s : ReportShare). s.unit) share shares)
          ∙ same_add share.unit share.unit units (units % modulus) refl (sym (same_mod units));
    } in
    let L : ℕ = (lengths_of body).verifier in
    verifiers_add_up body words query whole share rest linear sums k
    ∙ ap (λ v. word_sum (slice_index (verifier_on body words query share) k) v)
    (verifiers-sum body words query n m shares linear (λ j d low. sizes (suc j) d (omega arith)) k)
    ∙ sym (sum-first L (verifier_on body words query share) (map (verifier_on body words query) shares) (verifiers_have_length body words query share) k)

pub verifiers_sum_up : VerifiersSumUp
verifiers_sum_up body words query n m shares linear sizes =
    let L : ℕ = (lengths_of body).verifier in
    let whole : List ℕ = verifier_on body words query (sum_of_shares n m shares) in
    let parts : List (List ℕ) = map (verifier_on body words query) shares in
    ext_get_or 0 whole (sum_of_lists L parts)
    (verifiers_have_length body words query (sum_of_shares n m shares) ∙ sym (length-sum_of_lists L parts))
    (λ k low. verifiers-sum body words query n m shares linear sizes k)
