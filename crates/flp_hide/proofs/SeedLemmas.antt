-- The wires of all gadgets at their points, and the seeds that give them. From the wires of one gadget up to the laws.
use Rattle.std.proofs.Common.{ℕ, ◌≡◌, ◌+◌, ◌*◌, ◌%◌, ◌<◌, ◌≤◌, List, length, map, take, drop, ap, ap₂, sym, ◌∙◌, arith}
use Rattle.std.specs.List.{range_with_len, sum_by}
use Rattle.std.specs.Prelude.{slice_index, None}
use Rattle.std.proofs.lemmas.List.{length-map, ext_get_or}
use Rattle.std.proofs.lemmas.List.Elements.{All-map}
use Rattle.std.proofs.lemmas.List.FromFn.{length-map-range_with_len, get_or-map-range_with_len}
use Rattle.flp_field.specs.Word.{modulus, IsWord, word_difference, word_product}
use Rattle.flp_field.proofs.Congruence.{mod_word}
use Rattle.flp_poly.specs.Polynomial.{value_at}
use Rattle.flp_poly.specs.Weights.{weight}
use Rattle.flp_ntt.specs.PointFormula.{word_inverse}
use Rattle.flp_syntax.specs.Tree.{Program}
use Rattle.flp_meaning.specs.Circuit.{calls_of, direct}
use Rattle.flp_meaning.specs.Gadgets.{arity_of, size_of}
use Rattle.flp_meaning.specs.Lengths.{lengths_of, start_of}
use Rattle.flp_meaning.specs.Wires.{wires_of}
use Rattle.flp_meaning.specs.Proof.{seeds_for}
use Rattle.flp_meaning.specs.Verifier.{point_of, gadget_in_domain}
use Rattle.flp_meaning.specs.ProofLaws.{IsBounded, AreSeeds}
use Rattle.flp_meaning.proofs.StartLemmas.{start-inside}
use Rattle.flp_meaning.proofs.WireLemmas.{length-wires, values-wires, slice-word}
use Rattle.flp_hide.specs.Wires.{wires_at, all_wires_at, over_weight, seeds_between, all_seeds_between, no_seeds, seeds_giving, reseeded}
use Rattle.flp_hide.specs.Laws.{SeedsExist, SeedsAreUnique, ReseededHasSameWires, ReseedingGoesBack}
use Rattle.flp_hide.proofs.PartLemmas.{flat-same, are-seeds, part-at, parts-whole, length-part, part-words, part-of-zeros}
use Rattle.flp_hide.proofs.WeightLemmas.{weight-word, weight-some}
use Rattle.flp_hide.proofs.WireLemmas.{rest_of, wire-value, seed-unique, seed-exists}

-- ---- the wires of a gadget

-- its weight at its point, and what the calls of an encoding give
abbrev first_weight : Program → List ℕ → ℕ → ℕ
first_weight body query g = weight (size_of body g) (point_of body query g) 0

abbrev rest_at : Program → (x joint query : List ℕ) → (g input : ℕ) → ℕ
rest_at body x joint query g input = rest_of body (calls_of body (direct body x joint)) g input (point_of body query g)

wire-at : (body : Program) (x joint seeds query : List ℕ) (g input : ℕ) → input < arity_of body g
    → slice_index (wires_at body x joint seeds query g) input
    ≡ (first_weight body query g * slice_index (seeds_for body seeds g) input + rest_at body x joint query g input) % modulus
wire-at body x joint seeds query g input low =
    values-wires body (calls_of body (direct body x joint)) (seeds_for body seeds g) g (point_of body query g) input low
    ∙ wire-value body (calls_of body (direct body x joint)) (seeds_for body seeds g) g input (point_of body query g)

pub length-wires-at : (body : Program) (x joint seeds query : List ℕ) (g : ℕ) → length (wires_at body x joint seeds query g) ≡ arity_of body g
length-wires-at body x joint seeds query g =
    length-map (wires_of body (calls_of body (direct body x joint)) (seeds_for body seeds g) g) (λ wire. value_at wire (point_of body query g))
    ∙ length-wires body (calls_of body (direct body x joint)) (seeds_for body seeds g) g

pub wires-are-seeds : (body : Program) (x joint seeds query : List ℕ) → AreSeeds body (all_wires_at body x joint seeds query)
wires-are-seeds body x joint seeds query =
    are-seeds body (wires_at body x joint seeds query) (length-wires-at body x joint seeds query)
    (λ g. All-map IsWord (λ (wire : List ℕ). value_at wire (point_of body query g))
    (wires_of body (calls_of body (direct body x joint)) (seeds_for body seeds g) g) (λ k d low. mod_word _))

pub wires-part : (body : Program) (x joint seeds query : List ℕ) (g : ℕ) → g < length body.gadgets
    → seeds_for body (all_wires_at body x joint seeds query) g ≡ wires_at body x joint seeds query g
wires-part body x joint seeds query g inside =
    part-at body (wires_at body x joint seeds query) g (length-wires-at body x joint seeds query) inside

-- with seeds that are 0 it has the rest alone
blank-at : (body : Program) (x joint query : List ℕ) (g input : ℕ) → g < length body.gadgets → input < arity_of body g
    → slice_index (wires_at body x joint (no_seeds body) query g) input ≡ rest_at body x joint query g input % modulus
blank-at body x joint query g input inside low =
    let fits : start_of (arity_of body) g + arity_of body g ≤ sum_by (arity_of body) (range_with_len 0 (length body.gadgets)) =
    start-inside (arity_of body) g (length body.gadgets) inside in
    let w : ℕ = first_weight body query g in
    let rest : ℕ = rest_at body x joint query g input in
    let nothing : w * 0 + rest ≡ rest = omega arith in
    wire-at body x joint (no_seeds body) query g input low
    ∙ ap (λ (s : ℕ). (w * s + rest) % modulus) (part-of-zeros body (lengths_of body).prove g input fits low)
    ∙ ap (λ (s : ℕ). s % modulus) nothing

-- ---- seeds between values

length-between : (body : Program) (query low high : List ℕ) (g : ℕ) → length (seeds_between body query low high g) ≡ arity_of body g
length-between body query low high g = length-map-range_with_len _ 0 (arity_of body g)

pub between-are-seeds : (body : Program) (query low high : List ℕ) → AreSeeds body (all_seeds_between body query low high)
between-are-seeds body query low high =
    are-seeds body (λ g. seeds_between body query (seeds_for body low g) (seeds_for body high g) g)
    (λ g. length-between body query (seeds_for body low g) (seeds_for body high g) g)
    (λ g. All-map IsWord (λ (input : ℕ). over_weight body query g (word_difference (slice_index (seeds_for body high g) input) (slice_index (seeds_for body low g) input)))
    (range_with_len 0 (arity_of body g)) (λ k d low. mod_word _))

between-at : (body : Program) (query low high : List ℕ) (g input : ℕ) → g < length body.gadgets → input < arity_of body g
    → slice_index (seeds_for body (all_seeds_between body query low high) g) input
    ≡ over_weight body query g (word_difference (slice_index (seeds_for body high g) input) (slice_index (seeds_for body low g) input))
between-at body query low high g input inside below =
    ap (λ (l : List ℕ). slice_index l input)
    (part-at body (λ k. seeds_between body query (seeds_for body low k) (seeds_for body high k) k) g
    (λ k. length-between body query (seeds_for body low k) (seeds_for body high k) k) inside)
    ∙ get_or-map-range_with_len
    (λ k. over_weight body query g (word_difference (slice_index (seeds_for body high g) k) (slice_index (seeds_for body low g) k)))
    0 (arity_of body g) input input 0 below (omega arith)

-- quotients of the words of a gadget in two lists are the seeds between them
pub quotients-are : (body : Program) (query low high out : List ℕ) (g start count n inverse : ℕ) → start ≡ start_of (arity_of body) g
    → count ≡ arity_of body g → n ≡ arity_of body g → inverse ≡ word_inverse (first_weight body query g)
    → out ≡ map (λ k. word_product (word_difference (slice_index (take count (drop start high)) k) (slice_index (take count (drop start low)) k)) inverse) (range_with_len 0 n)
    → out ≡ seeds_between body query (seeds_for body low g) (seeds_for body high g) g
quotients-are body query low high out g start count n inverse begins counted long is own =
    let made : (start count n inverse : ℕ) → List ℕ = λ s k m i.
    map (λ j. word_product (word_difference (slice_index (take k (drop s high)) j) (slice_index (take k (drop s low)) j)) i) (range_with_len 0 m) in
    own ∙ ap₂ (λ (s k : ℕ). made s k n inverse) begins counted
    ∙ ap₂ (λ (m i : ℕ). made (start_of (arity_of body) g) (arity_of body g) m i) long is

-- the wires of a gadget have the values for which the seeds were made
giving-part : (body : Program) (x joint query values : List ℕ) (g : ℕ) → IsBounded body → gadget_in_domain body query ≡ None → AreSeeds body values
    → g < length body.gadgets → wires_at body x joint (seeds_giving body x joint query values) query g ≡ seeds_for body values g
giving-part body x joint query values g bounded outside good inside =
    let seeds : List ℕ = seeds_giving body x joint query values in
    let blank : List ℕ = all_wires_at body x joint (no_seeds body) query in
    let n : ℕ = arity_of body g in
    let w : ℕ = first_weight body query g in
    let long : length (wires_at body x joint seeds query g) ≡ n = length-wires-at body x joint seeds query g in
    ext_get_or 0 (wires_at body x joint seeds query g) (seeds_for body values g) (long ∙ sym (length-part body values g good inside))
    (λ input below.
    let low : input < n = omega arith in
    let high : ℕ = slice_index (seeds_for body values g) input in
    let rest : ℕ = rest_at body x joint query g input in
    let none : slice_index (seeds_for body blank g) input ≡ rest % modulus =
    ap (λ (l : List ℕ). slice_index l input) (wires-part body x joint (no_seeds body) query g inside) ∙ blank-at body x joint query g input inside low in
    wire-at body x joint seeds query g input low
    ∙ ap (λ (s : ℕ). (w * s + rest) % modulus) (between-at body query blank values g input inside low)
    ∙ seed-exists w high (slice_index (seeds_for body blank g) input) rest (weight-some body query g bounded inside outside)
    (weight-word (size_of body g) (point_of body query g) 0) (slice-word (seeds_for body values g) input (part-words body values g good)) none)

-- ---- the laws

pub seeds_exist : (body : Program) → IsBounded body → SeedsExist body
seeds_exist body bounded x joint query values outside good =
    let blank : List ℕ = all_wires_at body x joint (no_seeds body) query in
    let seeds : List ℕ = seeds_giving body x joint query values in (
      between-are-seeds body query blank values,
      flat-same (wires_at body x joint seeds query) (seeds_for body values) 0 (length body.gadgets)
          (λ g inside. giving-part body x joint query values g bounded outside good (omega arith))
          ∙ parts-whole body values good,
    )

-- wires with the same values have the same seeds
unique-part : (body : Program) (x joint query seeds others : List ℕ) (g : ℕ) → IsBounded body → gadget_in_domain body query ≡ None
    → AreSeeds body seeds → AreSeeds body others → g < length body.gadgets
    → wires_at body x joint seeds query g ≡ wires_at body x joint others query g → seeds_for body seeds g ≡ seeds_for body others g
unique-part body x joint query seeds others g bounded outside good other_good inside same =
    let n : ℕ = arity_of body g in
    let long : length (seeds_for body seeds g) ≡ n = length-part body seeds g good inside in
    ext_get_or 0 (seeds_for body seeds g) (seeds_for body others g) (long ∙ sym (length-part body others g other_good inside))
    (λ input below.
    let low : input < n = omega arith in
    seed-unique (first_weight body query g) (slice_index (seeds_for body seeds g) input) (slice_index (seeds_for body others g) input)
    (rest_at body x joint query g input) (weight-some body query g bounded inside outside)
    (weight-word (size_of body g) (point_of body query g) 0)
    (slice-word (seeds_for body seeds g) input (part-words body seeds g good))
    (slice-word (seeds_for body others g) input (part-words body others g other_good))
    (sym (wire-at body x joint seeds query g input low)
    ∙ ap (λ (l : List ℕ). slice_index l input) same
    ∙ wire-at body x joint others query g input low))

-- from the wires of all gadgets those of one
pub same-part : (body : Program) (x y joint seeds others query : List ℕ) (g : ℕ) → g < length body.gadgets
    → all_wires_at body x joint seeds query ≡ all_wires_at body y joint others query
    → wires_at body x joint seeds query g ≡ wires_at body y joint others query g
same-part body x y joint seeds others query g inside same =
    sym (wires-part body x joint seeds query g inside)
    ∙ ap (λ (l : List ℕ). seeds_for body l g) same
    ∙ wires-part body y joint others query g inside

pub seeds_are_unique : (body : Program) → IsBounded body → SeedsAreUnique body
seeds_are_unique body bounded x joint query seeds others outside good other_good same =
    sym (parts-whole body seeds good)
    ∙ flat-same (seeds_for body seeds) (seeds_for body others) 0 (length body.gadgets)
    (λ g below.
    let inside : g < length body.gadgets = omega arith in
    unique-part body x joint query seeds others g bounded outside good other_good inside (same-part body x x joint seeds others query g inside same))
    ∙ parts-whole body others other_good

pub reseeded_has_same_wires : (body : Program) → IsBounded body → ReseededHasSameWires body
reseeded_has_same_wires body bounded from to joint query seeds outside good =
    seeds_exist body bounded to joint query (all_wires_at body from joint seeds query) outside (wires-are-seeds body from joint seeds query)

pub reseeding_goes_back : (body : Program) → IsBounded body → ReseedingGoesBack body
reseeding_goes_back body bounded from to joint query seeds outside good =
    let there = reseeded_has_same_wires body bounded from to joint query seeds outside good in
    let back = reseeded_has_same_wires body bounded to from joint query (reseeded body from to joint query seeds) outside there.0 in
    seeds_are_unique body bounded from joint query (reseeded body to from joint query (reseeded body from to joint query seeds)) seeds outside back.0 good
    (back.1 ∙ there.1)
