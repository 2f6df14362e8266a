-- The values of wires as sums of products, while these grow call by call. From a sum up to the wires of a gadget.
use Rattle.std.proofs.Common.{ℕ, suc, ◌≡◌, ◌+◌, ◌*◌, ◌%◌, ◌<◌, ◌≤◌, List, [], ◌∷◌, ◌++◌, length, map, take, refl, ap, ap₂, sym, subst, ◌∙◌, arith, add-one, length-append}
use Rattle.std.specs.Prelude.{slice_index}
use Rattle.std.specs.List.{range_with_len}
use Rattle.std.proofs.lemmas.List.{get_or_past, get_or_append_left, length-map, map-append}
use Rattle.std.proofs.lemmas.List.FromFn.{length-map-range_with_len, get_or-map-range_with_len, fill_by_all}
use Rattle.std.proofs.lemmas.Simd.{map-map}
use Rattle.std.proofs.Math.Seq.{get_or-append_seam}
use Rattle.flp_field.specs.Word.{modulus}
use Rattle.flp_poly.specs.Polynomial.{value_at}
use Rattle.flp_poly.specs.Interpolation.{interpolated}
use Rattle.flp_field.proofs.SumLemmas.{sum_to, sum_to-suc, sum_to-same, sum_to-flat}
use Rattle.flp_syntax.specs.Tree.{Program}
use Rattle.flp_meaning.specs.Meaning.{Call, Reading}
use Rattle.flp_meaning.specs.Circuit.{calls_of}
use Rattle.flp_meaning.specs.Gadgets.{arity_of, size_of, calls_to, call_gadget, call_number, call_count, calls_made}
use Rattle.flp_meaning.specs.Wires.{with_zeros, inputs_at, wire_values, wires_of}
use Rattle.flp_plan.proofs.RowLemmas.{to-more, number-is, to-other-call, calls-whole}
use Rattle.flp_field.specs.Sums.{sum_of_products, dot_product}
use Rattle.flp_poly.specs.Weights.{weights, WeightsGiveValue}
use Rattle.flp_plan.specs.Limits.{CircuitIsWithin}
use Rattle.flp_query.specs.Wires.{HasGrown, AreSums, AreOfAtMost}

-- ---- sums of products

-- past the end of the second list nothing is added
products-to : (ws vs : List ℕ) (n : ℕ) → length vs ≤ n → n ≤ length ws
    → sum_of_products ws vs ≡ sum_to (λ k. slice_index ws k * slice_index vs k) n
products-to ws vs n long fits =
    sum_to-flat (λ k. slice_index ws k * slice_index vs k) n (length ws) fits
    (λ k from below. ap (λ v. slice_index ws k * v) (get_or_past vs k 0 (omega arith)) ∙ omega arith)

-- one more number adds its product
pub products-more : (ws vs : List ℕ) (v : ℕ) → length vs < length ws
    → sum_of_products ws (vs ++ v ∷ []) ≡ sum_of_products ws vs + slice_index ws (length vs) * v
products-more ws vs v room =
    let n : ℕ = length vs in
    let size : length (vs ++ v ∷ []) ≡ n + 1 = length-append vs (v ∷ []) in
    let next : n + 1 ≡ suc n = add-one n in
    products-to ws (vs ++ v ∷ []) (n + 1) (omega arith) (omega arith)
    ∙ ap (λ m. sum_to (λ k. slice_index ws k * slice_index (vs ++ v ∷ []) k) m) next
    ∙ sum_to-suc (λ k. slice_index ws k * slice_index (vs ++ v ∷ []) k) n
    ∙ ap₂ (λ (a b : ℕ). a + slice_index ws n * b)
    (sum_to-same (λ k. slice_index ws k * slice_index (vs ++ v ∷ []) k) (λ k. slice_index ws k * slice_index vs k) n
    (λ k below. ap (λ w. slice_index ws k * w) (get_or_append_left vs (v ∷ []) 0 k below)))
    (get_or-append_seam vs v [] 0)
    ∙ ap (λ s. s + slice_index ws n * v) (sym (products-to ws vs n (omega arith) (omega arith)))

-- a first number alone
pub products-one : (ws : List ℕ) (v : ℕ) → 0 < length ws → sum_of_products ws (v ∷ []) ≡ slice_index ws 0 * v
products-one ws v some =
    let none : sum_to (λ k. slice_index ws k * slice_index [] k) 0 ≡ 0 = refl in
    products-more ws [] v some ∙ ap (λ s. s + slice_index ws 0 * v) (products-to ws [] 0 (omega arith) (omega arith) ∙ none) ∙ omega arith

-- zeros behind the numbers change nothing
pub products-zeros : (ws vs : List ℕ) (n : ℕ) → length ws ≡ n → sum_of_products ws (with_zeros n vs) ≡ sum_of_products ws vs
products-zeros ws vs n size =
    sum_to-same (λ k. slice_index ws k * slice_index (with_zeros n vs) k) (λ k. slice_index ws k * slice_index vs k) (length ws)
    (λ k below. ap (λ v. slice_index ws k * v) (get_or-map-range_with_len (λ j. slice_index vs j) 0 n k k 0 (omega arith) (omega arith)))

-- ---- call by call

-- the number of a call of the gadget is one of a point
pub number-fits : (body : Program) → CircuitIsWithin body → (gadget call number n : ℕ) → gadget < length body.gadgets → call < call_count body
    → call_gadget body call ≡ gadget → number ≡ call_number body call → n ≡ size_of body gadget → number < n
number-fits body limits gadget call number n inside low own at sized =
    let among : call_number body call ≤ calls_made body gadget =
    subst (λ g. call_number body call ≤ calls_made body g) own (limits.calls call low).among_calls in
    let room : calls_made body gadget + 1 ≤ size_of body gadget = (limits.gadgets gadget inside).room_for_calls in
    omega arith

-- there is a point for the seed
pub some-points : (body : Program) → CircuitIsWithin body → (gadget n : ℕ) → gadget < length body.gadgets → n ≡ size_of body gadget → 0 < n
some-points body limits gadget n inside sized =
    let room : calls_made body gadget + 1 ≤ size_of body gadget = (limits.gadgets gadget inside).room_for_calls in
    omega arith

pub most-more : (few many : ℕ) (sums : List ℕ) → few ≤ many → AreOfAtMost few sums → AreOfAtMost many sums
most-more few many sums less most j low = let here = most j low in omega arith

-- before the first call
pub sums-start : (seeds ws : List ℕ) (gadget : ℕ) (sums : List ℕ) (first : ℕ) → 0 < length ws → first ≡ slice_index ws 0
    → ((j : ℕ) → j < length sums → slice_index sums j ≡ first * slice_index seeds j) → AreSums [] seeds ws gadget sums
sums-start seeds ws gadget sums first some is each j low =
    each j low ∙ ap (λ w. w * slice_index seeds j) is ∙ sym (products-one ws (slice_index seeds j) some)

-- a call of the gadget adds its input in each place, times the weight of its number
pub sums-more : (body : Program) (reading : Reading) (seeds ws : List ℕ) (gadget i number weight : ℕ) (old new : List ℕ)
    → AreSums (take i (calls_of body reading)) seeds ws gadget old
    → HasGrown body reading i weight old new → call_gadget body i ≡ gadget → number ≡ call_number body i
    → number < length ws → weight ≡ slice_index ws number → length new ≡ length old
    → AreSums (take (i + 1) (calls_of body reading)) seeds ws gadget new
sums-more body reading seeds ws gadget i number weight old new before grown own at fits is long j low =
    let inputs : List ℕ = grown.0 in
    let call : Call = record { gadget = call_gadget body i; inputs = inputs } in
    let earlier : List Call = calls_to gadget (take i (calls_of body reading)) in
    let were : List ℕ = inputs_at j earlier in
    let seed : ℕ = slice_index seeds j in
    let input : ℕ = slice_index inputs j in
    let count : length were ≡ length earlier = length-map earlier (λ (c : Call). slice_index c.inputs j) in
    let own_number : number ≡ length (seed ∷ were) =
    at ∙ number-is body reading i call grown.1 refl ∙ ap (λ g. suc (length (calls_to g (take i (calls_of body reading))))) own ∙ ap suc (sym count) in
    let now : sum_of_products ws (seed ∷ inputs_at j (calls_to gadget (take (i + 1) (calls_of body reading)))) ≡ sum_of_products ws ((seed ∷ were) ++ input ∷ []) =
    ap (λ l. sum_of_products ws (seed ∷ inputs_at j l)) (to-more gadget (calls_of body reading) i call grown.1 own)
    ∙ ap (λ l. sum_of_products ws (seed ∷ l)) (map-append (λ (c : Call). slice_index c.inputs j) earlier (call ∷ [])) in
    grown.2 j low
    ∙ ap₂ (λ (s w : ℕ). s + w * input) (before j (omega arith)) (is ∙ ap (λ k. slice_index ws k) own_number)
    ∙ sym (products-more ws (seed ∷ were) input (omega arith))
    ∙ sym now

-- a call of another gadget changes nothing
pub sums-other : (body : Program) (reading : Reading) (seeds ws : List ℕ) (gadget i : ℕ) (sums : List ℕ) → i < call_count body
    → AreSums (take i (calls_of body reading)) seeds ws gadget sums → (call_gadget body i ≡ gadget → ⊥)
    → AreSums (take (i + 1) (calls_of body reading)) seeds ws gadget sums
sums-other body reading seeds ws gadget i sums low before other j inside =
    before j inside
    ∙ ap (λ l. sum_of_products ws (slice_index seeds j ∷ inputs_at j l)) (sym (to-other-call body reading gadget i low other))

-- after all calls
pub sums-all : (body : Program) (reading : Reading) (seeds ws : List ℕ) (gadget i : ℕ) (sums : List ℕ) → call_count body ≤ i
    → AreSums (take i (calls_of body reading)) seeds ws gadget sums → AreSums (calls_of body reading) seeds ws gadget sums
sums-all body reading seeds ws gadget i sums all before =
    subst (λ l. AreSums l seeds ws gadget sums) (calls-whole body reading i all) before

-- ---- wires

-- the value of a wire at a point is its sum
wire-value : WeightsGiveValue → (body : Program) (calls : List Call) (seeds : List ℕ) (gadget input t : ℕ)
    → value_at (interpolated (wire_values body calls seeds gadget input)) t
    ≡ sum_of_products (weights (size_of body gadget) t) (slice_index seeds input ∷ inputs_at input (calls_to gadget calls)) % modulus
wire-value law body calls seeds gadget input t =
    let vs : List ℕ = slice_index seeds input ∷ inputs_at input (calls_to gadget calls) in
    let values : List ℕ = with_zeros (size_of body gadget) vs in
    let size : length values ≡ size_of body gadget = length-map-range_with_len (λ k. slice_index vs k) 0 (size_of body gadget) in
    let ws : List ℕ = weights (size_of body gadget) t in
    law t values
    ∙ ap (λ n. dot_product (weights n t) values) size
    ∙ ap (λ s. s % modulus) (products-zeros ws vs (size_of body gadget) (length-map-range_with_len _ 0 (size_of body gadget)))

-- words that are those of the sums are the values of all wires
pub wires-are : WeightsGiveValue → (body : Program) (calls : List Call) (seeds ws sums out : List ℕ) (gadget t : ℕ)
    → ws ≡ weights (size_of body gadget) t → AreSums calls seeds ws gadget sums
    → length sums ≡ arity_of body gadget → length out ≡ arity_of body gadget
    → ((j : ℕ) → j < length out → slice_index out j ≡ slice_index sums j % modulus)
    → out ≡ map (λ wire. value_at wire t) (wires_of body calls seeds gadget)
wires-are law body calls seeds ws sums out gadget t own are long size words =
    fill_by_all (λ input. value_at (interpolated (wire_values body calls seeds gadget input)) t) out (arity_of body gadget) 0 size
    (λ j below.
    words j (omega arith)
    ∙ ap (λ s. s % modulus) (are j (omega arith) ∙ ap (λ l. sum_of_products l (slice_index seeds j ∷ inputs_at j (calls_to gadget calls))) own)
    ∙ sym (wire-value law body calls seeds gadget j t))
    ∙ sym (map-map (λ wire. value_at wire t) (λ input. interpolated (wire_values body calls seeds gadget input)) (range_with_len 0 (arity_of body gadget)))
