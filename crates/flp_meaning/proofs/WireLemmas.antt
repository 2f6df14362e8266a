-- Wires: what they run through, and what a proof that is true of its gadgets answers.
use Rattle.std.proofs.Common.{ℕ, suc, ◌≡◌, ◌+◌, ◌-◌, ◌^◌, ◌<◌, ◌≤◌, List, [], ◌∷◌, length, map, get_or, refl, ap, sym, subst, ◌∙◌, arith, ⊎_elim, eqb}
use Rattle.std.specs.List.{range_with_len}
use Rattle.std.specs.Prelude.{slice_index}
use Rattle.std.proofs.lemmas.Bool.{cases_lt}
use Rattle.std.proofs.lemmas.List.{get_or_past, get_or-map, length-map}
use Rattle.std.proofs.lemmas.List.Elements.{All-map, All-cons, All-filter}
use Rattle.std.proofs.lemmas.List.FromFn.{length-map-range_with_len, get_or-map-range_with_len}
use Rattle.flp_field.specs.Word.{IsWord, AreWords, word_power}
use Rattle.flp_field.specs.Domain.{alpha}
use Rattle.flp_poly.specs.Polynomial.{value_at, values_on}
use Rattle.flp_poly.specs.Interpolation.{Interpolates, interpolated}
use Rattle.flp_poly.proofs.Interpolation.{interpolation_exists}
use Rattle.flp_poly.proofs.Vanishing.{get_or-values_on}
use Rattle.flp_gadget.specs.KindTree.{value_of, formula_of}
use Rattle.flp_gadget.specs.KindProofs.{law_of_kind}
use Rattle.flp_syntax.specs.Tree.{Program}
use Rattle.flp_meaning.specs.Meaning.{Call, Reading}
use Rattle.flp_meaning.specs.Circuit.{calls_of, kind_of}
use Rattle.flp_meaning.specs.Gadgets.{arity_of, calls_made, calls_to, call_count, call_gadget, call_number, log_of, size_of}
use Rattle.flp_meaning.specs.Wires.{with_zeros, inputs_at, wire_values, wires_of}
use Rattle.flp_meaning.specs.ProofLaws.{IsBounded, DomainsHold, WiresRunThrough}
use Rattle.flp_meaning.proofs.Fixed.{calls_are_fixed, gadgets_are_fixed}
use Rattle.flp_meaning.proofs.CallLemmas.{IsNumbered, calls_are_well, calls_are_numbered}
use Rattle.flp_meaning.proofs.PowerLemmas.{least_power}
use Rattle.flp_meaning.proofs.ValueLemmas.{value-same}

-- ---- domains and words

pub domains_hold : DomainsHold
domains_hold body gadget bounded inside =
    let n : ℕ = calls_made body gadget in
    let least = least_power (n + 1) in
    let few : n ≤ 4095 = bounded.few_calls gadget inside in
    let size : 2 ^ 12 ≡ 4096 = refl in
    (least.1 12 (omega arith), let enough : n + 1 ≤ size_of body gadget = least.0 in omega arith)

pub slice-word : (xs : List ℕ) (k : ℕ) → AreWords xs → IsWord (slice_index xs k)
slice-word xs k words =
    ⊎_elim
    (λ (low : k < length xs). words k 0 low)
    (λ (high : length xs ≤ k). subst IsWord (sym (get_or_past xs k 0 high)) (omega arith))
    (cases_lt k (length xs))

inputs-words : (body : Program) (reading : Reading) (gadget input : ℕ) → AreWords (inputs_at input (calls_to gadget (calls_of body reading)))
inputs-words body reading gadget input =
    All-map IsWord (λ (call : Call). slice_index call.inputs input) (calls_to gadget (calls_of body reading))
    (All-filter (λ (call : Call). eqb call.gadget gadget) (λ (call : Call). IsWord (slice_index call.inputs input)) (calls_of body reading)
    (λ k none low. slice-word (get_or (calls_of body reading) k none).inputs input (calls_are_well body reading k none low).words))

filled-words : (size : ℕ) (xs : List ℕ) → AreWords xs → AreWords (with_zeros size xs)
filled-words size xs words =
    All-map IsWord (λ k. slice_index xs k) (range_with_len 0 size) (λ k d low. slice-word xs (get_or (range_with_len 0 size) k d) words)

pub length-with_zeros : (size : ℕ) (xs : List ℕ) → length (with_zeros size xs) ≡ size
length-with_zeros size xs = length-map-range_with_len (λ k. slice_index xs k) 0 size

pub length-wire_values : (body : Program) (calls : List Call) (seeds : List ℕ) (gadget input : ℕ) → length (wire_values body calls seeds gadget input) ≡ size_of body gadget
length-wire_values body calls seeds gadget input = length-with_zeros (size_of body gadget) (slice_index seeds input ∷ inputs_at input (calls_to gadget calls))

pub wires_run_through : WiresRunThrough
wires_run_through body reading seeds gadget input point bounded inside words low =
    let given : List ℕ = slice_index seeds input ∷ inputs_at input (calls_to gadget (calls_of body reading)) in
    let values : List ℕ = wire_values body (calls_of body reading) seeds gadget input in
    let size : ℕ = size_of body gadget in
    let count : length values ≡ size = length-with_zeros size given in
    let are_words : AreWords values =
    filled-words size given (All-cons IsWord (slice_index seeds input) _ (slice-word seeds input words) (inputs-words body reading gadget input)) in
    let small : log_of body gadget ≤ 12 = (domains_hold body gadget bounded inside).0 in
    let exists : Interpolates (interpolated values) values = interpolation_exists (log_of body gadget) values (omega arith) are_words count in
    let own : values_on size (interpolated values) ≡ values = ap (λ n. values_on n (interpolated values)) (sym count) ∙ exists.agrees in
    sym (get_or-values_on size (interpolated values) point low)
    ∙ ap (λ l. slice_index l point) own
    ∙ get_or-map-range_with_len (λ k. slice_index given k) 0 size point point 0 low (omega arith)

pub length-wires : (body : Program) (calls : List Call) (seeds : List ℕ) (gadget : ℕ) → length (wires_of body calls seeds gadget) ≡ arity_of body gadget
length-wires body calls seeds gadget =
    length-map-range_with_len (λ input. interpolated (wire_values body calls seeds gadget input)) 0 (arity_of body gadget)

-- the values of the wires of a gadget at a point
pub values-wires : (body : Program) (calls : List Call) (seeds : List ℕ) (gadget t input : ℕ) → input < arity_of body gadget
    → slice_index (map (λ wire. value_at wire t) (wires_of body calls seeds gadget)) input
    ≡ value_at (interpolated (wire_values body calls seeds gadget input)) t
values-wires body calls seeds gadget t input low =
    let count : length (wires_of body calls seeds gadget) ≡ arity_of body gadget = length-wires body calls seeds gadget in
    get_or-map (λ wire. value_at wire t) (wires_of body calls seeds gadget) input [] 0 (omega arith)
    ∙ ap (λ wire. value_at wire t)
    (get_or-map-range_with_len (λ j. interpolated (wire_values body calls seeds gadget j)) 0 (arity_of body gadget) input input [] low (omega arith))

-- at a point, the formula at the wires is the gadget of their values
pub formula_at_point : (body : Program) (calls : List Call) (seeds : List ℕ) (gadget t : ℕ)
    → value_at (formula_of (kind_of body gadget) (wires_of body calls seeds gadget)) t
    ≡ value_of (kind_of body gadget) (map (λ wire. value_at wire t) (wires_of body calls seeds gadget))
formula_at_point body calls seeds gadget t =
    (law_of_kind (kind_of body gadget)).values (wires_of body calls seeds gadget) t (length-wires body calls seeds gadget)

-- ---- the points of the calls

pub calls_size : (body : Program) (reading : Reading) → length (calls_of body reading) ≡ call_count body
calls_size body reading =
    sym (length-map (calls_of body reading) (λ (call : Call). call.gadget))
    ∙ ap (λ (l : List ℕ). length l) (gadgets_are_fixed body reading)

no_call : Call
no_call = record { gadget = 0; inputs = [] }

pub call_inside : (body : Program) (reading : Reading) → IsBounded body → (place : ℕ) → place < call_count body → call_gadget body place < length body.gadgets
call_inside body reading bounded place low =
    let size : length (calls_of body reading) ≡ call_count body = calls_size body reading in
    subst (λ k. k < length body.gadgets) (calls_are_numbered body reading place no_call low).same_gadget
    ((calls_are_well body reading place no_call (omega arith)).known bounded.some_gadget)

-- at the point of a call, the wires take the inputs of the call
wire_input : (body : Program) (reading : Reading) → IsBounded body → (seeds : List ℕ) → AreWords seeds → (place input : ℕ) → place < call_count body
    → value_at (interpolated (wire_values body (calls_of body reading) seeds (call_gadget body place) input))
    (word_power (alpha (size_of body (call_gadget body place))) (call_number body place))
    ≡ slice_index (get_or (calls_of body reading) place no_call).inputs input
wire_input body reading bounded seeds words place input low =
    let gadget : ℕ = call_gadget body place in
    let inside : gadget < length body.gadgets = call_inside body reading bounded place low in
    let i : ℕ = call_number body place in
    let h : IsNumbered body reading place no_call = calls_are_numbered body reading place no_call low in
    let own : List Call = calls_to gadget (calls_of body reading) in
    let made : length own ≡ calls_made body gadget = calls_are_fixed body reading gadget in
    let room : calls_made body gadget < size_of body gadget = (domains_hold body gadget bounded inside).1 in
    let from_one : 1 ≤ i = h.from_one in
    let up_to : i ≤ calls_made body gadget = h.up_to_all in
    let back : i ≡ suc (i - 1) = omega arith in
    let first : ℕ = slice_index seeds input in
    wires_run_through body reading seeds gadget input i bounded inside words (omega arith)
    ∙ ap (λ k. slice_index (first ∷ inputs_at input own) k) back
    ∙ get_or-map (λ (call : Call). slice_index call.inputs input) own (i - 1) no_call 0 (omega arith)
    ∙ ap (λ (call : Call). slice_index call.inputs input) h.same_call

-- so there the formula at the wires is the value of the call
pub formula_at_call : (body : Program) (reading : Reading) → IsBounded body → (seeds : List ℕ) → AreWords seeds → (place : ℕ) → place < call_count body
    → value_at (formula_of (kind_of body (call_gadget body place)) (wires_of body (calls_of body reading) seeds (call_gadget body place)))
    (word_power (alpha (size_of body (call_gadget body place))) (call_number body place))
    ≡ slice_index (map (λ (call : Call). value_of (kind_of body call.gadget) call.inputs) (calls_of body reading)) place
formula_at_call body reading bounded seeds words place low =
    let gadget : ℕ = call_gadget body place in
    let calls : List Call = calls_of body reading in
    let t : ℕ = word_power (alpha (size_of body gadget)) (call_number body place) in
    let call : Call = get_or calls place no_call in
    let size : length calls ≡ call_count body = calls_size body reading in
    let own : call.gadget ≡ gadget = (calls_are_numbered body reading place no_call low).same_gadget in
    formula_at_point body calls seeds gadget t
    ∙ value-same (kind_of body gadget) (map (λ wire. value_at wire t) (wires_of body calls seeds gadget)) call.inputs
    (λ input below. values-wires body calls seeds gadget t input below ∙ wire_input body reading bounded seeds words place input low)
    ∙ ap (λ g. value_of (kind_of body g) call.inputs) (sym own)
    ∙ sym (get_or-map (λ (c : Call). value_of (kind_of body c.gadget) c.inputs) calls place no_call 0 (omega arith))
