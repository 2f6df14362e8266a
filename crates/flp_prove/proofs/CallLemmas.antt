-- The values of calls in the direct reading.
use Rattle.std.proofs.Common.{ℕ, ◌≡◌, ◌+◌, ◌<◌, List, length, take, get_or, ap, ap₂, sym, ◌∙◌, arith}
use Rattle.std.specs.Prelude.{slice_index}
use Rattle.std.proofs.lemmas.List.{get_or-map, get_or-take, length-map}
use Rattle.std.proofs.lemmas.Option.{get_or_from_slice_get}
use Rattle.flp_gadget.specs.KindTree.{value_of}
use Rattle.flp_syntax.specs.Tree.{Program}
use Rattle.flp_meaning.specs.Meaning.{Call, Meant, Results, Reading}
use Rattle.flp_meaning.specs.Circuit.{calls_of, direct, with_answers, kind_of}
use Rattle.flp_meaning.specs.Gadgets.{call_count, call_gadget}
use Rattle.flp_meaning.specs.MeaningLaws.{call_values, AnsweredIsDirect, CallsAreFilled}
use Rattle.flp_meaning.proofs.WireLemmas.{calls_size}
use Rattle.flp_plan.specs.View.{HasInputs}

-- the call of these inputs
abbrev the_call : Program → ℕ → List ℕ → Call
the_call body call inputs = record { gadget = call_gadget body call; inputs = inputs }

found-at : (body : Program) (reading : Reading) (call : ℕ) (inputs : List ℕ) → HasInputs body reading call inputs
    → get_or (calls_of body reading) call (the_call body call inputs) ≡ the_call body call inputs
found-at body reading call inputs found =
    get_or_from_slice_get (calls_of body reading) call (the_call body call inputs) (the_call body call inputs) found

-- the gadget's value at the inputs of a call, which were found with the values of the calls before it, is the value of the call
pub value-of_call : (body : Program) (x joint answers : List ℕ) (call : ℕ) (inputs : List ℕ) → CallsAreFilled → call < call_count body
    → ((number : ℕ) → number < call → slice_index answers number ≡ slice_index (call_values body x joint) number)
    → HasInputs body (with_answers x joint 1 answers) call inputs
    → value_of (kind_of body (call_gadget body call)) inputs ≡ slice_index (call_values body x joint) call
value-of_call body x joint answers call inputs law low before found =
    let c : Call = the_call body call inputs in
    let own : List Call = calls_of body (direct body x joint) in
    let size : length own ≡ call_count body = calls_size body (direct body x joint) in
    let same : take (call + 1) (calls_of body (with_answers x joint 1 answers)) ≡ take (call + 1) own = law body x joint answers call before in
    let here : get_or own call c ≡ c =
    sym (get_or-take (call + 1) own call c (omega arith))
    ∙ ap (λ (l : List Call). get_or l call c) (sym same)
    ∙ get_or-take (call + 1) (calls_of body (with_answers x joint 1 answers)) call c (omega arith)
    ∙ found-at body (with_answers x joint 1 answers) call inputs found in
    sym
    (get_or-map (λ (d : Call). value_of (kind_of body d.gadget) d.inputs) own call c 0 (omega arith)
    ∙ ap (λ (d : Call). value_of (kind_of body d.gadget) d.inputs) here)

-- with the values of all calls as answers the calls are those of the direct reading
pub calls-own : (body : Program) (x joint answers : List ℕ) (unit : ℕ) → AnsweredIsDirect → unit ≡ 1 → answers ≡ call_values body x joint
    → calls_of body (with_answers x joint unit answers) ≡ calls_of body (direct body x joint)
calls-own body x joint answers unit law one same =
    ap₂ (λ (u : ℕ) (a : List ℕ). calls_of body (with_answers x joint u a)) one same ∙ ap (λ (m : Meant Results). m.calls) (law body x joint)

-- there is a value for each call
pub length-values : (body : Program) (x joint : List ℕ) → length (call_values body x joint) ≡ call_count body
length-values body x joint =
    length-map (calls_of body (direct body x joint)) (λ (call : Call). value_of (kind_of body call.gadget) call.inputs) ∙ calls_size body (direct body x joint)
