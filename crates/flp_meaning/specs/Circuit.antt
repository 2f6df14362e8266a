-- What a whole circuit means. One recursion serves two readings: in the direct one a call is the gadget's value at its inputs, in the answered one
-- the next of a list of answers, and the constant 1 counts as a unit of its own. From the circuit under any reading to when an encoding is valid.
use Rattle.std.specs.Prelude.{ℕ, ◌≡◌, ◌==◌, not, if◌then◌else◌, List, [], map, get_or, slice_index, Option}
use Rattle.std.specs.List.{All, position_from}
use Rattle.flp_field.specs.Word.{word_negation}
use Rattle.flp_gadget.specs.KindTree.{KindTree, Mul, Poly, Psum, value_of}
use Rattle.flp_syntax.specs.declared.syntax.Coef.{Coef}
use Rattle.flp_syntax.specs.Tree.{Kind, mul_kind, poly_kind, psum_kind, Program}
use Rattle.flp_meaning.specs.Meaning.{Call, Meant, Reading, Results, all_results, statements_of}

-- the circuit under a reading: its checks, outs and calls
abbrev pub circuit_of : Program → Reading → Meant Results
circuit_of body reading = all_results (statements_of body.gadgets reading [] body.stmts) 0

abbrev pub checks_of : Program → Reading → List ℕ
checks_of body reading = (circuit_of body reading).value.checks

abbrev pub calls_of : Program → Reading → List Call
calls_of body reading = (circuit_of body reading).calls

-- the inputs of a call, by its number among all calls, from 0
abbrev pub inputs_of_call : Program → Reading → ℕ → List ℕ
inputs_of_call body reading number = get_or (map (λ (call : Call). call.inputs) (calls_of body reading)) number []

-- a coefficient as a word, and a kind of gadget as the tree of what it computes
abbrev pub coefficient : Coef → ℕ
coefficient coef = if coef.minus then word_negation coef.size else coef.size

abbrev pub kind_tree : Kind → KindTree
kind_tree mul_kind = Mul
kind_tree (poly_kind coefs) = Poly (map coefficient coefs)
kind_tree (psum_kind count inner) = Psum (kind_tree inner) count

-- the kind of a gadget, by its number
abbrev pub kind_of : Program → ℕ → KindTree
kind_of body gadget = get_or (map (λ decl. kind_tree decl.kind) body.gadgets) gadget Mul

-- the direct reading: a call is the gadget's value at its inputs
abbrev pub direct : Program → (x joint : List ℕ) → Reading
direct body x joint =
    record { joint = joint; meas = x; unit = 1; answer = λ number call. value_of (kind_of body call.gadget) call.inputs }

-- the answered reading: each call takes its answer from a list
abbrev pub with_answers : (x joint : List ℕ) → (unit : ℕ) → (answers : List ℕ) → Reading
with_answers x joint unit answers =
    record { joint = joint; meas = x; unit = unit; answer = λ number call. slice_index answers number }

-- the outs of an encoding, which no joint word and no call enters
abbrev pub outs_of : Program → List ℕ → List ℕ
outs_of body x = (circuit_of body (direct body x [])).value.outs

-- an encoding is valid under joint words where each check is 0
abbrev pub IsValid : Program → (x joint : List ℕ) → Type 0
IsValid body x joint = All (λ value. value ≡ 0) (checks_of body (direct body x joint))

-- else it fails at the least check that is not 0
abbrev pub failing_check : Program → (x joint : List ℕ) → Option ℕ
failing_check body x joint = position_from (λ value. not (value == 0)) 0 (checks_of body (direct body x joint))
