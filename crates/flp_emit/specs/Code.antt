-- The code of a circuit: under all joint words and on every share its forms have the values of the circuit that is read with a list of answers.
-- From the values of forms up to the tie.
use Rattle.std.specs.Prelude.{ℕ, ◌≡◌, ◌%◌, ◌≤◌, List, length, map, All, slice_get, slice_range, Some}
use Rattle.flp_field.specs.Word.{modulus}
use Rattle.flp_syntax.specs.Tree.{Program}
use Rattle.flp_meaning.specs.Meaning.{Call, Reading}
use Rattle.flp_meaning.specs.Circuit.{with_answers, circuit_of, checks_of, calls_of}
use Rattle.flp_forms.specs.declared.term.Term.{Term}
use Rattle.flp_forms.specs.PublicValues.{publics}
use Rattle.flp_forms.specs.LinearForms.{Share, form_value, FormFits}
use Rattle.flp_emit.specs.declared.code.Code.{Code}
use Rattle.flp_emit.specs.declared.code.CallForms.{CallForms}

-- the reading under these joint words with the words, the answers and the unit of a share
abbrev pub read_by : List ℕ → Share → Reading
read_by joint share = with_answers share.meas joint share.unit share.answers

-- the values of forms, as words
abbrev pub form_words : List ℕ → Share → List (List Term) → List ℕ
form_words values share forms = map (λ form. form_value values share form % modulus) forms

-- the forms of a call's inputs
abbrev pub inputs_in : List (List Term) → CallForms → List (List Term)
inputs_in inputs call = slice_range inputs call.first call.end

-- the call with the values of its forms
abbrev pub call_by : List ℕ → Share → List (List Term) → CallForms → Call
call_by values share inputs call =
    record { gadget = call.gadget; inputs = form_words values share (inputs_in inputs call) }

-- the forms of the call with this number are there, and read answers of earlier calls alone
pub record CallFits (publics meas number : ℕ) (inputs : List (List Term)) (call : CallForms) : Type 0 where
  pub ordered : call.first ≤ call.end
  pub inside : call.end ≤ length inputs
  pub forms : All (FormFits publics meas number) (inputs_in inputs call)

-- the code of a circuit, on shares with as many words as its encodings have
pub record Tied (body : Program) (code : Code) : Type 0 where
  pub joint : code.steps.joint ≡ body.joint
  pub calls : (joint : List ℕ) (share : Share) → length share.meas ≡ body.meas
      → map (call_by (publics code.steps.steps joint) share code.inputs) code.calls ≡ calls_of body (read_by joint share)
  pub checks : (joint : List ℕ) (share : Share) → length share.meas ≡ body.meas
      → form_words (publics code.steps.steps joint) share code.checks ≡ checks_of body (read_by joint share)
  pub outs : (joint : List ℕ) (share : Share) → length share.meas ≡ body.meas
      → form_words (publics code.steps.steps joint) share code.outs ≡ (circuit_of body (read_by joint share)).value.outs
  pub calls_fit : (number : ℕ) (call : CallForms) → slice_get code.calls number ≡ Some call
      → CallFits (length code.steps.steps) body.meas number code.inputs call
  pub checks_fit : All (FormFits (length code.steps.steps) body.meas (length code.calls)) code.checks
  pub outs_fit : All (FormFits (length code.steps.steps) body.meas 0) code.outs
