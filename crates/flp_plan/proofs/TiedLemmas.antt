-- What the code of a circuit says of its calls, checks and outs. From their numbers up to their values.
use Rattle.std.proofs.Common.{◌≡◌, ℕ, ◌-◌, ◌<◌, ◌≤◌, ◌%◌, List, [], ◌∷◌, length, map, take, drop, get_or, Some, refl, sym, ◌∙◌, ap, ap₂, subst, arith}
use Rattle.std.specs.Prelude.{replicate}
use Rattle.std.specs.List.{All, slice_get}
use Rattle.std.specs.Option.{option_map}
use Rattle.std.proofs.lemmas.List.{get_or-take, get_or-map, length-replicate}
use Rattle.std.proofs.lemmas.List.Elements.{All-head, All-tail}
use Rattle.std.proofs.lemmas.Option.{slice_get-map, slice_get-get_or}
use Rattle.flp_field.specs.Word.{modulus}
use Rattle.flp_syntax.specs.Tree.{Program}
use Rattle.flp_meaning.specs.Meaning.{Call}
use Rattle.flp_meaning.specs.Circuit.{checks_of, calls_of, outs_of, with_answers}
use Rattle.flp_meaning.specs.Gadgets.{arity_of, gadgets_called, call_count, call_gadget, check_count, out_count}
use Rattle.flp_meaning.proofs.Fixed.{gadgets_are_fixed, checks_are_fixed, outs_are_fixed}
use Rattle.flp_forms.specs.declared.term.Term.{Term}
use Rattle.flp_forms.specs.declared.term.Source.{Source}
use Rattle.flp_forms.specs.declared.term.Source.TheVariants.{Unit as ByUnit, Meas, Answer}
use Rattle.flp_forms.specs.LinearForms.{Share, share_of, form_value, SourceFits, FormFits}
use Rattle.flp_forms.specs.PublicValues.{publics}
use Rattle.flp_forms.proofs.FormLemmas.{SameBelow, form_value-below}
use Rattle.flp_emit.specs.declared.code.CallForms.{CallForms}
use Rattle.flp_emit.specs.declared.code.Code.{Code}
use Rattle.flp_emit.specs.Code.{Tied, CallFits, form_words, inputs_in, call_by, read_by}
use Rattle.flp_plan.specs.Keeps.{Keeps}
use Rattle.flp_plan.specs.View.{HasInputs}
use Rattle.flp_plan.proofs.FormLemmas.{all_at, range_length, mapped_length}

-- ---- how many there are

-- a share of zeros
abbrev zeros : Program → Share
zeros body = share_of (replicate body.meas 0) [] 1

zeros_fit : (body : Program) → length (zeros body).meas ≡ body.meas
zeros_fit body = length-replicate body.meas 0

gadgets-call_by : (values : List ℕ) (share : Share) (inputs : List (List Term)) (calls : List CallForms)
    → map (λ (call : Call). call.gadget) (map (call_by values share inputs) calls) ≡ map (λ (call : CallForms). call.gadget) calls
gadgets-call_by values share inputs [] = refl
gadgets-call_by values share inputs (call ∷ calls) =
    ap (λ (l : List ℕ). call.gadget ∷ l) (gadgets-call_by values share inputs calls)

-- the gadgets of the calls are those of the code
pub gadgets_called-code : (body : Program) (code : Code) → Tied body code
    → gadgets_called body ≡ map (λ (call : CallForms). call.gadget) code.calls
gadgets_called-code body code tied =
    sym (gadgets_are_fixed body (read_by [] (zeros body)))
    ∙ sym (ap (λ (calls : List Call). map (λ (call : Call). call.gadget) calls) (tied.calls [] (zeros body) (zeros_fit body)))
    ∙ gadgets-call_by (publics code.steps.steps []) (zeros body) code.inputs code.calls

pub call_count-code : (body : Program) (code : Code) → Tied body code → call_count body ≡ length code.calls
call_count-code body code tied =
    ap (λ (l : List ℕ). length l) (gadgets_called-code body code tied) ∙ mapped_length (λ (call : CallForms). call.gadget) code.calls

pub check_count-code : (body : Program) (code : Code) → Tied body code → check_count body ≡ length code.checks
check_count-code body code tied =
    sym (checks_are_fixed body (read_by [] (zeros body)))
    ∙ sym (ap (λ (l : List ℕ). length l) (tied.checks [] (zeros body) (zeros_fit body))) ∙ mapped_length (λ (form : List Term). form_value (publics code.steps.steps []) (zeros body) form % modulus) code.checks

pub out_count-code : (body : Program) (code : Code) → Tied body code → out_count body ≡ length code.outs
out_count-code body code tied =
    sym (outs_are_fixed body (read_by [] (zeros body)))
    ∙ sym (ap (λ (l : List ℕ). length l) (tied.outs [] (zeros body) (zeros_fit body))) ∙ mapped_length (λ (form : List Term). form_value (publics code.steps.steps []) (zeros body) form % modulus) code.outs

pub call_gadget-code : (body : Program) (code : Code) (number : ℕ) (d : CallForms) → Tied body code → number < call_count body
    → (get_or code.calls number d).gadget ≡ call_gadget body number
call_gadget-code body code number d tied below =
    let count : call_count body ≡ length code.calls = call_count-code body code tied in
    sym (get_or-map (λ (call : CallForms). call.gadget) code.calls number d 0 (omega arith))
    ∙ ap (λ (l : List ℕ). get_or l number 0) (sym (gadgets_called-code body code tied))

-- ---- the inputs of a call

pub fits_more : (publics words calls more : ℕ) (form : List Term) → calls ≤ more
    → FormFits publics words calls form → FormFits publics words more form
fits_more publics words calls more form less fits k d below = record {
  scale = (fits k d below).scale;
  source = source_more (get_or form k d).source (fits k d below).source;
} where
  source_more : (source : Source) → SourceFits words calls source → SourceFits words more source
  source_more ByUnit fit = tt
  source_more (Meas index) fit = fit
  source_more (Answer index) fit = omega arith

-- as many forms as the gadget has inputs
pub call_size : (body : Program) (code : Code) (number : ℕ) (call : CallForms) → Tied body code → Keeps body
    → slice_get code.calls number ≡ Some call → call.end - call.first ≡ arity_of body call.gadget
call_size body code number call tied keeps there =
    let values : List ℕ = publics code.steps.steps [] in
    let blank : Share = zeros body in
    let found : slice_get (calls_of body (read_by [] blank)) number ≡ Some (call_by values blank code.inputs call) =
    ap (λ (l : List Call). slice_get l number) (sym (tied.calls [] blank (zeros_fit body)))
    ∙ slice_get-map (call_by values blank code.inputs) code.calls number ∙ ap (λ o. option_map (call_by values blank code.inputs) o) there in
    let arity : length (form_words values blank (inputs_in code.inputs call)) ≡ arity_of body call.gadget =
    all_at (λ (made : Call). length made.inputs ≡ arity_of body made.gadget) (calls_of body (read_by [] blank)) number
    (call_by values blank code.inputs call) (keeps.arity (read_by [] blank)) found in
    let fit : CallFits (length code.steps.steps) body.meas number code.inputs call = tied.calls_fit number call there in
    let size : length (inputs_in code.inputs call) ≡ call.end - call.first =
    range_length code.inputs call.first (call.end - call.first) (omega (arith, fit.ordered, fit.inside)) in
    let mapped : length (form_words values blank (inputs_in code.inputs call)) ≡ length (inputs_in code.inputs call) =
    mapped_length (λ (form : List Term). form_value values blank form % modulus) (inputs_in code.inputs call) in
    omega arith

-- the values of a call's forms are its inputs
pub call_value : (body : Program) (code : Code) (number : ℕ) (call : CallForms) (joint : List ℕ) (share : Share) (out : List ℕ)
    → Tied body code → length share.meas ≡ body.meas → slice_get code.calls number ≡ Some call
    → call.gadget ≡ call_gadget body number → out ≡ form_words (publics code.steps.steps joint) share (inputs_in code.inputs call)
    → HasInputs body (read_by joint share) number out
call_value body code number call joint share out tied fits there gadget same =
    ap (λ (l : List Call). slice_get l number) (sym (tied.calls joint share fits))
    ∙ slice_get-map (call_by (publics code.steps.steps joint) share code.inputs) code.calls number
    ∙ ap (λ o. option_map (call_by (publics code.steps.steps joint) share code.inputs) o) there
    ∙ ap₂ (λ (g : ℕ) (l : List ℕ). Some (record { gadget = g; inputs = l })) gadget (sym same)

-- forms that read earlier answers alone have the same values
pub words_below : (values : List ℕ) (one two : Share) (publics words calls : ℕ) (forms : List (List Term))
    → SameBelow words calls one two → All (FormFits publics words calls) forms → form_words values one forms ≡ form_words values two forms
words_below values one two publics words calls [] same fits = refl
words_below values one two publics words calls (form ∷ forms) same fits =
    ap₂ (λ (n : ℕ) (l : List ℕ). n % modulus ∷ l)
    (form_value-below values one two publics words calls form same (All-head (FormFits publics words calls) form forms fits))
    (words_below values one two publics words calls forms same (All-tail (FormFits publics words calls) form forms fits))

pub same_below : (x answers others : List ℕ) (unit words calls : ℕ) → take calls others ≡ take calls answers
    → SameBelow words calls (share_of x others unit) (share_of x answers unit)
same_below x answers others unit words calls same = record {
  meas = λ k below. refl;
  answers = λ k below.
      sym (get_or-take calls others k 0 below) ∙ ap (λ (l : List ℕ). get_or l k 0) same ∙ get_or-take calls answers k 0 below;
  unit = refl;
}

-- a call as the code has it
pub record CallThere (body : Program) (code : Code) (number : ℕ) (call : CallForms) : Type 0 where
  pub found : slice_get code.calls number ≡ Some call
  pub gadget : call.gadget ≡ call_gadget body number
  pub size : call.end - call.first ≡ arity_of body (call_gadget body number)
  pub fit : CallFits (length code.steps.steps) body.meas number code.inputs call

pub call_there : (body : Program) (code : Code) (calls : List CallForms) (number : ℕ) (d : CallForms) → Tied body code → Keeps body
    → calls ≡ code.calls → number < call_count body → CallThere body code number (get_or calls number d)
call_there body code calls number d tied keeps same below =
    let count : call_count body ≡ length code.calls = call_count-code body code tied in
    let call : CallForms = get_or code.calls number d in
    let found : slice_get code.calls number ≡ Some call = slice_get-get_or code.calls number d (omega arith) in
    let gadget : call.gadget ≡ call_gadget body number = call_gadget-code body code number d tied below in
    subst (λ (l : List CallForms). CallThere body code number (get_or l number d)) (sym same) (record {
      found = found;
      gadget = gadget;
      size = call_size body code number call tied keeps found ∙ ap (λ (g : ℕ). arity_of body g) gadget;
      fit = tied.calls_fit number call found;
    })

pub inputs_fit : (body : Program) (code : Code) (number : ℕ) (call : CallForms) (publics words answers size : ℕ)
    → CallThere body code number call → publics ≡ length code.steps.steps → words ≡ body.meas → number ≤ answers
    → size ≡ arity_of body (call_gadget body number)
    → All (FormFits publics words answers) (take size (drop call.first code.inputs))
inputs_fit body code number call publics words answers size there same_publics same_words more same_size =
    let P : ℕ → Type 0 = λ n. All (FormFits publics words answers) (take n (drop call.first code.inputs)) in
    let Q : ℕ → Type 0 = λ n. All (FormFits n words answers) (inputs_in code.inputs call) in
    let R : ℕ → Type 0 = λ n. All (FormFits (length code.steps.steps) n answers) (inputs_in code.inputs call) in
    subst P (there.size ∙ sym same_size) (subst Q (sym same_publics) (subst R (sym same_words)
    (λ k d below. fits_more (length code.steps.steps) body.meas number answers (get_or (inputs_in code.inputs call) k d) more
    (there.fit.forms k d below))))

-- what was written of a call are its inputs, whatever answers others give
pub written_inputs : (body : Program) (code : Code) (number : ℕ) (call : CallForms) (joint x answers others out : List ℕ)
    → (unit size : ℕ) → Tied body code → length x ≡ body.meas → CallThere body code number call → size ≡ arity_of body (call_gadget body number)
    → out ≡ form_words (publics code.steps.steps joint) (share_of x answers unit) (take size (drop call.first code.inputs))
    → take number others ≡ take number answers
    → HasInputs body (with_answers x joint unit others) number out
written_inputs body code number call joint x answers others out unit size tied fits there same_size written same =
    let values : List ℕ = publics code.steps.steps joint in
    let these : out ≡ form_words values (share_of x answers unit) (inputs_in code.inputs call) =
    subst (λ (n : ℕ). out ≡ form_words values (share_of x answers unit) (take n (drop call.first code.inputs)))
    (same_size ∙ sym there.size) written in
    call_value body code number call joint (share_of x others unit) out tied fits there.found there.gadget
    (these ∙ sym (words_below values (share_of x others unit) (share_of x answers unit) (length code.steps.steps) body.meas number
    (inputs_in code.inputs call) (same_below x answers others unit body.meas number same) there.fit.forms))

-- ---- a check and an out

pub check_value : (body : Program) (code : Code) (index : ℕ) (form : List Term) (joint : List ℕ) (share : Share) (result : ℕ)
    → Tied body code → length share.meas ≡ body.meas → slice_get code.checks index ≡ Some form
    → result ≡ form_value (publics code.steps.steps joint) share form % modulus
    → slice_get (checks_of body (read_by joint share)) index ≡ Some result
check_value body code index form joint share result tied fits there same =
    ap (λ (l : List ℕ). slice_get l index) (sym (tied.checks joint share fits))
    ∙ slice_get-map (λ (f : List Term). form_value (publics code.steps.steps joint) share f % modulus) code.checks index
    ∙ ap (λ o. option_map (λ (f : List Term). form_value (publics code.steps.steps joint) share f % modulus) o) there
    ∙ ap Some (sym same)

pub out_value : (body : Program) (code : Code) (index : ℕ) (form : List Term) (joint : List ℕ) (share : Share) (result : ℕ)
    → Tied body code → Keeps body → length share.meas ≡ body.meas → slice_get code.outs index ≡ Some form
    → result ≡ form_value (publics code.steps.steps joint) share form % modulus
    → slice_get (outs_of body share.meas) index ≡ Some result
out_value body code index form joint share result tied keeps fits there same =
    ap (λ (l : List ℕ). slice_get l index) (sym (tied.outs joint share fits ∙ keeps.outs (read_by joint share)))
    ∙ slice_get-map (λ (f : List Term). form_value (publics code.steps.steps joint) share f % modulus) code.outs index
    ∙ ap (λ o. option_map (λ (f : List Term). form_value (publics code.steps.steps joint) share f % modulus) o) there
    ∙ ap Some (sym same)

-- a form fits where the counts are these
pub fits_as : (publics words calls publics' words' calls' : ℕ) (form : List Term) → publics ≡ publics' → words ≡ words' → calls ≡ calls'
    → FormFits publics' words' calls' form → FormFits publics words calls form
fits_as publics words calls publics' words' calls' form p w a fits =
    subst (λ (n : ℕ). FormFits n words calls form) (sym p)
    (subst (λ (n : ℕ). FormFits publics' n calls form) (sym w) (subst (λ (n : ℕ). FormFits publics' words' n form) (sym a) fits))
