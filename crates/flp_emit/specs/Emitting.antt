-- How the code grows while parts of a circuit are emitted. From coefficients up to statements. What is said of values is said of all straight lines and
-- inputs that go on from here, since what is appended later changes none.
use Rattle.std.specs.Prelude.{ℕ, ◌≡◌, ◌+◌, ◌-◌, ◌*◌, ◌<◌, ◌≤◌, ◌^◌, Bool, true, false, if◌then◌else◌, List, [], ◌∷◌, ◌++◌, length, map, All, slice_get, Some}
use Rattle.flp_field.specs.Word.{modulus}
use Rattle.flp_syntax.specs.Tree.{Tree, Trees, no_trees, tree_on, Declaration, Program}
use Rattle.flp_syntax.specs.Sorts.{is_shared, has_shared}
use Rattle.flp_syntax.specs.Scope.{Scope}
use Rattle.flp_meaning.specs.Meaning.{Reading, Run, Results, plain, meaning, join_results}
use Rattle.flp_forms.specs.declared.term.Term.{Term}
use Rattle.flp_forms.specs.declared.term.Scale.{Scale}
use Rattle.flp_forms.specs.PublicValues.{publics}
use Rattle.flp_forms.specs.StraightLine.{StraightLine, Grows}
use Rattle.flp_forms.specs.LinearForms.{Share, scale_value, ScaleFits, form_value, FormFits}
use Rattle.flp_emit.specs.declared.code.CallForms.{CallForms}
use Rattle.flp_emit.specs.declared.made.Made.{Made}
use Rattle.flp_emit.specs.declared.made.Done.{Done}
use Rattle.flp_emit.specs.Code.{form_words, call_by, CallFits}

-- ---- coefficients

-- steps were appended at most, and the coefficient is the one before times this number made of the values of steps
pub record Scales (old new : StraightLine) (before after : Scale) (factor : List ℕ → ℕ) : Type 0 where
  pub grows : Grows old new
  pub fits : ScaleFits (length new.steps) after
  pub value : (later : StraightLine) → Grows new later → (joint : List ℕ)
      → scale_value (publics later.steps joint) after
      ≡ scale_value (publics later.steps joint) before * factor (publics later.steps joint)

-- the factor of an item's sign
abbrev pub sign_factor : Bool → ℕ
sign_factor minus = if minus then modulus - 1 else 1

-- a factor of a product, as far as it is public
abbrev pub public_part : List Declaration → Reading → Scope → Tree → Run ℕ
public_part gadgets reading scope expr = if is_shared expr then plain 1 else meaning gadgets reading scope expr

abbrev pub public_parts : List Declaration → Reading → Scope → Trees → List (Run ℕ)
public_parts gadgets reading scope no_trees = []
public_parts gadgets reading scope (tree_on expr more) =
    public_part gadgets reading scope expr ∷ public_parts gadgets reading scope more

-- the coefficient is the one before times the value of the run, which makes no call
pub record ScalesRun (old new : StraightLine) (before after : Scale) (run : Reading → Run ℕ) : Type 0 where
  pub grows : Grows old new
  pub fits : ScaleFits (length new.steps) after
  pub value : (later : StraightLine) → Grows new later → (reading : Reading) (made : ℕ)
      → scale_value (publics later.steps reading.joint) after
      ≡ scale_value (publics later.steps reading.joint) before * (run reading made).value
  pub silent : (reading : Reading) (made : ℕ) → (run reading made).calls ≡ []

-- the coefficient so far, together with the rest of a run, is the one at the start times the value of the whole
pub record ScaleRemains (line : StraightLine) (start now : Scale) (rest whole : Reading → Run ℕ) : Type 0 where
  pub fits : ScaleFits (length line.steps) now
  pub value : (later : StraightLine) → Grows line later → (reading : Reading) (made : ℕ)
      → scale_value (publics later.steps reading.joint) start * (whole reading made).value
      ≡ scale_value (publics later.steps reading.joint) now * (rest reading made).value
  pub silent : (reading : Reading) (made : ℕ) → (rest reading made).calls ≡ [] → (whole reading made).calls ≡ []

-- the one factor that is shared
pub data IsOneShared : Tree → Trees → Type 0 where
  first_one : {expr : Tree} {more : Trees} → is_shared expr ≡ true → has_shared more ≡ false → IsOneShared expr (tree_on expr more)
  later_one : {expr first : Tree} {more : Trees} → is_shared first ≡ false → IsOneShared expr more → IsOneShared expr (tree_on first more)

-- ---- what is made

-- a straight line and the inputs of calls that go on from what is made
pub record GoesOn (made : Made) (line : StraightLine) (forms : List (List Term)) : Type 0 where
  pub steps : Grows made.steps line
  pub inputs : (more : List (List Term)) × (forms ≡ made.inputs ++ more)

-- steps, inputs and calls were appended at most
pub record Extends (old new : Made) : Type 0 where
  pub grows : GoesOn old new.steps new.inputs
  pub calls : length old.calls.items ≤ length new.calls.items

-- the joint words are those of the circuit, whose gadgets have numbers of 32 bits
pub record IsReady (body : Program) (made : Made) : Type 0 where
  pub joint : made.steps.joint ≡ body.joint
  pub gadgets : length body.gadgets < 2 ^ 32

-- the forms of each call are there, and read answers of earlier calls alone
abbrev pub IsSound : (meas : ℕ) → Made → Type 0
IsSound meas made =
    (number : ℕ) (call : CallForms) → slice_get made.calls.items number ≡ Some call
    → CallFits (length made.steps.steps) meas number made.inputs call

-- a call with these forms as its inputs was appended
pub record AppendsCall (old new : Made) (gadget : ℕ) (forms : List (List Term)) (place : ℕ) : Type 0 where
  pub steps : new.steps ≡ old.steps
  pub inputs : new.inputs ≡ old.inputs ++ forms
  pub calls :
      new.calls.items
      ≡ old.calls.items ++ record { gadget = gadget; first = length old.inputs; end = length old.inputs + length forms } ∷ []
  pub number : place ≡ length old.calls.items

-- A run was emitted: into something that `read` reads, the value of the run was joined to what was there, on shares of so many words, and its
-- calls were appended. `holds publics meas answers` says that all that is read is there.
pub record Adds {A B C : Type 0} (meas : ℕ) (holds : (publics meas answers : ℕ) → C → Type 0) (read : List ℕ → Share → C → B) (join : List ℕ → B → A → B)
    (old new : Made) (before after : C) (run : List ℕ → Share → Run A) : Type 0 where
  pub extends : Extends old new
  pub value : (joint : List ℕ) (share : Share) → length share.meas ≡ meas
      → (line : StraightLine) (inputs : List (List Term)) → GoesOn new line inputs
      → read (publics line.steps joint) share after
      ≡ join (publics line.steps joint) (read (publics line.steps joint) share before) (run joint share (length old.calls.items)).value
  pub calls : (joint : List ℕ) (share : Share) → length share.meas ≡ meas
      → (line : StraightLine) (inputs : List (List Term)) → GoesOn new line inputs
      → map (call_by (publics line.steps joint) share inputs) new.calls.items
      ≡ map (call_by (publics line.steps joint) share inputs) old.calls.items ++ (run joint share (length old.calls.items)).calls
  pub sound : IsSound meas old → IsSound meas new
  pub fits : (answers : ℕ) → (length old.calls.items < length new.calls.items → length new.calls.items ≤ answers)
      → holds (length old.steps.steps) meas answers before → holds (length new.steps.steps) meas answers after

-- the run times a coefficient was added to a form
abbrev pub Emitted : (meas : ℕ) → Scale → (old new : Made) → (before after : List Term) → (List ℕ → Share → Run ℕ) → Type 0
Emitted meas scale old new before after run =
    Adds meas FormFits form_value (λ values so_far value. so_far + scale_value values scale * value) old new before after run

-- the words of the run were appended to forms
abbrev pub FormsFit : (publics meas answers : ℕ) → List (List Term) → Type 0
FormsFit publics meas answers forms = All (FormFits publics meas answers) forms

abbrev pub Listed : (meas : ℕ) → (old new : Made) → (before after : List (List Term)) → (List ℕ → Share → Run (List ℕ)) → Type 0
Listed meas old new before after run =
    Adds meas FormsFit form_words (λ values so_far words. so_far ++ words) old new before after run

-- the checks and outs of the run were appended
abbrev pub done_words : List ℕ → Share → Done → Results
done_words values share done =
    record { checks = form_words values share done.checks; outs = form_words values share done.outs }

abbrev pub DoneFits : (publics meas answers : ℕ) → Done → Type 0
DoneFits publics meas answers done = FormsFit publics meas answers done.checks × FormsFit publics meas 0 done.outs

abbrev pub Performed : (meas : ℕ) → (old new : Made) → (before after : Done) → (List ℕ → Share → Run Results) → Type 0
Performed meas old new before after run =
    Adds meas DoneFits done_words (λ values so_far results. join_results so_far results) old new before after run
