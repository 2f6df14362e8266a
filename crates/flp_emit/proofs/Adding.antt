-- Runs that are emitted one after another.
use Rattle.std.proofs.Common.{ℕ, ◌≡◌, ◌+◌, List, [], ◌++◌, length, map, sym, ap, ◌∙◌, arith, length-append, append_assoc}
use Rattle.std.proofs.lemmas.List.{append-nil, length-map}
use Rattle.flp_syntax.specs.Tree.{Program}
use Rattle.flp_meaning.specs.Meaning.{Call, Run, plain, then_run}
use Rattle.flp_forms.specs.declared.term.Term.{Term}
use Rattle.flp_forms.specs.PublicValues.{publics}
use Rattle.flp_forms.specs.StraightLine.{StraightLine}
use Rattle.flp_forms.specs.LinearForms.{Share}
use Rattle.flp_forms.proofs.LineLemmas.{grows_refl, grows_trans}
use Rattle.flp_emit.specs.declared.made.Made.{Made}
use Rattle.flp_emit.specs.Code.{call_by}
use Rattle.flp_emit.specs.Emitting.{GoesOn, Extends, IsReady, Adds}

pub goes_on_refl : (made : Made) → GoesOn made made.steps made.inputs
goes_on_refl made = record { steps = grows_refl made.steps; inputs = ([], sym (append-nil made.inputs)) }

-- what goes on from the later goes on from the earlier
pub goes_on_back : {old new : Made} {line : StraightLine} {inputs : List (List Term)} → Extends old new → GoesOn new line inputs
    → GoesOn old line inputs
goes_on_back {old} {new} {line} {inputs} e g = record {
  steps = grows_trans old.steps new.steps line e.grows.steps g.steps;
  inputs = (
    e.grows.inputs.0 ++ g.inputs.0,
    g.inputs.1 ∙ ap (λ (forms : List (List Term)). forms ++ g.inputs.0) e.grows.inputs.1 ∙ append_assoc old.inputs e.grows.inputs.0 g.inputs.0,
  );
}

pub extends_refl : (made : Made) → Extends made made
extends_refl made = record { grows = goes_on_refl made; calls = omega arith }

pub extends_trans : {one two three : Made} → Extends one two → Extends two three → Extends one three
extends_trans {one} {two} {three} e f = record { grows = goes_on_back e f.grows; calls = omega (arith, e.calls, f.calls) }

pub ready_later : {body : Program} {old new : Made} → IsReady body old → Extends old new → IsReady body new
ready_later {body} {old} {new} r e = record { joint = e.grows.steps.joint ∙ r.joint; gadgets = r.gadgets }

-- the calls of a run are those that were appended
pub calls_count : {A B C : Type 0} {meas : ℕ} {holds : (publics meas answers : ℕ) → C → Type 0} {read : List ℕ → Share → C → B} {join : List ℕ → B → A → B}
    {old new : Made} {before after : C} {run : List ℕ → Share → Run A}
    → Adds meas holds read join old new before after run → (joint : List ℕ) (share : Share) → length share.meas ≡ meas
    → length new.calls.items ≡ length old.calls.items + length (run joint share (length old.calls.items)).calls
calls_count {A} {B} {C} {meas} {holds} {read} {join} {old} {new} {before} {after} {run} a joint share words =
    let by = call_by (publics new.steps.steps joint) share new.inputs in
    sym (length-map new.calls.items by)
    ∙ ap (λ (calls : List Call). length calls) (a.calls joint share words new.steps new.inputs (goes_on_refl new))
    ∙ length-append (map by old.calls.items) (run joint share (length old.calls.items)).calls
    ∙ ap (λ (n : ℕ). n + length (run joint share (length old.calls.items)).calls) (length-map old.calls.items by)

-- one run and then another
pub adds_then : {A B C : Type 0} {meas : ℕ} {holds : (publics meas answers : ℕ) → C → Type 0} {read : List ℕ → Share → C → B} {join : List ℕ → B → A → B}
    (op : A → A → A) {old mid new : Made} {before between after : C} {f g : List ℕ → Share → Run A}
    → ((values : List ℕ) (b : B) (x y : A) → join values (join values b x) y ≡ join values b (op x y))
    → Adds meas holds read join old mid before between f → Adds meas holds read join mid new between after g
    → Adds meas holds read join old new before after (λ joint share. then_run op (f joint share) (g joint share))
adds_then {A} {B} {C} {meas} {holds} {read} {join} op {old} {mid} {new} {before} {between} {after} {f} {g} law first second = record {
  extends = extends_trans first.extends second.extends;
  value =
      λ joint share words line inputs go.
      second.value joint share words line inputs go
      ∙ ap (λ (b : B). join (publics line.steps joint) b (g joint share (length mid.calls.items)).value)
      (first.value joint share words line inputs (goes_on_back second.extends go))
      ∙ law (publics line.steps joint) (read (publics line.steps joint) share before) (f joint share (length old.calls.items)).value (g joint share (length mid.calls.items)).value
      ∙ ap
      (λ (n : ℕ). join (publics line.steps joint) (read (publics line.steps joint) share before) (op (f joint share (length old.calls.items)).value (g joint share n).value))
      (calls_count first joint share words);
  calls =
      λ joint share words line inputs go.
      second.calls joint share words line inputs go
      ∙ ap (λ (calls : List Call). calls ++ (g joint share (length mid.calls.items)).calls)
      (first.calls joint share words line inputs (goes_on_back second.extends go))
      ∙ append_assoc (map (call_by (publics line.steps joint) share inputs) old.calls.items) (f joint share (length old.calls.items)).calls (g joint share (length mid.calls.items)).calls
      ∙ ap
      (λ (n : ℕ). map (call_by (publics line.steps joint) share inputs) old.calls.items ++ ((f joint share (length old.calls.items)).calls ++ (g joint share n).calls))
      (calls_count first joint share words);
  sound = λ s. second.sound (first.sound s);
  fits =
      λ answers bound h.
      second.fits answers (λ more. bound (omega (arith, first.extends.calls, more)))
      (first.fits answers (λ more. omega (arith, second.extends.calls, bound (omega (arith, second.extends.calls, more)))) h);
}

-- nothing was emitted
pub adds_none : {A B C : Type 0} {meas : ℕ} {holds : (publics meas answers : ℕ) → C → Type 0} {read : List ℕ → Share → C → B} {join : List ℕ → B → A → B}
    (made : Made) (before : C) (none : A)
    → ((values : List ℕ) (b : B) → join values b none ≡ b)
    → Adds meas holds read join made made before before (λ joint share. plain none)
adds_none {A} {B} {C} {meas} {holds} {read} {join} made before none law = record {
  extends = extends_refl made;
  value = λ joint share words line inputs go. sym (law (publics line.steps joint) (read (publics line.steps joint) share before));
  calls = λ joint share words line inputs go. sym (append-nil (map (call_by (publics line.steps joint) share inputs) made.calls.items));
  sound = λ s. s;
  fits = λ answers bound h. h;
}
