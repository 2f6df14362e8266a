-- Forms that are listed: inputs of calls, checks and outs. From one form up to the code of a circuit.
use Rattle.std.proofs.Common.{ℕ, zero, suc, ◌≡◌, ◌+◌, ◌*◌, ◌%◌, ◌≤◌, List, [], ◌∷◌, ◌++◌, length, map, sym, subst, ap, ap₂, ◌∙◌, arith, length-append, append_assoc, Some, add-zero}
use Rattle.std.specs.List.{range_with_len}
use Rattle.std.specs.Prelude.{slice_get, slice_range, slice_index}
use Rattle.std.proofs.lemmas.List.{append-nil, map_push, length_push}
use Rattle.std.proofs.lemmas.List.FromFn.{length-range_with_len}
use Rattle.std.proofs.lemmas.List.Elements.{All-append, All-nil, All-cons}
use Rattle.flp_field.specs.Word.{modulus}
use Rattle.flp_syntax.specs.Tree.{Program}
use Rattle.flp_meaning.specs.Meaning.{Call, Run, Results, map_run, call_run, join_results, no_results, one_check, one_out, all_results, statements_of}
use Rattle.flp_forms.specs.declared.term.Term.{Term}
use Rattle.flp_forms.specs.declared.term.Scale.{Scale}
use Rattle.flp_forms.specs.declared.term.Scale.TheVariants.{One}
use Rattle.flp_forms.specs.declared.term.Source.TheVariants.{Answer}
use Rattle.flp_forms.specs.PublicValues.{publics}
use Rattle.flp_forms.specs.StraightLine.{StraightLine, Grows}
use Rattle.flp_forms.specs.LinearForms.{Share, scale_value, form_value, ScaleFits, TermFits, FormFits}
use Rattle.flp_forms.proofs.LineLemmas.{grows_refl}
use Rattle.flp_forms.proofs.FormLemmas.{form_value-push}
use Rattle.flp_emit.specs.declared.code.CallForms.{CallForms}
use Rattle.flp_emit.specs.declared.made.Made.{Made}
use Rattle.flp_emit.specs.declared.made.Done.{Done}
use Rattle.flp_emit.specs.Code.{read_by, form_words, call_by, CallFits, Tied}
use Rattle.flp_emit.specs.Emitting.{Extends, AppendsCall, Emitted, Listed, Performed, FormsFit}
use Rattle.flp_emit.proofs.Adding.{goes_on_refl, goes_on_back, extends_trans, calls_count}
use Rattle.flp_emit.proofs.Scaling.{scale_later}
use Rattle.flp_emit.proofs.Forming.{form_later, forms_later, range_behind, call_later, term_fits}

-- the value of a form that a run was emitted into
one_form : (n value : ℕ) → n ≡ 0 + 1 * value → n % modulus ≡ value % modulus
one_form n value e = ap (λ (k : ℕ). k % modulus) (e ∙ omega arith)

forms_push : (publics meas answers : ℕ) (forms : List (List Term)) (form : List Term) → FormsFit publics meas answers forms
    → FormFits publics meas answers form → FormsFit publics meas answers (forms ++ form ∷ [])
forms_push publics meas answers forms form h f =
    All-append (FormFits publics meas answers) forms (form ∷ []) h
    (All-cons (FormFits publics meas answers) form [] f (All-nil (FormFits publics meas answers)))

words_push : (values : List ℕ) (share : Share) (forms : List (List Term)) (form : List Term) (value : ℕ)
    → form_value values share form % modulus ≡ value
    → form_words values share (forms ++ form ∷ []) ≡ form_words values share forms ++ value ∷ []
words_push values share forms form value e =
    map_push (λ (f : List Term). form_value values share f % modulus) forms form
    ∙ ap (λ (word : ℕ). form_words values share forms ++ word ∷ []) e

-- ---- inputs of calls

-- one input
pub listed_one : {meas : ℕ} {old new : Made} {inputs : List (List Term)} {form : List Term} {f : List ℕ → Share → Run ℕ}
    → Emitted meas One old new [] form f
    → Listed meas old new inputs (inputs ++ form ∷ []) (λ joint share. map_run (λ value. value % modulus ∷ []) (f joint share))
listed_one {meas} {old} {new} {inputs} {form} {f} e = record {
  extends = e.extends;
  value =
      λ joint share words line later go.
      words_push (publics line.steps joint) share inputs form ((f joint share (length old.calls.items)).value % modulus)
      (one_form (form_value (publics line.steps joint) share form) (f joint share (length old.calls.items)).value (e.value joint share words line later go));
  calls = e.calls;
  sound = e.sound;
  fits =
      λ answers bound h.
      forms_push (length new.steps.steps) meas answers inputs form
      (forms_later old.steps new.steps meas answers inputs e.extends.grows.steps h)
      (e.fits answers bound (All-nil (TermFits (length old.steps.steps) meas answers)));
}

pub listed_law : (values : List ℕ) (so_far x y : List ℕ) → (so_far ++ x) ++ y ≡ so_far ++ (x ++ y)
listed_law values so_far x y = append_assoc so_far x y

pub listed_law_none : (values : List ℕ) (so_far : List ℕ) → so_far ++ [] ≡ so_far
listed_law_none values so_far = append-nil so_far

-- ---- calls

appends_extends : {old new : Made} {gadget number : ℕ} {forms : List (List Term)} → AppendsCall old new gadget forms number → Extends old new
appends_extends {old} {new} {gadget} {number} {forms} a = record {
  grows = record {
    steps = subst (λ (line : StraightLine). Grows old.steps line) (sym a.steps) (grows_refl old.steps);
    inputs = (forms, a.inputs);
  };
  calls =
      omega (
        arith,
        ap (λ (calls : List CallForms). length calls) a.calls,
        length_push old.calls.items (record { gadget = gadget; first = length old.inputs; end = length old.inputs + length forms }),
      );
}

appends_one : {old new : Made} {gadget number : ℕ} {forms : List (List Term)} → AppendsCall old new gadget forms number
    → length new.calls.items ≡ length old.calls.items + 1
appends_one {old} {new} {gadget} {number} {forms} a =
    ap (λ (calls : List CallForms). length calls) a.calls
    ∙ length_push old.calls.items (record { gadget = gadget; first = length old.inputs; end = length old.inputs + length forms })

same_call : (one two : CallForms) → Some one ≡ Some two → one ≡ two
same_call one two e = cc

-- the call at the end, or one in front of it
last_call : (calls : List CallForms) (last call : CallForms) (number : ℕ) (P : ℕ → CallForms → Type 0)
    → ((k : ℕ) (c : CallForms) → slice_get calls k ≡ Some c → P k c) → P (length calls) last
    → slice_get (calls ++ last ∷ []) number ≡ Some call → P number call
last_call [] last call zero P front back there = subst (λ (c : CallForms). P 0 c) (same_call last call there) back
last_call [] last call (suc number) P front back there = cc
last_call (first ∷ calls) last call zero P front back there = front 0 call there
last_call (first ∷ calls) last call (suc number) P front back there =
    last_call calls last call number (λ (k : ℕ). P (suc k)) (λ k. front (suc k)) back there

-- the call that was appended fits
new_call_fits : {meas : ℕ} {old mid new : Made} {forms : List (List Term)} {gadget number : ℕ} {f : List ℕ → Share → Run (List ℕ)}
    → Listed meas old mid [] forms f → AppendsCall mid new gadget forms number
    → CallFits (length new.steps.steps) meas (length mid.calls.items) new.inputs
    (record { gadget = gadget; first = length mid.inputs; end = length mid.inputs + length forms })
new_call_fits {meas} {old} {mid} {new} {forms} {gadget} {number} {f} l a =
    let held = l.fits (length mid.calls.items) (λ more. omega arith) (All-nil (FormFits (length old.steps.steps) meas (length mid.calls.items))) in
    record {
      ordered = omega arith;
      inside = omega (arith, ap (λ (fs : List (List Term)). length fs) a.inputs, length-append mid.inputs forms);
      forms =
          subst (λ (fs : List (List Term)). FormsFit (length new.steps.steps) meas (length mid.calls.items) fs)
          (sym (ap (λ (fs : List (List Term)). slice_range fs (length mid.inputs) (length mid.inputs + length forms))
          (a.inputs ∙ sym (append-nil (mid.inputs ++ forms)))
          ∙ range_behind mid.inputs forms []))
          (forms_later mid.steps new.steps meas (length mid.calls.items) forms (appends_extends a).grows.steps held);
    }

-- a call of a gadget with its arguments as inputs, whose answer is added to a form
pub emitted_call : (scale : Scale) {meas : ℕ} {old mid new : Made} {forms : List (List Term)} {form : List Term} {gadget number : ℕ} {f : List ℕ → Share → Run (List ℕ)}
    → Listed meas old mid [] forms f → AppendsCall mid new gadget forms number → ScaleFits (length old.steps.steps) scale
    → Emitted meas scale old new form (form ++ record { scale = scale; source = Answer number } ∷ []) (λ joint share. call_run (read_by joint share) gadget (f joint share))
emitted_call scale {meas} {old} {mid} {new} {forms} {form} {gadget} {number} {f} l a s = record {
  extends = extends_trans l.extends (appends_extends a);
  value =
      λ joint share words line inputs go.
      form_value-push (publics line.steps joint) share form (record { scale = scale; source = Answer number })
      ∙ ap (λ (k : ℕ). form_value (publics line.steps joint) share form + scale_value (publics line.steps joint) scale * slice_index share.answers k)
      (a.number ∙ calls_count l joint share words);
  calls =
      λ joint share words line inputs go.
      let by = call_by (publics line.steps joint) share inputs in
      let last : CallForms = record { gadget = gadget; first = length mid.inputs; end = length mid.inputs + length forms } in
      let before = goes_on_back (appends_extends a) go in
      ap (λ (calls : List CallForms). map by calls) a.calls
      ∙ map_push by mid.calls.items last
      ∙ ap₂ (λ (calls : List Call) (call : Call). calls ++ call ∷ []) (l.calls joint share words line inputs before)
      (ap (λ (words : List ℕ). record { gadget = gadget; inputs = words })
      (ap (λ (all : List (List Term)). form_words (publics line.steps joint) share (slice_range all last.first last.end))
      (go.inputs.1 ∙ ap (λ (all : List (List Term)). all ++ go.inputs.0) a.inputs)
      ∙ ap (λ (fs : List (List Term)). form_words (publics line.steps joint) share fs) (range_behind mid.inputs forms go.inputs.0)
      ∙ l.value joint share words line inputs before))
      ∙ append_assoc (map by old.calls.items) (f joint share (length old.calls.items)).calls _;
  sound = λ h number' call there.
      let held = l.sound h in
      last_call mid.calls.items (record { gadget = gadget; first = length mid.inputs; end = length mid.inputs + length forms }) call number'
      (λ k c. CallFits (length new.steps.steps) meas k new.inputs c)
      (λ k c at.
      subst (λ (inputs : List (List Term)). CallFits (length new.steps.steps) meas k inputs c) (sym a.inputs)
      (call_later mid.steps new.steps meas k mid.inputs forms c (appends_extends a).grows.steps (held k c at)))
      (new_call_fits l a)
      (subst (λ (calls : List CallForms). slice_get calls number' ≡ Some call) a.calls there);
  fits = λ answers bound h.
      let room : length new.calls.items ≤ answers = bound (omega (arith, l.extends.calls, appends_one a)) in
      term_fits (length new.steps.steps) meas answers form scale (Answer number)
      (form_later old.steps new.steps meas answers form (extends_trans l.extends (appends_extends a)).grows.steps h)
      (scale_later scale (extends_trans l.extends (appends_extends a)).grows.steps s)
      (omega (arith, a.number, appends_one a, room));
}

-- ---- checks and outs

-- a check
pub performed_check : {meas : ℕ} {old new : Made} {checks outs : List (List Term)} {form : List Term} {f : List ℕ → Share → Run ℕ}
    → Emitted meas One old new [] form f
    → Performed meas old new (record { checks = checks; outs = outs }) (record { checks = checks ++ form ∷ []; outs = outs })
    (λ joint share. map_run one_check (f joint share))
performed_check {meas} {old} {new} {checks} {outs} {form} {f} e = record {
  extends = e.extends;
  value =
      λ joint share words line later go.
      ap₂ (λ (cs os : List ℕ). record { checks = cs; outs = os })
      (words_push (publics line.steps joint) share checks form ((f joint share (length old.calls.items)).value % modulus)
      (one_form (form_value (publics line.steps joint) share form) (f joint share (length old.calls.items)).value (e.value joint share words line later go)))
      (sym (append-nil (form_words (publics line.steps joint) share outs)));
  calls = e.calls;
  sound = e.sound;
  fits =
      λ answers bound h. (
        forms_push (length new.steps.steps) meas answers checks form
            (forms_later old.steps new.steps meas answers checks e.extends.grows.steps h.0)
            (e.fits answers bound (All-nil (TermFits (length old.steps.steps) meas answers))),
        forms_later old.steps new.steps meas 0 outs e.extends.grows.steps h.1,
      );
}

-- where a run makes no call none was appended
no_calls : {meas : ℕ} {old new : Made} {before form : List Term} {f : List ℕ → Share → Run ℕ} → Emitted meas One old new before form f
    → ((joint : List ℕ) (share : Share) (n : ℕ) → (f joint share n).calls ≡ []) → length new.calls.items ≡ length old.calls.items
no_calls {meas} {old} {new} {before} {form} {f} e silent =
    let share : Share = record { meas = range_with_len 0 meas; answers = []; unit = 0 } in
    let words : length share.meas ≡ meas = length-range_with_len 0 meas in
    calls_count e [] share words
    ∙ ap (λ (calls : List Call). length old.calls.items + length calls) (silent [] share (length old.calls.items))
    ∙ add-zero (length old.calls.items)

-- an out, for which no call is made
pub performed_out : {meas : ℕ} {old new : Made} {checks outs : List (List Term)} {form : List Term} {f : List ℕ → Share → Run ℕ}
    → Emitted meas One old new [] form f
    → ((joint : List ℕ) (share : Share) (n : ℕ) → (f joint share n).calls ≡ [])
    → Performed meas old new (record { checks = checks; outs = outs }) (record { checks = checks; outs = outs ++ form ∷ [] })
    (λ joint share. map_run one_out (f joint share))
performed_out {meas} {old} {new} {checks} {outs} {form} {f} e silent = record {
  extends = e.extends;
  value =
      λ joint share words line later go.
      ap₂ (λ (cs os : List ℕ). record { checks = cs; outs = os })
      (sym (append-nil (form_words (publics line.steps joint) share checks)))
      (words_push (publics line.steps joint) share outs form ((f joint share (length old.calls.items)).value % modulus)
      (one_form (form_value (publics line.steps joint) share form) (f joint share (length old.calls.items)).value (e.value joint share words line later go)));
  calls = e.calls;
  sound = e.sound;
  fits =
      λ answers bound h. (
        forms_later old.steps new.steps meas answers checks e.extends.grows.steps h.0,
        forms_push (length new.steps.steps) meas 0 outs form
            (forms_later old.steps new.steps meas 0 outs e.extends.grows.steps h.1)
            (e.fits 0 (λ more. absurd (omega (arith, more, no_calls e silent))) (All-nil (TermFits (length old.steps.steps) meas 0))),
      );
}

pub performed_law : (values : List ℕ) (so_far x y : Results)
    → join_results (join_results so_far x) y ≡ join_results so_far (join_results x y)
performed_law values so_far x y =
    ap₂ (λ (cs os : List ℕ). record { checks = cs; outs = os })
    (append_assoc so_far.checks x.checks y.checks) (append_assoc so_far.outs x.outs y.outs)

pub performed_law_none : (values : List ℕ) (so_far : Results) → join_results so_far no_results ≡ so_far
performed_law_none values so_far =
    ap₂ (λ (cs os : List ℕ). record { checks = cs; outs = os }) (append-nil so_far.checks) (append-nil so_far.outs)

-- ---- the code of a circuit

no_call_there : (number : ℕ) (call : CallForms) → slice_get [] number ≡ Some call → ⊥
no_call_there number call there = cc

pub tied : (body : Program) (old new : Made) (done : Done) → old.calls.items ≡ [] → old.steps.joint ≡ body.joint
    → Performed body.meas old new (record { checks = []; outs = [] }) done
    (λ joint share. all_results (statements_of body.gadgets (read_by joint share) [] body.stmts))
    → Tied body (record { steps = new.steps; calls = new.calls.items; inputs = new.inputs; checks = done.checks; outs = done.outs })
tied body old new done fresh joint p =
    let run = λ (joint : List ℕ) (share : Share). all_results (statements_of body.gadgets (read_by joint share) [] body.stmts) in
    let fits =
    p.fits (length new.calls.items) (λ more. omega arith)
    (All-nil (FormFits (length old.steps.steps) body.meas (length new.calls.items)), All-nil (FormFits (length old.steps.steps) body.meas 0)) in
    record {
      joint = p.extends.grows.steps.joint ∙ joint;
      calls =
          λ words share size.
          p.calls words share size new.steps new.inputs (goes_on_refl new)
          ∙ ap
          (λ (calls : List CallForms). map (call_by (publics new.steps.steps words) share new.inputs) calls ++ (run words share (length calls)).calls)
          fresh;
      checks =
          λ words share size.
          ap (λ (results : Results). results.checks) (p.value words share size new.steps new.inputs (goes_on_refl new))
          ∙ ap (λ (calls : List CallForms). (run words share (length calls)).value.checks) fresh;
      outs =
          λ words share size.
          ap (λ (results : Results). results.outs) (p.value words share size new.steps new.inputs (goes_on_refl new))
          ∙ ap (λ (calls : List CallForms). (run words share (length calls)).value.outs) fresh;
      calls_fit =
          p.sound
          (λ number call there.
          absurd (no_call_there number call (sym (ap (λ (calls : List CallForms). slice_get calls number) fresh) ∙ there)));
      checks_fit = fits.0;
      outs_fit = fits.1;
    }
