-- What is emitted into a form, and what a form becomes. From coefficients and terms up to calls and statements.
use Rattle.std.proofs.Common.{ℕ, ◌≡◌, ◌+◌, ◌-◌, ◌*◌, ◌≤◌, Bool, true, false, List, [], ◌∷◌, ◌++◌, length, map, take, drop, get_or, refl, sym, subst, ap, ◌∙◌, arith, length-append}
use Rattle.std.specs.Prelude.{slice_range}
use Rattle.std.proofs.lemmas.List.{append-nil, drop-append-le, take-append-le, length-drop, drop_at, take_all}
use Rattle.std.proofs.Math.ListN.{get_or-eq_default}
use Rattle.std.proofs.lemmas.List.Elements.{All-append, All-nil, All-cons, All-weaker}
use Rattle.flp_meaning.specs.Meaning.{Call, Reading, Run, plain, map_run, value_with_sign}
use Rattle.flp_forms.specs.declared.term.Term.{Term}
use Rattle.flp_forms.specs.declared.term.Scale.{Scale}
use Rattle.flp_forms.specs.declared.term.Source.{Source}
use Rattle.flp_forms.specs.declared.term.Source.TheVariants.{Unit as ByUnit}
use Rattle.flp_forms.specs.PublicValues.{publics}
use Rattle.flp_forms.specs.StraightLine.{StraightLine, Grows}
use Rattle.flp_forms.specs.LinearForms.{Share, scale_value, source_value, form_value, ScaleFits, SourceFits, TermFits, FormFits}
use Rattle.flp_forms.proofs.LineLemmas.{grows_trans, length-grows}
use Rattle.flp_forms.proofs.FormLemmas.{form_value-push, fits_more}
use Rattle.flp_emit.specs.declared.code.CallForms.{CallForms}
use Rattle.flp_emit.specs.declared.made.Made.{Made}
use Rattle.flp_emit.specs.Code.{read_by, call_by, inputs_in, CallFits}
use Rattle.flp_emit.specs.Standing.{Makes}
use Rattle.flp_emit.specs.Emitting.{Scales, ScalesRun, sign_factor, Extends, IsSound, Emitted, FormsFit}
use Rattle.flp_emit.proofs.Adding.{extends_refl, extends_trans}

turned : (a b c : ℕ) → (a * b) * c ≡ a * (c * b)
turned a b c = omega arith

regrouped : (a b c : ℕ) → (a * b) * c ≡ a * (b * c)
regrouped a b c = omega arith

nothing_more : (a s : ℕ) → a + s * 0 ≡ a
nothing_more a s = omega arith

spread : (a s x y : ℕ) → (a + s * x) + s * y ≡ a + s * (x + y)
spread a s x y = omega arith

-- ---- what fits goes on to fit

pub form_later : (old new : StraightLine) (meas answers : ℕ) (form : List Term) → Grows old new
    → FormFits (length old.steps) meas answers form → FormFits (length new.steps) meas answers form
form_later old new meas answers form g h =
    fits_more (length old.steps) meas answers (length new.steps) meas answers form (length-grows old new g) (omega arith) (omega arith) h

pub forms_later : (old new : StraightLine) (meas answers : ℕ) (forms : List (List Term)) → Grows old new
    → FormsFit (length old.steps) meas answers forms → FormsFit (length new.steps) meas answers forms
forms_later old new meas answers forms g h =
    All-weaker (FormFits (length old.steps) meas answers) (FormFits (length new.steps) meas answers)
    (λ (form : List Term) (fits : FormFits (length old.steps) meas answers form). form_later old new meas answers form g fits) forms h

-- forms in a range that ends within a list
range_kept : (forms more : List (List Term)) (first end : ℕ) → first ≤ end → end ≤ length forms
    → slice_range (forms ++ more) first end ≡ slice_range forms first end
range_kept forms more first end ordered inside =
    ap (λ (fs : List (List Term)). take (end - first) fs) (drop-append-le first forms more (omega arith))
    ∙ take-append-le (end - first) (drop first forms) more (omega (arith, length-drop first forms))

-- and those behind a list
pub range_behind : (front forms more : List (List Term))
    → slice_range ((front ++ forms) ++ more) (length front) (length front + length forms) ≡ forms
range_behind front forms more =
    range_kept (front ++ forms) more (length front) (length front + length forms) (omega arith) (omega (arith, length-append front forms))
    ∙ ap (λ (fs : List (List Term)). take (length front + length forms - length front) fs) (drop_at front forms (length front) refl)
    ∙ take_all (length front + length forms - length front) forms (omega arith)

-- a call that fits goes on to fit
pub call_later : (old new : StraightLine) (meas number : ℕ) (inputs more : List (List Term)) (call : CallForms) → Grows old new
    → CallFits (length old.steps) meas number inputs call → CallFits (length new.steps) meas number (inputs ++ more) call
call_later old new meas number inputs more call g fits = record {
  ordered = fits.ordered;
  inside = omega (arith, length-append inputs more, fits.inside);
  forms =
      subst (λ (fs : List (List Term)). FormsFit (length new.steps) meas number fs)
      (sym (range_kept inputs more call.first call.end fits.ordered fits.inside))
      (forms_later old new meas number (inputs_in inputs call) g fits.forms);
}

-- ---- steps that are made in between

pub extends_steps : (made : Made) (line : StraightLine) → Grows made.steps line → Extends made (record made { steps = line })
extends_steps made line g =
    record { grows = record { steps = g; inputs = ([], sym (append-nil made.inputs)) }; calls = omega arith }

sound_steps : (meas : ℕ) (made : Made) (line : StraightLine) → Grows made.steps line → IsSound meas made
    → IsSound meas (record made { steps = line })
sound_steps meas made line g s = λ number call there.
    subst (λ (inputs : List (List Term)). CallFits (length line.steps) meas number inputs call) (append-nil made.inputs)
    (call_later made.steps line meas number made.inputs [] call g (s number call there))

-- steps were made, and then a run was emitted whose value times the coefficient is as much as that of another
pub emitted_by : (scale after : Scale) {meas : ℕ} {old new : Made} {line : StraightLine} {before form : List Term} {f g : List ℕ → Share → Run ℕ}
    → Grows old.steps line
    → ((joint : List ℕ) (share : Share) (n : ℕ) (later : StraightLine) → Grows line later
    → scale_value (publics later.steps joint) after * (f joint share n).value
    ≡ scale_value (publics later.steps joint) scale * (g joint share n).value)
    → ((joint : List ℕ) (share : Share) (n : ℕ) → (f joint share n).calls ≡ (g joint share n).calls)
    → Emitted meas after (record old { steps = line }) new before form f → Emitted meas scale old new before form g
emitted_by scale after {meas} {old} {new} {line} {before} {form} {f} {g} grown same same_calls e =
    let first = extends_steps old line grown in
    record {
      extends = extends_trans first e.extends;
      value =
          λ joint share words later inputs go.
          e.value joint share words later inputs go
          ∙ ap (λ (n : ℕ). form_value (publics later.steps joint) share before + n)
          (same joint share (length old.calls.items) later (grows_trans line new.steps later e.extends.grows.steps go.steps));
      calls =
          λ joint share words later inputs go.
          e.calls joint share words later inputs go
          ∙ ap (λ (calls : List Call). map (call_by (publics later.steps joint) share inputs) old.calls.items ++ calls)
          (same_calls joint share (length old.calls.items));
      sound = λ s. e.sound (sound_steps meas old line grown s);
      fits = λ answers bound h. e.fits answers bound (form_later old.steps line meas answers before grown h);
    }

-- ---- terms

pub term_fits : (publics meas answers : ℕ) (form : List Term) (scale : Scale) (source : Source) → FormFits publics meas answers form
    → ScaleFits publics scale → SourceFits meas answers source → FormFits publics meas answers (form ++ record { scale = scale; source = source } ∷ [])
term_fits publics meas answers form scale source h s w =
    All-append (TermFits publics meas answers) form (record { scale = scale; source = source } ∷ []) h
    (All-cons (TermFits publics meas answers) (record { scale = scale; source = source }) [] (record { scale = s; source = w })
    (All-nil (TermFits publics meas answers)))

-- one more term
pub emitted_term : (meas : ℕ) (made : Made) (form : List Term) (scale : Scale) (source : Source) → ScaleFits (length made.steps.steps) scale
    → ((answers : ℕ) → SourceFits meas answers source)
    → Emitted meas scale made made form (form ++ record { scale = scale; source = source } ∷ []) (λ joint share. plain (source_value share source))
emitted_term meas made form scale source s w = record {
  extends = extends_refl made;
  value = λ joint share words line inputs go. form_value-push (publics line.steps joint) share form (record { scale = scale; source = source });
  calls = λ joint share words line inputs go. sym (append-nil (map (call_by (publics line.steps joint) share inputs) made.calls.items));
  sound = λ h. h;
  fits = λ answers bound h. term_fits (length made.steps.steps) meas answers form scale source h s (w answers);
}

-- ---- public values

-- a public expression counts unit times its value
pub emitted_public : {meas : ℕ} {old : Made} {mid line : StraightLine} {step : ℕ} {scale after : Scale} {form : List Term} {run : Reading → Run ℕ}
    → Makes old.steps mid step run → Scales mid line scale after (λ values. get_or values step 0)
    → Emitted meas scale old (record old { steps = line }) form (form ++ record { scale = after; source = ByUnit } ∷ [])
    (λ joint share. map_run (λ value. share.unit * value) (run (read_by joint share)))
emitted_public {meas} {old} {mid} {line} {step} {scale} {after} {form} {run} made scaled =
    emitted_by scale after (grows_trans old.steps mid line made.grows scaled.grows)
    (λ joint share n later g.
    ap (λ (k : ℕ). k * share.unit) (scaled.value later g joint)
    ∙ ap (λ (k : ℕ). (scale_value (publics later.steps joint) scale * k) * share.unit)
    (made.stands.value later (grows_trans mid line later scaled.grows g) (read_by joint share) n)
    ∙ turned (scale_value (publics later.steps joint) scale) (run (read_by joint share) n).value share.unit)
    (λ joint share n. sym (made.stands.silent (read_by joint share) n))
    (emitted_term meas (record old { steps = line }) form after ByUnit scaled.fits (λ answers. tt))

-- ---- coefficients that are passed down

sign_times : (minus : Bool) (value : ℕ) → value_with_sign minus value ≡ sign_factor minus * value
sign_times true value = refl
sign_times false value = omega arith

-- an item with its sign
pub emitted_signed : {meas : ℕ} {old new : Made} {line : StraightLine} {scale after : Scale} {before form : List Term} {f : List ℕ → Share → Run ℕ} (minus : Bool)
    → Scales old.steps line scale after (λ values. sign_factor minus)
    → Emitted meas after (record old { steps = line }) new before form f
    → Emitted meas scale old new before form (λ joint share. map_run (value_with_sign minus) (f joint share))
emitted_signed {meas} {old} {new} {line} {scale} {after} {before} {form} {f} minus scaled e =
    emitted_by scale after scaled.grows
    (λ joint share n later g.
    ap (λ (k : ℕ). k * (f joint share n).value) (scaled.value later g joint)
    ∙ regrouped (scale_value (publics later.steps joint) scale) (sign_factor minus) (f joint share n).value
    ∙ ap (λ (k : ℕ). scale_value (publics later.steps joint) scale * k) (sym (sign_times minus (f joint share n).value)))
    (λ joint share n. refl) e

-- a product: its public factors are in the coefficient
pub emitted_product : {meas : ℕ} {old new : Made} {line : StraightLine} {scale after : Scale} {before form : List Term} {others : Reading → Run ℕ} {f g : List ℕ → Share → Run ℕ}
    → ScalesRun old.steps line scale after others
    → ((joint : List ℕ) (share : Share) (n : ℕ) → (g joint share n).value ≡ (others (read_by joint share) n).value * (f joint share n).value)
    → ((joint : List ℕ) (share : Share) (n : ℕ) → (g joint share n).calls ≡ (f joint share n).calls)
    → Emitted meas after (record old { steps = line }) new before form f
    → Emitted meas scale old new before form g
emitted_product {meas} {old} {new} {line} {scale} {after} {before} {form} {others} {f} {g} scaled product calls e =
    emitted_by scale after scaled.grows
    (λ joint share n later h.
    ap (λ (k : ℕ). k * (f joint share n).value) (scaled.value later h (read_by joint share) n)
    ∙ regrouped (scale_value (publics later.steps joint) scale) (others (read_by joint share) n).value (f joint share n).value
    ∙ ap (λ (k : ℕ). scale_value (publics later.steps joint) scale * k) (sym (product joint share n)))
    (λ joint share n. sym (calls joint share n)) e

-- the value of a sum so far and two more runs
pub emitted_law : (scale : Scale) (values : List ℕ) (so_far x y : ℕ)
    → (so_far + scale_value values scale * x) + scale_value values scale * y ≡ so_far + scale_value values scale * (x + y)
emitted_law scale values so_far x y = spread so_far (scale_value values scale) x y

pub emitted_law_none : (scale : Scale) (values : List ℕ) (so_far : ℕ) → so_far + scale_value values scale * 0 ≡ so_far
emitted_law_none scale values so_far = omega arith

-- a word past the end of the encoding is 0
pub emitted_nothing : (scale : Scale) (meas : ℕ) (made : Made) (form : List Term) (word : ℕ) → meas ≤ word
    → Emitted meas scale made made form form (λ joint share. plain (get_or share.meas word 0))
emitted_nothing scale meas made form word past = record {
  extends = extends_refl made;
  value =
      λ joint share words line inputs go.
      sym (ap (λ (k : ℕ). form_value (publics line.steps joint) share form + scale_value (publics line.steps joint) scale * k)
      (get_or-eq_default share.meas 0 (omega arith))
      ∙ nothing_more (form_value (publics line.steps joint) share form) (scale_value (publics line.steps joint) scale));
  calls = λ joint share words line inputs go. sym (append-nil (map (call_by (publics line.steps joint) share inputs) made.calls.items));
  sound = λ h. h;
  fits = λ answers bound h. h;
}
