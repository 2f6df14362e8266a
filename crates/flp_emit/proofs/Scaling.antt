-- Coefficients times values.
use Rattle.std.proofs.Common.{ℕ, ◌≡◌, ◌+◌, ◌*◌, ◌<◌, ◌≤◌, ◌++◌, List, length, get_or, refl, sym, ap, ap₂, ◌∙◌, add-zero, arith}
use Rattle.flp_meaning.specs.Meaning.{Reading, Run, plain, then_run}
use Rattle.flp_forms.specs.declared.term.Scale.{Scale}
use Rattle.flp_forms.specs.declared.term.Scale.TheVariants.{One, MinusOne, Value}
use Rattle.flp_forms.specs.PublicValues.{publics, public_at}
use Rattle.flp_forms.specs.StraightLine.{StraightLine, Grows, ScalesBy}
use Rattle.flp_forms.specs.LinearForms.{scale_value, ScaleFits}
use Rattle.flp_forms.proofs.LineLemmas.{grows_refl, grows_trans, length-grows, public_at-grows}
use Rattle.flp_emit.specs.Standing.{Makes}
use Rattle.flp_emit.proofs.Parts.{products_regroup}
use Rattle.flp_emit.specs.Emitting.{Scales, ScalesRun, ScaleRemains}

-- a coefficient that is there stays there
scale_fits_more : (few many : ℕ) (scale : Scale) → few ≤ many → ScaleFits few scale → ScaleFits many scale
scale_fits_more few many One le fits = tt
scale_fits_more few many MinusOne le fits = tt
scale_fits_more few many (Value index) le fits = omega arith

pub scale_later : {old new : StraightLine} (scale : Scale) → Grows old new → ScaleFits (length old.steps) scale
    → ScaleFits (length new.steps) scale
scale_later {old} {new} scale g fits = scale_fits_more (length old.steps) (length new.steps) scale (length-grows old new g) fits

scale_value-kept : (old new : StraightLine) (scale : Scale) (joint : List ℕ) → Grows old new → ScaleFits (length old.steps) scale
    → scale_value (publics new.steps joint) scale ≡ scale_value (publics old.steps joint) scale
scale_value-kept old new One joint g fits = refl
scale_value-kept old new MinusOne joint g fits = refl
scale_value-kept old new (Value step) joint g fits = public_at-grows old new step joint g fits

-- a product of two coefficients, the second of which has this value
pub scales_product : (old new : StraightLine) (before factor after : Scale) (number : List ℕ → ℕ)
    → ScaleFits (length old.steps) before → ScaleFits (length old.steps) factor → Grows old new
    → ((later : StraightLine) → Grows old later → (joint : List ℕ) → scale_value (publics later.steps joint) factor ≡ number (publics later.steps joint))
    → ScalesBy new after (λ joint. scale_value (publics old.steps joint) before * scale_value (publics old.steps joint) factor)
    → Scales old new before after number
scales_product old new before factor after number fits fits' g value product = record {
  grows = g;
  fits = product.fits;
  value =
      λ later h joint.
      scale_value-kept new later after joint h product.fits
      ∙ product.value joint
      ∙ ap₂ (λ a b. a * b) (sym (scale_value-kept old later before joint (grows_trans old new later g h) fits))
      (sym (scale_value-kept old later factor joint (grows_trans old new later g h) fits') ∙ value later (grows_trans old new later g h) joint);
}

-- the coefficient of a step that is there
pub scale_of_step : (line : StraightLine) (factor : Scale) (step : ℕ) → step < length line.steps
    → ScalesBy line factor (λ joint. public_at line.steps step joint)
    → (later : StraightLine) → Grows line later → (joint : List ℕ)
    → scale_value (publics later.steps joint) factor ≡ get_or (publics later.steps joint) step 0
scale_of_step line factor step within scaled later g joint =
    scale_value-kept line later factor joint g scaled.fits
    ∙ scaled.value joint
    ∙ sym (public_at-grows line later step joint g within)

-- a coefficient as it is
pub scales_same : (line : StraightLine) (scale : Scale) → ScaleFits (length line.steps) scale → Scales line line scale scale (λ values. 1)
scales_same line scale fits = record { grows = grows_refl line; fits = fits; value = λ later g joint. omega arith }

-- and times the value of a run
pub scales_run : {old mid new : StraightLine} {before after : Scale} {step : ℕ} {run : Reading → Run ℕ} → Makes old mid step run
    → Scales mid new before after (λ values. get_or values step 0) → ScalesRun old new before after run
scales_run {old} {mid} {new} {before} {after} {step} {run} made scaled = record {
  grows = grows_trans old mid new made.grows scaled.grows;
  fits = scaled.fits;
  value =
      λ later g reading n.
      scaled.value later g reading.joint
      ∙ ap (λ (k : ℕ). scale_value (publics later.steps reading.joint) before * k)
      (made.stands.value later (grows_trans mid new later scaled.grows g) reading n);
  silent = λ reading n. made.stands.silent reading n;
}

pub scales_by_one : (line : StraightLine) (scale : Scale) → ScaleFits (length line.steps) scale
    → ScalesRun line line scale scale (λ reading. plain 1)
scales_by_one line scale fits = record {
  grows = grows_refl line;
  fits = fits;
  value = λ later g reading n. omega arith;
  silent = λ reading n. refl;
}

-- ---- products as far as they have come

pub scale_remains_all : (line : StraightLine) (start : Scale) (whole : Reading → Run ℕ) → ScaleFits (length line.steps) start
    → ScaleRemains line start start whole whole
scale_remains_all line start whole fits = record {
  fits = fits;
  value = λ later g reading n. refl;
  silent = λ reading n h. h;
}

pub scale_remains_more : {line new : StraightLine} {start now after : Scale} {run rest whole : Reading → Run ℕ}
    → ScaleRemains line start now (λ reading. then_run (λ a b. a * b) (run reading) (rest reading)) whole
    → ScalesRun line new now after run → ScaleRemains new start after rest whole
scale_remains_more {line} {new} {start} {now} {after} {run} {rest} {whole} left scaled = record {
  fits = scaled.fits;
  value =
      λ later g reading n.
      left.value later (grows_trans line new later scaled.grows g) reading n
      ∙ ap (λ (k : ℕ). scale_value (publics later.steps reading.joint) now * ((run reading n).value * (rest reading k).value))
      (ap (λ calls. n + length calls) (scaled.silent reading n) ∙ add-zero n)
      ∙ products_regroup (scale_value (publics later.steps reading.joint) now) (run reading n).value (rest reading n).value
      ∙ ap (λ (k : ℕ). k * (rest reading n).value) (sym (scaled.value later g reading n));
  silent =
      λ reading n h.
      left.silent reading n
      (ap₂ (λ a b. a ++ b) (scaled.silent reading n)
      (ap (λ (k : ℕ). (rest reading k).calls) (ap (λ calls. n + length calls) (scaled.silent reading n) ∙ add-zero n) ∙ h));
}

pub scale_remains_none : {old line : StraightLine} {start now : Scale} {whole : Reading → Run ℕ} → Grows old line
    → ScaleRemains line start now (λ reading. plain 1) whole → ScalesRun old line start now whole
scale_remains_none {old} {line} {start} {now} {whole} g left = record {
  grows = g;
  fits = left.fits;
  value = λ later h reading n. omega (arith, left.value later h reading n);
  silent = λ reading n. left.silent reading n refl;
}
