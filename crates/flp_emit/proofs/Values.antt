-- Values that are made of the values of steps.
use Rattle.std.proofs.Common.{ℕ, ◌<◌, length, get_or, refl, sym, ap, ap₂, ◌∙◌, arith}
use Rattle.flp_forms.specs.PublicValues.{public_at}
use Rattle.flp_forms.specs.StraightLine.{StraightLine, Grows, StandsFor}
use Rattle.flp_forms.proofs.LineLemmas.{grows_refl, grows_trans, length-grows, public_at-grows, stands_kept}
use Rattle.flp_emit.specs.Standing.{MakesValue}

-- a step that is there already
pub makes_old : (line : StraightLine) (step : ℕ) → step < length line.steps → MakesValue line line step (λ values. get_or values step 0)
makes_old line step within = record { grows = grows_refl line; within = within; value = λ later g joint. refl }

-- a step of a number that depends on no other
pub makes_number : (old new : StraightLine) (step number : ℕ) → Grows old new → StandsFor new step (λ _. number)
    → MakesValue old new step (λ _. number)
makes_number old new step number g s = record {
  grows = g;
  within = s.within;
  value = λ later h joint. (stands_kept new later step _ h s).value joint;
}

-- a step made of one other
pub makes_of_one : (f : ℕ → ℕ) (old new : StraightLine) (step one : ℕ) → one < length old.steps → Grows old new
    → StandsFor new step (λ joint. f (public_at old.steps one joint))
    → MakesValue old new step (λ values. f (get_or values one 0))
makes_of_one f old new step one within g s = record {
  grows = g;
  within = s.within;
  value =
      λ later h joint.
      (stands_kept new later step _ h s).value joint
      ∙ ap f (sym (public_at-grows old later one joint (grows_trans old new later g h) within));
}

-- a step made of two others
pub makes_of_two : (f : ℕ → ℕ → ℕ) (old new : StraightLine) (step one two : ℕ) → one < length old.steps → two < length old.steps → Grows old new
    → StandsFor new step (λ joint. f (public_at old.steps one joint) (public_at old.steps two joint))
    → MakesValue old new step (λ values. f (get_or values one 0) (get_or values two 0))
makes_of_two f old new step one two first second g s = record {
  grows = g;
  within = s.within;
  value =
      λ later h joint.
      (stands_kept new later step _ h s).value joint
      ∙ ap₂ f (sym (public_at-grows old later one joint (grows_trans old new later g h) first))
      (sym (public_at-grows old later two joint (grows_trans old new later g h) second));
}

-- a step of a number, and then one made of that and an earlier one
pub makes_with_number : (f : ℕ → ℕ → ℕ) (old mid new : StraightLine) (step one two number : ℕ) → two < length old.steps
    → MakesValue old mid one (λ _. number) → MakesValue mid new step (λ values. f (get_or values one 0) (get_or values two 0))
    → MakesValue old new step (λ values. f number (get_or values two 0))
makes_with_number f old mid new step one two number within first second = record {
  grows = grows_trans old mid new first.grows second.grows;
  within = second.within;
  value =
      λ later h joint.
      second.value later h joint
      ∙ ap (λ n. f n (public_at later.steps two joint)) (first.value later (grows_trans mid new later second.grows h) joint);
}

-- a step that is there stays there
pub within_later : {old new : StraightLine} {step : ℕ} → Grows old new → step < length old.steps → step < length new.steps
within_later {old} {new} {step} g h = omega (arith, length-grows old new g)
