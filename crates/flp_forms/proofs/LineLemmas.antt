-- What a step stands for, and how that stays while the line grows. From the relation of growth up.
use Rattle.std.proofs.Common.{ℕ, zero, suc, ◌≡◌, ◌+◌, ◌*◌, ◌<◌, ◌≤◌, ◌^◌, ◌/◌, ◌%◌, List, [], ◌∷◌, ◌++◌, length, get_or, map, refl, ap, ap₂, sym, subst, ◌∙◌, arith, Some, length-append}
use Rattle.std.specs.Prelude.{slice_get, slice_index}
use Rattle.std.specs.List.{range_with_len}
use Rattle.std.proofs.Math.Nat.{pow-suc, pow-zero}
use Rattle.std.proofs.lemmas.Nat.{pow-add}
use Rattle.std.proofs.lemmas.List.{append-nil, append_assoc, get_or_push, length_push}
use Rattle.std.proofs.lemmas.List.FromFn.{length-map-range_with_len, get_or-map-range_with_len}
use Rattle.std.proofs.lemmas.Option.{slice_get_within, slice_get-get_or, slice_get_read}
use Rattle.flp_field.proofs.Powers.{pow-one}
use Rattle.flp_forms.specs.declared.step.Step.{Step}
use Rattle.flp_forms.specs.declared.step.Step.TheVariants.{Constant, Joint}
use Rattle.flp_forms.specs.declared.term.Scale.{Scale}
use Rattle.flp_forms.specs.declared.term.Scale.TheVariants.{One, MinusOne, Value}
use Rattle.flp_forms.specs.PublicValues.{step_value, publics, public_at, StepFits}
use Rattle.flp_forms.specs.StraightLine.{StraightLine, IsStraightLine, Grows, StandsFor, ScalesBy}
use Rattle.flp_forms.specs.LinearForms.{scale_value, ScaleFits}
use Rattle.flp_forms.proofs.PublicLemmas.{length-publics, publics-push, publics_kept, public_at-step}

some_same : (one two : Step) → Some one ≡ Some two → one ≡ two
some_same one two e = cc

pub grows_refl : (line : StraightLine) → Grows line line
grows_refl line = record { joint = refl; front = ([], sym (append-nil line.steps)) }

pub grows_trans : (one two three : StraightLine) → Grows one two → Grows two three → Grows one three
grows_trans one two three g h = record {
  joint = h.joint ∙ g.joint;
  front = (
    g.front.0 ++ h.front.0,
    h.front.1 ∙ ap (λ (steps : List Step). steps ++ h.front.0) g.front.1 ∙ append_assoc one.steps g.front.0 h.front.0,
  );
}

pub length-grows : (one two : StraightLine) → Grows one two → length one.steps ≤ length two.steps
length-grows one two g =
    omega (arith, ap (λ (steps : List Step). length steps) g.front.1, length-append one.steps g.front.0)

-- a public value stays while the line grows
pub public_at-grows : (one two : StraightLine) (step : ℕ) (joint : List ℕ) → Grows one two → step < length one.steps
    → public_at two.steps step joint ≡ public_at one.steps step joint
public_at-grows one two step joint g within =
    ap (λ (steps : List Step). public_at steps step joint) g.front.1
    ∙ publics_kept one.steps g.front.0 joint step within

-- so a step stands for what it stood for
pub stands_kept : (one two : StraightLine) (step : ℕ) (number : List ℕ → ℕ) → Grows one two
    → StandsFor one step number → StandsFor two step number
stands_kept one two step number g s = record {
  within = omega (arith, length-grows one two g, s.within);
  value = λ joint. public_at-grows one two step joint g s.within ∙ s.value joint;
}

-- and for whatever is equal to that
pub stands_same : (line : StraightLine) (step : ℕ) (one two : List ℕ → ℕ) → ((joint : List ℕ) → one joint ≡ two joint)
    → StandsFor line step one → StandsFor line step two
stands_same line step one two same s = record { within = s.within; value = λ joint. s.value joint ∙ same joint }

-- a step that is there stands for its value
pub stands_there : (line : StraightLine) (index : ℕ) (step : Step) → IsStraightLine line.joint line.steps
    → slice_get line.steps index ≡ Some step
    → StandsFor line index (λ joint. step_value (publics line.steps joint) joint step)
stands_there line index step straight there = record {
  within = slice_get_within line.steps index step there;
  value =
      λ joint. public_at-step line.steps joint line.joint index step there (straight.reads_earlier index step there);
}

pub stands_joint : (line : StraightLine) (word : ℕ) → IsStraightLine line.joint line.steps → word < line.joint
    → StandsFor line word (λ joint. slice_index joint word)
stands_joint line word straight below = stands_there line word (Joint word) straight (straight.begins word below)

-- a step that was appended stands for its value by the earlier ones
pub stands_pushed : (words index : ℕ) (old steps more : List Step) (step : Step) → steps ≡ old
    → more ≡ steps ++ step ∷ [] → index ≡ length steps
    → StandsFor (record { joint = words; steps = more }) index (λ joint. step_value (publics old joint) joint step)
stands_pushed words index old steps more step same pushed at_end = record {
  within = omega (arith, ap (λ (s : List Step). length s) pushed, length_push steps step);
  value =
      λ joint.
      ap (λ (s : List Step). get_or (publics s joint) index 0) pushed
      ∙ ap (λ (xs : List ℕ). get_or xs index 0) (publics-push steps step joint)
      ∙ get_or_push (publics steps joint) (step_value (publics steps joint) joint step) 0 index
      (length-publics steps joint ∙ sym at_end)
      ∙ ap (λ (s : List Step). step_value (publics s joint) joint step) same;
}

-- the first power of a step is the step
pub stands_first : (line : StraightLine) (step exponent : ℕ) → step < length line.steps → exponent ≡ 1
    → StandsFor line step (λ joint. public_at line.steps step joint ^ exponent)
stands_first line step exponent within one = record {
  within = within;
  value =
      λ joint.
      sym (ap (λ (e : ℕ). public_at line.steps step joint ^ e) one ∙ pow-one (public_at line.steps step joint));
}

-- ---- the joint words

-- the steps of the joint words alone
pub joint_words_straight : (words word : ℕ) (steps : List Step) → words < 2 ^ 32 → word ≡ words
    → steps ≡ map (λ k. Joint k) (range_with_len 0 word) → IsStraightLine words steps
joint_words_straight words word steps few done same =
    let all : steps ≡ map (λ k. Joint k) (range_with_len 0 words) =
    same ∙ ap (λ (n : ℕ). map (λ (k : ℕ). Joint k) (range_with_len 0 n)) done in
    let size : length steps ≡ words =
    ap (λ (s : List Step). length s) all ∙ length-map-range_with_len (λ (k : ℕ). Joint k) 0 words in
    let at = λ (k : ℕ) (below : k < words).
    ap (λ (s : List Step). slice_get s k) all ∙ slice_get-get_or (map (λ (j : ℕ). Joint j) (range_with_len 0 words)) k (Joint k)
    (omega (arith, length-map-range_with_len (λ (j : ℕ). Joint j) 0 words))
    ∙ ap (λ (s : Step). Some s) (get_or-map-range_with_len (λ (j : ℕ). Joint j) 0 words k k (Joint k) below (omega arith)) in
    record {
      begins = at;
      reads_earlier =
          λ k step there.
          let below : k < words = omega (arith, slice_get_within steps k step there) in
          let here : step ≡ Joint k = some_same step (Joint k) (sym there ∙ at k below) in
          subst (λ (s : Step). StepFits words k s) (sym here) below;
      few = omega arith;
    }

-- ---- coefficients

-- a constant that is there is its step's value
pub public_at-constant : (line inside : StraightLine) (step word : ℕ) (read : Step) → inside ≡ line
    → IsStraightLine inside.joint inside.steps → step < length line.steps → read ≡ get_or inside.steps step read
    → read ≡ Constant word → (joint : List ℕ) → public_at line.steps step joint ≡ word
public_at-constant line inside step word read same straight within at is joint =
    let size : length inside.steps ≡ length line.steps = ap (λ (l : StraightLine). length l.steps) same in
    let there : slice_get inside.steps step ≡ Some (Constant word) =
    slice_get_read inside.steps (length inside.steps) step read refl (omega arith) at ∙ ap (λ (s : Step). Some s) is in
    ap (λ (l : StraightLine). public_at l.steps step joint) (sym same)
    ∙ (stands_there inside step (Constant word) straight there).value joint

scale_value-grows : (one two : StraightLine) (scale : Scale) (joint : List ℕ) → Grows one two
    → ScaleFits (length one.steps) scale
    → scale_value (publics two.steps joint) scale ≡ scale_value (publics one.steps joint) scale
scale_value-grows one two One joint grows fits = refl
scale_value-grows one two MinusOne joint grows fits = refl
scale_value-grows one two (Value step) joint grows fits = public_at-grows one two step joint grows fits

-- the product of two steps that stand for two coefficients is their product
pub scales_product : (old one two three : StraightLine) (left right : Scale) (first second product : ℕ)
    → ScaleFits (length old.steps) right → Grows old one → Grows one two
    → StandsFor one first (λ joint. scale_value (publics old.steps joint) left)
    → StandsFor two second (λ joint. scale_value (publics one.steps joint) right)
    → StandsFor three product (λ joint. public_at two.steps first joint * public_at two.steps second joint)
    → ScalesBy three (Value product)
    (λ joint. scale_value (publics old.steps joint) left * scale_value (publics old.steps joint) right)
scales_product old one two three left right first second product fits grows grows' f s p = record {
  fits = p.within;
  value =
      λ joint.
      p.value joint
      ∙ ap₂ (λ (a b : ℕ). a * b)
      (public_at-grows one two first joint grows' f.within ∙ f.value joint)
      (s.value joint ∙ scale_value-grows old one right joint grows fits);
}
