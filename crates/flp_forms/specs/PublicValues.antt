-- Public values by steps, as whole numbers that are not reduced. From one step up.
use Rattle.std.specs.Prelude.{ℕ, ◌+◌, ◌*◌, ◌^◌, ◌%◌, ◌<◌, List, [], ◌∷◌, ◌++◌, fold, map, slice_index}
use Rattle.flp_field.specs.Word.{modulus}
use Rattle.flp_forms.specs.declared.step.Step.{Step}
use Rattle.flp_forms.specs.declared.step.Step.TheVariants.{Constant, Joint, Sum, Product, Power}

-- the value of a step, by the values of earlier steps and the joint words
abbrev pub step_value : List ℕ → List ℕ → Step → ℕ
step_value earlier joint (Constant word) = word
step_value earlier joint (Joint index) = slice_index joint index
step_value earlier joint (Sum left right) = slice_index earlier left + slice_index earlier right
step_value earlier joint (Product left right) = slice_index earlier left * slice_index earlier right
step_value earlier joint (Power base exponent) = slice_index earlier base ^ exponent

-- the values of all steps under these joint words, in the order of the steps
abbrev pub publics : List Step → List ℕ → List ℕ
publics steps joint = fold (λ earlier step. earlier ++ step_value earlier joint step ∷ []) [] steps

-- the value of the step with this number
abbrev pub public_at : List Step → ℕ → List ℕ → ℕ
public_at steps index joint = slice_index (publics steps joint) index

-- whole numbers as words: modulo p
abbrev pub residues : List ℕ → List ℕ
residues values = map (λ value. value % modulus) values

-- a step that stands behind so many others reads them and so many joint words alone
abbrev pub StepFits : (joint earlier : ℕ) → Step → Type 0
StepFits joint earlier (Constant word) = Unit {0}
StepFits joint earlier (Joint index) = index < joint
StepFits joint earlier (Sum left right) = (left < earlier) × (right < earlier)
StepFits joint earlier (Product left right) = (left < earlier) × (right < earlier)
StepFits joint earlier (Power base exponent) = base < earlier
