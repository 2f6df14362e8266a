-- Linear forms and their values, as whole numbers that are not reduced. From a term up to shares.
use Rattle.std.specs.Prelude.{ℕ, ◌-◌, ◌*◌, ◌<◌, List, [], All, slice_index, slice_index_or, sum_by}
use Rattle.flp_field.specs.Word.{modulus}
use Rattle.flp_forms.specs.declared.term.Term.{Term}
use Rattle.flp_forms.specs.declared.term.Scale.{Scale}
use Rattle.flp_forms.specs.declared.term.Scale.TheVariants.{One, MinusOne, Value}
use Rattle.flp_forms.specs.declared.term.Source.{Source}
use Rattle.flp_forms.specs.declared.term.Source.TheVariants.{Unit as ByUnit, Meas, Answer}

-- what a form reads beside the public values: the words of an encoding or of a share of it, the answers in the
-- order of calls, and what the constant 1 counts as
pub record Share : Type 0 where
  pub meas : List ℕ
  pub answers : List ℕ
  pub unit : ℕ

abbrev pub share_of : List ℕ → List ℕ → ℕ → Share
share_of meas answers unit = record { meas = meas; answers = answers; unit = unit }

-- the coefficient of a term; minus one is p - 1
abbrev pub scale_value : List ℕ → Scale → ℕ
scale_value publics One = 1
scale_value publics MinusOne = modulus - 1
scale_value publics (Value index) = slice_index publics index

-- the word that a term reads
abbrev pub source_value : Share → Source → ℕ
source_value share ByUnit = share.unit
source_value share (Meas index) = slice_index share.meas index
source_value share (Answer index) = slice_index share.answers index

abbrev pub term_value : List ℕ → Share → Term → ℕ
term_value publics share term = scale_value publics term.scale * source_value share term.source

-- the value of a form: the sum of its terms
abbrev pub form_value : List ℕ → Share → List Term → ℕ
form_value publics share terms = sum_by (term_value publics share) terms

-- ---- terms that read what is there

abbrev pub ScaleFits : (publics : ℕ) → Scale → Type 0
ScaleFits publics One = Unit {0}
ScaleFits publics MinusOne = Unit {0}
ScaleFits publics (Value index) = index < publics

abbrev pub SourceFits : (meas answers : ℕ) → Source → Type 0
SourceFits meas answers ByUnit = Unit {0}
SourceFits meas answers (Meas index) = index < meas
SourceFits meas answers (Answer index) = index < answers

-- the term reads one of so many public values, words and answers
pub record TermFits (publics meas answers : ℕ) (term : Term) : Type 0 where
  pub scale : ScaleFits publics term.scale
  pub source : SourceFits meas answers term.source

-- and so does each term of a form
abbrev pub FormFits : (publics meas answers : ℕ) → List Term → Type 0
FormFits publics meas answers terms = All (TermFits publics meas answers) terms

-- ---- lists of forms

-- the form with this number, which has no terms past the end
abbrev pub form_in : List (List Term) → ℕ → List Term
form_in forms index = slice_index_or forms index []
