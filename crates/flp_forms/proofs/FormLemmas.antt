-- Values of forms: additive in the terms, modulo p in the public values, and what a form reads. From a term up.
use Rattle.std.proofs.Common.{ℕ, ◌≡◌, ◌+◌, ◌*◌, ◌%◌, ◌<◌, ◌≤◌, List, [], ◌∷◌, ◌++◌, get_or, refl, ap, ap₂, sym, ◌∙◌, arith}
use Rattle.std.specs.Prelude.{All, slice_index}
use Rattle.std.proofs.lemmas.List.Sums.{sum_by-append, sum_by-cons}
use Rattle.std.proofs.lemmas.List.Elements.{All-head, All-tail, All-weaker}
use Rattle.flp_field.specs.Word.{modulus}
use Rattle.flp_field.proofs.Congruence.{Same, same_add, same_mul, same_mod}
use Rattle.flp_forms.specs.declared.term.Term.{Term}
use Rattle.flp_forms.specs.declared.term.Scale.{Scale}
use Rattle.flp_forms.specs.declared.term.Scale.TheVariants.{One, MinusOne, Value}
use Rattle.flp_forms.specs.declared.term.Source.{Source}
use Rattle.flp_forms.specs.declared.term.Source.TheVariants.{Unit as ByUnit, Meas, Answer}
use Rattle.flp_forms.specs.PublicValues.{residues}
use Rattle.flp_forms.specs.LinearForms.{Share, scale_value, source_value, term_value, form_value, ScaleFits, SourceFits, TermFits, FormFits}
use Rattle.flp_forms.proofs.PublicLemmas.{get_or-reduced}

-- the value of terms one after another is the sum of their values
form_value-append : (values : List ℕ) (share : Share) (terms more : List Term)
    → form_value values share (terms ++ more) ≡ form_value values share terms + form_value values share more
form_value-append values share terms more = sum_by-append (term_value values share) terms more

form_value-cons : (values : List ℕ) (share : Share) (term : Term) (terms : List Term)
    → form_value values share (term ∷ terms) ≡ term_value values share term + form_value values share terms
form_value-cons values share term terms = sum_by-cons (term_value values share) term terms

pub form_value-push : (values : List ℕ) (share : Share) (terms : List Term) (term : Term)
    → form_value values share (terms ++ term ∷ []) ≡ form_value values share terms + term_value values share term
form_value-push values share terms term =
    form_value-append values share terms (term ∷ [])
    ∙ ap (λ (n : ℕ). form_value values share terms + n) (form_value-cons values share term [])
    ∙ (omega arith)

-- ---- modulo p

scale_value-reduced : (values : List ℕ) (scale : Scale)
    → Same (scale_value (residues values) scale) (scale_value values scale)
scale_value-reduced values One = refl
scale_value-reduced values MinusOne = refl
scale_value-reduced values (Value index) = ap (λ (n : ℕ). n % modulus) (get_or-reduced values index) ∙ same_mod (get_or values index 0)

term_value-reduced : (values : List ℕ) (share : Share) (term : Term)
    → Same (term_value (residues values) share term) (term_value values share term)
term_value-reduced values share term =
    same_mul _ (scale_value values term.scale) _ (source_value share term.source) (scale_value-reduced values term.scale) refl

-- public values may be taken modulo p
pub form_value-reduced : (values : List ℕ) (share : Share) (terms : List Term)
    → form_value (residues values) share terms % modulus ≡ form_value values share terms % modulus
form_value-reduced values share [] = refl
form_value-reduced values share (term ∷ terms) =
    ap (λ (n : ℕ). n % modulus) (form_value-cons (residues values) share term terms)
    ∙ same_add _ (term_value values share term) _ (form_value values share terms)
    (term_value-reduced values share term) (form_value-reduced values share terms)
    ∙ ap (λ (n : ℕ). n % modulus) (sym (form_value-cons values share term terms))

-- ---- what a form reads

-- the two shares have the same unit, the same first words and the same first answers
pub record SameBelow (words calls : ℕ) (one two : Share) : Type 0 where
  pub meas : (k : ℕ) → k < words → slice_index one.meas k ≡ slice_index two.meas k
  pub answers : (k : ℕ) → k < calls → slice_index one.answers k ≡ slice_index two.answers k
  pub unit : one.unit ≡ two.unit

source_value-below : (one two : Share) (words calls : ℕ) (source : Source) → SameBelow words calls one two
    → SourceFits words calls source → source_value one source ≡ source_value two source
source_value-below one two words calls ByUnit same fits = same.unit
source_value-below one two words calls (Meas index) same fits = same.meas index fits
source_value-below one two words calls (Answer index) same fits = same.answers index fits

-- then a form whose terms read these alone has the same value on both
pub form_value-below : (values : List ℕ) (one two : Share) (publics words calls : ℕ) (terms : List Term)
    → SameBelow words calls one two → FormFits publics words calls terms
    → form_value values one terms ≡ form_value values two terms
form_value-below values one two publics words calls [] same fits = refl
form_value-below values one two publics words calls (term ∷ terms) same fits =
    let first : TermFits publics words calls term = All-head (TermFits publics words calls) term terms fits in
    form_value-cons values one term terms
    ∙ ap₂ (λ (a b : ℕ). scale_value values term.scale * a + b)
    (source_value-below one two words calls term.source same first.source)
    (form_value-below values one two publics words calls terms same
    (All-tail (TermFits publics words calls) term terms fits))
    ∙ sym (form_value-cons values two term terms)

-- ---- with more public values, words and answers a term still reads what is there

scale_fits_more : (publics more : ℕ) (scale : Scale) → publics ≤ more → ScaleFits publics scale → ScaleFits more scale
scale_fits_more publics more One le fits = tt
scale_fits_more publics more MinusOne le fits = tt
scale_fits_more publics more (Value index) le fits = omega arith

source_fits_more : (words calls words' calls' : ℕ) (source : Source) → words ≤ words' → calls ≤ calls'
    → SourceFits words calls source → SourceFits words' calls' source
source_fits_more words calls words' calls' ByUnit w c fits = tt
source_fits_more words calls words' calls' (Meas index) w c fits = omega arith
source_fits_more words calls words' calls' (Answer index) w c fits = omega arith

pub fits_more : (publics words calls publics' words' calls' : ℕ) (terms : List Term) → publics ≤ publics'
    → words ≤ words' → calls ≤ calls' → All (TermFits publics words calls) terms
    → All (TermFits publics' words' calls') terms
fits_more publics words calls publics' words' calls' terms p w c =
    All-weaker (TermFits publics words calls) (TermFits publics' words' calls')
    (λ (term : Term) (fits : TermFits publics words calls term). record {
      scale = scale_fits_more publics publics' term.scale p fits.scale;
      source = source_fits_more words calls words' calls' term.source w c fits.source;
    }) terms
