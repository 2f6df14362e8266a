-- Public values when steps are appended, and modulo p. From the values behind given ones up.
use Rattle.std.proofs.Common.{ℕ, zero, suc, ◌≡◌, ◌+◌, ◌*◌, ◌^◌, ◌%◌, ◌<◌, List, [], ◌∷◌, ◌++◌, length, get_or, take, set, refl, ap, ap₂, sym, ◌∙◌, arith, Some}
use Rattle.std.specs.Prelude.{fold, slice_get}
use Rattle.std.proofs.lemmas.List.{get_or_append_left, get_or_push, length_push, take_more, take_more_set, map_push}
use Rattle.std.proofs.lemmas.List.Sums.{fold-append}
use Rattle.std.proofs.Math.Nat.{pow-suc}
use Rattle.flp_field.specs.Word.{modulus, word_power}
use Rattle.flp_field.proofs.Congruence.{Same, same_add, same_mul, same_pow, same_mod}
use Rattle.flp_forms.specs.declared.step.Step.{Step}
use Rattle.flp_forms.specs.declared.step.Step.TheVariants.{Constant, Joint, Sum, Product, Power}
use Rattle.flp_forms.specs.PublicValues.{step_value, publics, public_at, residues, StepFits}

-- the values of steps behind these values
abbrev pub values_from : List ℕ → List Step → List ℕ → List ℕ
values_from earlier steps joint = fold (λ values step. values ++ step_value values joint step ∷ []) earlier steps

pub length-values_from : (earlier : List ℕ) (steps : List Step) (joint : List ℕ)
    → length (values_from earlier steps joint) ≡ length earlier + length steps
length-values_from earlier [] joint = omega arith
length-values_from earlier (step ∷ steps) joint =
    omega (
      arith,
      length-values_from (earlier ++ step_value earlier joint step ∷ []) steps joint,
      length_push earlier (step_value earlier joint step),
    )

pub length-publics : (steps : List Step) (joint : List ℕ) → length (publics steps joint) ≡ length steps
length-publics steps joint = omega (arith, length-values_from [] steps joint)

pub publics-append : (steps more : List Step) (joint : List ℕ)
    → publics (steps ++ more) joint ≡ values_from (publics steps joint) more joint
publics-append steps more joint = fold-append (λ values step. values ++ step_value values joint step ∷ []) [] steps more

pub publics-push : (steps : List Step) (step : Step) (joint : List ℕ)
    → publics (steps ++ step ∷ []) joint ≡ publics steps joint ++ step_value (publics steps joint) joint step ∷ []
publics-push steps step joint = publics-append steps (step ∷ []) joint

-- the values in front stay
pub values_from_kept : (earlier : List ℕ) (steps : List Step) (joint : List ℕ) (k : ℕ) → k < length earlier
    → get_or (values_from earlier steps joint) k 0 ≡ get_or earlier k 0
values_from_kept earlier [] joint k below = refl
values_from_kept earlier (step ∷ steps) joint k below =
    let longer : k < length (earlier ++ step_value earlier joint step ∷ []) =
    omega (arith, length_push earlier (step_value earlier joint step)) in
    values_from_kept (earlier ++ step_value earlier joint step ∷ []) steps joint k longer
    ∙ get_or_append_left earlier (step_value earlier joint step ∷ []) 0 k below

-- the value of a step is that before others were appended
pub publics_kept : (steps more : List Step) (joint : List ℕ) (k : ℕ) → k < length steps
    → public_at (steps ++ more) k joint ≡ public_at steps k joint
publics_kept steps more joint k below =
    ap (λ (values : List ℕ). get_or values k 0) (publics-append steps more joint)
    ∙ values_from_kept (publics steps joint) more joint k (omega (arith, length-publics steps joint))

-- a step looks at no other values than those that it reads
pub step_value_agrees : (words n : ℕ) (xs ys joint : List ℕ) (step : Step) → StepFits words n step
    → ((k : ℕ) → k < n → get_or xs k 0 ≡ get_or ys k 0) → step_value xs joint step ≡ step_value ys joint step
step_value_agrees words n xs ys joint (Constant word) fits same = refl
step_value_agrees words n xs ys joint (Joint index) fits same = refl
step_value_agrees words n xs ys joint (Sum left right) fits same =
    ap₂ (λ (a b : ℕ). a + b) (same left fits.0) (same right fits.1)
step_value_agrees words n xs ys joint (Product left right) fits same =
    ap₂ (λ (a b : ℕ). a * b) (same left fits.0) (same right fits.1)
step_value_agrees words n xs ys joint (Power base exponent) fits same = ap (λ (a : ℕ). a ^ exponent) (same base fits)

-- the value of a step by all values, the later ones too
pub values_from_at : (earlier : List ℕ) (steps : List Step) (joint : List ℕ) (words k n : ℕ) (step : Step)
    → n ≡ length earlier + k → slice_get steps k ≡ Some step → StepFits words n step
    → get_or (values_from earlier steps joint) n 0 ≡ step_value (values_from earlier steps joint) joint step
values_from_at earlier [] joint words k n step place there fits = cc
values_from_at earlier (first ∷ steps) joint words zero n step place there fits =
    let is_first : first ≡ step = cc in
    let here : n ≡ length earlier = omega arith in
    let value : ℕ = step_value earlier joint first in
    let longer : n < length (earlier ++ value ∷ []) = omega (arith, length_push earlier value) in
    values_from_kept (earlier ++ value ∷ []) steps joint n longer
    ∙ get_or_push earlier value 0 n (sym here)
    ∙ ap (λ (s : Step). step_value earlier joint s) is_first
    ∙ sym (step_value_agrees words n (values_from earlier (first ∷ steps) joint) earlier joint step fits
    (λ (j : ℕ) (below : j < n). values_from_kept earlier (first ∷ steps) joint j (omega arith)))
values_from_at earlier (first ∷ steps) joint words (suc k) n step place there fits =
    let value : ℕ = step_value earlier joint first in
    values_from_at (earlier ++ value ∷ []) steps joint words k n step
    (omega (arith, length_push earlier value)) there fits

pub public_at-step : (steps : List Step) (joint : List ℕ) (words k : ℕ) (step : Step)
    → slice_get steps k ≡ Some step → StepFits words k step
    → public_at steps k joint ≡ step_value (publics steps joint) joint step
public_at-step steps joint words k step there fits = values_from_at [] steps joint words k k step (omega arith) there fits

pub get_or-reduced : (xs : List ℕ) (k : ℕ) → get_or (residues xs) k 0 ≡ get_or xs k 0 % modulus
get_or-reduced [] k = omega arith
get_or-reduced (x ∷ xs) zero = refl
get_or-reduced (x ∷ xs) (suc k) = get_or-reduced xs k

-- the values that a step reads may be taken modulo p
pub step_value-reduced : (xs joint : List ℕ) (step : Step)
    → Same (step_value (residues xs) joint step) (step_value xs joint step)
step_value-reduced xs joint (Constant word) = refl
step_value-reduced xs joint (Joint index) = refl
step_value-reduced xs joint (Sum left right) =
    rw (get_or-reduced xs left, get_or-reduced xs right)
    (same_add _ (get_or xs left 0) _ (get_or xs right 0) (same_mod (get_or xs left 0)) (same_mod (get_or xs right 0)))
step_value-reduced xs joint (Product left right) =
    rw (get_or-reduced xs left, get_or-reduced xs right)
    (same_mul _ (get_or xs left 0) _ (get_or xs right 0) (same_mod (get_or xs left 0)) (same_mod (get_or xs right 0)))
step_value-reduced xs joint (Power base exponent) =
    rw (get_or-reduced xs base) (same_pow _ (get_or xs base 0) exponent (same_mod (get_or xs base 0)))

-- the next power of a word
pub next_power : (x v k exponent : ℕ) → v ≡ word_power x k → exponent ≡ suc k
    → v * x % modulus ≡ word_power x exponent
next_power x v k exponent power next =
    same_mul v (x ^ k) x x (ap (λ (n : ℕ). n % modulus) power ∙ same_mod (x ^ k)) refl
    ∙ ap (λ (n : ℕ). n % modulus) (sym (pow-suc x k) ∙ ap (λ (e : ℕ). x ^ e) (sym next))

-- one step more of the pass over the steps, from the first on
pub run_turn : (steps : List Step) (joint out : List ℕ) (i v : ℕ) (step : Step) → i < length steps → i < length out
    → step ≡ get_or steps i step → take i out ≡ residues (publics (take i steps) joint)
    → v ≡ step_value (take i out) joint step % modulus
    → take (i + 1) (set out i v) ≡ residues (publics (take (i + 1) steps) joint)
run_turn steps joint out i v step within room read done value =
    let earlier : List ℕ = publics (take i steps) joint in
    let more : take (i + 1) steps ≡ take i steps ++ step ∷ [] =
    take_more steps i step within ∙ ap (λ (s : Step). take i steps ++ s ∷ []) (sym read) in
    let now : v ≡ step_value earlier joint step % modulus =
    value ∙ ap (λ (xs : List ℕ). step_value xs joint step % modulus) done ∙ step_value-reduced earlier joint step in
    let grown : residues (publics (take (i + 1) steps) joint)
    ≡ residues earlier ++ step_value earlier joint step % modulus ∷ [] =
    ap (λ (s : List Step). residues (publics s joint)) more
    ∙ ap residues (publics-push (take i steps) step joint)
    ∙ map_push (λ (n : ℕ). n % modulus) earlier (step_value earlier joint step) in
    take_more_set out i v room ∙ ap₂ (λ (xs : List ℕ) (n : ℕ). xs ++ n ∷ []) done now ∙ sym grown
