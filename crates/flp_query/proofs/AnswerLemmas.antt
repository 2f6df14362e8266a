-- What a proof answers, gadget by gadget and call by call.
use Rattle.std.proofs.Common.{ℕ, ◌≡◌, ◌≢◌, ◌+◌, ◌<◌, List, length, set, get_or, ap, ap₂, sym, ◌∙◌, arith, ⊎_elim}
use Rattle.std.specs.Prelude.{slice_index}
use Rattle.std.proofs.lemmas.Bool.{cases_eq}
use Rattle.std.proofs.lemmas.List.{get_or-map, get_or-set_same, get_or-set_other}
use Rattle.std.proofs.lemmas.List.FromFn.{length-map-range_with_len, get_or-map-range_with_len, fill_by_all}
use Rattle.flp_field.specs.Word.{word_power}
use Rattle.flp_field.specs.Domain.{alpha, domain}
use Rattle.flp_poly.specs.Polynomial.{value_at, values_on}
use Rattle.flp_syntax.specs.Tree.{Program}
use Rattle.flp_meaning.specs.Gadgets.{size_of, call_gadget, call_number, call_count}
use Rattle.flp_meaning.specs.Proof.{polynomial_in, answer_in, answers_in}

-- the value on a domain at the point with this number
pub value-on : (size k : ℕ) (poly : List ℕ) → k < size → slice_index (values_on size poly) k ≡ value_at poly (word_power (alpha size) k)
value-on size k poly low =
    let long : length (domain size) ≡ size = length-map-range_with_len (λ j. word_power (alpha size) j) 0 size in
    get_or-map (λ t. value_at poly t) (domain size) k 0 0 (omega arith)
    ∙ ap (λ t. value_at poly t) (get_or-map-range_with_len (λ j. word_power (alpha size) j) 0 size k k 0 low (omega arith))

-- so the answer to a call of the gadget is that at its number
pub answer-is : (body : Program) (proof poly values : List ℕ) (gadget call size : ℕ) → call_gadget body call ≡ gadget → call_number body call < size
    → size ≡ size_of body gadget → poly ≡ polynomial_in body proof gadget → values ≡ values_on size poly
    → slice_index values (call_number body call) ≡ answer_in body proof call
answer-is body proof poly values gadget call size own low sized is made =
    ap (λ l. slice_index l (call_number body call)) made
    ∙ value-on size (call_number body call) poly low
    ∙ ap₂ (λ (p : List ℕ) (n : ℕ). value_at p (word_power (alpha n) (call_number body call))) is sized
    ∙ ap (λ g. value_at (polynomial_in body proof g) (word_power (alpha (size_of body g)) (call_number body call))) (sym own)

-- ---- one call after another

-- the calls of a gadget so far have their answers, when one more has
pub own-more : (gadget_at number : ℕ → ℕ) (gadget call value : ℕ) (answers values : List ℕ) → call < length answers → value ≡ get_or values (number call) 0
    → ((k : ℕ) → k < call → gadget_at k ≡ gadget → get_or answers k 0 ≡ get_or values (number k) 0)
    → (k : ℕ) → k < call + 1 → gadget_at k ≡ gadget → get_or (set answers call value) k 0 ≡ get_or values (number k) 0
own-more gadget_at number gadget call value answers values inside is before k low own =
    ⊎_elim
    (λ (here : k ≡ call).
    ap (λ j. get_or (set answers call value) j 0) here
    ∙ get_or-set_same answers call value 0 inside ∙ is ∙ ap (λ j. get_or values (number j) 0) (sym here))
    (λ (other : k ≡ call → ⊥). get_or-set_other answers call k value 0 other ∙ before k (omega arith) own)
    (cases_eq k call)

-- when one more is of another gadget
pub own-other : (gadget_at number : ℕ → ℕ) (gadget call : ℕ) (answers values : List ℕ) → (gadget_at call ≡ gadget → ⊥)
    → ((k : ℕ) → k < call → gadget_at k ≡ gadget → get_or answers k 0 ≡ get_or values (number k) 0)
    → (k : ℕ) → k < call + 1 → gadget_at k ≡ gadget → get_or answers k 0 ≡ get_or values (number k) 0
own-other gadget_at number gadget call answers values other before k low own =
    ⊎_elim
    (λ (here : k ≡ call). absurd (other (ap gadget_at (sym here) ∙ own)))
    (λ (earlier : k ≡ call → ⊥). before k (omega arith) own)
    (cases_eq k call)

-- the calls of other gadgets keep theirs
pub others-more : (gadget_at : ℕ → ℕ) (gadget call value : ℕ) (first answers : List ℕ) → gadget_at call ≡ gadget
    → ((k : ℕ) → gadget_at k ≢ gadget → get_or answers k 0 ≡ get_or first k 0)
    → (k : ℕ) → gadget_at k ≢ gadget → get_or (set answers call value) k 0 ≡ get_or first k 0
others-more gadget_at gadget call value first answers own before k other =
    get_or-set_other answers call k value 0 (λ (here : k ≡ call). other (ap gadget_at here ∙ own)) ∙ before k other

-- ---- one gadget after another

pub answers-more : (body : Program) (proof poly values : List ℕ) (old new : List ℕ) (gadget size : ℕ)
    → ((call : ℕ) → call < length new → call_gadget body call ≡ gadget → call_number body call < size)
    → size ≡ size_of body gadget → poly ≡ polynomial_in body proof gadget → values ≡ values_on size poly → length new ≡ length old
    → ((call : ℕ) → call < length new → call_gadget body call ≡ gadget → slice_index new call ≡ slice_index values (call_number body call))
    → ((call : ℕ) → call < length new → call_gadget body call ≢ gadget → slice_index new call ≡ slice_index old call)
    → ((call : ℕ) → call < length old → call_gadget body call < gadget → slice_index old call ≡ answer_in body proof call)
    → (call : ℕ) → call < length new → call_gadget body call < gadget + 1 → slice_index new call ≡ answer_in body proof call
answers-more body proof poly values old new gadget size fit sized is made long own others before call inside low =
    ⊎_elim
    (λ (here : call_gadget body call ≡ gadget).
    own call inside here ∙ answer-is body proof poly values gadget call size here (fit call inside here) sized is made)
    (λ (other : call_gadget body call ≡ gadget → ⊥). others call inside other ∙ before call (omega arith) (omega arith))
    (cases_eq (call_gadget body call) gadget)

pub answers-all : (body : Program) (proof answers : List ℕ) → length answers ≡ call_count body
    → ((call : ℕ) → call < call_count body → slice_index answers call ≡ answer_in body proof call) → answers ≡ answers_in body proof
answers-all body proof answers long each = fill_by_all (answer_in body proof) answers (call_count body) 0 long each
