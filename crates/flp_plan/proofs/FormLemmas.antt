-- Values of forms that stand one after another. From one form up to a range of them.
use Rattle.std.proofs.Common.{◌≡◌, ℕ, suc, ◌+◌, ◌-◌, ◌<◌, ◌≤◌, ◌%◌, List, [], ◌∷◌, length, map, take, drop, get_or, min, Some, refl, sym, ◌∙◌, ap, subst, arith}
use Rattle.std.specs.List.{All, slice_get}
use Rattle.std.proofs.lemmas.List.{get_or-take, get_or-drop, get_or-map, length-take, length-drop, same_lists}
use Rattle.std.proofs.lemmas.Option.{slice_get_within, get_or_from_slice_get, slice_get-get_or}
use Rattle.std.proofs.lemmas.Grind.{get_or_default_zero}
use Rattle.flp_field.specs.Word.{modulus}
use Rattle.flp_forms.specs.declared.term.Term.{Term}
use Rattle.flp_forms.specs.LinearForms.{Share, form_value}
use Rattle.flp_emit.specs.Code.{form_words}

pub mapped_length : {X Y : Type 0} (f : X → Y) (xs : List X) → length (map f xs) ≡ length xs
mapped_length f [] = refl
mapped_length f (x ∷ xs) = ap suc (mapped_length f xs)

-- what holds of each holds of the one with this number
pub all_at : {X : Type 0} (P : X → Type 0) (xs : List X) (k : ℕ) (x : X) → All P xs → slice_get xs k ≡ Some x → P x
all_at P xs k x all there = subst P (get_or_from_slice_get xs k x x there) (all k x (slice_get_within xs k x there))

-- so many forms from a place on
pub range_get : {X : Type 0} (xs : List X) (first count k : ℕ) (d : X) → k < count
    → get_or (take count (drop first xs)) k d ≡ get_or xs (first + k) d
range_get xs first count k d below = get_or-take count (drop first xs) k d below ∙ get_or-drop first xs k d

pub range_length : {X : Type 0} (xs : List X) (first count : ℕ) → first + count ≤ length xs → length (take count (drop first xs)) ≡ count
range_length xs first count there =
    let taken : length (take count (drop first xs)) ≡ min count (length (drop first xs)) = length-take count (drop first xs) in
    let dropped : length (drop first xs) ≡ length xs - first = length-drop first xs in
    omega arith

-- what holds of each form of a range holds of the one with this number
pub range_all : (P : List Term → Type 0) (forms : List (List Term)) (first count i : ℕ) → first + count ≤ length forms
    → All P (take count (drop first forms)) → i < count → P (get_or forms (first + i) [])
range_all P forms first count i there all below =
    let size : length (take count (drop first forms)) ≡ count = range_length forms first count there in
    subst P (range_get forms first count i [] below) (all i [] (omega arith))

-- values that are right one by one are those of the forms
pub words_by_one : (out : List ℕ) (values : List ℕ) (share : Share) (forms : List (List Term)) (first : ℕ)
    → first + length out ≤ length forms
    → ((k : ℕ) → k < length out → get_or out k 0 ≡ form_value values share (get_or forms (first + k) []) % modulus)
    → out ≡ form_words values share (take (length out) (drop first forms))
words_by_one out values share forms first there right =
    let range : List (List Term) = take (length out) (drop first forms) in
    let size : length range ≡ length out = range_length forms first (length out) there in
    let mapped : length (form_words values share range) ≡ length range = mapped_length (λ (form : List Term). form_value values share form % modulus) range in
    same_lists out (form_words values share range) (omega arith) (λ k d below.
    get_or_default_zero out k d below ∙ right k below
    ∙ ap (λ (form : List Term). form_value values share form % modulus) (sym (range_get forms first (length out) k [] below))
    ∙ sym (get_or-map (λ form. form_value values share form % modulus) range k [] d (omega arith)))

-- a form that is read is the one that is there
pub form_found : (forms : List (List Term)) (index : ℕ) (form : List Term) → index < length forms → form ≡ get_or forms index []
    → slice_get forms index ≡ Some form
form_found forms index form below is = slice_get-get_or forms index [] below ∙ ap Some (sym is)
