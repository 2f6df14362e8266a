-- Verdicts put in their places, note by note and verifier by verifier.
use Rattle.std.proofs.Common.{◌≡◌, ◌≢◌, ℕ, ◌+◌, ◌-◌, ◌<◌, List, [], ◌∷◌, ◌++◌, All, length, get_or, set, take, drop, map, ap, sym, subst, ◌∙◌, arith, append_assoc}
use Rattle.std.proofs.lemmas.List.{get_or-set_same, get_or-set_other, get_or-drop, map-append, take_more, take_more_set, drop-set-lt, drop-drop}
use mathlib.Core.Logic.{dite}
use native.Mathlib.Decide.{ℕ_discrete}
use Rattle.flp_policy.specs.declared.verdict.Verdict.{Verdict}
use Rattle.flp_policy.specs.declared.verdict.Verdict.TheVariants.{Replayed}
use Rattle.flp_round.specs.declared.verifier.Note.{Note}
use Rattle.flp_round.specs.Notes.{places_in, IsNoteOf, HasVerdicts}
use Rattle.flp_round.proofs.CountLemmas.{times-append, times_none}

-- one note more
pub put_note : (first : ℕ) (right found : List Verdict) (places : List ℕ) (n : Note) → IsNoteOf first right n → n.place < first + length found → HasVerdicts first right places found
    → HasVerdicts first right (places ++ n.place ∷ []) (set found (n.place - first) n.verdict)
put_note first right found places n is below has index once =
    let from = is.within.from in
    let many = times-append (first + index) places (n.place ∷ []) in
    dite (ℕ_discrete index (n.place - first))
    (λ e. subst (λ (k : ℕ). get_or (set found (n.place - first) n.verdict) k Replayed ≡ get_or right k Replayed) (sym e) (get_or-set_same found (n.place - first) n.verdict Replayed (omega arith) ∙ sym is.says))
    (λ ne. let other : first + index ≢ n.place = λ e. ne (omega arith) in
    let none = times_none n.place (first + index) other in
    get_or-set_other found (n.place - first) index n.verdict Replayed ne ∙ has index (omega arith))

-- the places of one note more
pub places_more : (places : List ℕ) (notes : List Note) (i : ℕ) (n : Note) → i < length notes → get_or notes i n ≡ n → (places ++ places_in (take i notes)) ++ n.place ∷ [] ≡ places ++ places_in (take (i + 1) notes)
places_more places notes i n below is =
    append_assoc places (places_in (take i notes)) (n.place ∷ [])
    ∙ ap (λ (l : List ℕ). places ++ l)
    (ap (λ (m : Note). places_in (take i notes) ++ m.place ∷ []) (sym is)
    ∙ (sym (map-append (λ (m : Note). m.place) (take i notes) (get_or notes i n ∷ []))
    ∙ ap places_in (sym (take_more notes i n below))))

-- the notes behind one more
pub note_more : (first : ℕ) (right found : List Verdict) (places : List ℕ) (notes : List Note) (i : ℕ) (n : Note) → i < length notes → get_or notes i n ≡ n → All (IsNoteOf first right) notes → n.place < first + length found
    → HasVerdicts first right (places ++ places_in (take i notes)) found → HasVerdicts first right (places ++ places_in (take (i + 1) notes)) (set found (n.place - first) n.verdict)
note_more first right found places notes i n below is all inside has =
    subst (λ (l : List ℕ). HasVerdicts first right l (set found (n.place - first) n.verdict)) (places_more places notes i n below is)
    (put_note first right found (places ++ places_in (take i notes)) n (subst (λ (m : Note). IsNoteOf first right m) is (all i n below)) inside has)

-- a loop over all elements that puts f of each in its stead
module _ {X : Type 0} (f : X → X) (before now : List X) (i : ℕ) (elem : X) (below : i < length before) (many : length now ≡ length before) (rest : drop i now ≡ drop i before) (read : get_or now i elem ≡ elem) where
  pub same_elem : get_or before i elem ≡ elem
  same_elem =
      let here : i + 0 ≡ i = omega arith in
      ap (λ k. get_or before k elem) (sym here) ∙ (sym (get_or-drop i before 0 elem) ∙ (ap (λ (l : List X). get_or l 0 elem) (sym rest) ∙ (get_or-drop i now 0 elem ∙ (ap (λ k. get_or now k elem) here ∙ read))))

  pub front_more : take i now ≡ map f (take i before) → take (i + 1) (set now i (f elem)) ≡ map f (take (i + 1) before)
  front_more front =
      take_more_set now i (f elem) (omega arith)
      ∙ (ap (λ (l : List X). l ++ f elem ∷ []) front
      ∙ (ap (λ (x : X). map f (take i before) ++ f x ∷ []) (sym same_elem)
      ∙ (sym (map-append f (take i before) (get_or before i elem ∷ []))
      ∙ ap (λ (l : List X). map f l) (sym (take_more before i elem below)))))

  pub back_more : (y : X) → drop (i + 1) (set now i y) ≡ drop (i + 1) before
  back_more y =
      drop-set-lt (i + 1) now i y (omega arith) ∙ (sym (drop-drop 1 i now) ∙ (ap (λ (l : List X). drop 1 l) rest ∙ drop-drop 1 i before))
