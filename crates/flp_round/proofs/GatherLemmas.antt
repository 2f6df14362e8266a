-- One verifier more whose notes are gathered.
use Rattle.std.proofs.Common.{◌≡◌, ℕ, ◌+◌, ◌<◌, List, [], ◌∷◌, ◌++◌, All, length, get_or, take, ap, sym, subst, ◌∙◌}
use Rattle.std.specs.List.{flat_map}
use Rattle.std.proofs.lemmas.List.{take_more, flat_map_more}
use Rattle.flp_policy.specs.declared.verdict.Verdict.{Verdict}
use Rattle.flp_round.specs.declared.verifier.Verifier.{Verifier}
use Rattle.flp_round.specs.Notes.{IsNoteOf, HasVerdicts}
use Rattle.flp_round.specs.Verifier.{noted, places_of}

module _ (vs : List Verifier) (i : ℕ) (v : Verifier) (below : i < length vs) (is : get_or vs i v ≡ v) where
  places_more : flat_map places_of (take i vs) ++ places_of v ≡ flat_map places_of (take (i + 1) vs)
  places_more =
      flat_map_more places_of [] (take i vs) v
      ∙ ap (λ (l : List Verifier). flat_map places_of l) (ap (λ (w : Verifier). take i vs ++ w ∷ []) (sym is) ∙ sym (take_more vs i v below))

  pub gather_more : (first : ℕ) (right found after : List Verdict) → All (λ (w : Verifier). All (IsNoteOf first right) (noted w)) vs → HasVerdicts first right (flat_map places_of (take i vs)) found
      → (All (IsNoteOf first right) (noted v) → HasVerdicts first right (flat_map places_of (take i vs)) found → HasVerdicts first right (flat_map places_of (take i vs) ++ places_of v) after)
      → HasVerdicts first right (flat_map places_of (take (i + 1) vs)) after
  gather_more first right found after all has step =
      subst (λ (l : List ℕ). HasVerdicts first right l after) places_more (step (subst (λ (w : Verifier). All (IsNoteOf first right) (noted w)) is (all i v below)) has)
