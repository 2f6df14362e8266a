-- Records that are written one after another.
use Rattle.std.proofs.Common.{◌≡◌, ℕ, ◌+◌, ◌≤◌, List, [], ◌∷◌, ◌++◌, length, take, drop, map, get_or, Option, Some, sym, ap, subst, ◌∙◌, append-nil, take-append-drop}
use Rattle.std.specs.List.{slice_get, concat}
use Rattle.std.specs.Io.KnownBytes.{Appends}
use Rattle.std.proofs.KnownBytes.{Appends-trans}
use Rattle.std.proofs.lemmas.List.{take_more, take_all, map-append}
use Rattle.std.proofs.lemmas.List.Folds.{concat-append}
use Rattle.std.proofs.lemmas.Option.{get_or_from_slice_get, slice_get_within}
use Rattle.flp_io.specs.Writes.{TakesPrefix}
use Rattle.flp_io.proofs.WriteLemmas.{TakesPrefix-more, TakesPrefix-after}

module _ (f : List ℕ → List ℕ) (jobs : List (List ℕ)) where
  -- what is made of the first jobs
  abbrev pub made : ℕ → List ℕ
  made k = concat (map f (take k jobs))

  -- of one job more
  made-more : (k : ℕ) (job : List ℕ) → slice_get jobs k ≡ Some job → made (k + 1) ≡ made k ++ f job
  made-more k job at =
      let own : get_or jobs k [] ≡ job = get_or_from_slice_get jobs k job [] at in
      ap (λ (l : List (List ℕ)). concat (map f l)) (take_more jobs k [] (slice_get_within jobs k job at))
      ∙ (ap concat (map-append f (take k jobs) (get_or jobs k [] ∷ []))
      ∙ (concat-append (map f (take k jobs)) (f (get_or jobs k []) ∷ [])
      ∙ ap (λ (l : List ℕ). made k ++ l) (append-nil (f (get_or jobs k [])) ∙ ap f own)))

  -- of all
  pub made-all : (k : ℕ) → length jobs ≤ k → made k ≡ concat (map f jobs)
  made-all k all = ap (λ (l : List (List ℕ)). concat (map f l)) (take_all k jobs all)

  -- of the first, and of the others
  made-parts : (k : ℕ) → made k ++ concat (map f (drop k jobs)) ≡ concat (map f jobs)
  made-parts k =
      sym (concat-append (map f (take k jobs)) (map f (drop k jobs)))
      ∙ (ap concat (sym (map-append f (take k jobs) (drop k jobs))) ∙ ap (λ (l : List (List ℕ)). concat (map f l)) (take-append-drop k jobs))

  -- one more was written
  pub Appends-more : (a b c : Option (List ℕ)) (k : ℕ) (job : List ℕ) → slice_get jobs k ≡ Some job → Appends a b (made k) → Appends b c (f job) → Appends a c (made (k + 1))
  Appends-more a b c k job at before own =
      subst (λ (l : List ℕ). Appends a c l) (sym (made-more k job at)) (Appends-trans a b c (made k) (f job) before own)

  -- a prefix of one more was written
  pub TakesPrefix-made : (a b c : Option (List ℕ)) (k : ℕ) (job : List ℕ) → slice_get jobs k ≡ Some job → Appends a b (made k) → TakesPrefix b c (f job) → TakesPrefix a c (concat (map f jobs))
  TakesPrefix-made a b c k job at before own =
      subst (λ (l : List ℕ). TakesPrefix a c l)
      (ap (λ (l : List ℕ). l ++ concat (map f (drop (k + 1) jobs))) (sym (made-more k job at)) ∙ made-parts (k + 1))
      (TakesPrefix-more a c (made k ++ f job) (concat (map f (drop (k + 1) jobs))) (TakesPrefix-after a b c (made k) (f job) before own))
