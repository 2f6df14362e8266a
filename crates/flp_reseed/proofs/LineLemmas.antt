-- Lines that are put one after another.
use Rattle.std.proofs.Common.{◌≡◌, ℕ, suc, ◌+◌, ◌-◌, ◌<◌, ◌≤◌, List, [], ◌∷◌, ◌++◌, length, drop, get_or, Option, Some, None, refl, sym, ap, subst, ◌∙◌, arith, append-nil, codes, decimal}
use Rattle.std.specs.Prelude.{Ok}
use Rattle.std.specs.List.{slice_get, range_with_len, flat_map}
use Rattle.std.proofs.lemmas.List.{drop_more, drop_all}
use Rattle.std.proofs.lemmas.Option.{get_or_from_slice_get, slice_get_within}
use Rattle.flp_io.specs.declared.failed.Failed.{Failed}
use Rattle.flp_known.specs.Puts.{Puts}
use Rattle.flp_known.proofs.PutsLemmas.{PutsUpTo}
use Rattle.flp_batch.specs.JobSetting.{JobSetting}
use Rattle.flp_verdict.specs.Text.{spaced}
use Rattle.flp_reseed.specs.Text.{told, place_lines, hidden_lines}

-- where nothing is left, all was put
pub UpTo-all : {K : Type 0} {taken : K → Option (List ℕ)} {faults : K → ℕ} {ready : K → Type 0} {a b : K} {held held' text : List ℕ} (left : List ℕ) → left ≡ []
    → PutsUpTo taken faults ready a b held held' text left → Puts {T = Unit {0}} {E = Failed} taken faults ready a b held held' text (Ok tt)
UpTo-all {taken = taken} {faults = faults} {ready = ready} {a = a} {b = b} {held = held} {held' = held'} left none p =
    subst (λ (t : List ℕ). Puts {T = Unit {0}} {E = Failed} taken faults ready a b held held' t (Ok tt))
    (sym (p.split ∙ ap (λ (l : List ℕ). p.front ++ l) none ∙ append-nil p.front)) p.puts

-- ---- the texts of numbers

module _ (f : ℕ → List ℕ) (k n : ℕ) where
  -- from one on
  abbrev pub numbers-left : List ℕ
  numbers-left = flat_map f (range_with_len k (n - k))

  pub numbers-more : k < n → numbers-left ≡ f k ++ flat_map f (range_with_len (k + 1) (n - (k + 1)))
  numbers-more below =
      let count : n - k ≡ suc (n - (k + 1)) = omega arith in
      ap (λ (m : ℕ). flat_map f (range_with_len k m)) count

  pub numbers-none : n ≤ k → numbers-left ≡ []
  numbers-none all =
      let none : n - k ≡ 0 = omega arith in
      ap (λ (m : ℕ). flat_map f (range_with_len k m)) none

-- all of them
pub numbers-all : (f : ℕ → List ℕ) (n : ℕ) → flat_map f (range_with_len 0 n) ≡ numbers-left f 0 n
numbers-all f n =
    let whole : n ≡ n - 0 = omega arith in
    ap (λ (m : ℕ). flat_map f (range_with_len 0 m)) whole

-- ---- the texts of jobs

module _ (f : List ℕ → List ℕ) (jobs : List (List ℕ)) where
  pub jobs-more : (k : ℕ) (job : List ℕ) → slice_get jobs k ≡ Some job → flat_map f (drop k jobs) ≡ f job ++ flat_map f (drop (k + 1) jobs)
  jobs-more k job at =
      let own : get_or jobs k [] ≡ job = get_or_from_slice_get jobs k job [] at in
      ap (λ (l : List (List ℕ)). flat_map f l) (drop_more jobs k [] (slice_get_within jobs k job at))
      ∙ ap (λ (j : List ℕ). f j ++ flat_map f (drop (k + 1) jobs)) own

  pub jobs-none : (k : ℕ) → length jobs ≤ k → flat_map f (drop k jobs) ≡ []
  jobs-none k all = ap (λ (l : List (List ℕ)). flat_map f l) (drop_all k jobs all)

-- the lines of all jobs but the first
pub others-lines : (by : JobSetting) (jobs : List (List ℕ)) (first : List ℕ) → slice_get jobs 0 ≡ Some first → hidden_lines by jobs ≡ flat_map (place_lines by first) (drop 1 jobs)
others-lines by [] first at = let no : ⊥ = cc in absurd no
others-lines by (job ∷ more) first at =
    let same : job ≡ first = cc in
    ap (λ (j : List ℕ). flat_map (place_lines by j) more) same

-- there are none of no job
pub no-lines : (by : JobSetting) (jobs : List (List ℕ)) → length jobs ≡ 0 → hidden_lines by jobs ≡ []
no-lines by [] none = refl
no-lines by (job ∷ more) none = absurd (omega arith)

-- ---- what is told of a proof

-- seeds, where no query point lies in a domain
pub told-seeds : (domain : Option ℕ) (seeds given : List ℕ) → domain ≡ None → given ≡ seeds → codes " seeds" ++ spaced given ≡ told domain seeds
told-seeds domain seeds given none same =
    ap (λ (l : List ℕ). codes " seeds" ++ spaced l) same ∙ sym (ap (λ (d : Option ℕ). told d seeds) none)

-- or the gadget
pub told-domain : (domain : Option ℕ) (seeds : List ℕ) (gadget : ℕ) → domain ≡ Some gadget → codes " domain " ++ decimal gadget ≡ told domain seeds
told-domain domain seeds gadget some = sym (ap (λ (d : Option ℕ). told d seeds) some)
