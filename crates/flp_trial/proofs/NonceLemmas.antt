-- Which places of a trial are replayed: every eighth, and no other.
use Rattle.std.proofs.Common.{ℕ, zero, suc, ◌≡◌, ◌≢◌, ◌-◌, ◌%◌, ◌^◌, ◌<◌, ◌≤◌, ◌==◌, List, [], ◌∷◌, length, slice_index, Option, inr, ⊎_elim, refl, sym, ap, ◌∙◌, arith}
use Rattle.std.specs.Prelude.{if◌then◌else◌, Contains}
use Rattle.std.specs.List.{All}
use Rattle.std.proofs.lemmas.List.{take_at}
use Rattle.std.proofs.lemmas.List.Elements.{All-nil, All-cons}
use Rattle.std.proofs.lemmas.List.FromFn.{length-map-range_with_len, get_or-map-range_with_len}
use Rattle.flp_syntax.specs.declared.syntax.Params.{Params}
use Rattle.flp_syntax.specs.Tree.{Program}
use Rattle.flp_report.specs.Record.{nonce_in}
use Rattle.flp_report.specs.Words.{words}
use Rattle.flp_report.specs.Layout.{word_bytes}
use Rattle.flp_report.proofs.ReportLemmas.{words-word_bytes}
use Rattle.flp_policy.specs.declared.verdict.Verdict.TheVariants.{Replayed}
use Rattle.flp_worker.specs.Verdict.{verdict_of}
use Rattle.flp_verdict.specs.Laws.{report_at, IsKnown, JudgesOnce}
use Rattle.flp_generator.specs.declared.change.Change.{Change}
use Rattle.flp_generator.specs.declared.change.Change.TheVariants.{Nothing, Proof, Point, Word, Nonce}
use Rattle.flp_generator.specs.Change.{change_at, nonce_place}
use Rattle.flp_generator.specs.Place.{trial_words, trial_nonce, trial_record}
use Rattle.flp_generator.specs.Batch.{trial_shape, trial_records}
use Rattle.flp_trial.specs.Places.{trial_verdict}

-- ---- what is changed at a place

-- by its number modulo 8
abbrev pub change_by : ℕ → Change
change_by r =
    if r == 4 then Proof
    else if r == 5 then Point
    else if r == 6 then Word
    else if r == 7 then Nonce
    else Nothing

pub change-at : (place r : ℕ) → place % 8 ≡ r → change_at place ≡ change_by r
change-at place r is = ap change_by is

-- at the first four places nothing is
pub nothing-first : (r : ℕ) → r < 4 → change_by r ≡ Nothing
nothing-first zero below = refl
nothing-first (suc zero) below = refl
nothing-first (suc (suc zero)) below = refl
nothing-first (suc (suc (suc zero))) below = refl
nothing-first (suc (suc (suc (suc r)))) below = absurd (omega arith)

-- a nonce is never of a later place, and but for one change of its own
nonce-back : (change : Change) (place : ℕ) → nonce_place change place ≤ place
nonce-back Nothing place = omega arith
nonce-back Proof place = omega arith
nonce-back Point place = omega arith
nonce-back Word place = omega arith
nonce-back Nonce place = omega arith

own-nonce : (change : Change) (place : ℕ) → (change ≡ Nonce → ⊥) → nonce_place change place ≡ place
own-nonce Nothing place other = refl
own-nonce Proof place other = refl
own-nonce Point place other = refl
own-nonce Word place other = refl
own-nonce Nonce place other = absurd (other refl)

-- ---- nonces

-- two nonces of one seed are equal only where their places are
same-place : (seed a b : ℕ) → seed < 2 ^ 64 → a < 2 ^ 64 → b < 2 ^ 64 → word_bytes (seed ∷ a ∷ []) ≡ word_bytes (seed ∷ b ∷ []) → a ≡ b
same-place seed a b small first second same =
    let pair : ℕ → List ℕ = λ n. seed ∷ n ∷ [] in
    let fits : (n : ℕ) → n < 2 ^ 64 → All (λ w. w < 2 ^ 64) (pair n) =
    λ n below. All-cons (λ w. w < 2 ^ 64) seed (n ∷ []) small (All-cons (λ w. w < 2 ^ 64) n [] below (All-nil (λ w. w < 2 ^ 64))) in
    let lists : pair a ≡ pair b = sym (words-word_bytes (pair a) (fits a first)) ∙ (ap (words 2) same ∙ words-word_bytes (pair b) (fits b second)) in
    ap (λ (l : List ℕ). slice_index l 1) lists

module _ (params : Option Params) (circuit : Program) (seed reports : ℕ) (small : seed < 2 ^ 32) (few : reports < 2 ^ 32) where
  abbrev records : List (List ℕ)
  records = trial_records params circuit seed reports

  pub length-records : length records ≡ reports
  length-records = length-map-range_with_len (trial_record params circuit seed) 0 reports

  pub record-at : (place : ℕ) → place < reports → report_at records place ≡ trial_record params circuit seed place
  record-at place below = get_or-map-range_with_len (trial_record params circuit seed) 0 reports place place [] below (omega arith)

  nonce-at : (place : ℕ) → place < reports → nonce_in (report_at records place) ≡ trial_nonce seed place
  nonce-at place below =
      ap nonce_in (record-at place below) ∙ take_at (trial_nonce seed place) (word_bytes (trial_words params circuit seed place)) 16 refl

  -- a place of the seed's own is new
  new-place : (place : ℕ) → place < reports → (change_at place ≡ Nonce → ⊥) → IsKnown [] records place → ⊥
  new-place place below other known =
      ⊎_elim
      (λ (old : Contains [] (nonce_in (report_at records place))). let no : old.0 < 0 = old.1 in absurd (omega arith))
      (λ (earlier : (j : ℕ) × (j < place) × (nonce_in (report_at records j) ≡ nonce_in (report_at records place))).
      let j = earlier.0 in
      let before : j < place = earlier.1 in
      let back : nonce_place (change_at j) j ≤ j = nonce-back (change_at j) j in
      let own : nonce_place (change_at place) place ≡ place = own-nonce (change_at place) place other in
      let same : nonce_place (change_at j) j ≡ nonce_place (change_at place) place =
      same-place seed (nonce_place (change_at j) j) (nonce_place (change_at place) place) (omega (arith, small)) (omega (arith, back, before, below, few)) (omega (arith, own, below, few))
      (sym (nonce-at j (omega (arith, before, below))) ∙ (earlier.2 ∙ nonce-at place below)) in
      omega (arith, same, own, back, before))
      known

  -- the last of eight has the nonce of the first
  known-place : (place : ℕ) → place < reports → place % 8 ≡ 7 → IsKnown [] records place
  known-place place below last =
      let first : ℕ = place - 7 in
      let before : first < place = omega (arith, last) in
      let eighth : first % 8 ≡ 0 = omega (arith, last) in
      let here : nonce_place (change_at place) place ≡ first = ap (λ (c : Change). nonce_place c place) (change-at place 7 last) in
      let there : nonce_place (change_at first) first ≡ first = ap (λ (c : Change). nonce_place c first) (change-at first 0 eighth) in
      inr (
        first,
        before,
        nonce-at first (omega (arith, before, below))
            ∙ (ap (λ (n : ℕ). word_bytes (seed ∷ n ∷ [])) (there ∙ sym here)
            ∙ sym (nonce-at place below)),
      )

  module _ (once : JudgesOnce circuit (trial_shape circuit) [] records) where
    inside : (place : ℕ) → place < reports → place < length records
    inside place below = omega (arith, length-records, below)

    pub replayed : (place : ℕ) → place < reports → place % 8 ≡ 7 → trial_verdict params circuit seed reports place ≡ Replayed
    replayed place below last = (once.first place (inside place below)).1 (known-place place below last)

    pub not_replayed : (place : ℕ) → place < reports → (change_at place ≡ Nonce → ⊥) → trial_verdict params circuit seed reports place ≢ Replayed
    not_replayed place below other is = new-place place below other ((once.first place (inside place below)).0 is)

    -- any other has the verdict on its own bytes
    pub own-verdict : (place : ℕ) → place < reports → (change_at place ≡ Nonce → ⊥)
        → trial_verdict params circuit seed reports place ≡ verdict_of circuit (trial_shape circuit) (trial_record params circuit seed place)
    own-verdict place below other =
        once.alone place (inside place below) (not_replayed place below other)
        ∙ ap (verdict_of circuit (trial_shape circuit)) (record-at place below)
