-- All workers behind a run, and what is gathered of them.
use Rattle.std.proofs.Common.{◌≡◌, ℕ, zero, suc, ◌+◌, ◌-◌, ◌*◌, ◌<◌, ◌≤◌, Bool, true, List, [], ◌∷◌, ◌++◌, All, length, get_or, take, map, ap, refl, sym, subst, ◌∙◌, arith}
use Rattle.std.specs.List.{flat_map, sum_by}
use Rattle.std.proofs.lemmas.List.{length-map, length-take-le, get_or-take, get_or_default, ext_get_or}
use Rattle.std.proofs.lemmas.List.Elements.{All-nil, All-cons, All-map}
use Rattle.std.proofs.lemmas.List.Sums.{sum_by-cons}
use Rattle.flp_syntax.specs.Tree.{Program}
use Rattle.flp_plan.specs.View.{Compiled}
use Rattle.flp_plan.specs.Counted.{counted_lengths}
use Rattle.flp_report.specs.declared.shape.Shape.{Shape}
use Rattle.flp_report.specs.Shape.{width_of}
use Rattle.flp_report.specs.Record.{bucket_in}
use Rattle.flp_report.specs.Segment.{records_in}
use Rattle.flp_report.specs.Buckets.{HasBucket}
use Rattle.flp_policy.specs.declared.verdict.Verdict.{Verdict}
use Rattle.flp_policy.specs.declared.verdict.Verdict.TheVariants.{Replayed}
use Rattle.flp_worker.specs.Verdict.{outs_in}
use Rattle.flp_tally.specs.Views.{times}
use Rattle.flp_pool.specs.Work.{Did, EachDid, Ready}
use Rattle.flp_pool.specs.Range.{once, HasRange, TakesRange, Ran}
use Rattle.flp_tally.specs.declared.view.View.{View}
use Rattle.flp_round.specs.declared.round.Round.{Round}
use Rattle.flp_round.specs.declared.verifier.Note.{Note}
use Rattle.flp_round.specs.declared.verifier.Verifier.{Verifier}
use Rattle.flp_round.specs.Findings.{verdict_on, outs_row, rows_by, row_from}
use Rattle.flp_round.specs.Notes.{IsWithin, IsNoteOf, HasVerdicts}
use Rattle.flp_round.specs.Verifier.{IsVerifierFor, IsFresh, noted, places_of, notes_room, room_left, emptied}
use Rattle.flp_round.specs.Round.{size_of, end_of, HasPlace, IsRight, verdicts_in, row_at}
use Rattle.flp_round.proofs.CountLemmas.{once_in, times-append}
use Rattle.flp_round.proofs.FindingsLemmas.{the_row}
use Rattle.flp_round.proofs.FindingsLemmas as findings
use Rattle.flp_round.proofs.OutsLemmas.{length-outs_in}
use Rattle.flp_round.proofs.RowLemmas.{length-row_with}
use Rattle.flp_round.proofs.RoundLemmas.{same_count, length-verdicts_in}

-- each row is as long as the tally has elements
pub has_range : (program : Program) (shape : Shape) (marks : List Bool) (reports : List (List ℕ)) (first n elements : ℕ) → length marks ≡ length reports → length reports ≡ n → All (HasBucket shape) reports
    → shape.outs ≡ (counted_lengths program).outs → elements ≡ width_of shape
    → HasRange (λ x. (first ≤ x) × (x < first + n)) (row_from first (rows_by program shape marks reports)) elements first (first + n)
has_range program shape marks reports first n elements same many buckets outs wide = λ x from to. (
  (from, to),
  λ row is.
      let i = x - first in let m = get_or marks i true in let r = get_or reports i [] in
      let below : i < length marks = omega arith in
      let bucket = buckets i [] (omega arith) in
      let found = findings.row_at program shape marks reports same i m r below (get_or_default marks i m true below) (get_or_default reports i r [] (omega arith)) in
      let held = the_row (verdict_on program shape (record { replayed = m; report = r })) (outs_row program shape r) row (sym found ∙ is) in
      let long = length-row_with shape.buckets (bucket_in shape r) (outs_in program shape r) (omega arith) in
      ap (λ (l : List ℕ). length l) held ∙ (long ∙ (ap (λ k. shape.buckets * k) (length-outs_in program shape r ∙ sym outs) ∙ sym wide)),
)

-- verdicts that stand at all places are all of the verdicts
pub all_verdicts : (first n : ℕ) (right found : List Verdict) (places : List ℕ) → length right ≡ n → n ≤ length found → ((x : ℕ) → times x places ≡ once first (first + n) x)
    → HasVerdicts first right places found → take n found ≡ right
all_verdicts first n right found places many fits each has =
    ext_get_or Replayed (take n found) right (length-take-le n found fits ∙ sym many) (λ i below.
    let len = length-take-le n found fits in
    let here = each (first + i) in
    let one = once_in first (first + n) (first + i) (omega arith) (omega arith) in
    get_or-take n found i Replayed (omega arith) ∙ has i (omega arith))

-- a verifier that was emptied is fresh
pub fresh_again : (plan : Compiled) (shape : Shape) (room : ℕ) (vs : List Verifier) → All (λ v. IsVerifierFor plan shape v × (notes_room v ≡ room)) vs → All (IsFresh plan shape room) (map emptied vs)
fresh_again plan shape room vs all = All-map (IsFresh plan shape room) emptied vs (λ k d below. let h = all k d below in record {
  made = record { worker = h.0.worker; row = h.0.row; count = omega arith };
  places = h.1;
  empty = refl;
})

module _ (r : Round) (room : ℕ) where
  -- fresh verifiers are ready for a round that they have room for
  pub ready : (n : ℕ) (vs : List Verifier) → n ≤ room → All (IsFresh r.plan.now r.shape room) vs → Ready room_left (IsRight r) n vs
  ready n vs fits fresh = λ k d below. let f = fresh k d below in let v = get_or vs k d in let all = f.places in let none = f.empty in (
    record { made = f.made; notes = subst (λ c. All (IsNoteOf r.first (verdicts_in r)) (take c v.notes.items)) (sym none) (All-nil (IsNoteOf r.first (verdicts_in r))) },
    omega arith,
  )

  abbrev HasRun : Verifier → Type 0
  HasRun v = IsRight r v × (notes_room v ≡ room)

  -- what a fresh verifier did is what it has noted
  did_places : (s t : Verifier) (xs : List ℕ) → Did room_left places_of (IsRight r) s t xs → IsFresh r.plan.now r.shape room s → places_of t ≡ xs
  did_places s t xs did fresh = did.grown ∙ ap (λ k. map (λ (n : Note). n.place) (take k s.notes.items) ++ xs) fresh.empty

  did_one : (s t : Verifier) (xs : List ℕ) → Did room_left places_of (IsRight r) s t xs → IsFresh r.plan.now r.shape room s → HasRun t
  did_one s t xs did fresh =
      let made = did.fits.made.count in let size = t.notes.ok.0 in
      let taken : length (noted t) ≡ t.count = length-take-le t.count t.notes.items (omega arith) in
      let count : length (places_of t) ≡ t.count = length-map (noted t) (λ (n : Note). n.place) ∙ taken in
      let same : length (places_of t) ≡ length xs = ap (λ (l : List ℕ). length l) (did_places s t xs did fresh) in
      let spare = did.spare in let whole = fresh.places in let none = fresh.empty in
      (did.fits, omega arith)

  head : (P : Verifier → Type 0) (v : Verifier) (vs : List Verifier) → All P (v ∷ vs) → P v
  head P v vs all = all zero v (omega arith)

  tail : (P : Verifier → Type 0) (v : Verifier) (vs : List Verifier) → All P (v ∷ vs) → All P vs
  tail P v vs all = λ k d below. all (suc k) d (omega arith)

  pub each_ran : (before after : List Verifier) (lists : List (List ℕ)) → EachDid room_left places_of (IsRight r) before after lists → All (IsFresh r.plan.now r.shape room) before
      → All (λ v. IsRight r v × (notes_room v ≡ room)) after
  each_ran [] [] [] did fresh = All-nil HasRun
  each_ran [] [] (x ∷ lists) did fresh = absurd did
  each_ran [] (t ∷ after) lists did fresh = absurd did
  each_ran (s ∷ before) [] lists did fresh = absurd did
  each_ran (s ∷ before) (t ∷ after) [] did fresh = absurd did
  each_ran (s ∷ before) (t ∷ after) (x ∷ lists) did fresh =
      All-cons HasRun t after (did_one s t x did.0 (head (IsFresh r.plan.now r.shape room) s before fresh)) (each_ran before after lists did.1 (tail (IsFresh r.plan.now r.shape room) s before fresh))

  -- and all together have noted what they did
  pub each_place : (x : ℕ) (before after : List Verifier) (lists : List (List ℕ)) → EachDid room_left places_of (IsRight r) before after lists → All (IsFresh r.plan.now r.shape room) before
      → times x (flat_map places_of after) ≡ sum_by (λ (l : List ℕ). times x l) lists
  each_place x [] [] [] did fresh = refl
  each_place x [] [] (l ∷ lists) did fresh = absurd did
  each_place x [] (t ∷ after) lists did fresh = absurd did
  each_place x (s ∷ before) [] lists did fresh = absurd did
  each_place x (s ∷ before) (t ∷ after) [] did fresh = absurd did
  each_place x (s ∷ before) (t ∷ after) (l ∷ lists) did fresh =
      let cut = times-append x (places_of t) (flat_map places_of after) in
      let one : times x (places_of t) ≡ times x l = ap (λ (k : List ℕ). times x k) (did_places s t l did.0 (head (IsFresh r.plan.now r.shape room) s before fresh)) in
      let more = each_place x before after lists did.1 (tail (IsFresh r.plan.now r.shape room) s before fresh) in
      let sums = sum_by-cons (λ (k : List ℕ). times x k) l lists in
      omega arith

  -- the notes are of places that the verdicts have room for
  pub noted_within : (n : ℕ) (vs : List Verifier) → length (verdicts_in r) ≤ n → All (λ v. IsRight r v × (notes_room v ≡ room)) vs → All (λ v. All (IsWithin r.first n) (noted v)) vs
  noted_within n vs fits all = λ k d below j e inside. let w = ((all k d below).0.notes j e inside).within in let top = w.to in record { from = w.from; to = omega arith }

  -- each has room for its notes
  pub counts_fit : (vs : List Verifier) → All (λ v. IsRight r v × (notes_room v ≡ room)) vs → All (λ v. v.count ≤ notes_room v) vs
  counts_fit vs all = λ k d below. (all k d below).0.made.count

  -- emptied, they are fresh
  pub fresh_behind : (vs emptied_vs : List Verifier) → emptied_vs ≡ map emptied vs → All (λ v. IsRight r v × (notes_room v ≡ room)) vs → All (IsFresh r.plan.now r.shape room) emptied_vs
  fresh_behind vs emptied_vs is all =
      subst (λ (l : List Verifier). All (IsFresh r.plan.now r.shape room) l) (sym is) (fresh_again r.plan.now r.shape room vs (λ k d below. ((all k d below).0.made, (all k d below).1)))

  module _ (hi : ℕ) (v w : View) (before after : List Verifier) (top : hi ≡ end_of r) (ran : Ran room_left places_of (IsRight r) (row_at r) r.first hi v w before after) where
    pub takes : TakesRange (row_at r) r.first (end_of r) v w
    takes = subst (λ h. TakesRange (row_at r) r.first h v w) top ran.taken

    module _ (fresh : All (IsFresh r.plan.now r.shape room) before) where
      pub all_ran : All (λ v. IsRight r v × (notes_room v ≡ room)) after
      all_ran = each_ran before after ran.lists ran.did fresh

      pub verdicts_stand : (found : List Verdict) → size_of r ≤ length found → ((right : List Verdict) → All (λ v. All (IsNoteOf r.first right) (noted v)) after → HasVerdicts r.first right (flat_map places_of after) found)
          → take (size_of r) found ≡ verdicts_in r
      verdicts_stand found fits put =
          all_verdicts r.first (size_of r) (verdicts_in r) found (flat_map places_of after) (length-verdicts_in r) fits
          (λ x. each_place x before after ran.lists ran.did fresh ∙ (ran.each_once x ∙ ap (λ h. once r.first h x) top))
          (put (verdicts_in r) (λ k d below. (all_ran k d below).0.notes))

-- the work has each place of the round
pub has_places : (r : Round) (elements hi : ℕ) → hi ≡ end_of r → elements ≡ width_of r.shape → HasRange (HasPlace r) (row_at r) elements r.first hi
has_places r elements hi top wide = λ x from to.
    has_range r.plan.now.circuit r.shape r.replayed.now (records_in r.segment.now) r.first (size_of r) elements (same_count r) (sym (same_count r) ∙ r.marks) r.buckets r.outs wide x from (omega arith)
