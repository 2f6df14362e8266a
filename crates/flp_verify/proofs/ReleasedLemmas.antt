-- From a batch that was counted, and what was written of its ending, to what is said of the whole text.
use Rattle.std.proofs.Common.{◌≡◌, ◌≢◌, ◌⊎◌, ◌≤◌, ℕ, List, Bool, Option, None, Result, Ok, Err, inl, inr, ap, subst, arith}
use Rattle.std.specs.Prelude.{OnOk, OnErr, IfOk, IfErr, IfSome}
use Rattle.std.specs.Io.KnownBytes.{Appends, Keeps}
use Rattle.std.proofs.KnownBytes.{Appends-trans, Appends-kept}
use Rattle.flp_io.specs.Faults.{Rose}
use Rattle.flp_io.specs.Writes.{TakesPrefix}
use Rattle.flp_io.proofs.WriteLemmas.{TakesPrefix-whole, TakesPrefix-after}
use Rattle.flp_tally.specs.Rows.{AreSums}
use Rattle.flp_batch.specs.declared.fault.EngineFault.{EngineFault}
use Rattle.flp_batch.specs.declared.fault.EngineFault.TheVariants.{Memory, Read, Write, Batch, Circuit}
use Rattle.flp_batch.specs.Ends.{Ends}
use Rattle.flp_batch.specs.Fault.{IfFile, IsOfFront, IsOfInput}
use Rattle.flp_batch.specs.Reply.{text_on, StopsEarly, StopsInText}
use Rattle.flp_batch.proofs.BatchLemmas.{WritesOf-then}
use Rattle.flp_verdict.specs.Release.{Answers, released_of}
use Rattle.flp_verify.specs.declared.counted.Counted.{Counted}
use Rattle.flp_verify.specs.declared.counted.End.{End}
use Rattle.flp_verify.specs.declared.counted.Summary.{Summary}
use Rattle.flp_verify.specs.Counted.{totals_in, ending_of}
use Rattle.flp_verify.specs.Laws.{EndingIsReleased}
use Rattle.flp_verify.specs.Reply.{Counts, Releases, records_on, with_end}
use Rattle.flp_verify.specs.Text.{verdict_lines, released_by}

-- an ending fails for these causes alone
abbrev IsOfEnding : EngineFault → Type 0
IsOfEnding fault = (fault ≡ Memory) ⊎ (fault ≡ Write)

module _ (law : EndingIsReleased) (least : ℕ) (would asked : Answers) (claims : Bool) (counted : Counted) (left left' taken taken' taken'' : Option (List ℕ)) (c : Counts least would asked counted left left' taken taken') where
  abbrev lines : List ℕ
  lines = text_on None verdict_lines c.whole.bytes c.whole.setting

  abbrev ending : List ℕ
  ending = released_of c.whole.setting.circuit c.whole.setting.shape least would claims c.whole.setting.claims (records_on c.whole.bytes c.whole.setting)

  is-ending : AreSums counted.seat.view.added (totals_in counted) → ending_of counted claims ≡ ending
  is-ending sums = law c.whole.setting least would (records_on c.whole.bytes c.whole.setting) counted claims c.counted_is sums

  whole : AreSums counted.seat.view.added (totals_in counted) → Appends taken' taken'' (ending_of counted claims) → Releases least would claims counted.end left left' taken taken''
  whole sums last = record {
    bytes = c.whole.bytes;
    params = c.whole.params;
    setting = c.whole.setting;
    read = c.whole.read;
    ended = c.whole.ended;
    is_batch = c.whole.is_batch;
    end_is = c.counted_is.end;
    written = Appends-trans taken taken' taken'' lines ending c.whole.written (subst (Appends taken' taken'') (is-ending sums) last);
  }

  front : AreSums counted.seat.view.added (totals_in counted) → TakesPrefix taken' taken'' (ending_of counted claims) → StopsInText None (released_by least would claims) left left' taken taken''
  front sums last = WritesOf-then TakesPrefix verdict_lines (released_by least would claims) c.whole (TakesPrefix-after taken taken' taken'' lines ending c.whole.written (subst (TakesPrefix taken' taken'') (is-ending sums) last))

  early : Keeps taken' taken'' → StopsEarly None verdict_lines left left' taken taken''
  early kept = record {
    bytes = c.whole.bytes;
    read = c.whole.read;
    written = inr (record {
      params = c.whole.params;
      setting = c.whole.setting;
      begins = c.whole.is_batch.has;
      written = TakesPrefix-whole taken taken'' lines (Appends-kept taken taken' taken'' lines c.whole.written kept);
    });
  }

  -- by how the writing of the ending went
  pub released : (r : Result Summary EngineFault) → OnOk r (Appends taken' taken'' (ending_of counted claims)) → (r ≢ Err Memory → AreSums counted.seat.view.added (totals_in counted))
      → IfOk (with_end counted.end r) (λ end. Releases least would claims end left left' taken taken'')
  released (Ok summary) written sums = whole (sums (λ is. let no : ⊥ = cc in no)) written
  released (Err fault) written sums = tt

  pub stopped : (r : Result Summary EngineFault) → TakesPrefix taken' taken'' (ending_of counted claims) → (r ≢ Err Memory → AreSums counted.seat.view.added (totals_in counted))
      → (r ≡ Err Memory → Keeps taken' taken'') → IfErr r IsOfEnding
      → OnErr (with_end counted.end r) (StopsEarly None verdict_lines left left' taken taken'' ⊎ ((with_end counted.end r ≡ Err Write) × StopsInText None (released_by least would claims) left left' taken taken''))
  stopped (Ok summary) written sums kept cause = tt
  stopped (Err fault) written sums kept (inl memory) = inl (early (kept (ap Err memory)))
  stopped (Err fault) written sums kept (inr write) = inr (ap Err write, front (sums (λ is. let no : ⊥ = cc in no)) written)

-- an ending has no fault of the input
pub no-input : (X : Type 0) (end : End) (r : Result Summary EngineFault) → IfErr r IsOfEnding → IfErr (with_end end r) (λ fault. IsOfInput fault → X)
no-input X end (Ok summary) cause = tt
no-input X end (Err fault) (inl memory) = λ is. absurd (subst IsOfInput memory is)
no-input X end (Err fault) (inr write) = λ is. absurd (subst IsOfInput write is)

-- nor one of what stands in front of the records
pub no-front : (X : Type 0) (end : End) (r : Result Summary EngineFault) → IfErr r IsOfEnding → IfErr (with_end end r) (λ fault. IsOfFront fault → X)
no-front X end (Ok summary) cause = tt
no-front X end (Err fault) (inl memory) = λ is. absurd (subst IsOfFront memory is)
no-front X end (Err fault) (inr write) = λ is. absurd (subst IsOfFront write is)

-- nor any of the file
no-file : (P : EngineFault → Type 0) (fault : EngineFault) → IsOfEnding fault → IfFile fault P
no-file P Memory cause = tt
no-file P Read cause = tt
no-file P Write cause = tt
no-file P (Batch fault) (inl is) = let no : ⊥ = cc in absurd no
no-file P (Batch fault) (inr is) = let no : ⊥ = cc in absurd no
no-file P (Circuit fault) (inl is) = let no : ⊥ = cc in absurd no
no-file P (Circuit fault) (inr is) = let no : ⊥ = cc in absurd no

-- and it is not that the input failed
no-read : (fault : EngineFault) → IsOfEnding fault → fault ≡ Read → ⊥
no-read fault (inl memory) is = let no : ⊥ = cc in no
no-read fault (inr write) is = let no : ⊥ = cc in no

-- how a call ended that wrote the ending of a batch that was read
pub ends-with : (is_fault : List ℕ → EngineFault → Type 0) (takes : Option (List ℕ) → Option (List ℕ) → Type 0) (left left' : Option (List ℕ)) (reads reads' writes writes' writes'' : ℕ) (end : End) (r : Result Summary EngineFault)
    → takes left left' → reads ≤ reads' → writes ≤ writes' → writes' ≤ writes'' → (r ≡ Err Write → Rose writes' writes'') → IfErr r IsOfEnding
    → Ends is_fault takes left left' reads reads' writes writes'' (with_end end r)
ends-with is_fault takes left left' reads reads' writes writes' writes'' end (Ok summary) few later before after rose cause = record {
  fault = tt;
  few = few;
  read = λ is. let no : ⊥ = cc in absurd no;
  write = λ is. let no : ⊥ = cc in absurd no;
  later_in = later;
  later_out = omega (arith, before, after);
}
ends-with is_fault takes left left' reads reads' writes writes' writes'' end (Err fault) few later before after rose cause = record {
  fault = no-file (λ f. IfSome left (λ bytes. is_fault bytes f)) fault cause;
  few = few;
  read = λ is.
      let same : fault ≡ Read = cc in
      absurd (no-read fault cause same);
  write = λ is.
      let same : fault ≡ Write = cc in
      let up = rose (ap Err same) in
      omega (arith, before, up);
  later_in = later;
  later_out = omega (arith, before, after);
}
