-- The record of a place of a trial, by what is changed. Where nothing is, it is an honest report of what the place encodes; where the
-- proof is, the last word of its honest proof is one more, and it is rejected, where no answer enters the inputs of a call.
use Rattle.std.proofs.Common.{ℕ, ◌≡◌, ◌+◌, ◌*◌, ◌%◌, ◌<◌, List, ◌++◌, length, take, Option, Some, None, refl, sym, ap, ap₂, subst, ◌∙◌, arith, ◌≢◌, ◌-◌, ◌^◌, ◌≤◌, Bool, true, false, ◌&&◌, [], ◌∷◌, drop, set, slice_index}
use Rattle.std.specs.List.{range_with_len}
use Rattle.std.proofs.Math.Seq.{drop-append-add, take-set-lt}
use Rattle.std.proofs.lemmas.List.{take_at, drop_at, take_all, length-set, drop-set-lt, drop-set-add, take-set-le, get_or-take, get_or-drop}
use Rattle.std.proofs.lemmas.List.Elements.{All-append, All-map, All-set}
use Rattle.flp_field.specs.Word.{IsWord, AreWords, word_sum}
use Rattle.flp_field.specs.Sums.{sum_of_parts, sum_of_lists}
use Rattle.flp_field.proofs.Congruence.{mod_word}
use Rattle.flp_field.proofs.WordLists.{none-from_words}
use Rattle.flp_share.specs.Shares.{shares_of}
use Rattle.flp_share.proofs.Sharings.{shares_sum_up}
use Rattle.flp_syntax.specs.declared.syntax.Params.{Params}
use Rattle.flp_syntax.specs.Tree.{Program}
use Rattle.flp_meaning.specs.Circuit.{IsValid}
use Rattle.flp_meaning.specs.Proof.{words_at, honest_proof}
use Rattle.flp_meaning.specs.ProofLaws.{IsBounded}
use Rattle.flp_meaning.proofs.Honest.{honest_proof_has_length}
use Rattle.flp_meaning.specs.Lengths.{check_words, proof_part}
use Rattle.flp_meaning.specs.Verifier.{point_of, gadget_in_domain, accepts}
use Rattle.flp_meaning.proofs.PartLemmas.{part_inside, length-words_at}
use Rattle.flp_plan.specs.declared.lengths.Lengths.{Lengths}
use Rattle.flp_plan.specs.Counted.{counted_lengths}
use Rattle.flp_report.specs.declared.shape.Shape.{Shape}
use Rattle.flp_report.specs.Shape.{part_words, words_of, bytes_of}
use Rattle.flp_report.specs.Record.{own_word, words_in}
use Rattle.flp_report.specs.Words.{bad_word_in}
use Rattle.flp_policy.specs.declared.verdict.Verdict.TheVariants.{Rejected}
use Rattle.flp_worker.specs.Parts.{joint_words, query_words, unshared_encoding, unshared_proof, share_encoding, share_proof}
use Rattle.flp_worker.specs.Verdict.{verdict_of, verdict_by, first_inside, gadget_inside, proof_holds, all_hold}
use Rattle.flp_verdict.specs.Laws.{IsHonestProof, IsHonest}
use Rattle.flp_jobs.specs.Setting.{IsCircuitOf}
use Rattle.flp_jobs.proofs.LawPartLemmas.{sum-cut, sum_of_parts-front}
use Rattle.flp_jobs.proofs.LawWordLemmas.{words-encoding, words-honest as words-honest_proof}
use Rattle.flp_generator.specs.Sequence.{words_taken, joint_taken, seeds_taken, share_taken, query_taken, part_of, sequence_word, taken_by_place}
use Rattle.flp_generator.specs.Input.{measurement, trial_encoding}
use Rattle.flp_generator.specs.Place.{unshared_words, honest_words, changed_words, last_proof_word, trial_record}
use Rattle.flp_generator.specs.Batch.{trial_shape}
use Rattle.flp_generator.proofs.InputLemmas.{measured}
use Rattle.flp_generator.proofs.RecordLemmas.{are_seeds, length-taken, length-encoding, length-joint, length-query, length-shares, length-unshared}
use Rattle.flp_generator.specs.declared.change.Change.{Change}
use Rattle.flp_generator.specs.declared.change.Change.TheVariants.{Proof}
use Rattle.flp_generator.specs.Change.{change_at}
use Rattle.flp_generator.specs.Laws.{WordsStayOut}
use Rattle.flp_trial.specs.Places.{IsValidAt, CallsStand}
use Rattle.flp_trial.proofs.RaisedLemmas.{raised, power-some, raised-refused}
use Rattle.flp_trial.proofs.RaisedSums.{raise-sum}
use Rattle.flp_trial.proofs.FoundLemmas.{inside-one, below-words, words-honest, long, read-changed, query-word, points-outside}

-- what a place encodes are words of the field
words-trial : (params : Option Params) (circuit : Program) (k : ℕ) → IsCircuitOf params circuit → AreWords (trial_encoding params (counted_lengths circuit).meas k)
words-trial (Some params) circuit k is = words-encoding (Some params) (measurement params k) (measured params k is.0) (λ no. let never : ⊥ = cc in absurd never)
words-trial None circuit k is =
    All-map IsWord (λ (j : ℕ). (k + j) % 2) (range_with_len 0 (counted_lengths circuit).meas) (λ (i d : ℕ) (below : i < length (range_with_len 0 (counted_lengths circuit).meas)). omega arith)

-- a record of words of the field, with no point of its only proof in a domain, is rejected where that proof does not hold
rejected-by : (circuit : Program) (record-bytes ws : List ℕ) → words_in (trial_shape circuit) record-bytes ≡ ws → bad_word_in ws ≡ None
    → gadget_inside circuit (trial_shape circuit) ws 0 ≡ None → proof_holds circuit (trial_shape circuit) ws 0 ≡ false
    → verdict_of circuit (trial_shape circuit) record-bytes ≡ Rejected
unfolding verdict_of
rejected-by circuit bytes ws read good outside false-proof =
    let shape = trial_shape circuit in
    let none : all_hold circuit shape ws ≡ false = ap (λ (b : Bool). b && true) false-proof in
    ap (λ (l : List ℕ). verdict_by (bad_word_in l) (first_inside circuit shape l) (all_hold circuit shape l)) read
    ∙ (ap₂ (λ (o : Option ℕ) (n : Option (ℕ × ℕ)). verdict_by o n (all_hold circuit shape ws)) good (inside-one circuit ws None outside)
    ∙ ap (λ (b : Bool). verdict_by None None b) none)

module _ (params : Option Params) (circuit : Program) (is : IsCircuitOf params circuit) (bounded : IsBounded circuit) (seed place : ℕ) where
  abbrev lengths : Lengths
  lengths = counted_lengths circuit

  -- what the place takes, and its parts
  abbrev taken : List ℕ
  taken = words_taken lengths seed place

  abbrev joint : List ℕ
  joint = joint_taken lengths taken

  abbrev query : List ℕ
  query = query_taken lengths taken

  abbrev x : List ℕ
  x = trial_encoding params lengths.meas (seed + place)

  abbrev proof : List ℕ
  proof = honest_proof circuit x joint (seeds_taken lengths taken)

  abbrev unshared : List ℕ
  unshared = unshared_words circuit x taken

  abbrev shares : List ℕ
  shares = shares_of 2 unshared (share_taken lengths taken)

  abbrev own : List ℕ
  own = joint ++ query

  abbrev made : List ℕ
  made = honest_words circuit x taken

  abbrev shape : Shape
  shape = trial_shape circuit

  long-unshared : length unshared ≡ part_words shape
  long-unshared = omega (arith, length-unshared params circuit is bounded seed place)

  long-shares : length shares ≡ 2 * part_words shape
  long-shares = omega (arith, length-shares params circuit is bounded seed place)

  long-joint : length joint ≡ lengths.joint
  long-joint = length-joint lengths taken (length-taken params circuit is bounded seed place)

  long-query : length query ≡ lengths.query
  long-query = length-query lengths taken (length-taken params circuit is bounded seed place)

  long-proof : length proof ≡ lengths.proof
  long-proof = honest_proof_has_length circuit x joint (seeds_taken lengths taken) bounded (are_seeds params circuit is bounded seed place)

  words-unshared : AreWords unshared
  words-unshared =
      All-append IsWord x proof (words-trial params circuit (seed + place) is)
      (words-honest_proof circuit x joint (seeds_taken lengths taken) bounded (are_seeds params circuit is bounded seed place).words)

  -- the shares sum up to it
  summed : sum_of_parts 2 (part_words shape) made ≡ unshared
  summed =
      sum_of_parts-front 2 (part_words shape) shares own long-shares
      ∙ (ap (λ (n : ℕ). sum_of_parts 2 n shares) (sym long-unshared)
      ∙ shares_sum_up 2 unshared (share_taken lengths taken) (omega arith) words-unshared)

  pub kept-encoding : unshared_encoding shape made ≡ x
  kept-encoding =
      sum-cut made (λ (share : ℕ). share * part_words shape) 2 (part_words shape) 0 lengths.meas (λ (share : ℕ). omega arith) (omega arith)
      ∙ (ap (λ (l : List ℕ). words_at 0 lengths.meas l) summed ∙ take_at x proof lengths.meas (length-encoding params circuit (seed + place) is))

  pub kept-proof : unshared_proof shape made 0 ≡ proof
  kept-proof =
      let off : ℕ = lengths.meas + 0 * lengths.proof in
      let front : off ≡ length x = omega (arith, length-encoding params circuit (seed + place) is) in
      sum-cut made (λ (share : ℕ). share * part_words shape + off) 2 (part_words shape) off lengths.proof (λ (share : ℕ). refl) (omega arith)
      ∙ (ap (λ (l : List ℕ). words_at off lengths.proof l) summed
      ∙ (ap (λ (l : List ℕ). take lengths.proof l) (drop_at x proof off (sym front))
      ∙ take_all lengths.proof proof (omega (arith, long-proof))))

  pub kept-joint : joint_words shape made 0 ≡ joint
  kept-joint =
      let start : ℕ = own_word shape 0 in
      let behind : length shares ≡ start = omega (arith, long-shares) in
      ap (λ (l : List ℕ). take lengths.joint l) (drop_at shares own start behind) ∙ take_at joint query lengths.joint long-joint

  pub kept-query : query_words shape made 0 ≡ query
  kept-query =
      let start : ℕ = own_word shape 0 + lengths.joint in
      let behind : start ≡ length shares + lengths.joint = omega (arith, long-shares) in
      ap (λ (n : ℕ). words_at n lengths.query made) behind
      ∙ (ap (λ (l : List ℕ). take lengths.query l) (drop-append-add shares own lengths.joint ∙ drop_at joint query lengths.joint long-joint)
      ∙ take_all lengths.query query (omega (arith, long-query)))

  -- where what it encodes is valid, a record of these words is an honest report
  pub is_honest : IsValidAt params circuit seed place → (report : List ℕ) → words_in shape report ≡ made → IsHonest circuit shape report
  is_honest valid report read =
      λ (number : ℕ) (below : number < 1).
      let first : number ≡ 0 = omega (arith, below) in
      let seeds : List ℕ = seeds_taken lengths taken in
      let V : List ℕ → Type 0 = λ ws. IsValid circuit (unshared_encoding shape ws) (joint_words shape ws 0) in
      let H : List ℕ → Type 0 = λ ws. unshared_proof shape ws 0 ≡ honest_proof circuit (unshared_encoding shape ws) (joint_words shape ws 0) seeds in
      let here : V made = subst (λ (a : List ℕ). IsValid circuit a (joint_words shape made 0)) (sym kept-encoding) (subst (λ (j : List ℕ). IsValid circuit x j) (sym kept-joint) valid) in
      let proved : H made = kept-proof ∙ ap₂ (λ (a j : List ℕ). honest_proof circuit a j seeds) (sym kept-encoding) (sym kept-joint) in
      let only : IsHonestProof circuit shape report 0 = record {
        valid = subst V (sym read) here;
        seeds = seeds;
        are_seeds = are_seeds params circuit is bounded seed place;
        honest = subst H (sym read) proved;
      } in
      subst (IsHonestProof circuit shape report) (sym first) only

  -- ---- where the proof is changed

  -- the number of the word that is changed, and the word in its place
  abbrev last : ℕ
  last = last_proof_word circuit

  abbrev more : ℕ
  more = word_sum (slice_index made last) 1

  abbrev changed : List ℕ
  changed = set made last more

  long-made : length made ≡ words_of shape
  long-made = long params circuit is bounded seed place

  some-proof : 1 ≤ lengths.proof
  some-proof =
      let first = part_inside (proof_part circuit) 0 0 (length circuit.gadgets) bounded.some_gadget in
      omega (arith, first)

  -- behind the part of share 0 nothing is changed
  same-behind : (start count : ℕ) → last < start → words_at start count changed ≡ words_at start count made
  same-behind start count behind = ap (λ (l : List ℕ). take count l) (drop-set-lt start made last more behind)

  same-encoding : unshared_encoding shape changed ≡ unshared_encoding shape made
  same-encoding =
      let zero : 0 * part_words shape ≡ 0 = omega arith in
      let first : share_encoding shape changed 0 ≡ share_encoding shape made 0 =
      ap (λ (n : ℕ). words_at n lengths.meas changed) zero
      ∙ (take-set-le lengths.meas made last more (omega (arith, some-proof)) ∙ ap (λ (n : ℕ). words_at n lengths.meas made) (sym zero)) in
      let second : share_encoding shape changed 1 ≡ share_encoding shape made 1 = same-behind (1 * part_words shape) lengths.meas (omega (arith, some-proof)) in
      ap₂ (λ (a b : List ℕ). sum_of_lists lengths.meas (a ∷ b ∷ [])) first second

  same-joint : joint_words shape changed 0 ≡ joint
  same-joint = same-behind (own_word shape 0) lengths.joint (omega (arith, some-proof)) ∙ kept-joint

  same-query : query_words shape changed 0 ≡ query
  same-query = same-behind (own_word shape 0 + lengths.joint) lengths.query (omega (arith, some-proof)) ∙ kept-query

  -- where the proof of share 0 begins, and its last word
  abbrev start : ℕ
  start = 0 * part_words shape + (lengths.meas + 0 * lengths.proof)

  abbrev top : ℕ
  top = lengths.proof - 1

  abbrev dealt : List ℕ
  dealt = share_proof shape made 0 0

  raised-dealt : share_proof shape changed 0 0 ≡ set dealt top (word_sum (slice_index dealt top) 1)
  raised-dealt =
      let at : last ≡ start + top = omega (arith, some-proof) in
      let word : slice_index dealt top ≡ slice_index made last =
      get_or-take lengths.proof (drop start made) top 0 (omega (arith, some-proof)) ∙ (get_or-drop start made top 0 ∙ ap (λ (n : ℕ). slice_index made n) (sym at)) in
      ap (λ (n : ℕ). take lengths.proof (drop start (set made n more))) at
      ∙ (ap (λ (l : List ℕ). take lengths.proof l) (drop-set-add start made top more)
      ∙ (take-set-lt lengths.proof (drop start made) top more (omega (arith, some-proof))
      ∙ ap (λ (w : ℕ). set dealt top (word_sum w 1)) (sym word)))

  raised-proof : unshared_proof shape changed 0 ≡ raised proof
  raised-proof =
      let other : List ℕ = share_proof shape made 0 1 in
      let second : share_proof shape changed 0 1 ≡ other =
      same-behind (1 * part_words shape + (lengths.meas + 0 * lengths.proof)) lengths.proof (omega (arith, some-proof)) in
      let size : length dealt ≡ lengths.proof = length-words_at start lengths.proof made (omega (arith, long-made)) in
      ap₂ (λ (a b : List ℕ). sum_of_lists lengths.proof (a ∷ b ∷ [])) raised-dealt second
      ∙ (raise-sum lengths.proof dealt other some-proof size
      ∙ ap raised (kept-proof))

  -- the point of the last gadget is a power of 7
  point-some : (point_of circuit query (length circuit.gadgets - 1) ≢ 0) × IsWord (point_of circuit query (length circuit.gadgets - 1))
  point-some =
      let k : ℕ = check_words circuit + (length circuit.gadgets - 1) in
      let index : ℕ = place * taken_by_place lengths + (lengths.joint + (lengths.prove + (part_of lengths + k))) in
      let queries : lengths.query ≡ check_words circuit + length circuit.gadgets = refl in
      let is-power : slice_index query k ≡ sequence_word seed index = query-word params circuit is bounded seed place k (omega (arith, queries, bounded.some_gadget)) in (
        (λ none. power-some 7 (seed + 1 + index) (omega arith) (λ zero. let never : 7 ≡ 0 = zero in omega (arith, never)) (sym is-power ∙ none)),
        subst IsWord (sym is-power) (mod_word (7 ^ (seed + 1 + index))),
      )

  refused : CallsStand circuit → proof_holds circuit shape changed 0 ≡ false
  refused stand =
      let same : accepts circuit (unshared_encoding shape changed) (joint_words shape changed 0) (unshared_proof shape changed 0) (query_words shape changed 0)
      ≡ accepts circuit x joint (raised proof) query =
      λ i. accepts circuit ((same-encoding ∙ kept-encoding) i) (same-joint i) (raised-proof i) (same-query i) in
      same ∙ raised-refused circuit x joint (seeds_taken lengths taken) query bounded (are_seeds params circuit is bounded seed place) stand point-some.1 point-some.0

  pub found-proof : change_at place ≡ Proof → CallsStand circuit → WordsStayOut → (reports : ℕ) → place < reports → seed < 2 ^ 32 → reports * bytes_of shape ≤ 1073741824
      → verdict_of circuit shape (trial_record params circuit seed place) ≡ Rejected
  found-proof change stand out reports below small size =
      let are : AreWords changed = All-set IsWord made last more (mod_word (slice_index made last + 1)) (words-honest params circuit is bounded seed place) in
      let read : words_in shape (trial_record params circuit seed place) ≡ changed =
      read-changed params circuit is bounded seed place changed (ap (λ (c : Change). changed_words c circuit made) change) (length-set made last more ∙ long-made) (below-words changed are) in
      let outside : gadget_inside circuit shape changed 0 ≡ None =
      ap (gadget_in_domain circuit) same-query ∙ points-outside params circuit is bounded seed place out reports below small size in
      rejected-by circuit (trial_record params circuit seed place) changed read (none-from_words 0 changed are) outside (refused stand)
