-- What is found at a place of a trial, by the words of its record: in a domain, malformed, or an honest report.
use Rattle.std.proofs.Common.{ℕ, zero, suc, ◌≡◌, ◌+◌, ◌*◌, ◌%◌, ◌^◌, ◌<◌, ◌≤◌, ◌==◌, Bool, true, false, List, [], ◌∷◌, ◌++◌, length, drop, set, get_or, slice_index, Option, Some, None, refl, sym, ap, ap₂, ◌∙◌, arith}
use Rattle.std.specs.List.{All}
use Rattle.std.proofs.Math.Nat.{mul-le-mul_left, pow-le-pow_right}
use Rattle.std.proofs.lemmas.Bool.{ne_eqb}
use Rattle.std.proofs.lemmas.List.{drop_at, length-set, get_or-set_same, get_or-take, get_or-drop}
use Rattle.std.proofs.lemmas.List.Elements.{All-append, All-take, All-drop, All-set, All-weaker}
use Rattle.std.proofs.lemmas.List.FromFn.{get_or-map-range_with_len}
use Rattle.std.proofs.lemmas.List.Sums.{sum_by-le-sum_by}
use Rattle.flp_field.specs.Word.{modulus, IsWord, AreWords, word_power}
use Rattle.flp_field.proofs.Powers.{one-pow}
use Rattle.flp_field.proofs.WordLists.{none-from_words}
use Rattle.flp_share.specs.Shares.{shares_of}
use Rattle.flp_share.proofs.Sharings.{words-shares_of}
use Rattle.flp_syntax.specs.declared.syntax.Params.{Params}
use Rattle.flp_syntax.specs.Tree.{Program}
use Rattle.flp_meaning.specs.Gadgets.{first_where, gadgets_of, arity_of, log_of, size_of}
use Rattle.flp_meaning.specs.Lengths.{check_words, proof_part}
use Rattle.flp_meaning.specs.ProofLaws.{IsBounded}
use Rattle.flp_meaning.proofs.WireLemmas.{domains_hold}
use Rattle.flp_meaning.specs.Verifier.{point_of, gadget_in_domain}
use Rattle.flp_plan.specs.declared.lengths.Lengths.{Lengths}
use Rattle.flp_plan.specs.Counted.{counted_lengths}
use Rattle.flp_report.specs.declared.shape.Shape.{Shape}
use Rattle.flp_report.specs.Shape.{words_of, bytes_of}
use Rattle.flp_report.specs.Record.{words_in, own_word}
use Rattle.flp_report.specs.Words.{words, bad_word_in}
use Rattle.flp_report.specs.Layout.{word_bytes}
use Rattle.flp_report.proofs.ReportLemmas.{words-word_bytes}
use Rattle.flp_policy.specs.declared.verdict.Verdict.TheVariants.{InDomain, Malformed}
use Rattle.flp_worker.specs.Parts.{query_words}
use Rattle.flp_worker.proofs.PrefixLemmas.{part-fits}
use Rattle.flp_worker.specs.Verdict.{verdict_of, verdict_by, first_named, first_inside, gadget_inside, all_hold}
use Rattle.flp_jobs.specs.Setting.{IsCircuitOf}
use Rattle.flp_generator.specs.declared.change.Change.{Change}
use Rattle.flp_generator.specs.declared.change.Change.TheVariants.{Nothing, Point, Word}
use Rattle.flp_generator.specs.Sequence.{sequence_word, part_of, taken_by_place, words_taken, joint_taken, share_taken, query_taken, behind_joint, behind_seeds}
use Rattle.flp_generator.specs.Input.{trial_encoding}
use Rattle.flp_generator.specs.Change.{change_at}
use Rattle.flp_generator.specs.Place.{honest_words, changed_words, first_point, unshared_words, trial_words, trial_nonce, trial_record}
use Rattle.flp_generator.specs.Batch.{trial_shape}
use Rattle.flp_generator.specs.Laws.{WordsStayOut}
use Rattle.flp_generator.proofs.SequenceLemmas.{words-sequence, length-sequence}
use Rattle.flp_generator.proofs.RecordLemmas.{length-honest}

-- ---- domains

-- the domain of a gadget has 1 to 4,096 points
domain-size : (circuit : Program) (gadget : ℕ) → IsBounded circuit → gadget < length circuit.gadgets → (1 ≤ size_of circuit gadget) × (size_of circuit gadget ≤ 4096)
domain-size circuit gadget bounded inside =
    let small : log_of circuit gadget ≤ 12 = (domains_hold circuit gadget bounded inside).0 in
    let least : 2 ^ 0 ≤ 2 ^ log_of circuit gadget = pow-le-pow_right {n = 2} (omega arith) {i = 0} {j = log_of circuit gadget} (omega arith) in
    let most : 2 ^ log_of circuit gadget ≤ 2 ^ 12 = pow-le-pow_right {n = 2} (omega arith) {i = log_of circuit gadget} {j = 12} small in
    (least, most)

-- ---- the first gadget in a domain

first-fails : (test : ℕ → Bool) (start count : ℕ) → ((k : ℕ) → start ≤ k → k < start + count → test k ≡ false) → first_where test start count ≡ None
first-fails test start zero each = refl
first-fails test start (suc count) each =
    let here = each start (omega arith) (omega arith) in
    rw here (first-fails test (suc start) count (λ k from below. each k (omega arith) (omega arith)))

first-passes : (test : ℕ → Bool) (count : ℕ) → 1 ≤ count → test 0 ≡ true → first_where test 0 count ≡ Some 0
first-passes test zero some here = absurd (omega arith)
first-passes test (suc count) some here = rw here refl

-- the only proof's is that of the record
pub inside-one : (circuit : Program) (ws : List ℕ) (found : Option ℕ) → gadget_inside circuit (trial_shape circuit) ws 0 ≡ found
    → first_inside circuit (trial_shape circuit) ws ≡ first_named 0 (found ∷ [])
inside-one circuit ws found is = ap (λ (o : Option ℕ). first_named 0 (o ∷ [])) is

-- ---- verdicts by words

malformed-by : (circuit : Program) (record-bytes ws : List ℕ) (word : ℕ) → words_in (trial_shape circuit) record-bytes ≡ ws → bad_word_in ws ≡ Some word
    → verdict_of circuit (trial_shape circuit) record-bytes ≡ Malformed word
unfolding verdict_of
malformed-by circuit bytes ws word read bad =
    let shape = trial_shape circuit in
    ap (λ (o : Option ℕ). verdict_by o (first_inside circuit shape (words_in shape bytes)) (all_hold circuit shape (words_in shape bytes))) (ap bad_word_in read ∙ bad)

inside-by : (circuit : Program) (record-bytes ws : List ℕ) (gadget : ℕ) → words_in (trial_shape circuit) record-bytes ≡ ws → bad_word_in ws ≡ None
    → gadget_inside circuit (trial_shape circuit) ws 0 ≡ Some gadget → verdict_of circuit (trial_shape circuit) record-bytes ≡ InDomain 0 gadget
unfolding verdict_of
inside-by circuit bytes ws gadget read good inside =
    let shape = trial_shape circuit in
    ap (λ (l : List ℕ). verdict_by (bad_word_in l) (first_inside circuit shape l) (all_hold circuit shape l)) read
    ∙ ap₂ (λ (o : Option ℕ) (n : Option (ℕ × ℕ)). verdict_by o n (all_hold circuit shape ws)) good (inside-one circuit ws (Some gadget) inside)

-- ---- words of a record

-- words of the field fit 8 bytes, and so does p
pub below-words : (ws : List ℕ) → AreWords ws → All (λ w. w < 2 ^ 64) ws
below-words ws are = All-weaker IsWord (λ w. w < 2 ^ 64) (λ (w : ℕ) (word : w < modulus). omega arith) ws are

-- a first word that is none is bad
bad-first : (ws : List ℕ) → 0 < length ws → bad_word_in (set ws 0 modulus) ≡ Some 0
bad-first [] some = absurd (omega arith)
bad-first (w ∷ ws) some = refl

module _ (params : Option Params) (circuit : Program) (is : IsCircuitOf params circuit) (bounded : IsBounded circuit) (seed place : ℕ) where
  abbrev shape : Shape
  shape = trial_shape circuit

  abbrev lengths : Lengths
  lengths = counted_lengths circuit

  abbrev taken : List ℕ
  taken = words_taken lengths seed place

  abbrev x : List ℕ
  x = trial_encoding params lengths.meas (seed + place)

  abbrev honest : List ℕ
  honest = honest_words circuit x taken

  words-taken : AreWords taken
  words-taken = words-sequence seed (place * taken_by_place lengths) (taken_by_place lengths)

  length-taken : length taken ≡ taken_by_place lengths
  length-taken = length-sequence seed (place * taken_by_place lengths) (taken_by_place lengths)

  words-behind_seeds : AreWords (behind_seeds lengths taken)
  words-behind_seeds = All-drop IsWord lengths.prove (behind_joint lengths taken) (All-drop IsWord lengths.joint taken words-taken)

  pub words-honest : AreWords honest
  words-honest =
      All-append IsWord (shares_of 2 (unshared_words circuit x taken) (share_taken lengths taken)) (joint_taken lengths taken ++ query_taken lengths taken)
      (words-shares_of 2 (unshared_words circuit x taken) (share_taken lengths taken) (All-take IsWord (part_of lengths) (behind_seeds lengths taken) words-behind_seeds))
      (All-append IsWord (joint_taken lengths taken) (query_taken lengths taken) (All-take IsWord lengths.joint taken words-taken) (All-drop IsWord (part_of lengths) (behind_seeds lengths taken) words-behind_seeds))

  pub long : length honest ≡ words_of shape
  long = length-honest params circuit is bounded seed place

  -- the words of a record of so many words are read from its bytes
  read-back : (ws : List ℕ) → length ws ≡ words_of shape → All (λ w. w < 2 ^ 64) ws → words_in shape (trial_nonce seed place ++ word_bytes ws) ≡ ws
  read-back ws size fits =
      ap (λ (b : List ℕ). words (words_of shape) b) (drop_at (trial_nonce seed place) (word_bytes ws) 16 refl)
      ∙ (ap (λ (n : ℕ). words n (word_bytes ws)) (sym size) ∙ words-word_bytes ws fits)

  -- what a word-by-word change makes of them
  pub read-changed : (ws : List ℕ) → trial_words params circuit seed place ≡ ws → length ws ≡ words_of shape → All (λ w. w < 2 ^ 64) ws
      → words_in shape (trial_record params circuit seed place) ≡ ws
  read-changed ws same size fits = ap (λ (l : List ℕ). words_in shape (trial_nonce seed place ++ word_bytes l)) same ∙ read-back ws size fits

  queries : lengths.query ≡ check_words circuit + length circuit.gadgets
  queries = refl

  -- ---- where a word is changed

  pub found-word : change_at place ≡ Word → verdict_of circuit shape (trial_record params circuit seed place) ≡ Malformed 0
  found-word change =
      let ws : List ℕ = set honest 0 modulus in
      let fits : All (λ w. w < 2 ^ 64) ws = All-set (λ w. w < 2 ^ 64) honest 0 modulus (omega arith) (below-words honest words-honest) in
      let read = read-changed ws (ap (λ (c : Change). changed_words c circuit honest) change) (length-set honest 0 modulus ∙ long) fits in
      malformed-by circuit (trial_record params circuit seed place) ws 0 read (bad-first honest (omega (arith, long, queries, bounded.some_gadget)))

  abbrev pointed : List ℕ
  pointed = set honest (first_point circuit) 1

  point-one : point_of circuit (query_words shape pointed 0) 0 ≡ 1
  point-one =
      let off : ℕ = own_word shape 0 + shape.joint in
      let here : off + (check_words circuit + 0) ≡ first_point circuit = omega arith in
      get_or-take shape.query (drop off pointed) (check_words circuit + 0) 0 (omega (arith, queries, bounded.some_gadget))
      ∙ (get_or-drop off pointed (check_words circuit + 0) 0
      ∙ (ap (λ (n : ℕ). get_or pointed n 0) here
      ∙ get_or-set_same honest (first_point circuit) 1 0 (omega (arith, long, queries, bounded.some_gadget))))

  point-inside : gadget_in_domain circuit (query_words shape pointed 0) ≡ Some 0
  point-inside =
      let query : List ℕ = query_words shape pointed 0 in
      first-passes (λ gadget. word_power (point_of circuit query gadget) (size_of circuit gadget) == 1) (length circuit.gadgets) bounded.some_gadget
      (ap (λ (p : ℕ). word_power p (size_of circuit 0) == 1) point-one ∙ ap (λ (n : ℕ). n % modulus == 1) (one-pow (size_of circuit 0)))

  pub found-point : change_at place ≡ Point → verdict_of circuit shape (trial_record params circuit seed place) ≡ InDomain 0 0
  found-point change =
      let are : AreWords pointed = All-set IsWord honest (first_point circuit) 1 (omega arith) words-honest in
      let read = read-changed pointed (ap (λ (c : Change). changed_words c circuit honest) change) (length-set honest (first_point circuit) 1 ∙ long) (below-words pointed are) in
      inside-by circuit (trial_record params circuit seed place) pointed 0 read (none-from_words 0 pointed are) point-inside

  -- ---- where none is

  pub read-honest : change_at place ≡ Nothing → words_in shape (trial_record params circuit seed place) ≡ honest
  read-honest change = read-changed honest (ap (λ (c : Change). changed_words c circuit honest) change) long (below-words honest words-honest)

  pub good-honest : bad_word_in honest ≡ None
  good-honest = none-from_words 0 honest words-honest

  -- a query word is a power of 7
  pub query-word : (k : ℕ) → k < lengths.query
      → slice_index (query_taken lengths taken) k ≡ sequence_word seed (place * taken_by_place lengths + (lengths.joint + (lengths.prove + (part_of lengths + k))))
  query-word k below =
      get_or-drop (part_of lengths) (behind_seeds lengths taken) k 0
      ∙ (get_or-drop lengths.prove (behind_joint lengths taken) (part_of lengths + k) 0
      ∙ (get_or-drop lengths.joint taken (lengths.prove + (part_of lengths + k)) 0
      ∙ get_or-map-range_with_len (sequence_word seed) (place * taken_by_place lengths) (taken_by_place lengths) (lengths.joint + (lengths.prove + (part_of lengths + k)))
      (place * taken_by_place lengths + (lengths.joint + (lengths.prove + (part_of lengths + k)))) 0 (omega (arith, below)) refl))

  -- the words that all places take are no more than the bytes of the batch
  few-taken : taken_by_place lengths ≤ bytes_of shape
  few-taken =
      let seeds : lengths.prove ≤ lengths.proof = sum_by-le-sum_by (arity_of circuit) (proof_part circuit) (gadgets_of circuit) (λ (gadget : ℕ). omega arith) in
      omega (arith, seeds)

  pub points-outside : WordsStayOut → (reports : ℕ) → place < reports → seed < 2 ^ 32 → reports * bytes_of shape ≤ 1073741824
      → gadget_in_domain circuit (query_taken lengths taken) ≡ None
  points-outside out reports below small size =
      let query : List ℕ = query_taken lengths taken in
      let count : ℕ = taken_by_place lengths in
      let all : reports * count ≤ reports * bytes_of shape = mul-le-mul_left reports few-taken in
      let own : place * count + count ≤ reports * count = part-fits place reports count below in
      first-fails (λ gadget. word_power (point_of circuit query gadget) (size_of circuit gadget) == 1) 0 (length circuit.gadgets)
      (λ (k : ℕ) (from : 0 ≤ k) (inside : k < 0 + length circuit.gadgets).
      let at : ℕ = check_words circuit + k in
      let behind : ℕ = lengths.joint + (lengths.prove + (part_of lengths + at)) in
      let here : at < lengths.query = omega (arith, queries, inside) in
      let limit : behind < count = omega (arith, here) in
      let domain = domain-size circuit k bounded (omega (arith, inside)) in
      ne_eqb (word_power (point_of circuit query k) (size_of circuit k)) 1
      (λ is. out seed (place * count + behind) (size_of circuit k) (omega (arith, small, limit, own, all, size)) domain.0 domain.1
      (ap (λ (w : ℕ). word_power w (size_of circuit k)) (sym (query-word at here)) ∙ is)))
