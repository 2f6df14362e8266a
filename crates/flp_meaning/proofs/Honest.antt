-- The honest proof: its parts, what it answers, and that it is accepted; and proofs that are true of each gadget.
use Rattle.std.proofs.Common.{ℕ, suc, ◌≡◌, ◌+◌, ◌*◌, ◌%◌, ◌<◌, ◌≤◌, Bool, true, false, List, [], ◌∷◌, ◌++◌, length, take, drop, get_or, refl, ap, ap₂, sym, subst, ◌∙◌, arith, ⊎_elim, length-append}
use Rattle.std.specs.List.{All, range_with_len, sum_by}
use Rattle.std.specs.Prelude.{slice_index, nat_lt, if◌then◌else◌}
use Rattle.std.proofs.lemmas.Bool.{cases_lt}
use Rattle.std.proofs.lemmas.Nat.{pow_pos}
use Rattle.std.proofs.lemmas.List.{get_or_past, length-map, ext_get_or, take-append-le, take_all}
use Rattle.std.proofs.Math.Seq.{drop-append_seam}
use Rattle.std.proofs.lemmas.List.Elements.{All-map, All-take, All-drop}
use Rattle.std.proofs.lemmas.List.FromFn.{length-map-range_with_len, get_or-map-range_with_len}
use Rattle.flp_field.specs.Word.{modulus, IsWord, AreWords, word_power}
use Rattle.flp_field.specs.Domain.{alpha}
use Rattle.flp_poly.specs.Polynomial.{value_at}
use Rattle.flp_poly.specs.Interpolation.{interpolated}
use Rattle.flp_poly.proofs.Interpolation.{length-interpolated}
use Rattle.flp_gadget.specs.KindTree.{value_of, formula_of}
use Rattle.flp_gadget.proofs.FormulaLemmas.{length-formula}
use Rattle.flp_syntax.specs.Tree.{Program}
use Rattle.flp_meaning.specs.Meaning.{Call, Reading}
use Rattle.flp_meaning.specs.Circuit.{circuit_of, calls_of, checks_of, kind_of, direct, with_answers, IsValid}
use Rattle.flp_meaning.specs.Gadgets.{gadgets_of, arity_of, call_count, call_gadget, call_number, log_of, size_of, check_count}
use Rattle.flp_meaning.specs.Lengths.{coefficient_count, proof_part, start_of, lengths_of}
use Rattle.flp_meaning.specs.MeaningLaws.{call_values}
use Rattle.flp_meaning.specs.Wires.{wire_values, wires_of}
use Rattle.flp_meaning.specs.Proof.{words_at, seeds_in, polynomial_in, seeds_for, honest_part, honest_proof, answer_in, answers_in, with_proof}
use Rattle.flp_meaning.specs.Verifier.{point_of, combination, check_of, verifier_words, answer_from, is_taken}
use Rattle.flp_meaning.specs.ProofLaws.{IsBounded, AreSeeds, HonestProofHasLength, HonestProofHasParts, HonestProofAnswers, HonestProofProves, HonestProofIsAccepted}
use Rattle.flp_meaning.proofs.Answers.{answered_is_direct}
use Rattle.flp_meaning.proofs.PartLemmas.{part_inside, length-words_at, words-parts, length-parts}
use Rattle.flp_meaning.specs.ProofLaws.{Holds, TrueProofsAreDirect}
use Rattle.flp_meaning.proofs.Answers.{answers_decide, agree-places, agree-sym}
use Rattle.flp_meaning.proofs.WireLemmas.{length-wire_values, length-wires, calls_size, call_inside, formula_at_call}
use Rattle.flp_meaning.proofs.Decisions.{decisions_mean}

-- valid checks combine to 0
combined-zero : (checks query : List ℕ) → All (λ value. value ≡ 0) checks → combination checks query ≡ 0
combined-zero [] query zeros = refl
combined-zero (value ∷ more) query zeros =
    let first : value ≡ 0 = zeros 0 0 (omega arith) in
    let rest : combination more (drop 1 query) ≡ 0 = combined-zero more (drop 1 query) (λ k d low. zeros (suc k) d (omega arith)) in
    ap₂ (λ (v c : ℕ). slice_index query 0 * v + c) first rest ∙ omega arith

check-zero : (body : Program) (query checks : List ℕ) → All (λ value. value ≡ 0) checks → check_of body checks query ≡ 0
check-zero body query checks zeros = either (nat_lt 1 (check_count body))
  where
    only : slice_index checks 0 ≡ 0
    only = ⊎_elim (λ (some : 0 < length checks). zeros 0 0 some) (λ (none : length checks ≤ 0). get_or_past checks 0 0 none) (cases_lt 0 (length checks))

    either : (test : Bool) → (if test then combination checks query % modulus else slice_index checks 0) ≡ 0
    either true = ap (λ c. c % modulus) (combined-zero checks query zeros)
    either false = only

-- ---- the parts of an honest proof

module _ (body : Program) (x words seeds : List ℕ) (bounded : IsBounded body) (good : AreSeeds body seeds) where
  count : ℕ
  count = length body.gadgets

  calls : List Call
  calls = calls_of body (direct body x words)

  wires : ℕ → List (List ℕ)
  wires gadget = wires_of body calls (seeds_for body seeds gadget) gadget

  polynomial : ℕ → List ℕ
  polynomial gadget = formula_of (kind_of body gadget) (wires gadget)

  length-seeds : (gadget : ℕ) → gadget < length body.gadgets → length (seeds_for body seeds gadget) ≡ arity_of body gadget
  length-seeds gadget inside =
      let fits : start_of (arity_of body) gadget + arity_of body (0 + gadget) ≤ sum_by (arity_of body) (gadgets_of body) =
      part_inside (arity_of body) 0 gadget (length body.gadgets) inside in
      let own : arity_of body (0 + gadget) ≡ arity_of body gadget = let e : 0 + gadget ≡ gadget = omega arith in ap (arity_of body) e in
      let size : length seeds ≡ sum_by (arity_of body) (gadgets_of body) = good.size in
      length-words_at (start_of (arity_of body) gadget) (arity_of body gadget) seeds (omega arith)

  length-polynomial : (gadget : ℕ) → gadget < length body.gadgets → length (polynomial gadget) ≡ coefficient_count body gadget
  unfolding polynomial wires calls
  length-polynomial gadget inside =
      let size : ℕ = size_of body gadget in
      length-formula (kind_of body gadget) (wires gadget) size (bounded.kinds gadget inside) (pow_pos (log_of body gadget))
      (length-wires body calls (seeds_for body seeds gadget) gadget)
      (All-map (λ p. length p ≡ size) (λ input. interpolated (wire_values body calls (seeds_for body seeds gadget) gadget input)) (range_with_len 0 (arity_of body gadget))
      (λ k d low.
      length-interpolated (wire_values body calls (seeds_for body seeds gadget) gadget (get_or (range_with_len 0 (arity_of body gadget)) k d))
      ∙ length-wire_values body calls (seeds_for body seeds gadget) gadget (get_or (range_with_len 0 (arity_of body gadget)) k d)))

  length-part : (gadget : ℕ) → gadget < 0 + length body.gadgets → length (honest_part body x words seeds gadget) ≡ proof_part body gadget
  unfolding polynomial wires calls
  length-part gadget inside =
      let below : gadget < length body.gadgets = omega arith in
      length-append (seeds_for body seeds gadget) (polynomial gadget)
      ∙ ap₂ (λ (a b : ℕ). a + b) (length-seeds gadget below) (length-polynomial gadget below)

  has_length : length (honest_proof body x words seeds) ≡ (lengths_of body).proof
  has_length = length-parts (honest_part body x words seeds) (proof_part body) 0 (length body.gadgets) length-part

  part_words : (gadget off n : ℕ) → gadget < length body.gadgets → off + n ≤ proof_part body gadget
      → words_at (start_of (proof_part body) gadget + off) n (honest_proof body x words seeds) ≡ words_at off n (honest_part body x words seeds gadget)
  part_words gadget off n inside fits =
      let own : 0 + gadget ≡ gadget = omega arith in
      words-parts (honest_part body x words seeds) (proof_part body) 0 (length body.gadgets) gadget off n length-part inside
      (subst (λ k. off + n ≤ proof_part body k) (sym own) fits)
      ∙ ap (λ k. words_at off n (honest_part body x words seeds k)) own

  has_seeds : (gadget : ℕ) → gadget < length body.gadgets → seeds_in body (honest_proof body x words seeds) gadget ≡ seeds_for body seeds gadget
  unfolding polynomial wires calls
  has_seeds gadget inside =
      let n : ℕ = arity_of body gadget in
      let none : start_of (proof_part body) gadget + 0 ≡ start_of (proof_part body) gadget = omega arith in
      let size : length (seeds_for body seeds gadget) ≡ n = length-seeds gadget inside in
      ap (λ k. words_at k n (honest_proof body x words seeds)) (sym none)
      ∙ part_words gadget 0 n inside (omega arith)
      ∙ take-append-le n (seeds_for body seeds gadget) (polynomial gadget) (omega arith)
      ∙ take_all n (seeds_for body seeds gadget) (omega arith)

  has_polynomial : (gadget : ℕ) → gadget < length body.gadgets → polynomial_in body (honest_proof body x words seeds) gadget ≡ polynomial gadget
  unfolding polynomial wires calls
  has_polynomial gadget inside =
      let n : ℕ = arity_of body gadget in
      let m : ℕ = coefficient_count body gadget in
      let size : length (seeds_for body seeds gadget) ≡ n = length-seeds gadget inside in
      let long : length (polynomial gadget) ≡ m = length-polynomial gadget inside in
      part_words gadget n m inside (omega arith)
      ∙ ap (λ k. take m (drop k (seeds_for body seeds gadget ++ polynomial gadget))) (sym size)
      ∙ ap (λ l. take m l) (drop-append_seam (seeds_for body seeds gadget) (polynomial gadget))
      ∙ take_all m (polynomial gadget) (omega arith)

  -- ---- what it answers

  seed_words : (gadget : ℕ) → AreWords (seeds_for body seeds gadget)
  seed_words gadget = All-take IsWord (arity_of body gadget) (drop (start_of (arity_of body) gadget) seeds) (All-drop IsWord (start_of (arity_of body) gadget) seeds good.words)

  answer-call : (place : ℕ) → place < call_count body → answer_in body (honest_proof body x words seeds) place ≡ slice_index (call_values body x words) place
  unfolding polynomial wires calls
  answer-call place low =
      let gadget : ℕ = call_gadget body place in
      let t : ℕ = word_power (alpha (size_of body gadget)) (call_number body place) in
      ap (λ p. value_at p t) (has_polynomial gadget (call_inside body (direct body x words) bounded place low))
      ∙ formula_at_call body (direct body x words) bounded (seeds_for body seeds gadget) (seed_words gadget) place low

  answers : answers_in body (honest_proof body x words seeds) ≡ call_values body x words
  unfolding calls
  answers =
      let values : List ℕ = call_values body x words in
      let given : List ℕ = answers_in body (honest_proof body x words seeds) in
      let size : length calls ≡ call_count body = calls_size body (direct body x words) in
      let many : length given ≡ call_count body = length-map-range_with_len (answer_in body (honest_proof body x words seeds)) 0 (call_count body) in
      let as_many : length values ≡ length calls = length-map calls (λ (c : Call). value_of (kind_of body c.gadget) c.inputs) in
      ext_get_or 0 given values (many ∙ sym (as_many ∙ size))
      (λ place low.
      let below : place < call_count body = omega arith in
      get_or-map-range_with_len (answer_in body (honest_proof body x words seeds)) 0 (call_count body) place place 0 below (omega arith)
      ∙ answer-call place below)

  proves : circuit_of body (with_proof body x words (honest_proof body x words seeds) 1) ≡ circuit_of body (direct body x words)
  proves = ap (λ l. circuit_of body (with_answers x words 1 l)) answers ∙ answered_is_direct body x words

  -- ---- that it is accepted

  all_zero : (query : List ℕ) → IsValid body x words → Holds body x words (honest_proof body x words seeds) query 1
  unfolding polynomial wires calls
  all_zero query valid = record {
    check = ap (λ m. check_of body m.value.checks query) proves ∙ check-zero body query (checks_of body (direct body x words)) valid;
    gadgets = λ gadget inside.
        let t : ℕ = point_of body query gadget in
        let rest : List ℕ → List Call → ℕ = λ s c. value_at (formula_of (kind_of body gadget) (wires_of body c s gadget)) t in
        ap (λ s. rest s (calls_of body (with_proof body x words (honest_proof body x words seeds) 1))) (has_seeds gadget inside)
        ∙ ap (λ m. rest (seeds_for body seeds gadget) m.calls) proves
        ∙ ap (λ p. value_at p t) (sym (has_polynomial gadget inside));
  }

pub honest_proof_has_length : HonestProofHasLength
honest_proof_has_length body x words seeds bounded good = has_length body x words seeds bounded good

pub honest_proof_has_parts : HonestProofHasParts
unfolding polynomial wires calls
honest_proof_has_parts body x words seeds gadget bounded good inside =
    (has_seeds body x words seeds bounded good gadget inside, has_polynomial body x words seeds bounded good gadget inside)

pub honest_proof_answers : HonestProofAnswers
honest_proof_answers body x words seeds bounded good = answers body x words seeds bounded good

pub honest_proof_proves : HonestProofProves
honest_proof_proves body x words seeds bounded good = proves body x words seeds bounded good

pub honest_proof_is_accepted : HonestProofIsAccepted
honest_proof_is_accepted body x words seeds query bounded good valid outside =
    ap (λ answer. is_taken body (answer_from answer (verifier_words body x words (honest_proof body x words seeds) query 1))) outside
    ∙ (decisions_mean body x words (honest_proof body x words seeds) query 1).1 (all_zero body x words seeds bounded good query valid)

-- ---- a proof that is true of each gadget

pub true_proofs_are_direct : TrueProofsAreDirect
true_proofs_are_direct body x words proof bounded are_words truth =
    let reading : Reading = with_proof body x words proof 1 in
    let calls : List Call = calls_of body reading in
    let answers : List ℕ = answers_in body proof in
    let value : Call → ℕ = λ call. value_of (kind_of body call.gadget) call.inputs in
    let size : length calls ≡ call_count body = calls_size body reading in
    sym
    (answers_decide body reading (λ place call. value call)
    (agree-sym (λ place call. value call) (λ place call. slice_index answers place) 0 calls
    (agree-places value answers 0 calls
    (λ place low.
    let below : place < call_count body = omega arith in
    let gadget : ℕ = call_gadget body place in
    let t : ℕ = word_power (alpha (size_of body gadget)) (call_number body place) in
    let seeds : List ℕ = seeds_in body proof gadget in
    let seed_words : AreWords seeds =
    All-take IsWord (arity_of body gadget) (drop (start_of (proof_part body) gadget) proof) (All-drop IsWord (start_of (proof_part body) gadget) proof are_words) in
    get_or-map-range_with_len (answer_in body proof) 0 (call_count body) (0 + place) place 0 (omega arith) (omega arith)
    ∙ ap (λ p. value_at p t) (truth gadget (call_inside body reading bounded place below))
    ∙ formula_at_call body reading bounded seeds seed_words place below))))
