-- How many words and bytes the record of a place has.
use Rattle.std.proofs.Common.{ℕ, ◌≡◌, ◌+◌, ◌*◌, List, ◌++◌, length, Option, None, Some, refl, ap, ap₂, sym, ◌∙◌, arith, length-append}
use Rattle.std.proofs.lemmas.List.{length-set, length-take-le, length-drop}
use Rattle.std.proofs.lemmas.List.FromFn.{length-map-range_with_len}
use Rattle.std.proofs.lemmas.List.Elements.{All-take, All-drop}
use Rattle.flp_field.specs.Word.{IsWord}
use Rattle.flp_share.specs.Shares.{shares_of}
use Rattle.flp_share.proofs.Sharings.{length-shares_of}
use Rattle.flp_syntax.specs.declared.syntax.Params.{Params}
use Rattle.flp_syntax.specs.Tree.{Program}
use Rattle.flp_circuits.proofs.Encodings.{encodings_have_length}
use Rattle.flp_meaning.specs.Proof.{honest_proof}
use Rattle.flp_meaning.specs.ProofLaws.{IsBounded, AreSeeds}
use Rattle.flp_meaning.proofs.Honest.{honest_proof_has_length}
use Rattle.flp_plan.specs.declared.lengths.Lengths.{Lengths}
use Rattle.flp_plan.specs.Counted.{counted_lengths}
use Rattle.flp_report.specs.Shape.{words_of, bytes_of}
use Rattle.flp_report.specs.Layout.{word_bytes}
use Rattle.flp_report.proofs.ReportLemmas.{length-word_bytes}
use Rattle.flp_jobs.specs.Setting.{IsCircuitOf}
use Rattle.flp_load.proofs.StandardLemmas.{meas-standard}
use Rattle.flp_generator.specs.declared.change.Change.{Change}
use Rattle.flp_generator.specs.declared.change.Change.TheVariants.{Nothing, Proof, Point, Word, Nonce}
use Rattle.flp_generator.specs.Sequence.{part_of, taken_by_place, words_taken, joint_taken, seeds_taken, share_taken, query_taken, behind_joint, behind_seeds}
use Rattle.flp_generator.specs.Input.{measurement, trial_encoding}
use Rattle.flp_generator.specs.Change.{change_at}
use Rattle.flp_generator.specs.Place.{unshared_words, honest_words, changed_words, last_proof_word, first_point, trial_words, trial_nonce, trial_record}
use Rattle.flp_generator.specs.Batch.{trial_shape}
use Rattle.flp_generator.proofs.InputLemmas.{measured}
use Rattle.flp_generator.proofs.SequenceLemmas.{words-sequence, length-sequence}

-- ---- what a place takes

module _ (lengths : Lengths) (taken : List ℕ) (size : length taken ≡ taken_by_place lengths) where
  pub length-joint : length (joint_taken lengths taken) ≡ lengths.joint
  length-joint = length-take-le lengths.joint taken (omega (arith, size))

  length-behind_joint : length (behind_joint lengths taken) ≡ lengths.prove + part_of lengths + lengths.query
  length-behind_joint = omega (arith, length-drop lengths.joint taken, size)

  pub length-seeds : length (seeds_taken lengths taken) ≡ lengths.prove
  length-seeds = length-take-le lengths.prove (behind_joint lengths taken) (omega (arith, length-behind_joint))

  length-behind_seeds : length (behind_seeds lengths taken) ≡ part_of lengths + lengths.query
  length-behind_seeds = omega (arith, length-drop lengths.prove (behind_joint lengths taken), length-behind_joint)

  pub length-share : length (share_taken lengths taken) ≡ part_of lengths
  length-share = length-take-le (part_of lengths) (behind_seeds lengths taken) (omega (arith, length-behind_seeds))

  pub length-query : length (query_taken lengths taken) ≡ lengths.query
  length-query = omega (arith, length-drop (part_of lengths) (behind_seeds lengths taken), length-behind_seeds)

-- ---- the record

pub length-encoding : (params : Option Params) (circuit : Program) (k : ℕ) → IsCircuitOf params circuit
    → length (trial_encoding params (counted_lengths circuit).meas k) ≡ (counted_lengths circuit).meas
length-encoding (Some params) circuit k is =
    encodings_have_length params (measurement params k) (measured params k is.0)
    ∙ (sym (meas-standard params) ∙ ap (λ (c : Program). c.meas) (sym is.1))
length-encoding None circuit k is = length-map-range_with_len (λ (j : ℕ). _) 0 (counted_lengths circuit).meas

length-changed : (change : Change) (circuit : Program) (words : List ℕ) → length (changed_words change circuit words) ≡ length words
length-changed Proof circuit words = length-set words (last_proof_word circuit) _
length-changed Point circuit words = length-set words (first_point circuit) 1
length-changed Word circuit words = length-set words 0 _
length-changed Nothing circuit words = refl
length-changed Nonce circuit words = refl

module _ (params : Option Params) (circuit : Program) (is : IsCircuitOf params circuit) (bounded : IsBounded circuit) (seed place : ℕ) where
  abbrev lengths : Lengths
  lengths = counted_lengths circuit

  abbrev taken : List ℕ
  taken = words_taken lengths seed place

  pub length-taken : length taken ≡ taken_by_place lengths
  length-taken = length-sequence seed (place * taken_by_place lengths) (taken_by_place lengths)

  pub are_seeds : AreSeeds circuit (seeds_taken lengths taken)
  are_seeds = record {
    words = All-take IsWord lengths.prove (behind_joint lengths taken) (All-drop IsWord lengths.joint taken (words-sequence seed (place * taken_by_place lengths) (taken_by_place lengths)));
    size = length-seeds lengths taken length-taken;
  }

  abbrev x : List ℕ
  x = trial_encoding params lengths.meas (seed + place)

  pub length-unshared : length (unshared_words circuit x taken) ≡ part_of lengths
  length-unshared =
      length-append x (honest_proof circuit x (joint_taken lengths taken) (seeds_taken lengths taken))
      ∙ ap₂ (λ (a b : ℕ). a + b) (length-encoding params circuit (seed + place) is)
      (honest_proof_has_length circuit x (joint_taken lengths taken) (seeds_taken lengths taken) bounded are_seeds)

  abbrev shares : List ℕ
  shares = shares_of 2 (unshared_words circuit x taken) (share_taken lengths taken)

  pub length-shares : length shares ≡ 2 * part_of lengths
  length-shares =
      let own : length (share_taken lengths taken) ≡ 1 * length (unshared_words circuit x taken) = omega (arith, length-share lengths taken length-taken, length-unshared) in
      length-shares_of 2 (unshared_words circuit x taken) (share_taken lengths taken) (omega arith) own
      ∙ ap (λ (n : ℕ). 2 * n) length-unshared

  pub length-honest : length (honest_words circuit x taken) ≡ words_of (trial_shape circuit)
  length-honest =
      let own = length-append (joint_taken lengths taken) (query_taken lengths taken) in
      let all = length-append shares (joint_taken lengths taken ++ query_taken lengths taken) in
      omega (arith, all, own, length-shares, length-joint lengths taken length-taken, length-query lengths taken length-taken)

  pub length-words : length (trial_words params circuit seed place) ≡ words_of (trial_shape circuit)
  length-words = length-changed (change_at place) circuit (honest_words circuit x taken) ∙ length-honest

  pub length-record : length (trial_record params circuit seed place) ≡ bytes_of (trial_shape circuit)
  length-record =
      let nonce : length (trial_nonce seed place) ≡ 16 = refl in
      let bytes = length-word_bytes (trial_words params circuit seed place) in
      length-append (trial_nonce seed place) (word_bytes (trial_words params circuit seed place)) ∙ omega (arith, nonce, bytes, length-words)
