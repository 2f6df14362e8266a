-- The record that is made of a job keeps the job, and is honest.
use Rattle.std.proofs.Common.{ℕ, ◌≡◌, ◌+◌, ◌-◌, ◌*◌, ◌^◌, ◌<◌, ◌≤◌, List, length, take, true, None, refl, ap, ap₂, sym, subst, ◌∙◌, arith, length-append}
use Rattle.std.specs.Prelude.{is_none}
use Rattle.std.specs.List.{All, flat_map}
use Rattle.std.proofs.Math.Seq.{drop-append-add}
use Rattle.std.proofs.lemmas.List.{take_at, drop_at, take_all, length-take-le}
use Rattle.std.proofs.lemmas.List.Elements.{All-append, All-weaker}
use Rattle.flp_field.specs.Word.{modulus, IsWord, AreWords}
use Rattle.flp_field.specs.Sums.{sum_of_parts}
use Rattle.flp_field.proofs.WordLists.{none-from_words, length-flat_below}
use Rattle.flp_meaning.specs.Circuit.{IsValid}
use Rattle.flp_meaning.specs.Proof.{words_at, honest_proof}
use Rattle.flp_meaning.specs.ProofLaws.{IsBounded, AreSeeds}
use Rattle.flp_meaning.proofs.Honest.{honest_proof_has_length}
use Rattle.flp_share.specs.Shares.{shares_of}
use Rattle.flp_share.proofs.Sharings.{shares_sum_up, length-shares_of, words-shares_of}
use Rattle.flp_report.specs.declared.job_shape.JobShape.{JobShape}
use Rattle.flp_report.specs.Shape.{words_of, bytes_of}
use Rattle.flp_report.specs.Record.{words_in}
use Rattle.flp_report.specs.Words.{words}
use Rattle.flp_report.specs.Layout.{word_bytes}
use Rattle.flp_report.specs.Job.{job_part_of, job_bytes_of, job_bad_word}
use Rattle.flp_report.specs.JobParts.{input_in, parts_in, seeds_in_job, job_joint_in, job_query_in}
use Rattle.flp_report.proofs.WordsLemmas.{length-words}
use Rattle.flp_report.proofs.ReportLemmas.{words-word_bytes, length-word_bytes}
use Rattle.flp_worker.specs.Parts.{joint_words, query_words, unshared_encoding, unshared_proof}
use Rattle.flp_worker.proofs.PrefixLemmas.{part-fits}
use Rattle.flp_worker.proofs.PlaceLemmas.{length-flat, words-flat}
use Rattle.flp_verdict.specs.Laws.{IsHonest}
use Rattle.flp_batch.specs.JobSetting.{JobSetting, made_shape, input_count}
use Rattle.flp_jobs.specs.Setting.{IsSetting}
use Rattle.flp_jobs.specs.Encoding.{job_input, given_words, job_seeds, job_joint, job_query, job_encoding, job_proofs}
use Rattle.flp_jobs.specs.Place.{input_fault, place_fault}
use Rattle.flp_jobs.specs.Record.{job_proof, unshared_words, own_words, made_words, record_made}
use Rattle.flp_jobs.specs.Laws.{KeepsProof, KeepsJob, IsHonestlyMade}
use Rattle.flp_jobs.proofs.JobLemmas.{input-good, given-good, seeds-good, joint-good, query-good}
use Rattle.flp_jobs.proofs.LawPartLemmas.{sum-cut, sum_of_parts-front, flat-one, All-flat}
use Rattle.flp_jobs.proofs.LawWordLemmas.{length-encoding, words-encoding, words-honest}
use Rattle.flp_jobs.proofs.LawPlaceLemmas.{place-none, valid-none}

-- words of the field fit 8 bytes
below-words : (ws : List ℕ) → AreWords ws → All (λ w. w < 2 ^ 64) ws
below-words ws are = All-weaker IsWord (λ w. w < 2 ^ 64) (λ (w : ℕ) (word : w < modulus). omega arith) ws are

-- ---- a job whose place is not bad

-- what holds of the setting of jobs
pub record IsSound (by : JobSetting) : Type 0 where
  pub setting : IsSetting by
  pub bounded : IsBounded by.circuit

-- and of each of them, which is judged under the joint words of a job
pub record IsGood (by : JobSetting) (under job : List ℕ) : Type 0 where
  pub size : length job ≡ job_bytes_of by.shape
  pub words : job_bad_word by.shape job ≡ None
  pub place : place_fault by under job ≡ None

-- its encoding is valid under these
pub valid-under : (by : JobSetting) (under job : List ℕ) (proof : ℕ) → IsSetting by → IsGood by under job → proof < by.shape.proofs
    → IsValid by.circuit (job_encoding by job) (job_joint by.shape under proof)
valid-under by under job proof setting good below = valid-none by under job proof (place-none by under job setting good.place).1 below

-- its seeds are as many words as there are seeds
pub seeds-are : (by : JobSetting) (under job : List ℕ) (proof : ℕ) → IsSetting by → IsGood by under job → proof < by.shape.proofs
    → AreSeeds by.circuit (job_seeds by.shape job proof)
seeds-are by under job proof setting good below = record {
  words = seeds-good by.shape job proof below good.words;
  size = length-words by.shape.prove (seeds_in_job by.shape job proof) ∙ setting.shape.prove;
}

module _ (by : JobSetting) (job : List ℕ) (sound : IsSound by) (good : IsGood by job job) where
  abbrev shape : JobShape
  shape = by.shape

  -- ---- the encoding

  abbrev x : List ℕ
  x = job_encoding by job

  length-input : length (job_input shape job) ≡ input_count by.params by.circuit
  length-input = length-words shape.input (input_in shape job) ∙ sound.setting.shape.input

  not_refused : input_fault by.params (job_input shape job) ≡ None
  not_refused = (place-none by job job sound.setting good.place).0

  length-x : length x ≡ shape.meas
  length-x = length-encoding by.params by.circuit (job_input shape job) sound.setting.circuit length-input not_refused ∙ sym sound.setting.shape.of_record.meas

  words-x : AreWords x
  words-x =
      words-encoding by.params (job_input shape job) not_refused
      (λ (own : is_none by.params ≡ true). input-good shape job (sound.setting.shape.checked ∙ own) good.words)

  valid : (proof : ℕ) → proof < shape.proofs → IsValid by.circuit x (job_joint shape job proof)
  valid proof below = valid-under by job job proof sound.setting good below

  -- ---- its proofs

  are_seeds : (proof : ℕ) → proof < shape.proofs → AreSeeds by.circuit (job_seeds shape job proof)
  are_seeds proof below = seeds-are by job job proof sound.setting good below

  length-proof : (proof : ℕ) → proof < shape.proofs → length (job_proof by job proof) ≡ shape.proof
  length-proof proof below =
      honest_proof_has_length by.circuit x (job_joint shape job proof) (job_seeds shape job proof) sound.bounded (are_seeds proof below)
      ∙ sym sound.setting.shape.of_record.proof

  abbrev proofs : List ℕ
  proofs = flat_map (job_proof by job) (job_proofs shape)

  length-proofs : length proofs ≡ shape.proofs * shape.proof
  length-proofs = length-flat_below (job_proof by job) shape.proof 0 shape.proofs (λ (proof : ℕ) (first : 0 ≤ proof) (low : proof < 0 + shape.proofs). length-proof proof (omega arith))

  words-proofs : AreWords proofs
  words-proofs =
      All-flat IsWord (job_proof by job) 0 shape.proofs
      (λ (proof : ℕ) (low : proof < 0 + shape.proofs).
      let below : proof < shape.proofs = omega arith in
      words-honest by.circuit x (job_joint shape job proof) (job_seeds shape job proof) sound.bounded (seeds-good shape job proof below good.words))

  -- ---- what is shared

  abbrev unshared : List ℕ
  unshared = unshared_words by job

  length-unshared : length unshared ≡ job_part_of shape
  length-unshared = length-append x proofs ∙ ap₂ (λ (a b : ℕ). a + b) length-x length-proofs

  words-unshared : AreWords unshared
  words-unshared = All-append IsWord x proofs words-x words-proofs

  own-encoding : words_at 0 shape.meas unshared ≡ x
  own-encoding = take_at x proofs shape.meas length-x

  own-proof : (proof : ℕ) → proof < shape.proofs → words_at (shape.meas + proof * shape.proof) shape.proof unshared ≡ job_proof by job proof
  own-proof proof below =
      ap (λ (n : ℕ). words_at (n + proof * shape.proof) shape.proof unshared) (sym length-x)
      ∙ ap (λ (l : List ℕ). take shape.proof l) (drop-append-add x proofs (proof * shape.proof))
      ∙ flat-one (job_proof by job) shape.proof shape.proofs proof length-proof below

  -- ---- the shares

  abbrev shares : List ℕ
  shares = shares_of shape.shares unshared (given_words shape job)

  some : 0 < shape.shares
  some = omega (arith, sound.setting.some_shares)

  length-shares : length shares ≡ shape.shares * job_part_of shape
  length-shares =
      length-shares_of shape.shares unshared (given_words shape job) some
      (length-words ((shape.shares - 1) * job_part_of shape) (parts_in shape job) ∙ ap (λ (n : ℕ). (shape.shares - 1) * n) (sym length-unshared))
      ∙ ap (λ (n : ℕ). shape.shares * n) length-unshared

  words-shares : AreWords shares
  words-shares = words-shares_of shape.shares unshared (given_words shape job) (given-good shape job good.words)

  -- ---- the words of the record

  length-own : (proof : ℕ) → length (own_words shape job proof) ≡ shape.joint + shape.query
  length-own proof =
      length-append (job_joint shape job proof) (job_query shape job proof)
      ∙ ap₂ (λ (a b : ℕ). a + b) (length-words shape.joint (job_joint_in shape job proof)) (length-words shape.query (job_query_in shape job proof))

  abbrev owns : List ℕ
  owns = flat_map (own_words shape job) (job_proofs shape)

  words-owns : AreWords owns
  words-owns =
      All-flat IsWord (own_words shape job) 0 shape.proofs
      (λ (proof : ℕ) (low : proof < 0 + shape.proofs).
      let below : proof < shape.proofs = omega arith in
      All-append IsWord (job_joint shape job proof) (job_query shape job proof) (joint-good shape job proof below good.words) (query-good shape job proof below good.words))

  abbrev made : List ℕ
  made = made_words by job

  length-made : length made ≡ words_of (made_shape by)
  length-made =
      length-append shares owns
      ∙ ap₂ (λ (a b : ℕ). a + b) length-shares (length-flat (own_words shape job) (shape.joint + shape.query) shape.proofs length-own)

  words-made : AreWords made
  words-made = All-append IsWord shares owns words-shares words-owns

  length-nonce : length (take 16 job) ≡ 16
  length-nonce = length-take-le 16 job (omega (arith, good.size))

  -- the record has as many bytes as its shape says, and is read again
  pub length-record : length (record_made by job) ≡ bytes_of (made_shape by)
  length-record = length-append (take 16 job) (word_bytes made) ∙ omega (arith, length-nonce, length-made, length-word_bytes made)

  read : words_in (made_shape by) (record_made by job) ≡ made
  read =
      ap (λ (b : List ℕ). words (words_of (made_shape by)) b) (drop_at (take 16 job) (word_bytes made) 16 length-nonce)
      ∙ ap (λ (n : ℕ). words n (word_bytes made)) (sym length-made)
      ∙ words-word_bytes made (below-words made words-made)

  -- ---- what it keeps

  summed : sum_of_parts shape.shares (job_part_of shape) made ≡ unshared
  summed =
      sum_of_parts-front shape.shares (job_part_of shape) shares owns length-shares
      ∙ ap (λ (n : ℕ). sum_of_parts shape.shares n shares) (sym length-unshared)
      ∙ shares_sum_up shape.shares unshared (given_words shape job) some words-unshared

  kept-encoding : unshared_encoding (made_shape by) made ≡ x
  kept-encoding =
      sum-cut made (λ (share : ℕ). share * job_part_of shape) shape.shares (job_part_of shape) 0 shape.meas (λ (share : ℕ). omega arith) (omega arith)
      ∙ ap (λ (l : List ℕ). words_at 0 shape.meas l) summed
      ∙ own-encoding

  kept-proof : (proof : ℕ) → proof < shape.proofs → unshared_proof (made_shape by) made proof ≡ job_proof by job proof
  kept-proof proof below =
      let off : ℕ = shape.meas + proof * shape.proof in
      let fits : proof * shape.proof + shape.proof ≤ shape.proofs * shape.proof = part-fits proof shape.proofs shape.proof below in
      sum-cut made (λ (share : ℕ). share * job_part_of shape + off) shape.shares (job_part_of shape) off shape.proof (λ (share : ℕ). refl) (omega (arith, fits))
      ∙ ap (λ (l : List ℕ). words_at off shape.proof l) summed
      ∙ own-proof proof below

  -- words of a proof's own
  own-at : (proof off count : ℕ) → proof < shape.proofs → off + count ≤ shape.joint + shape.query
      → words_at (shape.shares * job_part_of shape + proof * (shape.joint + shape.query) + off) count made ≡ words_at off count (own_words shape job proof)
  own-at proof off count below fits =
      let place : shape.shares * job_part_of shape + proof * (shape.joint + shape.query) + off ≡ length shares + (proof * (shape.joint + shape.query) + off) =
      omega (arith, length-shares) in
      ap (λ (n : ℕ). words_at n count made) place
      ∙ ap (λ (l : List ℕ). take count l) (drop-append-add shares owns (proof * (shape.joint + shape.query) + off))
      ∙ words-flat (own_words shape job) (shape.joint + shape.query) shape.proofs proof off count length-own below fits

  kept-joint : (proof : ℕ) → proof < shape.proofs → joint_words (made_shape by) made proof ≡ job_joint shape job proof
  kept-joint proof below =
      let place : shape.shares * job_part_of shape + proof * (shape.joint + shape.query) ≡ shape.shares * job_part_of shape + proof * (shape.joint + shape.query) + 0 = omega arith in
      ap (λ (n : ℕ). words_at n shape.joint made) place
      ∙ own-at proof 0 shape.joint below (omega arith)
      ∙ take_at (job_joint shape job proof) (job_query shape job proof) shape.joint (length-words shape.joint (job_joint_in shape job proof))

  kept-query : (proof : ℕ) → proof < shape.proofs → query_words (made_shape by) made proof ≡ job_query shape job proof
  kept-query proof below =
      let long : length (job_query shape job proof) ≡ shape.query = length-words shape.query (job_query_in shape job proof) in
      own-at proof shape.joint shape.query below (omega arith)
      ∙ ap (λ (l : List ℕ). take shape.query l) (drop_at (job_joint shape job proof) (job_query shape job proof) shape.joint (length-words shape.joint (job_joint_in shape job proof)))
      ∙ take_all shape.query (job_query shape job proof) (omega (arith, long))

  keeps-made : KeepsJob by job made
  keeps-made = record {
    good = none-from_words 0 made words-made;
    encoding = kept-encoding;
    proofs = λ (proof : ℕ) (below : proof < shape.proofs). record {
      joint = kept-joint proof below;
      query = kept-query proof below;
      valid = valid proof below;
      honest = kept-proof proof below;
    };
  }

  honest-from : (report : List ℕ) → KeepsJob by job (words_in (made_shape by) report) → IsHonest by.circuit (made_shape by) report
  honest-from report keeps =
      λ (proof : ℕ) (below : proof < shape.proofs).
      let words = words_in (made_shape by) report in
      let kept : KeepsProof by job words proof = keeps.proofs proof below in
      let P : List ℕ → Type 0 = λ own. IsValid by.circuit own (job_joint shape job proof) in
      let Q : List ℕ → Type 0 = λ joint. IsValid by.circuit (unshared_encoding (made_shape by) words) joint in
      record {
        valid = subst Q (sym kept.joint) (subst P (sym keeps.encoding) kept.valid);
        seeds = job_seeds shape job proof;
        are_seeds = are_seeds proof below;
        honest = kept.honest ∙ ap₂ (λ (own joint : List ℕ). honest_proof by.circuit own joint (job_seeds shape job proof)) (sym keeps.encoding) (sym kept.joint);
      }

  pub honestly_made : IsHonestlyMade by job
  honestly_made =
      let keeps : KeepsJob by job (words_in (made_shape by) (record_made by job)) = subst (λ (words : List ℕ). KeepsJob by job words) (sym read) keeps-made in
      record { keeps = keeps; honest = honest-from (record_made by job) keeps }
