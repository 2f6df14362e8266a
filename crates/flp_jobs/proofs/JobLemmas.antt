-- The parts of a job: how long they are, and that they hold words of the field.
use Rattle.std.proofs.Common.{◌≡◌, ℕ, ◌+◌, ◌-◌, ◌*◌, ◌<◌, ◌≤◌, List, length, take, drop, None, true, false, if◌then◌else◌, Bool, refl, sym, ap, ap₂, subst, ◌∙◌, arith}
use Rattle.std.specs.List.{All}
use Rattle.std.proofs.lemmas.List.{drop-drop}
use Rattle.std.proofs.lemmas.List.Elements.{All-take, All-drop}
use Rattle.flp_field.specs.Word.{IsWord}
use Rattle.flp_field.proofs.WordLists.{words-from}
use Rattle.flp_meaning.proofs.PartLemmas.{length-words_at}
use Rattle.flp_report.specs.declared.job_shape.JobShape.{JobShape}
use Rattle.flp_report.specs.Words.{words}
use Rattle.flp_report.specs.Job.{job_part_of, job_words_of, job_bytes_of, free_words, job_bad_word}
use Rattle.flp_report.specs.JobParts.{input_in, parts_in, seeds_word, seeds_start, seeds_in_job, job_own_word, job_own_start, job_joint_in, job_query_in}
use Rattle.flp_report.proofs.WordPartsLemmas.{words-part, one_fits}
use Rattle.flp_jobs.specs.Encoding.{job_input, given_words, job_seeds, job_joint, job_query}

-- each of a part that begins behind those of any value is a word
pub part-good : (s : JobShape) (job : List ℕ) (n k place : ℕ) → job_bad_word s job ≡ None → free_words s ≤ k → k + n ≤ job_words_of s → place ≡ 16 + 8 * k
    → All IsWord (words n (take (8 * n) (drop place job)))
part-good s job n k place good behind fits at =
    let free : ℕ = free_words s in
    let all : List ℕ = words (job_words_of s - free) (drop (8 * free) (drop 16 job)) in
    let turned : drop 16 (drop (8 * free) job) ≡ drop (8 * free) (drop 16 job) =
    drop-drop 16 (8 * free) job ∙ (ap (λ (m : ℕ). drop m job) (omega arith) ∙ sym (drop-drop (8 * free) 16 job)) in
    let here : drop (place - 8 * free) (drop (8 * free) job) ≡ drop place job =
    drop-drop (place - 8 * free) (8 * free) job ∙ ap (λ (m : ℕ). drop m job) (omega arith) in
    let own : words n (take (8 * n) (drop place job)) ≡ take n (drop (k - free) all) =
    ap (λ (b : List ℕ). words n (take (8 * n) b)) (sym here)
    ∙ (words-part n (k - free) (job_words_of s - free) 16 (place - 8 * free) (drop (8 * free) job) (omega arith) (omega arith)
    ∙ ap (λ (b : List ℕ). take n (drop (k - free) (words (job_words_of s - free) b))) turned) in
    subst (λ (l : List ℕ). All IsWord l) (sym own) (All-take IsWord n (drop (k - free) all) (All-drop IsWord (k - free) all (words-from free all good)))

-- no more words of a job have any value than its input has
pub free-few : (s : JobShape) → free_words s ≤ s.input
free-few s = few s.checked
  where
    few : (b : Bool) → (if b then 0 else s.input) ≤ s.input
    few true = omega arith
    few false = omega arith

free-none : (s : JobShape) → s.checked ≡ true → free_words s ≡ 0
free-none s checked = ap (λ (b : Bool). if b then 0 else s.input) checked

-- ---- the words of each part

pub input-good : (s : JobShape) (job : List ℕ) → s.checked ≡ true → job_bad_word s job ≡ None → All IsWord (job_input s job)
input-good s job checked good =
    part-good s job s.input 0 16 good (omega (arith, free-none s checked)) (omega arith) refl

pub given-good : (s : JobShape) (job : List ℕ) → job_bad_word s job ≡ None → All IsWord (given_words s job)
given-good s job good =
    part-good s job ((s.shares - 1) * job_part_of s) s.input (16 + 8 * s.input) good (free-few s) (omega arith) refl

pub seeds-good : (s : JobShape) (job : List ℕ) (proof : ℕ) → proof < s.proofs → job_bad_word s job ≡ None → All IsWord (job_seeds s job proof)
seeds-good s job proof below good =
    let fits = one_fits proof s.proofs s.prove (s.input + (s.shares - 1) * job_part_of s) below in
    part-good s job s.prove (seeds_word s proof) (seeds_start s proof) good (omega (arith, free-few s)) (omega (arith, fits)) refl

-- the own words of a proof are within those of all
own-fits : (s : JobShape) (proof : ℕ) → proof < s.proofs → job_own_word s proof + (s.joint + s.query) ≤ job_words_of s
own-fits s proof below = one_fits proof s.proofs (s.joint + s.query) (s.input + (s.shares - 1) * job_part_of s + s.proofs * s.prove) below

pub joint-good : (s : JobShape) (job : List ℕ) (proof : ℕ) → proof < s.proofs → job_bad_word s job ≡ None → All IsWord (job_joint s job proof)
joint-good s job proof below good =
    part-good s job s.joint (job_own_word s proof) (job_own_start s proof) good (omega (arith, free-few s)) (omega (arith, own-fits s proof below)) refl

pub query-good : (s : JobShape) (job : List ℕ) (proof : ℕ) → proof < s.proofs → job_bad_word s job ≡ None → All IsWord (job_query s job proof)
query-good s job proof below good =
    part-good s job s.query (job_own_word s proof + s.joint) (job_own_start s proof + 8 * s.joint) good (omega (arith, free-few s))
    (omega (arith, own-fits s proof below)) (omega arith)

-- ---- the bytes of each part

pub length-input : (s : JobShape) (job : List ℕ) → length job ≡ job_bytes_of s → length (input_in s job) ≡ 8 * s.input
length-input s job whole = length-words_at 16 (8 * s.input) job (omega (arith, whole))

pub length-parts : (s : JobShape) (job : List ℕ) → length job ≡ job_bytes_of s → length (parts_in s job) ≡ 8 * ((s.shares - 1) * job_part_of s)
length-parts s job whole = length-words_at (16 + 8 * s.input) (8 * ((s.shares - 1) * job_part_of s)) job (omega (arith, whole))

pub length-seeds : (s : JobShape) (job : List ℕ) (proof : ℕ) → proof < s.proofs → length job ≡ job_bytes_of s → length (seeds_in_job s job proof) ≡ 8 * s.prove
length-seeds s job proof below whole =
    let fits = one_fits proof s.proofs s.prove (s.input + (s.shares - 1) * job_part_of s) below in
    length-words_at (seeds_start s proof) (8 * s.prove) job (omega (arith, whole, fits))

pub length-joint : (s : JobShape) (job : List ℕ) (proof : ℕ) → proof < s.proofs → length job ≡ job_bytes_of s → length (job_joint_in s job proof) ≡ 8 * s.joint
length-joint s job proof below whole =
    length-words_at (job_own_start s proof) (8 * s.joint) job (omega (arith, whole, own-fits s proof below))

pub length-query : (s : JobShape) (job : List ℕ) (proof : ℕ) → proof < s.proofs → length job ≡ job_bytes_of s → length (job_query_in s job proof) ≡ 8 * s.query
length-query s job proof below whole =
    length-words_at (job_own_start s proof + 8 * s.joint) (8 * s.query) job (omega (arith, whole, own-fits s proof below))

-- ---- what is read of a part

-- a part of this many words, read for as many places
pub read-size : (read part : List ℕ) (n m : ℕ) → read ≡ part → n ≡ m → length part ≡ 8 * m → length read ≡ 8 * n
read-size read part n m is count size = ap length is ∙ (size ∙ ap (λ (k : ℕ). 8 * k) (sym count))

pub read-good : (read part : List ℕ) (n m : ℕ) → read ≡ part → n ≡ m → All IsWord (words m part) → All IsWord (words n read)
read-good read part n m is count good = subst (λ (l : List ℕ). All IsWord l) (sym (ap₂ words count is)) good

-- the job has this proof, by the shape that it was made for
pub own-proof : (given shape : JobShape) (proof : ℕ) → given ≡ shape → proof < shape.proofs → proof < given.proofs
own-proof given shape proof same below = subst (λ (s : JobShape). proof < s.proofs) (sym same) below

pub shape-good : (given shape : JobShape) (job : List ℕ) → given ≡ shape → job_bad_word shape job ≡ None → job_bad_word given job ≡ None
shape-good given shape job same good = subst (λ (s : JobShape). job_bad_word s job ≡ None) (sym same) good
