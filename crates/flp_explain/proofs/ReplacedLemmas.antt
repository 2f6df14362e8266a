-- A record with another query word: what is read of it, and which of its parts are as they were.
use Rattle.std.proofs.Common.{ℕ, zero, suc, ◌≡◌, ◌+◌, ◌-◌, ◌*◌, ◌^◌, ◌<◌, ◌≤◌, List, [], ◌∷◌, ◌++◌, length, take, drop, map, refl, ap, ap₂, sym, ◌∙◌, arith}
use Rattle.std.specs.Prelude.{slice_set, All}
use Rattle.std.specs.List.{range_with_len}
use Rattle.std.proofs.lemmas.List.{length-take, drop_at, length-set, drop-set-add, take-set-le}
use Rattle.std.proofs.lemmas.List.Elements.{All-head, All-tail, All-set}
use Rattle.std.proofs.Math.Seq.{take-set-lt}
use Rattle.byteorder.specs.Endian.{little_bytes, little_number}
use Rattle.byteorder.specs.Numbers.{little_number-reads_back}
use Rattle.flp_field.specs.Word.{IsWord}
use Rattle.flp_field.specs.Sums.{sum_of_lists}
use Rattle.flp_meaning.specs.Proof.{words_at}
use Rattle.flp_report.specs.declared.shape.Shape.{Shape}
use Rattle.flp_report.specs.Shape.{part_words, words_of, words_start, bytes_of}
use Rattle.flp_report.specs.Record.{words_in, own_word}
use Rattle.flp_report.specs.Words.{words}
use Rattle.flp_report.specs.Layout.{word_bytes}
use Rattle.flp_worker.specs.Parts.{share_encoding, share_proof, joint_words, query_words, unshared_encoding, unshared_proof}
use Rattle.flp_worker.proofs.PrefixLemmas.{part-fits}
use Rattle.flp_worker.proofs.PartLemmas.{length-words_in}
use Rattle.flp_explain.specs.Laws.{query_word, with_query_word}

-- ---- words that are written are read again

words-written : (ws : List ℕ) → All IsWord ws → words (length ws) (word_bytes ws) ≡ ws
words-written [] all = refl
words-written (w ∷ ws) all =
    let word : IsWord w = All-head IsWord w ws all in
    let below : w < 256 ^ 8 = omega (arith, word) in
    let number : little_number 8 (little_bytes 8 w ++ word_bytes ws) ≡ w = little_number-reads_back 8 w (word_bytes ws) below in
    let behind : drop 8 (little_bytes 8 w ++ word_bytes ws) ≡ word_bytes ws = drop_at (little_bytes 8 w) (word_bytes ws) 8 refl in
    let rest = words-written ws (All-tail IsWord w ws all) in
    ap (λ (n : ℕ). n ∷ words (length ws) (drop 8 (little_bytes 8 w ++ word_bytes ws))) number
    ∙ (ap (λ (b : List ℕ). w ∷ words (length ws) b) behind
    ∙ ap (λ (l : List ℕ). w ∷ l) rest)

-- so are those of a record
read-written : (shape : Shape) (front ws : List ℕ) → length front ≡ words_start shape → length ws ≡ words_of shape → All IsWord ws
    → words_in shape (front ++ word_bytes ws) ≡ ws
read-written shape front ws size count all =
    ap (λ (b : List ℕ). words (words_of shape) b) (drop_at front (word_bytes ws) (words_start shape) size)
    ∙ ap (λ (n : ℕ). words n (word_bytes ws)) (sym count)
    ∙ words-written ws all

pub words-replaced : (shape : Shape) (bytes : List ℕ) (proof number value : ℕ) → length bytes ≡ bytes_of shape → All IsWord (words_in shape bytes) → IsWord value
    → words_in shape (with_query_word shape bytes proof number value) ≡ slice_set (words_in shape bytes) (query_word shape proof number) value
words-replaced shape bytes proof number value size all word =
    let place : ℕ = query_word shape proof number in
    let count : length (slice_set (words_in shape bytes) place value) ≡ words_of shape =
    length-set (words_in shape bytes) place value ∙ length-words_in shape bytes in
    read-written shape (take (words_start shape) bytes) (slice_set (words_in shape bytes) place value)
    (omega (arith, length-take (words_start shape) bytes, size)) count (All-set IsWord (words_in shape bytes) place value word all)

-- ---- parts of a list in which one word is replaced

-- in front of that word all is as it was
part-before : (start count place value : ℕ) (ws : List ℕ) → start + count ≤ place → words_at start count (slice_set ws place value) ≡ words_at start count ws
part-before start count place value ws before =
    let behind : place ≡ start + (place - start) = omega arith in
    let inside : count ≤ place - start = omega arith in
    ap (λ (p : ℕ). words_at start count (slice_set ws p value)) behind
    ∙ ap (λ (l : List ℕ). take count l) (drop-set-add start ws (place - start) value)
    ∙ take-set-le count (drop start ws) (place - start) value inside

-- a part with that word has it in its place
part-around : (start count number value : ℕ) (ws : List ℕ) → number < count
    → words_at start count (slice_set ws (start + number) value) ≡ slice_set (words_at start count ws) number value
part-around start count number value ws inside =
    ap (λ (l : List ℕ). take count l) (drop-set-add start ws number value)
    ∙ take-set-lt count (drop start ws) number value inside

-- what is the same of each number
pub map-same : (f g : ℕ → List ℕ) (start count : ℕ) → ((k : ℕ) → k < start + count → f k ≡ g k) → map f (range_with_len start count) ≡ map g (range_with_len start count)
map-same f g start zero same = refl
map-same f g start (suc count) same =
    ap₂ (λ (x : List ℕ) (l : List (List ℕ)). x ∷ l) (same start (omega arith))
    (map-same f g (start + 1) count (λ k below. same k (omega arith)))

-- ---- the parts of a record

-- a share's part ends in front of each query word
share-before : (shape : Shape) (share proof number : ℕ) → share < shape.shares → share * part_words shape + part_words shape ≤ query_word shape proof number
share-before shape share proof number below =
    let fits : share * part_words shape + part_words shape ≤ shape.shares * part_words shape = part-fits share shape.shares (part_words shape) below in
    omega (arith, fits)

pub encoding-kept : (shape : Shape) (ws : List ℕ) (proof number value : ℕ)
    → unshared_encoding shape (slice_set ws (query_word shape proof number) value) ≡ unshared_encoding shape ws
encoding-kept shape ws proof number value =
    let place : ℕ = query_word shape proof number in
    ap (λ (lists : List (List ℕ)). sum_of_lists shape.meas lists)
    (map-same (share_encoding shape (slice_set ws place value)) (share_encoding shape ws) 0 shape.shares
    (λ share below.
    let before : share * part_words shape + part_words shape ≤ place = share-before shape share proof number (omega (arith, below)) in
    part-before (share * part_words shape) shape.meas place value ws (omega (arith, before))))

pub proof-kept : (shape : Shape) (ws : List ℕ) (proof number value : ℕ) → proof < shape.proofs
    → unshared_proof shape (slice_set ws (query_word shape proof number) value) proof ≡ unshared_proof shape ws proof
proof-kept shape ws proof number value inside =
    let place : ℕ = query_word shape proof number in
    let fits : proof * shape.proof + shape.proof ≤ shape.proofs * shape.proof = part-fits proof shape.proofs shape.proof inside in
    ap (λ (lists : List (List ℕ)). sum_of_lists shape.proof lists)
    (map-same (share_proof shape (slice_set ws place value) proof) (share_proof shape ws proof) 0 shape.shares
    (λ share below.
    let before : share * part_words shape + part_words shape ≤ place = share-before shape share proof number (omega (arith, below)) in
    part-before (share * part_words shape + (shape.meas + proof * shape.proof)) shape.proof place value ws (omega (arith, before, fits))))

pub joint-kept : (shape : Shape) (ws : List ℕ) (proof number value : ℕ)
    → joint_words shape (slice_set ws (query_word shape proof number) value) proof ≡ joint_words shape ws proof
joint-kept shape ws proof number value =
    part-before (own_word shape proof) shape.joint (query_word shape proof number) value ws (omega arith)

pub query-replaced : (shape : Shape) (ws : List ℕ) (proof number value : ℕ) → number < shape.query
    → query_words shape (slice_set ws (query_word shape proof number) value) proof ≡ slice_set (query_words shape ws proof) number value
query-replaced shape ws proof number value inside =
    part-around (own_word shape proof + shape.joint) shape.query number value ws inside
