-- A report that is written is read again, and so is a batch of them.
use Rattle.std.proofs.Common.{◌≡◌, ℕ, ◌+◌, ◌*◌, ◌^◌, ◌<◌, ◌≤◌, ◌==◌, List, [], ◌∷◌, ◌++◌, length, take, drop, map, Bool, true, false, Option, Some, None, refl, sym, ap, ◌∙◌, arith, append_assoc, length-append}
use Rattle.std.specs.Prelude.{if◌then◌else◌}
use Rattle.std.specs.List.{All, concat}
use Rattle.std.proofs.lemmas.Bool.{eq-eqb, ne_eqb}
use Rattle.std.proofs.lemmas.List.{take_at, drop_at, length-map}
use Rattle.std.proofs.lemmas.List.Elements.{All-head, All-tail, All-map, All-weaker}
use Rattle.byteorder.specs.Endian.{little_bytes, little_number}
use Rattle.byteorder.specs.Numbers.{little_number-reads_back}
use Rattle.flp_report.specs.declared.header.Header.{Header}
use Rattle.flp_report.specs.declared.shape.Shape.{Shape}
use Rattle.flp_report.specs.Shape.{words_of, words_start, bytes_of}
use Rattle.flp_report.specs.Head.{number_at}
use Rattle.flp_report.specs.Record.{bucket_in, bucket_read}
use Rattle.flp_report.specs.Buckets.{HasBucket}
use Rattle.flp_report.specs.Pieces.{pieces, fall_in}
use Rattle.flp_report.specs.Words.{words}
use Rattle.flp_report.specs.Batch.{large_fault}
use Rattle.flp_report.specs.Layout.{head_bytes, word_bytes, bucket_bytes, IsWritable}
use Rattle.flp_report.specs.Report.{WrittenReport, FitsBucket, IsReport, record_written, report_read, ReadsAs}
use Rattle.flp_report.proofs.ShapeLemmas.{start_two, start_other}
use Rattle.flp_report.proofs.BackLemmas.{reads_back}

-- words that are written are read again
pub words-word_bytes : (ws : List ℕ) → All (λ w. w < 2 ^ 64) ws → words (length ws) (word_bytes ws) ≡ ws
words-word_bytes [] all = refl
words-word_bytes (w ∷ ws) all =
    let below : w < 256 ^ 8 = omega (arith, All-head (λ n. n < 2 ^ 64) w ws all) in
    let number : little_number 8 (little_bytes 8 w ++ word_bytes ws) ≡ w = little_number-reads_back 8 w (word_bytes ws) below in
    let behind : drop 8 (little_bytes 8 w ++ word_bytes ws) ≡ word_bytes ws = drop_at (little_bytes 8 w) (word_bytes ws) 8 refl in
    let rest = words-word_bytes ws (All-tail (λ n. n < 2 ^ 64) w ws all) in
    ap (λ (n : ℕ). n ∷ words (length ws) (drop 8 (little_bytes 8 w ++ word_bytes ws))) number
    ∙ (ap (λ (b : List ℕ). w ∷ words (length ws) b) behind
    ∙ ap (λ (l : List ℕ). w ∷ l) rest)

-- each of them takes 8 bytes
pub length-word_bytes : (ws : List ℕ) → length (word_bytes ws) ≡ 8 * length ws
length-word_bytes [] = refl
length-word_bytes (w ∷ ws) =
    let first : length (little_bytes 8 w) ≡ 8 = refl in
    let rest = length-word_bytes ws in
    omega (arith, length-append (little_bytes 8 w) (word_bytes ws), first, rest)

-- the bytes of a bucket fill what stands between the nonce and the words
bucket_with-size : (two : Bool) (bucket : ℕ) → 16 + length (bucket_bytes (if two then Some bucket else None)) ≡ (if two then 20 else 16)
bucket_with-size true bucket = refl
bucket_with-size false bucket = refl

pub bucket_read-size : (shape : Shape) (bytes : List ℕ) → 16 + length (bucket_bytes (bucket_read shape bytes)) ≡ words_start shape
bucket_read-size shape bytes = bucket_with-size (shape.version == 2) (bucket_in shape bytes)

-- the bytes of a bucket, and what is read of them, by the version of the shape
pub record ReadsBucket (shape : Shape) (bucket : Option ℕ) (nonce tail : List ℕ) : Type 0 where
  pub size : 16 + length (bucket_bytes bucket) ≡ words_start shape
  pub given : bucket_in shape (nonce ++ (bucket_bytes bucket ++ tail)) < shape.buckets
  pub read : bucket_read shape (nonce ++ (bucket_bytes bucket ++ tail)) ≡ bucket

reads_bucket : (shape : Shape) (bucket : Option ℕ) (nonce tail : List ℕ) → length nonce ≡ 16 → 1 ≤ shape.buckets → shape.buckets ≤ 256 → FitsBucket shape bucket → ReadsBucket shape bucket nonce tail
reads_bucket shape None nonce tail size least most other =
    let test = ne_eqb shape.version 2 other in
    let bytes = nonce ++ tail in
    let none : bucket_in shape bytes ≡ 0 = ap (λ (b : Bool). if b then number_at 16 bytes else 0) test in
    record {
      size = sym (start_other shape other);
      given = omega (arith, none, least);
      read = ap (λ (b : Bool). if b then Some (bucket_in shape bytes) else None) test;
    }
reads_bucket shape (Some bucket) nonce tail size least most (two, below) =
    let test = eq-eqb shape.version 2 two in
    let bytes = nonce ++ (little_bytes 4 bucket ++ tail) in
    let few : bucket < 256 ^ 4 = omega (arith, below, most) in
    let behind : drop 16 bytes ≡ little_bytes 4 bucket ++ tail = drop_at nonce (little_bytes 4 bucket ++ tail) 16 size in
    let number : number_at 16 bytes ≡ bucket = ap (little_number 4) behind ∙ little_number-reads_back 4 bucket tail few in
    let same : bucket_in shape bytes ≡ bucket = ap (λ (b : Bool). if b then number_at 16 bytes else 0) test ∙ number in
    record {
      size = sym (start_two shape two);
      given = omega (arith, same, below);
      read = ap (λ (b : Bool). if b then Some (bucket_in shape bytes) else None) test ∙ ap (λ (n : ℕ). Some n) same;
    }

-- the record that is written of a report has the shape's bytes, and its bucket is one of the shape's
length-written : (shape : Shape) (r : WrittenReport) → 1 ≤ shape.buckets → shape.buckets ≤ 256 → IsReport shape r → length (record_written r) ≡ bytes_of shape
length-written shape r least most is =
    let words = word_bytes r.words in
    let b = reads_bucket shape r.bucket r.nonce words is.nonce least most is.bucket in
    let all = length-append r.nonce (bucket_bytes r.bucket ++ words) in
    let more = length-append (bucket_bytes r.bucket) words in
    omega (arith, all, more, b.size, is.nonce, is.count, length-word_bytes r.words)

placed-written : (shape : Shape) (r : WrittenReport) → 1 ≤ shape.buckets → shape.buckets ≤ 256 → IsReport shape r → HasBucket shape (record_written r)
placed-written shape r least most is = (reads_bucket shape r.bucket r.nonce (word_bytes r.words) is.nonce least most is.bucket).given

-- and is read as that report
report_read-written : (shape : Shape) (r : WrittenReport) → 1 ≤ shape.buckets → shape.buckets ≤ 256 → IsReport shape r → report_read shape (record_written r) ≡ r
report_read-written shape r least most is =
    let bytes = word_bytes r.words in
    let b = reads_bucket shape r.bucket r.nonce bytes is.nonce least most is.bucket in
    let front : take 16 (record_written r) ≡ r.nonce = take_at r.nonce (bucket_bytes r.bucket ++ bytes) 16 is.nonce in
    let long : length (r.nonce ++ bucket_bytes r.bucket) ≡ words_start shape = omega (arith, length-append r.nonce (bucket_bytes r.bucket), b.size, is.nonce) in
    let behind : drop (words_start shape) (record_written r) ≡ bytes =
    ap (λ (l : List ℕ). drop (words_start shape) l) (sym (append_assoc r.nonce (bucket_bytes r.bucket) bytes)) ∙ drop_at (r.nonce ++ bucket_bytes r.bucket) bytes (words_start shape) long in
    let same : words (words_of shape) (drop (words_start shape) (record_written r)) ≡ r.words =
    ap (λ (l : List ℕ). words (words_of shape) l) behind ∙ (ap (λ (n : ℕ). words n bytes) (sym is.count) ∙ words-word_bytes r.words is.below) in
    λ i. record { nonce = front i; bucket = b.read i; words = same i }

-- so are all of them
all-written : (shape : Shape) (reports : List WrittenReport) → 1 ≤ shape.buckets → shape.buckets ≤ 256 → All (IsReport shape) reports → All (λ r. length r ≡ bytes_of shape) (map record_written reports)
all-written shape reports least most all =
    let size = λ (b : List ℕ). length b ≡ bytes_of shape in
    All-map size record_written reports (All-weaker (IsReport shape) (λ r. size (record_written r)) (λ r is. length-written shape r least most is) reports all)

all-placed : (shape : Shape) (reports : List WrittenReport) → 1 ≤ shape.buckets → shape.buckets ≤ 256 → All (IsReport shape) reports → All (HasBucket shape) (map record_written reports)
all-placed shape reports least most all =
    All-map (HasBucket shape) record_written reports (All-weaker (IsReport shape) (λ r. HasBucket shape (record_written r)) (λ r is. placed-written shape r least most is) reports all)

all-read : (shape : Shape) (reports : List WrittenReport) → 1 ≤ shape.buckets → shape.buckets ≤ 256 → All (IsReport shape) reports → map (report_read shape) (map record_written reports) ≡ reports
all-read shape [] least most all = refl
all-read shape (r ∷ rest) least most all =
    ap (λ (x : WrittenReport). x ∷ map (report_read shape) (map record_written rest)) (report_read-written shape r least most (All-head (IsReport shape) r rest all))
    ∙ ap (λ (l : List WrittenReport). r ∷ l) (all-read shape rest least most (All-tail (IsReport shape) r rest all))

-- a batch that is written is read again as the same batch
pub ReadsAs-written : (newest : ℕ) (party : Option ℕ) (shape : Shape) (h : Header) (claims : List ℕ) (reports : List WrittenReport)
    → IsWritable newest party h → shape.buckets ≡ h.buckets → large_fault shape h.claims ≡ None
    → length claims ≡ 16 * h.claims → fall_in (pieces 16 h.claims claims) ≡ None
    → All (IsReport shape) reports → length reports ≡ h.reports
    → ReadsAs newest party shape ((head_bytes h ++ claims) ++ concat (map record_written reports)) h (pieces 16 h.claims claims) reports
ReadsAs-written newest party shape h claims reports w same fits size rising all count =
    let records = map record_written reports in
    let least : 1 ≤ shape.buckets = omega (arith, same, w.limits.least_buckets) in
    let most : shape.buckets ≤ 256 = omega (arith, same, w.limits.most_buckets) in
    let back = reads_back newest party shape h claims records w fits size rising (all-written shape reports least most all) (all-placed shape reports least most all) (length-map reports record_written ∙ count) in
    record {
      no_fault = back.0;
      begins = back.1;
      counted = back.2;
      holds = ap (λ (l : List (List ℕ)). map (report_read shape) l) back.3 ∙ all-read shape reports least most all;
    }
