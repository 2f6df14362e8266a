-- What is written as a batch is read as the same batch.
use Rattle.std.proofs.Common.{◌≡◌, ◌≢◌, ℕ, ◌*◌, ◌^◌, ◌<◌, ◌≤◌, ◌==◌, List, [], ◌∷◌, ◌++◌, length, drop, Bool, true, Option, Some, None, nat_eq, refl, sym, ap, subst, ◌∙◌, ⊎_elim, arith, append_assoc, append-nil}
use Rattle.std.specs.Prelude.{IfSome, if◌then◌else◌}
use Rattle.std.specs.List.{All, concat, starts_with, flat_map}
use Rattle.std.proofs.lemmas.Bool.{le-ltb, lt-leb, eq-eqb, ne_eqb, cases_eq}
use Rattle.std.proofs.lemmas.List.{drop_at}
use Rattle.byteorder.specs.Endian.{little_bytes, little_number}
use Rattle.byteorder.specs.Numbers.{little_number-reads_back}
use Rattle.flp_report.specs.declared.header.Header.{Header}
use Rattle.flp_report.specs.declared.shape.Shape.{Shape}
use Rattle.flp_report.specs.Shape.{bytes_of}
use Rattle.flp_report.specs.Head.{number_at, party_fault, numbers_fault, IsStart}
use Rattle.flp_report.specs.Pieces.{pieces, fall_in}
use Rattle.flp_report.specs.Buckets.{HasBucket}
use Rattle.flp_report.specs.Batch.{batch_letters, IsBucketsPart, header_of, large_fault, fault_of, claims_of, whole_records, IsHead, IsFront}
use Rattle.flp_report.specs.Layout.{head_bytes, IsWritable}
use Rattle.flp_report.proofs.BatchHeadLemmas.{says, header_of-more, no_part, four_part, IsHead-joined}
use Rattle.flp_report.proofs.LawLemmas.{fault_of-records, records_fault-none, whole_records-all}
use Rattle.flp_report.proofs.PiecesLemmas.{pieces-append}

-- a party with a share has no fault
party_fault-none : (party : Option ℕ) (shares : ℕ) → IfSome party (λ p. p < shares) → party_fault party shares ≡ None
party_fault-none None shares own = refl
party_fault-none (Some p) shares own = rw (lt-leb shares p own) refl

-- numbers within their limits have no fault
numbers_fault-none : (letters : List ℕ) (newest : ℕ) (party : Option ℕ) (bytes : List ℕ) → starts_with nat_eq bytes letters ≡ true → IsStart newest party bytes → numbers_fault letters newest party bytes ≡ None
numbers_fault-none letters newest party bytes begins s =
    rw (
      begins,
      le-ltb (number_at 8 bytes) 1 s.least_version,
      le-ltb newest (number_at 8 bytes) s.most_version,
      le-ltb (number_at 12 bytes) 2 s.least_shares,
      le-ltb 16 (number_at 12 bytes) s.most_shares,
      le-ltb (number_at 16 bytes) 1 s.least_proofs,
      le-ltb 16 (number_at 16 bytes) s.most_proofs,
      party_fault-none party (number_at 12 bytes) s.own_share,
      le-ltb 65536 (number_at 20 bytes) s.text,
    )
    refl

-- the first 32 bytes
abbrev pub start_bytes : Header → List ℕ
start_bytes h = batch_letters ++ flat_map (little_bytes 4) (h.version ∷ h.shares ∷ h.proofs ∷ length h.text ∷ h.claims ∷ h.reports ∷ [])

-- the numbers that stand there
record Starts (h : Header) : Type 0 where
  version : number_at 8 (start_bytes h) ≡ h.version
  shares : number_at 12 (start_bytes h) ≡ h.shares
  proofs : number_at 16 (start_bytes h) ≡ h.proofs
  text : number_at 20 (start_bytes h) ≡ length h.text
  claims : number_at 24 (start_bytes h) ≡ h.claims
  reports : number_at 28 (start_bytes h) ≡ h.reports

starts : (newest : ℕ) (party : Option ℕ) (h : Header) → IsWritable newest party h → Starts h
starts newest party h w =
    let v : h.version < 256 ^ 4 = omega (arith, w.limits.most_version, w.newest_is) in
    let e : h.shares < 256 ^ 4 = omega (arith, w.limits.most_shares) in
    let f : h.proofs < 256 ^ 4 = omega (arith, w.limits.most_proofs) in
    let t : length h.text < 256 ^ 4 = omega (arith, w.limits.text) in
    let k : h.claims < 256 ^ 4 = omega (arith, w.claims) in
    let r : h.reports < 256 ^ 4 = omega (arith, w.reports) in
    let n = little_bytes 4 in
    record {
      version = little_number-reads_back 4 h.version (flat_map n (h.shares ∷ h.proofs ∷ length h.text ∷ h.claims ∷ h.reports ∷ [])) v;
      shares = little_number-reads_back 4 h.shares (flat_map n (h.proofs ∷ length h.text ∷ h.claims ∷ h.reports ∷ [])) e;
      proofs = little_number-reads_back 4 h.proofs (flat_map n (length h.text ∷ h.claims ∷ h.reports ∷ [])) f;
      text = little_number-reads_back 4 (length h.text) (flat_map n (h.claims ∷ h.reports ∷ [])) t;
      claims = little_number-reads_back 4 h.claims (flat_map n (h.reports ∷ [])) k;
      reports = little_number-reads_back 4 h.reports [] r;
    }

-- the bytes of the number of buckets, which follow them in version 2
abbrev part_of : Header → List ℕ
part_of h = flat_map (little_bytes 4) (if h.version == 2 then h.buckets ∷ [] else [])

is_part : (h : Header) → 1 ≤ h.buckets → h.buckets ≤ 256 → (h.version ≢ 2 → h.buckets ≡ 1) → IsBucketsPart h.version (part_of h) h.buckets
is_part h least most one =
    let part : Bool → List ℕ = λ b. flat_map (little_bytes 4) (if b then h.buckets ∷ [] else []) in
    ⊎_elim
    (λ (two : h.version ≡ 2).
    let same : part_of h ≡ little_bytes 4 h.buckets = ap part (eq-eqb h.version 2 two) in
    let below : h.buckets < 256 ^ 4 = omega (arith, most) in
    let number : little_number 4 (little_bytes 4 h.buckets) ≡ h.buckets = little_number-reads_back 4 h.buckets [] below in
    let P : ℕ → Type 0 = λ n. 1 ≤ n in
    let Q : ℕ → Type 0 = λ n. n ≤ 256 in
    let is = four_part h.version (little_bytes 4 h.buckets) two refl (subst P (sym number) least) (subst Q (sym number) most) in
    subst (λ (b : List ℕ). IsBucketsPart h.version b h.buckets) (sym same) (subst (IsBucketsPart h.version (little_bytes 4 h.buckets)) number is))
    (λ (other : h.version ≡ 2 → ⊥).
    let same : part_of h ≡ [] = ap part (ne_eqb h.version 2 other) in
    subst (λ (b : List ℕ). IsBucketsPart h.version b h.buckets) (sym same) (subst (IsBucketsPart h.version []) (sym (one other)) (no_part h.version other)))
    (cases_eq h.version 2)

-- a header that is written is read again
pub IsHead-written : (newest : ℕ) (party : Option ℕ) (h : Header) → IsWritable newest party h → IsHead newest party (head_bytes h) h
IsHead-written newest party h w =
    let s = starts newest party h w in
    let begins : starts_with nat_eq (start_bytes h) batch_letters ≡ true = refl in
    let limits : IsStart newest party (start_bytes h) = record {
      least_version = rw s.version w.limits.least_version;
      most_version = rw s.version w.limits.most_version;
      least_shares = rw s.shares w.limits.least_shares;
      most_shares = rw s.shares w.limits.most_shares;
      least_proofs = rw s.proofs w.limits.least_proofs;
      most_proofs = rw s.proofs w.limits.most_proofs;
      own_share = rw s.shares w.limits.own_share;
      text = rw s.text w.limits.text;
    } in
    let none = numbers_fault-none batch_letters newest party (start_bytes h) begins limits in
    let part = is_part h w.limits.least_buckets w.limits.most_buckets w.limits.one_bucket in
    let own : IsBucketsPart (number_at 8 (start_bytes h)) (part_of h) h.buckets = subst (λ (v : ℕ). IsBucketsPart v (part_of h) h.buckets) (sym s.version) part in
    let joined = IsHead-joined newest party (start_bytes h) (part_of h) h.text h.buckets refl none own (sym s.text) in
    let bytes : head_bytes h ≡ start_bytes h ++ (part_of h ++ h.text) = append_assoc (start_bytes h) (part_of h) h.text in
    subst (λ (b : List ℕ). IsHead newest party b h) (sym bytes)
    (rw (s.version, s.shares, s.proofs, s.claims, s.reports) at joined)

-- the old claims of a file, whatever follows them
pub claims_of-more : (newest : ℕ) (party : Option ℕ) (front claims rest : List ℕ) (h : Header) → IsHead newest party front h → length claims ≡ 16 * h.claims
    → claims_of (front ++ (claims ++ rest)) ≡ pieces 16 h.claims claims
claims_of-more newest party front claims rest h head size =
    let s = says newest party front (claims ++ rest) h head in
    let behind : drop (length front) (front ++ (claims ++ rest)) ≡ claims ++ rest = drop_at front (claims ++ rest) (length front) refl in
    let fit : h.claims * 16 ≤ length claims = omega (arith, size) in
    rw (s.text, s.claims, behind) (pieces-append 16 h.claims claims rest fit)

-- what the calls gave in front of the records
pub IsFront-read : (newest : ℕ) (party : Option ℕ) (shape : Shape) (front claims : List ℕ) (h : Header) → IsHead newest party front h
    → large_fault shape h.claims ≡ None → length claims ≡ 16 * h.claims → fall_in (pieces 16 h.claims claims) ≡ None
    → IsFront newest party shape (front ++ claims) h
IsFront-read newest party shape front claims h head fits size rising =
    record { head = front; claims = claims; is = refl; says = head; fits = fits; size = size; rising = rising }

-- a batch that is written is read again
pub reads_back : (newest : ℕ) (party : Option ℕ) (shape : Shape) (h : Header) (claims : List ℕ) (records : List (List ℕ))
    → IsWritable newest party h → large_fault shape h.claims ≡ None
    → length claims ≡ 16 * h.claims → fall_in (pieces 16 h.claims claims) ≡ None
    → All (λ r. length r ≡ bytes_of shape) records → All (HasBucket shape) records → length records ≡ h.reports
    → let bytes = (head_bytes h ++ claims) ++ concat records in
    (fault_of newest party shape bytes ≡ None) × (header_of bytes ≡ h) × (claims_of bytes ≡ pieces 16 h.claims claims) × (whole_records newest party shape bytes ≡ records)
reads_back newest party shape h claims records w fits size rising all right count =
    let front = head_bytes h ++ claims in
    let head = IsHead-written newest party h w in
    let f : IsFront newest party shape front h = IsFront-read newest party shape (head_bytes h) claims h head fits size rising in
    let none = records_fault-none shape (length front) h.reports records all right count in
    let bare : front ++ concat records ≡ front ++ (concat records ++ []) = ap (λ (b : List ℕ). front ++ b) (sym (append-nil (concat records))) in
    let same : front ++ concat records ≡ head_bytes h ++ (claims ++ concat records) = append_assoc (head_bytes h) claims (concat records) in (
      fault_of-records newest party shape front (concat records) h f ∙ none,
      ap header_of same ∙ header_of-more newest party (head_bytes h) (claims ++ concat records) h head,
      ap claims_of same ∙ claims_of-more newest party (head_bytes h) claims (concat records) h head size,
      ap (whole_records newest party shape) bare ∙ whole_records-all newest party shape front [] h records f all right count,
    )
