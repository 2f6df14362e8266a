-- What the head of a batch says, and its first fault, from its parts: the first 32 bytes, those of the number of buckets, and the text.
use Rattle.std.proofs.Common.{◌≡◌, ◌≢◌, ◌⊎◌, inl, inr, ℕ, ◌+◌, ◌<◌, ◌≤◌, ◌==◌, List, [], ◌∷◌, ◌++◌, length, take, drop, Bool, true, false, nat_lt, Option, Some, None, refl, sym, ap, subst, ◌∙◌, arith, append_assoc, length-append, length-drop}
use Rattle.std.specs.Prelude.{if◌then◌else◌, IfSome}
use Rattle.std.proofs.lemmas.Bool.{ne_eqb, lt-ltb, le-ltb}
use Rattle.std.proofs.lemmas.List.{drop_at, take_all, take-append-le, drop-append-le, length-take-le}
use Rattle.byteorder.specs.Endian.{little_number}
use Rattle.byteorder.specs.Numbers.{little_from-append}
use Rattle.flp_report.specs.declared.fault.BatchFault.{BatchFault}
use Rattle.flp_report.specs.declared.fault.BatchFault.TheVariants.{Truncated, Buckets}
use Rattle.flp_report.specs.declared.header.Header.{Header}
use Rattle.flp_report.specs.Fault.{met, first_of, ended}
use Rattle.flp_report.specs.Head.{number_at, numbers_fault, start_fault, stop_of, IsStart}
use Rattle.flp_report.specs.Batch.{batch_letters, head_size, buckets_at, buckets_fault, IsBucketsPart, text_start, batch_text_end, header_of, batch_head_fault, batch_stop, batch_head_takes, IsBucketsFault, IsHead, IsInLimits}
use Rattle.flp_report.specs.Reads.{EndedShort}
use Rattle.flp_report.proofs.FaultLemmas.{first_of-here, first_of-next, no-first, none-at, none-short}
use Rattle.flp_report.proofs.HeadLemmas.{ended-none, ended-short, number_at-append, numbers_fault-append}

-- ---- where the text begins

head_with-least : (two : Bool) → 32 ≤ (if two then 36 else 32)
head_with-least true = omega arith
head_with-least false = omega arith

head_with-most : (two : Bool) → (if two then 36 else 32) ≤ 36
head_with-most true = omega arith
head_with-most false = omega arith

pub head_least : (version : ℕ) → 32 ≤ head_size version
head_least version = head_with-least (version == 2)

pub head_most : (version : ℕ) → head_size version ≤ 36
head_most version = head_with-most (version == 2)

-- ---- the number of buckets

-- what is tried of it, where it is written
abbrev tried : List ℕ → Option BatchFault
tried rest = first_of (ended 32 36 rest ∷ met (nat_lt (little_number 4 rest) 1) (Buckets (little_number 4 rest)) ∷ met (nat_lt 256 (little_number 4 rest)) (Buckets (little_number 4 rest)) ∷ [])

-- bytes whose first number is right begin with a number of buckets, whatever follows them
tried-more : (bytes rest : List ℕ) → tried bytes ≡ None → (tried (bytes ++ rest) ≡ None) × (little_number 4 (bytes ++ rest) ≡ little_number 4 bytes)
tried-more bytes rest none =
    let first = no-first _ _ none in
    let long = none-short 32 36 bytes first.0 in
    let four : 4 ≤ length bytes = omega (arith, long) in
    let number = little_from-append 4 bytes rest four in
    let reaches : 36 ≤ 32 + length (bytes ++ rest) = omega (arith, length-append bytes rest, four) in
    (rw (ended-none 32 36 (bytes ++ rest) reaches, number) first.1, number)

with-more : (two : Bool) (bytes rest : List ℕ) → (if two then tried bytes else None) ≡ None
    → ((if two then tried (bytes ++ rest) else None) ≡ None) × ((if two then little_number 4 (bytes ++ rest) else 1) ≡ (if two then little_number 4 bytes else 1))
with-more true bytes rest none = tried-more bytes rest none
with-more false bytes rest none = (refl, refl)

-- so a number of buckets is right, whatever follows it
pub buckets-more : (version : ℕ) (bytes rest : List ℕ) → buckets_fault version bytes ≡ None
    → (buckets_fault version (bytes ++ rest) ≡ None) × (buckets_at version (bytes ++ rest) ≡ buckets_at version bytes)
buckets-more version bytes rest none = with-more (version == 2) bytes rest none

-- version 1 has no such bytes
pub no_part : (version : ℕ) → version ≢ 2 → IsBucketsPart version [] 1
no_part version other =
    let test = ne_eqb version 2 other in
    record {
      size = ap (λ (b : Bool). if b then 36 else 32) (sym test);
      says = λ rest. ap (λ (b : Bool). if b then little_number 4 rest else 1) test;
      none = λ rest. ap (λ (b : Bool). if b then tried rest else None) test;
      least = omega arith;
      most = omega arith;
      one = λ _. refl;
    }

-- version 2 has four
pub four_part : (version : ℕ) (part : List ℕ) → version ≡ 2 → length part ≡ 4 → 1 ≤ little_number 4 part → little_number 4 part ≤ 256 → IsBucketsPart version part (little_number 4 part)
four_part version part two size least most =
    let number : (rest : List ℕ) → little_number 4 (part ++ rest) ≡ little_number 4 part = λ rest. little_from-append 4 part rest (omega (arith, size)) in
    let none : (rest : List ℕ) → tried (part ++ rest) ≡ None =
    λ rest.
    let reaches : 36 ≤ 32 + length (part ++ rest) = omega (arith, length-append part rest, size) in
    rw (ended-none 32 36 (part ++ rest) reaches, number rest, le-ltb (little_number 4 part) 1 least, le-ltb 256 (little_number 4 part) most) refl in
    let P : ℕ → Type 0 = λ v. IsBucketsPart v part (little_number 4 part) in
    let here : P 2 = record {
      size = omega (arith, size);
      says = number;
      none = none;
      least = least;
      most = most;
      one = λ other. absurd (other refl);
    } in
    subst P (sym two) here

-- an input that ended within it
pub buckets-short : (rest : List ℕ) (b : BatchFault) → EndedShort (Some rest) 32 4 36 b → buckets_fault 2 rest ≡ Some b
buckets-short rest b short = first_of-here _ _ b (ended-short 32 4 36 rest b (omega arith) short)

pub buckets-cut : (left : Option (List ℕ)) (b : BatchFault) → EndedShort left 32 4 36 b → IsBucketsFault b
buckets-cut left b short =
    let here : IsBucketsFault (Truncated (32 + short.came) 36) = (omega arith, omega (arith, short.less), refl) in
    subst IsBucketsFault (sym short.is) here

-- a number of buckets that is none
outside-met : (n : ℕ) (fault : BatchFault) → (n < 1) ⊎ (256 < n) → first_of (met (nat_lt n 1) fault ∷ met (nat_lt 256 n) fault ∷ []) ≡ Some fault
outside-met n fault (inl few) = rw (lt-ltb n 1 few) refl
outside-met n fault (inr many) = rw (le-ltb n 1 (omega (arith, many)), lt-ltb 256 n many) refl

pub buckets-outside : (part rest : List ℕ) (b : BatchFault) → length part ≡ 4 → b ≡ Buckets (little_number 4 part) → (little_number 4 part < 1) ⊎ (256 < little_number 4 part) → buckets_fault 2 (part ++ rest) ≡ Some b
buckets-outside part rest b size is outside =
    let number : little_number 4 (part ++ rest) ≡ little_number 4 part = little_from-append 4 part rest (omega (arith, size)) in
    let reaches : 36 ≤ 32 + length (part ++ rest) = omega (arith, length-append part rest, size) in
    let behind = λ (n : ℕ). first_of (met (nat_lt n 1) (Buckets n) ∷ met (nat_lt 256 n) (Buckets n) ∷ []) in
    first_of-next _ _ (ended-none 32 36 (part ++ rest) reaches)
    ∙ (ap behind number ∙ (outside-met (little_number 4 part) (Buckets (little_number 4 part)) outside ∙ ap (λ (f : BatchFault). Some f) (sym is)))

pub outside-kind : (n : ℕ) (b : BatchFault) → b ≡ Buckets n → (n < 1) ⊎ (256 < n) → IsBucketsFault b
outside-kind n b is outside = subst IsBucketsFault (sym is) outside

-- ---- a file whose first 32 bytes are right

-- what they say, whatever follows
pub record Begins (newest : ℕ) (party : Option ℕ) (start rest : List ℕ) : Type 0 where
  pub whole : ended 0 32 (start ++ rest) ≡ None
  pub numbers : numbers_fault batch_letters newest party (start ++ rest) ≡ None
  pub version : number_at 8 (start ++ rest) ≡ number_at 8 start
  pub shares : number_at 12 (start ++ rest) ≡ number_at 12 start
  pub proofs : number_at 16 (start ++ rest) ≡ number_at 16 start
  pub text : number_at 20 (start ++ rest) ≡ number_at 20 start
  pub claims : number_at 24 (start ++ rest) ≡ number_at 24 start
  pub reports : number_at 28 (start ++ rest) ≡ number_at 28 start
  pub behind : drop 32 (start ++ rest) ≡ rest

pub begins : (newest : ℕ) (party : Option ℕ) (start rest : List ℕ) → length start ≡ 32 → numbers_fault batch_letters newest party start ≡ None → Begins newest party start rest
begins newest party start rest size none =
    let whole : 32 ≤ 0 + length (start ++ rest) = omega (arith, length-append start rest, size) in
    let long : 24 ≤ length start = omega (arith, size) in
    record {
      whole = ended-none 0 32 (start ++ rest) whole;
      numbers = numbers_fault-append batch_letters newest party start rest refl long ∙ none;
      version = number_at-append 8 start rest (omega (arith, size));
      shares = number_at-append 12 start rest (omega (arith, size));
      proofs = number_at-append 16 start rest (omega (arith, size));
      text = number_at-append 20 start rest (omega (arith, size));
      claims = number_at-append 24 start rest (omega (arith, size));
      reports = number_at-append 28 start rest (omega (arith, size));
      behind = drop_at start rest 32 size;
    }

-- a fault of its number of buckets
pub head-buckets : (newest : ℕ) (party : Option ℕ) (start rest : List ℕ) (b : BatchFault) → length start ≡ 32 → numbers_fault batch_letters newest party start ≡ None
    → buckets_fault (number_at 8 start) rest ≡ Some b → batch_head_fault newest party (start ++ rest) ≡ Some b
head-buckets newest party start rest b size none is =
    let s = begins newest party start rest size none in
    let found : buckets_fault (number_at 8 (start ++ rest)) (drop 32 (start ++ rest)) ≡ Some b = rw (s.version, s.behind) is in
    rw (s.whole, s.numbers, found) refl

-- ---- and whose number of buckets is right too

-- what stands behind both
behind-part : (version : ℕ) (start part rest : List ℕ) (buckets : ℕ) → length start ≡ 32 → IsBucketsPart version part buckets → drop (head_size version) (start ++ (part ++ rest)) ≡ rest
behind-part version start part rest buckets size is =
    let long : length (start ++ part) ≡ head_size version = omega (arith, length-append start part, size, is.size) in
    ap (λ (b : List ℕ). drop (head_size version) b) (sym (append_assoc start part rest)) ∙ drop_at (start ++ part) rest (head_size version) long

-- a fault of its text
pub head-text : (newest : ℕ) (party : Option ℕ) (start part rest : List ℕ) (buckets : ℕ) (b : BatchFault) → length start ≡ 32 → numbers_fault batch_letters newest party start ≡ None
    → IsBucketsPart (number_at 8 start) part buckets
    → EndedShort (Some rest) (head_size (number_at 8 start)) (number_at 20 start) (head_size (number_at 8 start) + number_at 20 start) b
    → batch_head_fault newest party (start ++ (part ++ rest)) ≡ Some b
head-text newest party start part rest buckets b size none is short =
    let s = begins newest party start (part ++ rest) size none in
    let version = number_at 8 start in
    let right : buckets_fault (number_at 8 (start ++ (part ++ rest))) (drop 32 (start ++ (part ++ rest))) ≡ None = rw (s.version, s.behind) (is.none rest) in
    let behind = behind-part version start part rest buckets size is in
    let within : head_size version + number_at 20 start ≤ head_size version + number_at 20 start = omega arith in
    rw (s.whole, s.numbers, right) (rw (s.version, s.text, behind, ended-short (head_size version) (number_at 20 start) (head_size version + number_at 20 start) rest b within short) refl)

-- and none
pub head-none : (newest : ℕ) (party : Option ℕ) (start part rest : List ℕ) (buckets : ℕ) → length start ≡ 32 → numbers_fault batch_letters newest party start ≡ None
    → IsBucketsPart (number_at 8 start) part buckets → number_at 20 start ≤ length rest
    → batch_head_fault newest party (start ++ (part ++ rest)) ≡ None
head-none newest party start part rest buckets size none is text =
    let s = begins newest party start (part ++ rest) size none in
    let version = number_at 8 start in
    let right : buckets_fault (number_at 8 (start ++ (part ++ rest))) (drop 32 (start ++ (part ++ rest))) ≡ None = rw (s.version, s.behind) (is.none rest) in
    let behind = behind-part version start part rest buckets size is in
    let reaches : head_size version + number_at 20 start ≤ head_size version + length rest = omega (arith, text) in
    rw (s.whole, s.numbers, right) (rw (s.version, s.text, behind, ended-none (head_size version) (head_size version + number_at 20 start) rest reaches) refl)

-- what was read in front of the old claims is what a head says
pub IsHead-joined : (newest : ℕ) (party : Option ℕ) (start part text : List ℕ) (buckets : ℕ) → length start ≡ 32 → numbers_fault batch_letters newest party start ≡ None
    → IsBucketsPart (number_at 8 start) part buckets → length text ≡ number_at 20 start
    → IsHead newest party (start ++ (part ++ text))
    (record { version = number_at 8 start; shares = number_at 12 start; proofs = number_at 16 start; text = text; claims = number_at 24 start; reports = number_at 28 start; buckets = buckets })
IsHead-joined newest party start part text buckets size none is length_of =
    let s = begins newest party start (part ++ text) size none in
    let version = number_at 8 start in
    let behind = behind-part version start part text buckets size is in
    let all : take (number_at 20 start) text ≡ text = take_all (number_at 20 start) text (omega (arith, length_of)) in
    let whole : length (start ++ (part ++ text)) ≡ head_size version + number_at 20 start = omega (arith, length-append start (part ++ text), length-append part text, size, is.size, length_of) in
    record {
      size = rw (s.version, s.text) whole;
      none = head-none newest party start part text buckets size none is (omega (arith, length_of));
      same = rw (s.version, s.shares, s.proofs, s.text, s.claims, s.reports, s.behind, behind, all, is.says text) refl;
    }

-- the same, with its numbers under other names
pub IsHead-read : (newest : ℕ) (party : Option ℕ) (start part items text : List ℕ) (version shares proofs claims reports buckets : ℕ) → length start ≡ 32 → numbers_fault batch_letters newest party start ≡ None
    → version ≡ number_at 8 start → shares ≡ number_at 12 start → proofs ≡ number_at 16 start → claims ≡ number_at 24 start → reports ≡ number_at 28 start → text ≡ items
    → IsBucketsPart version part buckets → length items ≡ number_at 20 start
    → IsHead newest party (start ++ (part ++ items)) (record { version = version; shares = shares; proofs = proofs; text = text; claims = claims; reports = reports; buckets = buckets })
IsHead-read newest party start part items text version shares proofs claims reports buckets size none v s p c r t is length_of =
    let own = subst (λ (n : ℕ). IsBucketsPart n part buckets) v is in
    let joined = IsHead-joined newest party start part items buckets size none own length_of in
    let same : Header = record { version = version; shares = shares; proofs = proofs; text = text; claims = claims; reports = reports; buckets = buckets } in
    let turned : record { version = number_at 8 start; shares = number_at 12 start; proofs = number_at 16 start; text = items; claims = number_at 24 start; reports = number_at 28 start; buckets = buckets } ≡ same =
    λ i. record { version = sym v i; shares = sym s i; proofs = sym p i; text = sym t i; claims = sym c i; reports = sym r i; buckets = buckets } in
    subst (IsHead newest party (start ++ (part ++ items))) turned joined

-- and they are within their limits
pub IsInLimits-read : (newest : ℕ) (party : Option ℕ) (start part items text : List ℕ) (version shares proofs claims reports buckets : ℕ) → IsStart newest party start
    → version ≡ number_at 8 start → shares ≡ number_at 12 start → proofs ≡ number_at 16 start → text ≡ items → IsBucketsPart version part buckets → length items ≡ number_at 20 start
    → IsInLimits newest party (record { version = version; shares = shares; proofs = proofs; text = text; claims = claims; reports = reports; buckets = buckets })
IsInLimits-read newest party start part items text version shares proofs claims reports buckets s v n p t is length_of =
    let P : ℕ → Type 0 = λ x. IfSome party (λ q. q < x) in
    let long : length text ≡ number_at 20 start = ap length t ∙ length_of in
    record {
      least_version = omega (arith, v, s.least_version);
      most_version = omega (arith, v, s.most_version);
      least_shares = omega (arith, n, s.least_shares);
      most_shares = omega (arith, n, s.most_shares);
      least_proofs = omega (arith, p, s.least_proofs);
      most_proofs = omega (arith, p, s.most_proofs);
      own_share = subst P (sym n) s.own_share;
      text = omega (arith, long, s.text);
      least_buckets = is.least;
      most_buckets = is.most;
      one_bucket = is.one;
    }

-- ---- how many bytes are taken

-- a reading stops at one of two places
stop_of-least : (least base later : ℕ) (fault : Option BatchFault) → least ≤ base → least ≤ later → least ≤ stop_of base later fault
stop_of-least least base later None first second = second
stop_of-least least base later (Some fault) first second = first

-- the text ends behind the number of buckets
end-least : (bytes : List ℕ) → text_start bytes ≤ batch_text_end bytes
end-least bytes = omega arith

-- at least the first 32 bytes are taken
pub takes-least : (newest : ℕ) (party : Option ℕ) (bytes : List ℕ) → 32 ≤ batch_head_takes newest party bytes
takes-least newest party bytes =
    let buckets = buckets_fault (number_at 8 bytes) (drop 32 bytes) in
    let start = head_least (number_at 8 bytes) in
    let far : 32 ≤ batch_text_end bytes = omega (arith, start, end-least bytes) in
    stop_of-least 32 32 (stop_of 36 (batch_text_end bytes) buckets) (start_fault batch_letters 32 newest party bytes) (omega arith)
    (stop_of-least 32 36 (batch_text_end bytes) buckets (omega arith) far)

-- a head whose first 32 bytes are right has none of their faults
start-none : (newest : ℕ) (party : Option ℕ) (start rest : List ℕ) → length start ≡ 32 → numbers_fault batch_letters newest party start ≡ None → start_fault batch_letters 32 newest party (start ++ rest) ≡ None
start-none newest party start rest size none =
    let s = begins newest party start rest size none in
    rw (s.whole, s.numbers) refl

-- and behind them the number of buckets
pub takes-buckets : (newest : ℕ) (party : Option ℕ) (start rest : List ℕ) → length start ≡ 32 → numbers_fault batch_letters newest party start ≡ None
    → head_size (number_at 8 start) ≤ batch_head_takes newest party (start ++ rest)
takes-buckets newest party start rest size none =
    let bytes = start ++ rest in
    let s = begins newest party start rest size none in
    let buckets = buckets_fault (number_at 8 bytes) (drop 32 bytes) in
    let same : head_size (number_at 8 bytes) ≡ head_size (number_at 8 start) = ap head_size s.version in
    let far : head_size (number_at 8 start) ≤ batch_text_end bytes = omega (arith, same, end-least bytes) in
    let later = stop_of-least (head_size (number_at 8 start)) 36 (batch_text_end bytes) buckets (head_most (number_at 8 start)) far in
    subst (λ (f : Option BatchFault). head_size (number_at 8 start) ≤ stop_of 32 (stop_of 36 (batch_text_end bytes) buckets) f) (sym (start-none newest party start rest size none)) later

-- and the text behind this
pub takes-text : (newest : ℕ) (party : Option ℕ) (start part rest : List ℕ) (buckets : ℕ) → length start ≡ 32 → numbers_fault batch_letters newest party start ≡ None
    → IsBucketsPart (number_at 8 start) part buckets
    → batch_head_takes newest party (start ++ (part ++ rest)) ≡ head_size (number_at 8 start) + number_at 20 start
takes-text newest party start part rest buckets size none is =
    let bytes = start ++ (part ++ rest) in
    let s = begins newest party start (part ++ rest) size none in
    let right : buckets_fault (number_at 8 bytes) (drop 32 bytes) ≡ None = rw (s.version, s.behind) (is.none rest) in
    rw (start-none newest party start (part ++ rest) size none, right) (rw (s.version, s.text) refl)

-- ---- a head, whatever follows

-- a head's bytes are at least those in front of its text
head-long : (newest : ℕ) (party : Option ℕ) (front : List ℕ) (header : Header) → IsHead newest party front header → 32 ≤ length front
head-long newest party front header head = let least = head_least (number_at 8 front) in omega (arith, head.size, least)

-- what its bytes say of the file
pub record Says (front rest : List ℕ) (header : Header) : Type 0 where
  pub version : number_at 8 (front ++ rest) ≡ number_at 8 front
  pub text : batch_text_end (front ++ rest) ≡ length front
  pub claims : number_at 24 (front ++ rest) ≡ header.claims
  pub reports : number_at 28 (front ++ rest) ≡ header.reports

pub says : (newest : ℕ) (party : Option ℕ) (front rest : List ℕ) (header : Header) → IsHead newest party front header → Says front rest header
says newest party front rest header head =
    let long = head-long newest party front header head in
    let version = number_at-append 8 front rest (omega (arith, long)) in
    let text = number_at-append 20 front rest (omega (arith, long)) in
    let whole : batch_text_end (front ++ rest) ≡ batch_text_end front = rw (version, text) refl in
    record {
      version = version;
      text = whole ∙ sym head.size;
      claims = number_at-append 24 front rest (omega (arith, long)) ∙ ap (λ (h : Header). h.claims) (sym head.same);
      reports = number_at-append 28 front rest (omega (arith, long)) ∙ ap (λ (h : Header). h.reports) (sym head.same);
    }

-- what is tried of a head, in this order
abbrev head_tried : ℕ → Option ℕ → List ℕ → List (Option BatchFault)
head_tried newest party bytes =
    ended 0 32 bytes
    ∷ numbers_fault batch_letters newest party bytes
    ∷ buckets_fault (number_at 8 bytes) (drop 32 bytes)
    ∷ ended (text_start bytes) (batch_text_end bytes) (drop (text_start bytes) bytes)
    ∷ []

-- its numbers are right, and its number of buckets is
pub numbers-none : (newest : ℕ) (party : Option ℕ) (bytes : List ℕ) → batch_head_fault newest party bytes ≡ None → numbers_fault batch_letters newest party bytes ≡ None
numbers-none newest party bytes none = none-at (head_tried newest party bytes) 1 none

buckets-none : (newest : ℕ) (party : Option ℕ) (bytes : List ℕ) → batch_head_fault newest party bytes ≡ None → buckets_fault (number_at 8 bytes) (drop 32 bytes) ≡ None
buckets-none newest party bytes none = none-at (head_tried newest party bytes) 2 none

-- the file has no fault up to its text
pub head_fault-more : (newest : ℕ) (party : Option ℕ) (front rest : List ℕ) (header : Header) → IsHead newest party front header → batch_head_fault newest party (front ++ rest) ≡ None
head_fault-more newest party front rest header head =
    let long = head-long newest party front header head in
    let s = says newest party front rest header head in
    let at_least : 24 ≤ length front = omega (arith, long) in
    let all = length-append front rest in
    let whole : 32 ≤ 0 + length (front ++ rest) = omega (arith, all, long) in
    let numbers = numbers_fault-append batch_letters newest party front rest refl at_least ∙ numbers-none newest party front head.none in
    let thirty : 32 ≤ length front = long in
    let split : drop 32 (front ++ rest) ≡ drop 32 front ++ rest = drop-append-le 32 front rest thirty in
    let more = buckets-more (number_at 8 front) (drop 32 front) rest (buckets-none newest party front head.none) in
    let right : buckets_fault (number_at 8 (front ++ rest)) (drop 32 (front ++ rest)) ≡ None = rw (s.version, split) more.0 in
    let start = text_start (front ++ rest) in
    let same : start ≡ text_start front = ap head_size s.version in
    let least = head_least (number_at 8 front) in
    let reaches : batch_text_end (front ++ rest) ≤ start + length (drop start (front ++ rest)) = omega (arith, length-drop start (front ++ rest), all, s.text, end-least front, same, head.size) in
    rw (ended-none 0 32 (front ++ rest) whole, numbers, right, ended-none start (batch_text_end (front ++ rest)) (drop start (front ++ rest)) reaches) refl

-- a reading of it stops behind what the head says
pub stops-behind : (newest : ℕ) (party : Option ℕ) (front rest : List ℕ) (header : Header) (later : ℕ) → IsHead newest party front header → batch_stop newest party later (front ++ rest) ≡ later
stops-behind newest party front rest header later head =
    let none = head_fault-more newest party front rest header head in
    let bytes = front ++ rest in
    let start : start_fault batch_letters 32 newest party bytes ≡ None = rw (none-at (head_tried newest party bytes) 0 none, numbers-none newest party bytes none) refl in
    rw (start, buckets-none newest party bytes none) refl

-- and no earlier where it goes on further
stop_of-below : (base first second : ℕ) (fault : Option BatchFault) → first ≤ second → stop_of base first fault ≤ stop_of base second fault
stop_of-below base first second None below = below
stop_of-below base first second (Some fault) below = omega arith

pub stop-below : (newest : ℕ) (party : Option ℕ) (first second : ℕ) (bytes : List ℕ) → first ≤ second → batch_stop newest party first bytes ≤ batch_stop newest party second bytes
stop-below newest party first second bytes below =
    let buckets = buckets_fault (number_at 8 bytes) (drop 32 bytes) in
    stop_of-below 32 (stop_of 36 first buckets) (stop_of 36 second buckets) (start_fault batch_letters 32 newest party bytes) (stop_of-below 36 first second buckets below)

-- and its header is what the head says
pub header_of-more : (newest : ℕ) (party : Option ℕ) (front rest : List ℕ) (header : Header) → IsHead newest party front header → header_of (front ++ rest) ≡ header
header_of-more newest party front rest header head =
    let long = head-long newest party front header head in
    let version = number_at-append 8 front rest (omega (arith, long)) in
    let split : drop 32 (front ++ rest) ≡ drop 32 front ++ rest = drop-append-le 32 front rest long in
    let more = buckets-more (number_at 8 front) (drop 32 front) rest (buckets-none newest party front head.none) in
    let buckets : buckets_at (number_at 8 (front ++ rest)) (drop 32 (front ++ rest)) ≡ buckets_at (number_at 8 front) (drop 32 front) = rw (version, split) more.1 in
    let start : text_start front ≤ length front = omega (arith, head.size, end-least front) in
    let held : number_at 20 front ≤ length (drop (text_start front) front) = omega (arith, head.size, length-drop (text_start front) front) in
    let text : take (number_at 20 (front ++ rest)) (drop (text_start (front ++ rest)) (front ++ rest)) ≡ take (number_at 20 front) (drop (text_start front) front) =
    rw (version, number_at-append 20 front rest (omega (arith, long)), drop-append-le (text_start front) front rest start) (take-append-le (number_at 20 front) (drop (text_start front) front) rest held) in
    let same : header_of (front ++ rest) ≡ header_of front = λ i. record {
      version = version i;
      shares = number_at-append 12 front rest (omega (arith, long)) i;
      proofs = number_at-append 16 front rest (omega (arith, long)) i;
      text = text i;
      claims = number_at-append 24 front rest (omega (arith, long)) i;
      reports = number_at-append 28 front rest (omega (arith, long)) i;
      buckets = buckets i;
    } in
    same ∙ sym head.same

-- the bytes in front of the old claims, by the text that they hold
pub length-head : (newest : ℕ) (party : Option ℕ) (front : List ℕ) (h : Header) → IsHead newest party front h → length front ≡ head_size h.version + length h.text
length-head newest party front h head =
    let held : number_at 20 front ≤ length (drop (text_start front) front) = omega (arith, head.size, length-drop (text_start front) front) in
    let long : length h.text ≡ number_at 20 front = ap (λ (x : Header). length x.text) head.same ∙ length-take-le (number_at 20 front) (drop (text_start front) front) held in
    let start : head_size h.version ≡ text_start front = ap (λ (x : Header). head_size x.version) head.same in
    omega (arith, head.size, long, start)
