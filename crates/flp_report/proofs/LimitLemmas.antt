-- What the head of a batch without a fault says of its numbers of shares and proofs.
use Rattle.std.proofs.Common.{◌≡◌, ℕ, ◌≤◌, drop, Bool, true, false, List, [], ◌∷◌, Option, None, Some, refl}
use Rattle.std.specs.Prelude.{not, nat_eq, nat_lt}
use Rattle.std.specs.List.{starts_with}
use Rattle.std.proofs.lemmas.Bool.{ltb-false}
use Rattle.flp_report.specs.declared.fault.BatchFault.{BatchFault}
use Rattle.flp_report.specs.declared.fault.BatchFault.TheVariants.{Magic, Version, Shares, Proofs, TextLength}
use Rattle.flp_report.specs.Fault.{met, first_of, ended}
use Rattle.flp_report.specs.Head.{number_at, party_fault, numbers_fault}
use Rattle.flp_report.specs.Batch.{batch_letters, buckets_fault, text_start, batch_text_end, batch_head_fault}

-- of seven tests in front of others, the last four are not met where none is
last-four : (z a b c d e f : Bool) (zero one two three four five six : BatchFault) (more : List (Option BatchFault))
    → first_of (met z zero ∷ met a one ∷ met b two ∷ met c three ∷ met d four ∷ met e five ∷ met f six ∷ more) ≡ None
    → (c ≡ false) × (d ≡ false) × (e ≡ false) × (f ≡ false)
last-four true a b c d e f zero one two three four five six more none = cc
last-four false true b c d e f zero one two three four five six more none = cc
last-four false false true c d e f zero one two three four five six more none = cc
last-four false false false true d e f zero one two three four five six more none = cc
last-four false false false false true e f zero one two three four five six more none = cc
last-four false false false false false true f zero one two three four five six more none = cc
last-four false false false false false false true zero one two three four five six more none = cc
last-four false false false false false false false zero one two three four five six more none = (refl, refl, refl, refl)

second : (a b : Option BatchFault) (more : List (Option BatchFault)) → first_of (a ∷ b ∷ more) ≡ None → b ≡ None
second None None more none = refl
second None (Some fault) more none = cc
second (Some fault) b more none = cc

few-numbers : (newest : ℕ) (party : Option ℕ) (bytes : List ℕ) → numbers_fault batch_letters newest party bytes ≡ None
    → (2 ≤ number_at 12 bytes) × (number_at 12 bytes ≤ 16) × (1 ≤ number_at 16 bytes) × (number_at 16 bytes ≤ 16)
few-numbers newest party bytes none =
    let version = number_at 8 bytes in
    let shares = number_at 12 bytes in
    let proofs = number_at 16 bytes in
    let unmet = last-four (not (starts_with nat_eq bytes batch_letters)) (nat_lt version 1) (nat_lt newest version)
    (nat_lt shares 2) (nat_lt 16 shares) (nat_lt proofs 1) (nat_lt 16 proofs)
    Magic (Version version) (Version version) (Shares shares) (Shares shares) (Proofs proofs) (Proofs proofs)
    (party_fault party shares ∷ met (nat_lt 65536 (number_at 20 bytes)) (TextLength (number_at 20 bytes)) ∷ []) none in
    (ltb-false shares 2 unmet.0, ltb-false 16 shares unmet.1, ltb-false proofs 1 unmet.2, ltb-false 16 proofs unmet.3)

pub few-parts : (newest : ℕ) (party : Option ℕ) (bytes : List ℕ) → batch_head_fault newest party bytes ≡ None
    → (2 ≤ number_at 12 bytes) × (number_at 12 bytes ≤ 16) × (1 ≤ number_at 16 bytes) × (number_at 16 bytes ≤ 16)
few-parts newest party bytes none =
    few-numbers newest party bytes
    (second (ended 0 32 bytes) (numbers_fault batch_letters newest party bytes)
    (buckets_fault (number_at 8 bytes) (drop 32 bytes) ∷ ended (text_start bytes) (batch_text_end bytes) (drop (text_start bytes) bytes) ∷ []) none)
