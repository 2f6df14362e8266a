-- How a batch and a job file begin: letters, numbers of 4 bytes, and the circuit text. From the parts up.
use Rattle.std.specs.Prelude.{ℕ, ◌+◌, ◌<◌, ◌≤◌, ◌≡◌, ◌⊎◌, ⊤, IfSome, IsSomeAnd, not, List, [], ◌∷◌, Option, Some, None, nat_eq, nat_lt, nat_le, drop}
use Rattle.std.specs.List.{starts_with}
use Rattle.byteorder.specs.Endian.{little_number}
use Rattle.flp_report.specs.declared.fault.BatchFault.{BatchFault}
use Rattle.flp_report.specs.declared.fault.BatchFault.TheVariants.{Magic, Version, Shares, Proofs, TextLength, ClaimsOrder, TooLarge, Truncated, Trailing, Word, Party, Buckets, Width, Bucket}
use Rattle.flp_report.specs.Fault.{met, first_of, ended}

-- the number in the 4 bytes at this place
abbrev pub number_at : ℕ → List ℕ → ℕ
number_at place bytes = little_number 4 (drop place bytes)

-- a party that is asked for has a share
abbrev pub party_fault : Option ℕ → ℕ → Option BatchFault
party_fault None shares = None
party_fault (Some party) shares = met (nat_le shares party) (Party shares)

-- the first fault of the letters and numbers, where versions up to the newest are read
abbrev pub numbers_fault : List ℕ → ℕ → Option ℕ → List ℕ → Option BatchFault
numbers_fault letters newest party bytes =
    first_of (
    met (not (starts_with nat_eq bytes letters)) Magic
    ∷ met (nat_lt (number_at 8 bytes) 1) (Version (number_at 8 bytes))
    ∷ met (nat_lt newest (number_at 8 bytes)) (Version (number_at 8 bytes))
    ∷ met (nat_lt (number_at 12 bytes) 2) (Shares (number_at 12 bytes))
    ∷ met (nat_lt 16 (number_at 12 bytes)) (Shares (number_at 12 bytes))
    ∷ met (nat_lt (number_at 16 bytes) 1) (Proofs (number_at 16 bytes))
    ∷ met (nat_lt 16 (number_at 16 bytes)) (Proofs (number_at 16 bytes))
    ∷ party_fault party (number_at 12 bytes)
    ∷ met (nat_lt 65536 (number_at 20 bytes)) (TextLength (number_at 20 bytes))
    ∷ [])

-- the first fault of the `base` bytes with which a file begins
abbrev pub start_fault : List ℕ → ℕ → ℕ → Option ℕ → List ℕ → Option BatchFault
start_fault letters base newest party bytes =
    first_of (
    ended 0 base bytes
    ∷ numbers_fault letters newest party bytes
    ∷ [])

-- where a reading stops: behind the first `base` bytes where these have a fault, or else at a later place
abbrev pub stop_of : ℕ → ℕ → Option BatchFault → ℕ
stop_of base later None = later
stop_of base later (Some fault) = base

-- the numbers of a head are within their limits, and a party that is asked for has a share
pub record IsStart (newest : ℕ) (party : Option ℕ) (bytes : List ℕ) : Type 0 where
  pub least_version : 1 ≤ number_at 8 bytes
  pub most_version : number_at 8 bytes ≤ newest
  pub least_shares : 2 ≤ number_at 12 bytes
  pub most_shares : number_at 12 bytes ≤ 16
  pub least_proofs : 1 ≤ number_at 16 bytes
  pub most_proofs : number_at 16 bytes ≤ 16
  pub own_share : IfSome party (λ p. p < number_at 12 bytes)
  pub text : number_at 20 bytes ≤ 65536

-- a fault that the letters and numbers can have, whatever they are: with a number outside its limits
abbrev pub IsNumbersFault : ℕ → Option ℕ → BatchFault → Type 0
IsNumbersFault newest party Magic = ⊤
IsNumbersFault newest party (Version version) = (version < 1) ⊎ (newest < version)
IsNumbersFault newest party (Shares shares) = (shares < 2) ⊎ (16 < shares)
IsNumbersFault newest party (Proofs proofs) = (proofs < 1) ⊎ (16 < proofs)
IsNumbersFault newest party (Party shares) = IsSomeAnd party (λ p. shares ≤ p)
IsNumbersFault newest party (TextLength size) = 65536 < size
IsNumbersFault newest party (ClaimsOrder number) = ⊥
IsNumbersFault newest party (TooLarge size) = ⊥
IsNumbersFault newest party (Truncated have need) = ⊥
IsNumbersFault newest party Trailing = ⊥
IsNumbersFault newest party (Word place word) = ⊥
IsNumbersFault newest party (Buckets buckets) = ⊥
IsNumbersFault newest party (Width width) = ⊥
IsNumbersFault newest party (Bucket place bucket) = ⊥

-- the input ended within the first `base` bytes
abbrev pub IsStartFault : ℕ → ℕ → Option ℕ → BatchFault → Type 0
IsStartFault base newest party (Truncated have need) = (have < need) × (need ≡ base)
IsStartFault base newest party fault = IsNumbersFault newest party fault

-- the input ended within the text that begins behind the first `base` bytes
abbrev pub IsTextCut : ℕ → BatchFault → Type 0
IsTextCut base (Truncated have need) = (base ≤ have) × (have < need) × (need ≤ base + 65536)
IsTextCut base fault = ⊥

-- ---- a file of version 1 alone, whose text stands behind its first `base` bytes

-- where its text ends
abbrev pub text_end : ℕ → List ℕ → ℕ
text_end base bytes = base + number_at 20 bytes

-- its first fault up to the end of its text
abbrev pub head_fault : List ℕ → ℕ → Option ℕ → List ℕ → Option BatchFault
head_fault letters base party bytes =
    first_of (
    ended 0 base bytes
    ∷ numbers_fault letters 1 party bytes
    ∷ ended base (text_end base bytes) (drop base bytes)
    ∷ [])

-- the most bytes that its head takes from a source that has these left
abbrev pub head_takes : List ℕ → ℕ → Option ℕ → List ℕ → ℕ
head_takes letters base party bytes = stop_of base (text_end base bytes) (start_fault letters base 1 party bytes)

-- a fault that its head can have, whatever its bytes
abbrev pub IsHeadFault : ℕ → Option ℕ → BatchFault → Type 0
IsHeadFault base party fault = IsStartFault base 1 party fault ⊎ IsTextCut base fault
