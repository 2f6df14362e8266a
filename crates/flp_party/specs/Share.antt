-- The share file of a party: what it gets of a batch of version 1. From its parts up to the whole file.
use Rattle.std.specs.Prelude.{ℕ, List, [], ◌∷◌, ◌++◌, codes, length}
use Rattle.std.specs.List.{flat_map, concat, range_with_len}
use Rattle.byteorder.specs.Endian.{little_bytes}
use Rattle.flp_report.specs.declared.header.Header.{Header}
use Rattle.flp_report.specs.declared.shape.Shape.{Shape}
use Rattle.flp_report.specs.Record.{nonce_in, share_in, joint_in, query_in}

-- ---- in front of the records

-- the letters with which it begins
abbrev pub share_letters : List ℕ
share_letters = codes "FLPSHARE"

-- the numbers behind them: those of the batch, and the party's
abbrev pub share_numbers : (party : ℕ) → Header → List ℕ
share_numbers party h = h.version ∷ h.shares ∷ h.proofs ∷ length h.text ∷ h.claims ∷ h.reports ∷ party ∷ []

-- the bytes in front of the old claims, the lowest byte of each number first
abbrev pub share_head : (party : ℕ) → Header → List ℕ
share_head party h = (share_letters ++ flat_map (little_bytes 4) (share_numbers party h)) ++ h.text

-- the bytes in front of the records
abbrev pub share_front : (party : ℕ) → Header → (claims : List (List ℕ)) → List ℕ
share_front party h claims = share_head party h ++ concat claims

-- ---- records

-- the joint and the query words of one proof of a report, and those of all its proofs, which every party knows
abbrev pub own_in : Shape → (report : List ℕ) → (proof : ℕ) → List ℕ
own_in shape report proof = joint_in shape report proof ++ query_in shape report proof

abbrev pub public_in : Shape → (report : List ℕ) → List ℕ
public_in shape report = flat_map (own_in shape report) (range_with_len 0 shape.proofs)

-- what a party gets of a report: its nonce, the party's share of encoding and proofs, and what every party knows
abbrev pub dealt_record : (party : ℕ) → Shape → (report : List ℕ) → List ℕ
dealt_record party shape report = nonce_in report ++ (share_in shape report party ++ public_in shape report)

-- ---- the whole file

-- of a batch with this header, this shape, these old claims and these reports
abbrev pub share_file : (party : ℕ) → Header → Shape → (claims reports : List (List ℕ)) → List ℕ
share_file party h shape claims reports = share_front party h claims ++ flat_map (dealt_record party shape) reports
