-- A list of nonces.
use Rattle.std.specs.Prelude.{ℕ, List}
use Rattle.flp_report.specs.declared.nonces.Nonces.{Nonces}
use Rattle.flp_report.specs.Pieces.{pieces}

-- the bytes of the nonces, one after the other
abbrev pub nonce_bytes : Nonces → List ℕ
nonce_bytes n = n.bytes.items

-- how many nonces there are
abbrev pub nonce_count : Nonces → ℕ
nonce_count n = n.count

-- the nonces, 16 bytes each
abbrev pub nonces_in : Nonces → List (List ℕ)
nonces_in n = pieces 16 n.count n.bytes.items
