-- The lines of claims.
use Rattle.std.specs.Prelude.{ℕ, List, ◌++◌, codes}
use Rattle.std.specs.List.{flat_map}
use Rattle.hex.specs.Hex.{encode_lower}

-- the line of a nonce
abbrev pub claim_line : (nonce : List ℕ) → List ℕ
claim_line nonce = codes "claim " ++ encode_lower nonce ++ codes "\n"

-- the lines of nonces, in their order
abbrev pub claim_lines : (nonces : List (List ℕ)) → List ℕ
claim_lines nonces = flat_map claim_line nonces
