-- The nonces of records.
use Rattle.std.specs.Prelude.{ℕ, List}
use Rattle.flp_known.specs.declared.met.Met.{Met}

-- the nonces of the records that were met, but for old claims, in rising order
abbrev pub met_in : Met → List (List ℕ)
met_in m = m.nonces.keys
