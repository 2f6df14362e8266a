-- What is known.
use Rattle.std.specs.Prelude.{ℕ, List}
use Rattle.flp_report.specs.Nonces.{nonces_in}
use Rattle.flp_known.specs.declared.known.Known.{Known}
use Rattle.flp_known.specs.Order.{with_nonces}
use Rattle.flp_known.specs.Met.{met_in}

-- the old claims and the nonces of records, in rising order
abbrev pub known_in : Known → List (List ℕ)
known_in k = with_nonces (nonces_in k.claims) (met_in k.met)
