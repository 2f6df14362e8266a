-- How many places have each verdict.
use Rattle.std.specs.Prelude.{ℕ, ◌+◌}
use Rattle.flp_policy.specs.Counts.{VerdictCounts}
use Rattle.flp_verify.specs.declared.numbers.Numbers.{Numbers}

-- the numbers as policies have them
abbrev pub counts_in : Numbers → VerdictCounts
counts_in n = record { accepted = n.accepted; rejected = n.rejected; in_domain = n.domain; malformed = n.malformed; replayed = n.replayed }

-- of all verdicts together
abbrev pub places_in : Numbers → ℕ
places_in n = n.accepted + n.rejected + n.domain + n.malformed + n.replayed
