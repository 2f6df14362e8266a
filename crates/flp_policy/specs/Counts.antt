-- How many verdicts of each kind a policy is told.
use Rattle.std.specs.Prelude.{ℕ, ◌+◌, List, [], ◌∷◌, cond, nat_eq}
use Rattle.flp_policy.specs.declared.verdict.Verdict.{Verdict}
use Rattle.flp_policy.specs.declared.verdict.Verdict.TheVariants.{Accepted, Rejected, InDomain, Malformed, Replayed}

-- a number of verdicts of each kind
pub record VerdictCounts : Type 0 where
  pub accepted : ℕ
  pub rejected : ℕ
  pub in_domain : ℕ
  pub malformed : ℕ
  pub replayed : ℕ

abbrev pub no_more : VerdictCounts
no_more = record { accepted = 0; rejected = 0; in_domain = 0; malformed = 0; replayed = 0 }

-- one more of this verdict's kind
abbrev pub one_more : Verdict → VerdictCounts → VerdictCounts
one_more Accepted n = record n { accepted = n.accepted + 1 }
one_more Rejected n = record n { rejected = n.rejected + 1 }
one_more (InDomain proof gadget) n = record n { in_domain = n.in_domain + 1 }
one_more (Malformed word) n = record n { malformed = n.malformed + 1 }
one_more Replayed n = record n { replayed = n.replayed + 1 }

-- what one more verdict in this bucket adds to the counts of that one
abbrev pub one_more_in : ℕ → Verdict → ℕ → VerdictCounts → VerdictCounts
one_more_in bucket verdict that n = cond (nat_eq that bucket) (one_more verdict n) n

-- the numbers of each kind in a list of verdicts
abbrev pub counts_of : List Verdict → VerdictCounts
counts_of [] = no_more
counts_of (v ∷ vs) = one_more v (counts_of vs)
