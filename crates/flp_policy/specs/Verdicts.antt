-- Which verdicts let a report count.
use Rattle.std.specs.Prelude.{Bool, true, false}
use Rattle.flp_policy.specs.declared.verdict.Verdict.{Verdict}
use Rattle.flp_policy.specs.declared.verdict.Verdict.TheVariants.{Accepted, Rejected, InDomain, Malformed, Replayed}

abbrev pub is_accepted : Verdict → Bool
is_accepted Accepted = true
is_accepted Rejected = false
is_accepted (InDomain proof gadget) = false
is_accepted (Malformed word) = false
is_accepted Replayed = false
