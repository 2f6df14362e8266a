-- What is told of the verdicts on a segment: to policies, and in lines.
use Rattle.std.specs.Prelude.{◌≡◌, ℕ, List, [], ◌∷◌}
use Rattle.flp_policy.specs.declared.verdict.Verdict.{Verdict}
use Rattle.flp_policy.specs.Counts.{VerdictCounts, one_more_in}
use Rattle.flp_verdict.specs.Verdicts.{Judged}

-- what verdicts on reports of this bucket, one after the other, add to the counts of a bucket
abbrev pub told_in : (bucket : ℕ) → List Verdict → ℕ → VerdictCounts → VerdictCounts
told_in bucket [] of n = n
told_in bucket (v ∷ vs) of n = one_more_in bucket v of (told_in bucket vs of n)

-- what is answered of a bucket after so many more verdicts of each kind there, before and after these verdicts were told
pub record AreTold {B : Type 0} (bucket : ℕ) (verdicts : List Verdict) (old new : VerdictCounts → ℕ → B) : Type 0 where
  pub answers : (more : VerdictCounts) (of : ℕ) → new more of ≡ old (told_in bucket verdicts of more) of

-- each record beside its verdict
abbrev pub beside : (reports : List (List ℕ)) → List Verdict → List Judged
beside [] verdicts = []
beside (report ∷ reports) [] = []
beside (report ∷ reports) (verdict ∷ verdicts) = record { report = report; verdict = verdict } ∷ beside reports verdicts
