-- All workers that verify a batch, and the verdicts that they found.
use Rattle.std.specs.Prelude.{ℕ, ◌≤◌, List, All, take, vec_len}
use Rattle.flp_report.specs.declared.shape.Shape.{Shape}
use Rattle.flp_policy.specs.declared.verdict.Verdict.{Verdict}
use Rattle.flp_plan.specs.View.{Compiled}
use Rattle.flp_round.specs.declared.crew.Crew.{Crew}
use Rattle.flp_round.specs.Verifier.{IsFresh}

-- how many workers there are, and how many records of one segment they have room for
abbrev pub workers_of : Crew → ℕ
workers_of c = vec_len c.verifiers

abbrev pub room_of : Crew → ℕ
room_of c = vec_len c.verdicts

-- the verdicts of the segment that was verified last, in the order of its records
abbrev pub verdicts_of : Crew → List Verdict
verdicts_of c = take c.used c.verdicts.items

-- the crew can verify segments of records of this shape, whose circuit has this plan
pub record IsCrewFor (plan : Compiled) (shape : Shape) (c : Crew) : Type 0 where
  pub verifiers : All (IsFresh plan shape (room_of c)) c.verifiers.items
  pub used : c.used ≤ room_of c
