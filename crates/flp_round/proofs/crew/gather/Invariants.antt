use Rattle.std.proofs.Common.{◌≡◌, List, All, length, map, take, drop}
use Rattle.std.specs.List.{flat_map}
use Rattle.flp_policy.specs.declared.verdict.Verdict.{Verdict}
use Rattle.flp_round.specs.Notes.{IsNoteOf, HasVerdicts}
use Rattle.flp_round.specs.Verifier.{noted, places_of, emptied}
use Rattle.flp_round.proofs.crew.gather.Given as goal

abbrev pub invariant-loop-index : goal.invariant-loop-index
invariant-loop-index l =
    (length l.verdicts ≡ length l.initial.verdicts)
    × (take l.index l.verifiers ≡ map emptied (take l.index l.initial.verifiers))
    × (drop l.index l.verifiers ≡ drop l.index l.initial.verifiers)
    × ((right : List Verdict) → All (λ v. All (IsNoteOf l.first right) (noted v)) l.initial.verifiers → HasVerdicts l.first right (flat_map places_of (take l.index l.initial.verifiers)) l.verdicts)
