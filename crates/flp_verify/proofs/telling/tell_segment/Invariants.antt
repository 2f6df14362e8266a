use Rattle.std.proofs.Common.{◌≡◌, ◌+◌, ◌++◌, List, map, take, get_or}
use Rattle.std.specs.Prelude.{nat_le}
use Rattle.flp_policy.specs.Counts.{counts_of}
use Rattle.flp_policy.specs.declared.verdict.Verdict.{Verdict}
use Rattle.flp_round.specs.Crew.{verdicts_of}
use Rattle.flp_verify.specs.Numbers.{counts_in, places_in}
use Rattle.flp_verify.specs.Told.{AreTold}
use Rattle.flp_verify.proofs.telling.tell_segment.Given as goal

abbrev pub invariant-loop-index : goal.invariant-loop-index
invariant-loop-index g l =
    ((seen : List Verdict) → counts_in l.initial.numbers ≡ counts_of seen → counts_in l.numbers ≡ counts_of (seen ++ take l.index (verdicts_of l.crew)))
    × (places_in l.numbers ≡ places_in l.initial.numbers + l.index)
    × AreTold 0 (take l.index (verdicts_of l.crew)) (λ more of. nat_le (get_or l.initial.floor.needed of 0) more.accepted) (λ more of. nat_le (get_or l.floor.needed of 0) more.accepted)
    × AreTold 0 (take l.index (verdicts_of l.crew)) (λ more of. map (λ p. (goal.Policy-dyn g (p.vtable, p.value)).would p.value more of) l.initial.policies) (λ more of. map (λ p. (goal.Policy-dyn g (p.vtable, p.value)).would p.value more of) l.policies)
