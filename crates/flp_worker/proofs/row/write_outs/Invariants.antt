use Rattle.std.proofs.Common.{◌≡◌, ℕ, ◌<◌, List, Some, get_or}
use Rattle.std.specs.List.{slice_get}
use Rattle.flp_meaning.specs.Circuit.{outs_of}
use Rattle.flp_plan.specs.View.{publics_of}
use Rattle.flp_worker.proofs.row.write_outs.Given as goal

abbrev pub invariant-loop-index : goal.invariant-loop-index
invariant-loop-index l =
    (joint : List ℕ) → l.publics ≡ publics_of l.plan joint → (k : ℕ) → k < l.index
    → slice_get (outs_of l.plan.circuit l.x) k ≡ Some (get_or l.row k 0)
