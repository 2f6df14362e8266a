-- How many records of a batch are accepted, and the sum of their outs.
use Rattle.std.specs.Prelude.{ℕ, List, length, map}
use Rattle.flp_field.specs.Sums.{sum_of_lists}
use Rattle.flp_syntax.specs.Tree.{Program}
use Rattle.flp_meaning.specs.Gadgets.{out_count}
use Rattle.flp_report.specs.declared.shape.Shape.{Shape}
use Rattle.flp_worker.specs.Verdict.{outs_in}
use Rattle.flp_verdict.specs.Verdicts.{Judged, accepted_in}

-- how many records are accepted
abbrev pub count_of : List Judged → ℕ
count_of js = length (accepted_in js)

-- the sum, word by word modulo p, of the outs of the accepted records: zeros where there is none
abbrev pub aggregate_of : Program → Shape → List Judged → List ℕ
aggregate_of program shape js = sum_of_lists (out_count program) (map (outs_in program shape) (accepted_in js))
