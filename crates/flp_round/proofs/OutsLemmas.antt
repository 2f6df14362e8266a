-- How many outs a record has.
use Rattle.std.proofs.Common.{◌≡◌, ℕ, List, [], length}
use Rattle.flp_syntax.specs.Tree.{Program}
use Rattle.flp_meaning.specs.Circuit.{direct}
use Rattle.flp_meaning.proofs.Fixed.{outs_are_fixed}
use Rattle.flp_plan.specs.Counted.{counted_lengths}
use Rattle.flp_report.specs.declared.shape.Shape.{Shape}
use Rattle.flp_report.specs.Record.{words_in}
use Rattle.flp_worker.specs.Parts.{unshared_encoding}
use Rattle.flp_worker.specs.Verdict.{outs_in}

pub length-outs_in : (program : Program) (shape : Shape) (bytes : List ℕ) → length (outs_in program shape bytes) ≡ (counted_lengths program).outs
unfolding outs_in
length-outs_in program shape bytes = outs_are_fixed program (direct program (unshared_encoding shape (words_in shape bytes)) [])
