use Rattle.std.proofs.Common.{◌∙◌, List, ℕ, ◌++◌, ap, append-nil}
use Rattle.flp_batch.specs.Lines.{lines_of}
use Rattle.flp_prep.specs.Text.{prepared_line}
use Rattle.flp_prep.specs.Preparing.{setting_of, party_of}
use Rattle.flp_prep.proofs.preparing.PreparingJudge.end.Goals as goal

pub returns : goal.returns
returns c = λ records prepared.
    let lines : List ℕ = lines_of (prepared_line (party_of c.args.self.now) (setting_of c.args.self.now)) records in
    ap (λ (l : List ℕ). lines ++ l) c.clear.ensures.items ∙ append-nil lines
