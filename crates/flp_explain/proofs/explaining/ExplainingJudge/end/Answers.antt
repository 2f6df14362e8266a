use Rattle.std.proofs.Common.{◌∙◌, List, ℕ, ◌++◌, ap, append-nil}
use Rattle.flp_batch.specs.Lines.{lines_of}
use Rattle.flp_explain.specs.Text.{explained_line}
use Rattle.flp_explain.specs.Explaining.{setting_of}
use Rattle.flp_explain.proofs.explaining.ExplainingJudge.end.Goals as goal

pub returns : goal.returns
returns c = λ records explained.
    let lines : List ℕ = lines_of (explained_line c.args.self.now.joint (setting_of c.args.self.now)) records in
    ap (λ (l : List ℕ). lines ++ l) c.clear.ensures.items ∙ append-nil lines
