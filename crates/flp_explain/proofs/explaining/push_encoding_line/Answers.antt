use Rattle.std.proofs.Common.{List, ℕ, ◌++◌, ◌∙◌, ap, ap₂}
use Rattle.std.proofs.lemmas.Result.{on_ok_weaker}
use Rattle.flp_worker.specs.Parts.{unshared_encoding}
use Rattle.flp_worker.specs.Words.{shape_held}
use Rattle.flp_explain.specs.Text.{joint_lines}
use Rattle.flp_explain.proofs.explaining.push_encoding_line.Goals as goal

pub returns : goal.returns
returns c =
    on_ok_weaker c.push_joint_lines.result (λ made.
    made
    ∙ ap₂ (λ (n x : List ℕ). c.args.line.now.items ++ joint_lines c.args.joint c.args.params n x) c.nonce.ensures
    (c.requires.encoding ∙ ap (λ (words : List ℕ). unshared_encoding (shape_held c.args.words.now) words) c.requires.words)) c.push_joint_lines.ensures
