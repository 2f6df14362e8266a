use Rattle.std.proofs.Common.{ℕ, List, ◌++◌, ◌∙◌, ap₂}
use Rattle.std.specs.Prelude.{Option}
use Rattle.flp_report.specs.Record.{record_of}
use Rattle.flp_weak.specs.declared.word.Weak.{Weak}
use Rattle.flp_worker.specs.Words.{shape_held, words_held}
use Rattle.flp_verdict.specs.Text.{line_with}
use Rattle.flp_explain.specs.Text.{of_proof, proof_line}
use Rattle.flp_verdict.proofs.BehindLemmas.{more-behind}
use Rattle.flp_explain.proofs.LineLemmas.{weak-found}
use Rattle.flp_explain.proofs.explaining.push_proof_lines.Goals as goal

pub loop-proof-preserved : goal.loop-proof-preserved
loop-proof-preserved c =
    let shape = shape_held c.args.words.now in
    let found = weak-found c.args.plan.now.circuit shape (record_of c.args.given.now) (words_held c.args.words.now) c.loop-proof.proof c.find_weak-found.result c.requires.words c.find_weak-found.ensures.found in
    record {
      lines =
          more-behind (proof_line c.args.plan.now.circuit shape (record_of c.args.given.now)) c.loop-proof.proof
          c.args.line.now.items c.loop-proof.line.items c.push_proof_line.new.text.items c.loop-proof.invariant.lines
          (c.in_ok-push_proof_line.ensures
          ∙ ap₂ (λ (n : List ℕ) (w : Option Weak). c.loop-proof.line.items ++ line_with n (of_proof c.loop-proof.proof w)) c.nonce.ensures found);
      again = c.find_weak-found.ensures.again ∙ c.loop-proof.invariant.again;
    }
