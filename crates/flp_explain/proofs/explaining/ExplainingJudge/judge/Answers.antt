use Rattle.std.proofs.Common.{◌≡◌, ◌∙◌, sym, ap}
use Rattle.std.specs.Prelude.{None, Some}
use Rattle.std.specs.Result.{result_err}
use Rattle.std.proofs.lemmas.Result.{on_ok_weaker}
use Rattle.flp_report.specs.Record.{record_of, shape_of, words_in}
use Rattle.flp_report.specs.Words.{bad_word_in}
use Rattle.flp_explain.specs.Explaining.{setting_of}
use Rattle.flp_explain.proofs.LineLemmas.{made-malformed, made-whole}
use Rattle.flp_explain.proofs.explaining.ExplainingJudge.judge.Goals as goal

pub returns-in-Err-clause-line : goal.returns-in-Err-clause-line
returns-in-Err-clause-line c =
    let bad : bad_word_in (words_in (shape_of c.args.given.now) (record_of c.args.given.now)) ≡ Some c.in-Err.word = sym c.load.ensures.bad ∙ ap result_err c.in-Err.is in
    on_ok_weaker c.push_line.result (λ made earlier follows.
    made-malformed c.args.self.now.joint (setting_of c.args.self.now) (shape_of c.args.given.now) (record_of c.args.given.now) c.requires.shape _ _ _ c.in-Err.word
    bad c.clear.ensures.items c.nonce.ensures made) c.push_line.ensures

pub returns-clause-line : goal.returns-clause-line
returns-clause-line c =
    let good : bad_word_in (words_in (shape_of c.args.given.now) (record_of c.args.given.now)) ≡ None = sym c.load.ensures.bad ∙ ap result_err c.in_default.is in
    on_ok_weaker c.push_encoding_line.result (λ made earlier follows.
    made-whole c.args.self.now.joint (setting_of c.args.self.now) (shape_of c.args.given.now) (record_of c.args.given.now) c.requires.shape _ _ _ _
    c.new-words.ensures.shape good c.clear.ensures.items c.in_ok-push_proof_lines.ensures.lines made) c.push_encoding_line.ensures
