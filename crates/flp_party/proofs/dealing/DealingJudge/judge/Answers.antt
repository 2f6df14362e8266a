use Rattle.std.proofs.Common.{ℕ, List, ◌++◌, ap₂, ◌∙◌}
use Rattle.std.proofs.lemmas.Result.{on_ok_weaker}
use Rattle.flp_report.specs.declared.shape.Shape.{Shape}
use Rattle.flp_report.specs.Record.{record_of}
use Rattle.flp_party.specs.Share.{dealt_record}
use Rattle.flp_party.specs.Dealing.{party_dealt}
use Rattle.flp_party.proofs.dealing.DealingJudge.judge.Goals as goal

pub returns-clause-line : goal.returns-clause-line
returns-clause-line c =
    on_ok_weaker c.push_dealt.result
    (λ made earlier _. made ∙ ap₂ (λ (l : List ℕ) (s : Shape). l ++ dealt_record (party_dealt c.args.self.now) s (record_of c.args.given.now)) c.clear.ensures.items c.requires.shape)
    c.push_dealt.ensures
