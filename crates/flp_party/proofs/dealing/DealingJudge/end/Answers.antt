use Rattle.std.proofs.Common.{List, ℕ, ◌++◌, ap, ◌∙◌, append-nil}
use Rattle.flp_party.specs.Dealing.{words_dealt, party_dealt, shape_dealt}
use Rattle.flp_party.proofs.dealing.DealingJudge.end.Goals as goal

pub returns : goal.returns
returns c = λ records _.
    let lines : List ℕ = (words_dealt (party_dealt c.args.self.now) (shape_dealt c.args.self.now)).text records in
    ap (λ (l : List ℕ). lines ++ l) c.clear.ensures.items ∙ append-nil lines
