use Rattle.std.proofs.Common.{◌≡◌, ◌++◌, ℕ, codes, subst}
use Rattle.flp_lines.specs.Pieces.{numbered}
use Rattle.flp_lines.proofs.batch.push_batch_fault.Goals as goal

pub returns-in-TextLength-clause-text : goal.returns-in-TextLength-clause-text
returns-in-TextLength-clause-text c =
    rw c.in-TextLength.is
    (subst (λ (n : ℕ). c.push_numbered-in-TextLength.new.self ≡ c.args.line.now ++ numbered (codes "text length ") n)
    c.from-in-TextLength.ensures c.push_numbered-in-TextLength.ensures.text)

pub returns-in-ClaimsOrder-clause-text : goal.returns-in-ClaimsOrder-clause-text
returns-in-ClaimsOrder-clause-text c =
    rw c.in-ClaimsOrder.is
    (subst (λ (n : ℕ). c.push_numbered-in-ClaimsOrder.new.self ≡ c.args.line.now ++ numbered (codes "claims order ") n)
    c.from-in-ClaimsOrder.ensures c.push_numbered-in-ClaimsOrder.ensures.text)
