use Rattle.std.proofs.Common.{◌≡◌, ◌∙◌}
use Rattle.std.specs.Prelude.{map}
use Rattle.flp_verdict.specs.Release.{Answers}
use Rattle.flp_cli.proofs.WholeLemmas.{run-for, unread}
use Rattle.flp_cli.proofs.program.run.Goals as goal

-- the command of the words was run
pub returns-in-Ok-Some-clause-does : goal.returns-in-Ok-Some-clause-does
returns-in-Ok-Some-clause-does g c = λ command is.
    let would : Answers = λ more of. map (λ p. (goal.Policy-dyn g (p.vtable, p.value)).would p.value more of) c.args.policies.items in
    let met = c.in-Ok-Some in
    let same : met.command ≡ command = cc (met.ensures.command ∙ is, met.field-0-is) in
    run-for would met.command command _ _ _ _ same c.run_command.ensures

-- no memory for the words
pub returns-in-Err-clause-does : goal.returns-in-Err-clause-does
returns-in-Err-clause-does g c = λ command is.
    let would : Answers = λ more of. map (λ p. (goal.Policy-dyn g (p.vtable, p.value)).would p.value more of) c.args.policies.items in
    rw c.without_words-in-Err.ensures.status (unread would command _ _ _ _ _ c.without_words-in-Err.ensures.says)
