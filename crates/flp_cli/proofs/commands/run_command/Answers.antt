use Rattle.std.specs.Prelude.{map}
use Rattle.flp_verdict.specs.Release.{Answers}
use Rattle.flp_cli.specs.Commands.{duty_of}
use Rattle.flp_cli.proofs.RunLemmas.{run-by}
use Rattle.flp_cli.proofs.commands.run_command.Goals as goal

pub returns : goal.returns
returns g c =
    let would : Answers = λ more of. map (λ p. (goal.Policy-dyn g (p.vtable, p.value)).would p.value more of) c.args.policies.items in
    run-by (duty_of would c.args.command) (c.one_reply.ensures would c.args.command) _ _ _ c.perform-ended.result c.finish.result
    c.perform-ended.ensures c.finish.ensures.status (rw (c.kind_of.ensures would) at c.finish.ensures.says)
