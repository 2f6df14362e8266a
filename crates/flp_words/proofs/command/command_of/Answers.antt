use Rattle.std.proofs.Common.{◌∙◌}
use Rattle.std.proofs.lemmas.Result.{IfOk-weaker}
use Rattle.clap.specs.Words.{app_of}
use Rattle.flp_words.proofs.CommandLemmas.{command_in-taken, command_in-refused}
use Rattle.flp_words.proofs.command.command_of.Goals as goal

pub returns-in-Ok-clause-command : goal.returns-in-Ok-clause-command
returns-in-Ok-clause-command c =
    c.command_at.ensures.command ∙ command_in-taken (app_of c.in_ok-app.app) _ c.in-Ok.matches c.in_ok-app.ensures.app c.in-Ok.ensures.matches c.in-Ok.ensures.kinds

pub returns-in-Err-clause-command : goal.returns-in-Err-clause-command
returns-in-Err-clause-command c =
    IfOk-weaker c.without_matches.result _ _
    (λ found none. none.1 ∙ command_in-refused (app_of c.in_ok-app.app) _ c.in-Err.error c.in_ok-app.ensures.app none.0 c.in-Err.ensures.kinds)
    c.without_matches.ensures
