use Rattle.std.proofs.Common.{inr}
use Rattle.flp_syntax.specs.View.{program_of}
use Rattle.flp_load.proofs.FaultLemmas.{passed_is}
use Rattle.flp_load.proofs.circuit.planned.Goals as goal

pub returns-in-Err-clause-fault : goal.returns-in-Err-clause-fault
returns-in-Err-clause-fault c = λ text params read. c.from_lang.ensures text (λ other. inr (params, program_of c.args.body, read, c.in-Err.ensures.refused other))

pub returns-in-Ok-compile-clause-passed : goal.returns-in-Ok-compile-clause-passed
returns-in-Ok-compile-clause-passed c = passed_is _ _ _ _ c.in-Ok.ensures.kept c.in-Ok-compile.ensures.circuit c.in-Ok.ensures.passed c.in-Ok-compile.ensures.within
