use Rattle.std.proofs.Common.{sym, ◌∙◌, arith}
use Rattle.flp_check.proofs.FlawsFit.{flaw_fits}
use Rattle.flp_check.proofs.LimitLemmas.{few_gadgets, one_each}
use Rattle.flp_syntax.specs.View.{program_of}
use Rattle.flp_check.proofs.judge.check.Goals as goal

pub fault_of-requires : goal.fault_of-requires
fault_of-requires c = flaw_fits (program_of c.args.body) c.requires _ (sym c.in_ok-flaw.ensures ∙ c.in-Some.is)

pub closing_limits-requires : goal.closing_limits-requires
closing_limits-requires c = rw c.deref.ensures.value (omega (arith, few_gadgets (program_of c.args.body) c.in_ok-declared_limits.ensures, one_each (program_of c.args.body) _ _ c.in_ok-counter.ensures))
