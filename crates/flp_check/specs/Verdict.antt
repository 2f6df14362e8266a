-- What a body is judged: its calls, checks and outputs, or its first fault.
use Rattle.std.specs.Prelude.{◌≡◌, ℕ, List, [], length, Option, None, Some, option_map, Result, Ok, Err, replicate}
use Rattle.flp_syntax.specs.declared.fault.LangFault.{LangFault}
use Rattle.flp_syntax.specs.declared.fault.LangFault.TheVariants as fault
use Rattle.flp_syntax.specs.Tree.{Program}
use Rattle.flp_check.specs.declared.flaw.Flaw.{Flaw}
use Rattle.flp_check.specs.declared.flaw.Rule.{Rule}
use Rattle.flp_check.specs.declared.flaw.Rule.TheVariants.{Name, Twice, NotLinear}
use Rattle.flp_check.specs.Limits.{first, declared_faults, closing_faults}
use Rattle.flp_check.specs.Flaws.{text_flaws, first_flaw}
use Rattle.flp_check.specs.Events.{body_events}
use Rattle.flp_check.specs.Counts.{Counts, walk, go_on}

-- the calls of each gadget, the checks and the outputs
pub record Totals : Type 0 where
  pub calls : List ℕ
  pub checks : ℕ
  pub outs : ℕ

-- the fault, or else what follows
abbrev pub unless : {A : Type 0} → Option LangFault → Result A LangFault → Result A LangFault
unless None next = next
unless (Some fault) next = Err fault

-- a flaw as a fault
abbrev pub flaw_fault_by : Rule → ℕ → LangFault
flaw_fault_by Name at = fault.Name at
flaw_fault_by Twice at = fault.Twice at
flaw_fault_by NotLinear at = fault.NotLinear at

abbrev pub flaw_fault : Flaw → LangFault
flaw_fault flaw = flaw_fault_by flaw.rule flaw.at

-- before the first statement nothing was met
abbrev pub no_counts : Program → Counts
no_counts body = record { visits = 0; calls = replicate (length body.gadgets) 0; checks = 0; outs = 0 }

abbrev pub totals_of : Counts → Totals
totals_of counts = record { calls = counts.calls; checks = counts.checks; outs = counts.outs }

-- what was counted, if all that must be there is there
abbrev pub closing_verdict : Counts → Result Totals LangFault
closing_verdict counts = unless (first (closing_faults counts.calls counts.checks counts.outs)) (Ok (totals_of counts))

-- the limits of what is declared, then names and sorts, then what unrolling meets, then what is missing at its end
abbrev pub verdict : Program → Result Totals LangFault
verdict body = unless (first (declared_faults body)) (unless (option_map flaw_fault (first_flaw (text_flaws body))) (go_on (walk (no_counts body) (body_events body)) closing_verdict))

-- the passes of a body that passes: none finds a fault, and what was counted is what was met
pub record Passes (body : Program) (totals : Totals) : Type 0 where
  pub declared : declared_faults body ≡ []
  pub flaws : text_flaws body ≡ []
  pub counts : Counts
  pub walked : walk (no_counts body) (body_events body) ≡ Ok counts
  pub closing : closing_faults counts.calls counts.checks counts.outs ≡ []
  pub totals_are : totals_of counts ≡ totals
