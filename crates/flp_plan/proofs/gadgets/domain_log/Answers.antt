use Rattle.std.proofs.Common.{ℕ, List, length, get_or, ap, ◌∙◌, ◌+◌, arith}
use Rattle.flp_syntax.specs.View.{program_of}
use Rattle.flp_meaning.specs.Gadgets.{ceil_log}
use Rattle.flp_plan.proofs.PassedLemmas.{passed_gadgets, passed_calls, passed_gadget}
use Rattle.flp_plan.proofs.CompileLemmas.{totals_in, passed_in}
use Rattle.flp_plan.proofs.gadgets.domain_log.Goals as goal

pub bounds-counts-gadget : goal.bounds-counts-gadget
bounds-counts-gadget c =
    let size = passed_gadgets (program_of c.args.checked.now.body) (totals_in c.args.checked.now) (passed_in c.args.checked.now) in
    let counts = ap (λ (l : List ℕ). length l) c.as_slice-counts.ensures in
    omega arith

pub overflow_add-calls : goal.overflow_add-calls
overflow_add-calls c =
    let within = passed_gadget (program_of c.args.checked.now.body) (totals_in c.args.checked.now) (passed_in c.args.checked.now) c.args.gadget c.requires in
    let calls = passed_calls (program_of c.args.checked.now.body) (totals_in c.args.checked.now) (passed_in c.args.checked.now) c.args.gadget c.requires in
    let read = ap (λ (l : List ℕ). get_or l c.args.gadget 0) c.as_slice-counts.ensures in
    omega (arith, within.few_calls)

pub log_at_least-requires : goal.log_at_least-requires
log_at_least-requires c =
    let within = passed_gadget (program_of c.args.checked.now.body) (totals_in c.args.checked.now) (passed_in c.args.checked.now) c.args.gadget c.requires in
    let calls = passed_calls (program_of c.args.checked.now.body) (totals_in c.args.checked.now) (passed_in c.args.checked.now) c.args.gadget c.requires in
    let read = ap (λ (l : List ℕ). get_or l c.args.gadget 0) c.as_slice-counts.ensures in
    omega (arith, within.few_calls)

pub returns-clause-log : goal.returns-clause-log
returns-clause-log c =
    c.log_at_least.ensures
    ∙ ap (λ (n : ℕ). ceil_log (n + 1))
    (ap (λ (l : List ℕ). get_or l c.args.gadget 0) c.as_slice-counts.ensures
    ∙ passed_calls (program_of c.args.checked.now.body) (totals_in c.args.checked.now) (passed_in c.args.checked.now) c.args.gadget c.requires)

pub returns-clause-few : goal.returns-clause-few
returns-clause-few c =
    let within = passed_gadget (program_of c.args.checked.now.body) (totals_in c.args.checked.now) (passed_in c.args.checked.now) c.args.gadget c.requires in
    let log =
    c.log_at_least.ensures
    ∙ ap (λ (n : ℕ). ceil_log (n + 1))
    (ap (λ (l : List ℕ). get_or l c.args.gadget 0) c.as_slice-counts.ensures
    ∙ passed_calls (program_of c.args.checked.now.body) (totals_in c.args.checked.now) (passed_in c.args.checked.now) c.args.gadget c.requires) in
    omega (arith, within.small_domain)
