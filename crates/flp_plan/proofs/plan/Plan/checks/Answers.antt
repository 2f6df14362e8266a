use Rattle.std.proofs.Common.{◌≡◌, length, ap, sym, ◌∙◌, arith}
use Rattle.flp_meaning.specs.Gadgets.{check_count}
use Rattle.flp_syntax.specs.View.{program_of}
use Rattle.flp_plan.specs.View.{Compiled}
use Rattle.flp_plan.proofs.TiedLemmas.{check_count-code}
use Rattle.flp_plan.proofs.plan.Plan.checks.Goals as goal

pub overflow_cast-result : goal.overflow_cast-result
overflow_cast-result c =
    let few = c.self.invariant.limits.few_checks in
    let count : check_count (program_of c.self.inside.checked.body) ≡ length c.self.inside.code.checks =
    check_count-code (program_of c.self.inside.checked.body) c.self.inside.code c.self.invariant.tied in
    omega arith

pub returns : goal.returns
returns c =
    c.len.ensures ∙ sym (check_count-code (program_of c.self.inside.checked.body) c.self.inside.code c.self.invariant.tied)
    ∙ ap (λ (plan : Compiled). check_count plan.circuit) c.self.view_is
