use Rattle.std.proofs.Common.{length, ap, ◌∙◌, arith, List}
use Rattle.flp_meaning.specs.Gadgets.{call_count, call_gadget}
use Rattle.flp_emit.specs.declared.code.CallForms.{CallForms}
use Rattle.flp_syntax.specs.View.{program_of}
use Rattle.flp_plan.specs.View.{Compiled}
use Rattle.flp_plan.proofs.TiedLemmas.{call_count-code, call_there}
use Rattle.flp_plan.proofs.plan.Plan.call_gadget.Goals as goal

pub bounds-as_slice-call : goal.bounds-as_slice-call
bounds-as_slice-call c =
    let count = call_count-code (program_of c.self.inside.checked.body) c.self.inside.code c.self.invariant.tied in
    let seen = ap (λ (plan : Compiled). call_count plan.circuit) c.self.view_is in
    let size = ap (λ (l : List CallForms). length l) c.as_slice.ensures in
    omega arith

pub returns : goal.returns
returns c =
    let seen = ap (λ (plan : Compiled). call_count plan.circuit) c.self.view_is in
    (call_there (program_of c.self.inside.checked.body) c.self.inside.code c.as_slice.result.now c.args.call _ c.self.invariant.tied c.self.invariant.keeps
    c.as_slice.ensures (omega arith)).gadget
    ∙ ap (λ (plan : Compiled). call_gadget plan.circuit c.args.call) c.self.view_is
