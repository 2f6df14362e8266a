-- The answers of the passes as those of loading.
use Rattle.std.proofs.Common.{◌≡◌, None, Some, Ok, refl, sym, ap, subst, ◌∙◌}
use Rattle.std.specs.Prelude.{◌≢◌}
use Rattle.flp_syntax.specs.declared.syntax.Params.{Params}
use Rattle.flp_syntax.specs.declared.syntax.Body.{Body}
use Rattle.flp_syntax.specs.Tree.{Program}
use Rattle.flp_syntax.specs.View.{program_of}
use Rattle.flp_check.specs.Verdict.{Totals, verdict}
use Rattle.flp_circuits.specs.declared.fault.ParamFault.{ParamFault}
use Rattle.flp_circuits.specs.declared.fault.ParamFault.TheVariants as param
use Rattle.flp_circuits.specs.Sizes.{first_refusal, IsParamFault}
use Rattle.flp_plan.specs.declared.fault.PlanFault.{PlanFault}
use Rattle.flp_plan.specs.declared.fault.PlanFault.TheVariants as plan
use Rattle.flp_plan.specs.Counted.{limit_fault, IsFaultOf}
use Rattle.flp_load.specs.Loaded.{IsChecked}

-- but for want of memory, the fault of parameters is their first refusal
pub refusal_is : (params : Params) (fault : ParamFault) → fault ≢ param.Memory → IsParamFault params fault → first_refusal params ≡ Some fault
refusal_is params param.Memory other is = absurd (other refl)
refusal_is params (param.Zero which) other is = is
refusal_is params (param.TooLarge which value) other is = is

-- but for want of memory, the fault of compiling is that of the limits
pub limit_is : (circuit : Program) (fault : PlanFault) → fault ≢ plan.Memory → IsFaultOf circuit fault → limit_fault circuit ≡ Some fault
limit_is circuit plan.Memory other is = absurd (other refl)
limit_is circuit (plan.Limit which value) other is = is

-- a plan of a body that passed
pub passed_is :
    (body kept : Body) (made : Program) (totals : Totals) → kept ≡ body → made ≡ program_of kept → verdict (program_of body) ≡ Ok totals → limit_fault (program_of kept) ≡ None
    → IsChecked made × (limit_fault made ≡ None)
passed_is body kept made totals same is passed small =
    let of_body : made ≡ program_of body = is ∙ ap program_of same in
    (subst IsChecked (sym of_body) (totals, passed), subst (λ (circuit : Program). limit_fault circuit ≡ None) (sym is) small)
