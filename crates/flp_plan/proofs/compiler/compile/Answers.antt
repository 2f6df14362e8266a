use Rattle.std.proofs.Common.{◌<◌, ℕ, List, length, get_or, subst, sym}
use Rattle.flp_syntax.specs.View.{program_of}
use Rattle.flp_plan.specs.declared.gadgets.GadgetUse.{GadgetUse}
use Rattle.flp_plan.specs.Uses.{UseIsSmall}
use Rattle.flp_plan.proofs.CompileLemmas.{totals_in, passed_in, are_small}
use Rattle.flp_plan.proofs.compiler.compile.Goals as goal

pub sums_of-sums-requires-clause-small : goal.sums_of-sums-requires-clause-small
sums_of-sums-requires-clause-small c =
    subst (λ (l : List GadgetUse). (k : ℕ) (d : GadgetUse) → k < length l → UseIsSmall (get_or l k d)) (sym c.deref.ensures.value)
    (are_small (program_of c.args.checked.body) (totals_in c.args.checked) (passed_in c.args.checked) c.in_ok-gadgets.gadgets.items c.in_ok-gadgets.ensures)
