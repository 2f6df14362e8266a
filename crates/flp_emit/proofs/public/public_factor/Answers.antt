use Rattle.std.proofs.Common.{◌≡◌, true, false, ◌∙◌}
use Rattle.flp_syntax.specs.Sorts.{is_shared}
use Rattle.flp_syntax.specs.View.{tree_of}
use Rattle.flp_emit.proofs.Marking.{first_sort}
use Rattle.flp_emit.proofs.Scaling.{scales_run, scales_by_one}
use Rattle.flp_emit.proofs.public.public_factor.Goals as goal

pub public_step-requires : goal.public_step-requires
public_step-requires c =
    let public : is_shared (tree_of c.args.factor.now) ≡ false =
    first_sort (tree_of c.args.factor.now) c.first_is_shared.ensures c.requires.marks ∙ c.if-first_is_shared.false in
    record { joint = c.requires.joint; public = public; fits = c.requires.fits }

pub returns-then-first_is_shared : goal.returns-then-first_is_shared
returns-then-first_is_shared c =
    let shared : is_shared (tree_of c.args.factor.now) ≡ true =
    first_sort (tree_of c.args.factor.now) c.first_is_shared.ensures c.requires.marks ∙ c.if-first_is_shared.true in
    rw shared (scales_by_one c.args.steps.now c.args.scale c.requires.scale)

pub returns-in_ok-after : goal.returns-in_ok-after
returns-in_ok-after c =
    let public : is_shared (tree_of c.args.factor.now) ≡ false =
    first_sort (tree_of c.args.factor.now) c.first_is_shared.ensures c.requires.marks ∙ c.if-first_is_shared.false in
    rw public (scales_run c.in_ok-step.ensures c.in_ok-after.ensures)
