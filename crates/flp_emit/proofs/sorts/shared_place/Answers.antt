use Rattle.std.proofs.Common.{◌≡◌, ◌+◌, ◌∙◌, true, false, map, drop}
use Rattle.flp_syntax.specs.Tree.{trees}
use Rattle.flp_syntax.specs.Sorts.{is_shared}
use Rattle.flp_syntax.specs.View.{tree_of}
use Rattle.flp_emit.specs.Emitting.{first_one, later_one}
use Rattle.flp_emit.proofs.Marking.{first_sort, first_factor, behind_factor}
use Rattle.flp_syntax.proofs.Rests.{rest_trees, element}
use Rattle.flp_syntax.proofs.Publics.{rest_shared}
use Rattle.flp_meaning.proofs.LinearLemmas.{behind_public}
use Rattle.flp_emit.proofs.sorts.shared_place.Goals as goal

pub returns-then-first_is_shared-clause-one : goal.returns-then-first_is_shared-clause-one
returns-then-first_is_shared-clause-one c = λ here read.
    let rest = rest_trees _ _ here c.loop-place-test.true read in
    let shared : is_shared (tree_of here) ≡ true =
    first_sort (tree_of here) c.first_is_shared.ensures (first_factor rest c.loop-place.invariant.marks) ∙ c.if-first_is_shared.true in
    c.loop-place.invariant.leads (tree_of here)
    (rw rest (first_one shared (behind_public false (is_shared (tree_of here)) _ shared (rw rest at c.loop-place.invariant.linear).2)))

pub returns-then-first_is_shared-clause-marks : goal.returns-then-first_is_shared-clause-marks
returns-then-first_is_shared-clause-marks c = λ here read.
    first_factor (rest_trees _ _ here c.loop-place-test.true read) c.loop-place.invariant.marks

pub loop-place-preserved : goal.loop-place-preserved
loop-place-preserved c =
    let here = element c.args.factors.now c.loop-place.place c.loop-place-test.true in
    let rest = rest_trees _ _ here.0 c.loop-place-test.true here.1 in
    let public : is_shared (tree_of here.0) ≡ false =
    first_sort (tree_of here.0) c.first_is_shared.ensures (first_factor rest c.loop-place.invariant.marks) ∙ c.if-first_is_shared.false in
    record {
      shared =
          rest_shared (tree_of here.0) (trees (map tree_of (drop (c.loop-place.place + 1) c.args.factors.now))) public
          (rw rest at c.loop-place.invariant.shared);
      linear = rw public at (rw rest at c.loop-place.invariant.linear).2;
      marks = behind_factor rest c.behind_first-left.ensures c.loop-place.invariant.marks;
      leads = λ expr one. c.loop-place.invariant.leads expr (rw rest (later_one public one));
    }
