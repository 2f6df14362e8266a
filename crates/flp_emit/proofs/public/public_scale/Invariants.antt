use Rattle.std.proofs.Common.{map, drop}
use Rattle.flp_syntax.specs.Tree.{trees}
use Rattle.flp_syntax.specs.View.{tree_of, program_of}
use Rattle.flp_meaning.specs.Meaning.{product}
use Rattle.flp_forms.specs.StraightLine.{Grows}
use Rattle.flp_syntax.specs.Fits.{FactorsFit}
use Rattle.flp_syntax.specs.View.{scope_of}
use Rattle.flp_emit.specs.Marks.{BeginWith, factor_marks}
use Rattle.flp_emit.specs.Emitting.{ScaleRemains, public_parts}
use Rattle.flp_emit.proofs.public.public_scale.Given as goal

-- the factors from here on are left
abbrev pub invariant-loop-factor : goal.invariant-loop-factor
invariant-loop-factor l = record {
  marks : BeginWith l.marks (factor_marks (trees (map tree_of (drop l.factor-index l.factors))));
  grows : Grows l.fn.steps l.steps;
  fits : FactorsFit (program_of l.place.body.now) (scope_of l.place.scope.now) (trees (map tree_of (drop l.factor-index l.factors)));
  left :
      ScaleRemains l.steps l.fn.scale l.all
      (λ reading. product (public_parts (program_of l.place.body.now).gadgets reading (scope_of l.place.scope.now) (trees (map tree_of (drop l.factor-index l.factors)))))
      (λ reading. product (public_parts (program_of l.place.body.now).gadgets reading (scope_of l.place.scope.now) (trees (map tree_of l.factors))));
}
