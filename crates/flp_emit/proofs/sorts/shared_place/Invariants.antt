use Rattle.std.proofs.Common.{◌≡◌, true, false, drop, map}
use Rattle.flp_syntax.specs.Tree.{Tree, trees}
use Rattle.flp_syntax.specs.Sorts.{has_shared}
use Rattle.flp_syntax.specs.Linear.{FactorsAreLinear}
use Rattle.flp_syntax.specs.View.{tree_of}
use Rattle.flp_emit.specs.Marks.{BeginWith, factor_marks}
use Rattle.flp_emit.specs.Emitting.{IsOneShared}
use Rattle.flp_emit.proofs.sorts.shared_place.Given as goal

-- the one shared factor is one of those from here on
abbrev pub invariant-loop-place : goal.invariant-loop-place
invariant-loop-place l = record {
  shared : has_shared (trees (map tree_of (drop l.place l.factors))) ≡ true;
  linear : FactorsAreLinear false false (trees (map tree_of (drop l.place l.factors)));
  marks : BeginWith l.left (factor_marks (trees (map tree_of (drop l.place l.factors))));
  leads :
      (expr : Tree) → IsOneShared expr (trees (map tree_of (drop l.place l.factors)))
      → IsOneShared expr (trees (map tree_of l.factors));
}
