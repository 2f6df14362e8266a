use Rattle.std.proofs.Common.{◌≡◌, ◌≤◌, ◌+◌, ◌*◌, ◌++◌, List, Bool, length, map}
use Rattle.flp_syntax.specs.Tree.{Index}
use Rattle.flp_syntax.specs.View.{index_of, index_item_of}
use Rattle.flp_lang.specs.Ahead as ahead
use Rattle.flp_lang.specs.Ahead.{Ahead, next}
use Rattle.flp_lang.specs.Run.{run}
use Rattle.flp_lang.proofs.parser.Parser.+index.Given as goal

abbrev pub decreases-index : goal.decreases-index
decreases-index l = 3 * length l.self.now.rest.now + 2

abbrev pub decreases-index_prim : goal.decreases-index_prim
decreases-index_prim l = 3 * length l.self.now.rest.now

abbrev pub decreases-index_term : goal.decreases-index_term
decreases-index_term l = 3 * length l.self.now.rest.now + 1

abbrev pub decreases-more_index_factors : goal.decreases-more_index_factors
decreases-more_index_factors l = 3 * length l.self.now.rest.now

abbrev pub decreases-more_index_terms : goal.decreases-more_index_terms
decreases-more_index_terms l = 3 * length l.self.now.rest.now + 1

-- the factors so far, and those still to come
abbrev pub invariant-more_index_factors-loop-self : goal.invariant-more_index_factors-loop-self
invariant-more_index_factors-loop-self l = record {
  runs : (K : List Index → Ahead) → run (l.fn.level, 0) l.fn.self.at (next ahead.index_factors K) l.fn.self.rest.now ≡ run (l.fn.level, 0) l.self.at (next ahead.index_factors (λ more. K (map index_of l.factors.items ++ more))) l.self.rest.now;
  left : length l.self.rest.now ≤ length l.fn.self.rest.now;
}

abbrev pub decreases-more_index_factors-loop-self : goal.decreases-more_index_factors-loop-self
decreases-more_index_factors-loop-self l = length l.self.rest.now

-- the items so far, and those still to come
abbrev pub invariant-more_index_terms-loop-minus : goal.invariant-more_index_terms-loop-minus
invariant-more_index_terms-loop-minus l = record {
  runs : (K : List (Bool × Index) → Ahead) → run (l.fn.level, 0) l.fn.self.at (next ahead.index_terms K) l.fn.self.rest.now ≡ run (l.fn.level, 0) l.self.at (next ahead.index_terms (λ more. K (map index_item_of l.items.items ++ more))) l.self.rest.now;
  left : length l.self.rest.now ≤ length l.fn.self.rest.now;
}

abbrev pub decreases-more_index_terms-loop-minus : goal.decreases-more_index_terms-loop-minus
decreases-more_index_terms-loop-minus l = length l.self.rest.now
