use Rattle.std.proofs.Common.{◌≡◌, ◌≤◌, ◌<◌, ◌+◌, ◌*◌, ◌++◌, List, Bool, length, map}
use Rattle.flp_syntax.specs.Tree.{Tree, Argument}
use Rattle.flp_syntax.specs.View.{tree_of, item_of, arg_of}
use Rattle.flp_lang.specs.Ahead as ahead
use Rattle.flp_lang.specs.Ahead.{Ahead, next}
use Rattle.flp_lang.specs.Run.{run}
use Rattle.flp_lang.proofs.parser.Parser.+expr.Given as goal

abbrev pub decreases-expr : goal.decreases-expr
decreases-expr l = 7 * length l.self.now.rest.now + 4

abbrev pub decreases-more_terms : goal.decreases-more_terms
decreases-more_terms l = 7 * length l.self.now.rest.now + 0

abbrev pub decreases-term : goal.decreases-term
decreases-term l = 7 * length l.self.now.rest.now + 3

abbrev pub decreases-more_factors : goal.decreases-more_factors
decreases-more_factors l = 7 * length l.self.now.rest.now + 0

abbrev pub decreases-factor : goal.decreases-factor
decreases-factor l = 7 * length l.self.now.rest.now + 2

abbrev pub decreases-prim : goal.decreases-prim
decreases-prim l = 7 * length l.self.now.rest.now + 1

abbrev pub decreases-sum : goal.decreases-sum
decreases-sum l = 7 * length l.self.now.rest.now + 0

abbrev pub decreases-named : goal.decreases-named
decreases-named l = 7 * length l.self.now.rest.now + 0

abbrev pub decreases-args : goal.decreases-args
decreases-args l = 7 * length l.self.now.rest.now + 6

abbrev pub decreases-arg : goal.decreases-arg
decreases-arg l = 7 * length l.self.now.rest.now + 5

-- the parts so far, and those still to come
abbrev pub invariant-more_terms-loop-minus : goal.invariant-more_terms-loop-minus
invariant-more_terms-loop-minus l = record {
  runs : (K : List (Bool × Tree) → Ahead) → run (l.fn.level, 0) l.fn.self.at (next ahead.terms K) l.fn.self.rest.now ≡ run (l.fn.level, 0) l.self.at (next ahead.terms (λ more. K (map item_of l.items.items ++ more))) l.self.rest.now;
  left : length l.self.rest.now ≤ length l.fn.self.rest.now;
}

abbrev pub decreases-more_terms-loop-minus : goal.decreases-more_terms-loop-minus
decreases-more_terms-loop-minus l = length l.self.rest.now

abbrev pub invariant-more_factors-loop-self : goal.invariant-more_factors-loop-self
invariant-more_factors-loop-self l = record {
  runs : (K : List Tree → Ahead) → run (l.fn.level, 0) l.fn.self.at (next ahead.factors K) l.fn.self.rest.now ≡ run (l.fn.level, 0) l.self.at (next ahead.factors (λ more. K (map tree_of l.factors.items ++ more))) l.self.rest.now;
  left : length l.self.rest.now ≤ length l.fn.self.rest.now;
}

abbrev pub decreases-more_factors-loop-self : goal.decreases-more_factors-loop-self
decreases-more_factors-loop-self l = length l.self.rest.now

abbrev pub invariant-args-loop-self : goal.invariant-args-loop-self
invariant-args-loop-self l = record {
  runs : (K : List Argument → Ahead) → run (l.fn.level, 0) l.fn.self.at (next ahead.args K) l.fn.self.rest.now ≡ run (l.fn.level, 0) l.self.at (next ahead.more_args (λ more. K (map arg_of l.args.items ++ more))) l.self.rest.now;
  left : length l.self.rest.now < length l.fn.self.rest.now;
}

abbrev pub decreases-args-loop-self : goal.decreases-args-loop-self
decreases-args-loop-self l = length l.self.rest.now
