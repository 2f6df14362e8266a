use Rattle.std.proofs.Common.{◌≡◌, ◌<◌, ◌+◌, ◌*◌, ◌++◌, List, length, map}
use Rattle.flp_syntax.specs.Tree.{Statement}
use Rattle.flp_syntax.specs.View.{statement_of}
use Rattle.flp_lang.specs.Ahead as ahead
use Rattle.flp_lang.specs.Ahead.{Ahead, next}
use Rattle.flp_lang.specs.Run.{run}
use Rattle.flp_lang.proofs.parser.Parser.+stmt.Given as goal

abbrev pub decreases-each : goal.decreases-each
decreases-each l = 3 * length l.self.now.rest.now

abbrev pub decreases-stmt : goal.decreases-stmt
decreases-stmt l = 3 * length l.self.now.rest.now + 1

abbrev pub decreases-stmts : goal.decreases-stmts
decreases-stmts l = 3 * length l.self.now.rest.now + 2

-- the statements so far, and those still to come
abbrev pub invariant-stmts-loop-self : goal.invariant-stmts-loop-self
invariant-stmts-loop-self l = record {
  runs : (K : List Statement → Ahead) → run (l.fn.level, 0) l.fn.self.at (next ahead.stmts K) l.fn.self.rest.now ≡ run (l.fn.level, 0) l.self.at (next ahead.more_stmts (λ more. K (map statement_of l.stmts.items ++ more))) l.self.rest.now;
  left : length l.self.rest.now < length l.fn.self.rest.now;
}

abbrev pub decreases-stmts-loop-self : goal.decreases-stmts-loop-self
decreases-stmts-loop-self l = length l.self.rest.now
