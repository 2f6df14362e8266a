use Rattle.std.proofs.Common.{◌≡◌, ◌++◌, ◌∷◌, List, length, map}
use Rattle.flp_syntax.specs.Tree.{Declaration}
use Rattle.flp_syntax.specs.View.{declaration_of}
use Rattle.flp_lang.specs.Ahead as ahead
use Rattle.flp_lang.specs.Ahead.{Ahead, next}
use Rattle.flp_lang.specs.Run.{run}
use Rattle.flp_lang.proofs.parser.Parser.decls.Given as goal

-- the declarations so far, and those still to come
abbrev pub invariant-loop-self : goal.invariant-loop-self
invariant-loop-self l = record {
  runs : (K : List Declaration → Ahead) → run (0, 0) l.fn.self.at (next ahead.decl (λ v. next ahead.more_decls (λ more. K (v ∷ more)))) l.fn.self.rest.now ≡ run (0, 0) l.self.at (next ahead.more_decls (λ more. K (map declaration_of l.decls.items ++ more))) l.self.rest.now;
}

abbrev pub decreases-loop-self : goal.decreases-loop-self
decreases-loop-self l = length l.self.rest.now
