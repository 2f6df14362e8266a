use Rattle.std.proofs.Common.{◌≡◌, ◌<◌, ◌++◌, ◌∷◌, length}
use Rattle.flp_syntax.specs.Tree.{Kind, poly_kind}
use Rattle.flp_lang.specs.Ahead as ahead
use Rattle.flp_lang.specs.Ahead.{Ahead, next, fixed}
use Rattle.flp_lang.specs.Run.{run}
use Rattle.flp_syntax.specs.declared.token.Mark.TheVariants.{Poly}
use Rattle.flp_lang.proofs.parser.Parser.poly.Given as goal

-- the coefficients so far, and those still to come
abbrev pub invariant-loop-self : goal.invariant-loop-self
invariant-loop-self l = record {
  runs : (K : Kind → Ahead) → run (0, l.fn.level) l.fn.self.at (fixed Poly (next ahead.coef (λ v. next ahead.more_coefs (λ more. K (poly_kind (v ∷ more)))))) l.fn.self.rest.now ≡ run (0, l.fn.level) l.self.at (next ahead.more_coefs (λ more. K (poly_kind (l.coefs.items ++ more)))) l.self.rest.now;
  left : length l.self.rest.now < length l.fn.self.rest.now;
}

abbrev pub decreases-loop-self : goal.decreases-loop-self
decreases-loop-self l = length l.self.rest.now
