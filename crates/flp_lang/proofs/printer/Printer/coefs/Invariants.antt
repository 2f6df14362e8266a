use Rattle.std.proofs.Common.{drop}
use Rattle.flp_lang.specs.Print.{put_coefs}
use Rattle.flp_lang.specs.Written.{Writes}
use Rattle.flp_lang.proofs.printer.Printer.coefs.Given as goal

-- the coefficients from the index on are left
abbrev pub invariant-loop-coef : goal.invariant-loop-coef
invariant-loop-coef l = Writes l.fn.self.text.items (put_coefs l.coefs) l.self.text.items (put_coefs (drop l.coef-index l.coefs))
