use Rattle.std.proofs.Common.{drop, map}
use Rattle.flp_syntax.specs.View.{declaration_of}
use Rattle.flp_lang.specs.Print.{put_decls}
use Rattle.flp_lang.specs.Written.{Writes}
use Rattle.flp_lang.proofs.printer.Printer.decls.Given as goal

-- the declarations from the index on are left
abbrev pub invariant-loop-decl : goal.invariant-loop-decl
invariant-loop-decl l = Writes l.fn.self.text.items (put_decls (map declaration_of l.decls)) l.self.text.items (put_decls (map declaration_of (drop l.decl-index l.decls)))
