use Rattle.std.proofs.Common.{Option, [], map, take, drop}
use Rattle.flp_syntax.specs.View.{declaration_of}
use Rattle.flp_check.specs.declared.flaw.Flaw.{Flaw}
use Rattle.flp_check.specs.Flaws.{declarations_flaws, Finds}
use Rattle.flp_check.proofs.text.Search.declarations.Given as goal

-- what is found from here on is found in all
abbrev pub invariant-loop-number : goal.invariant-loop-number
invariant-loop-number l =
    (after : Option Flaw) → Finds l.found.first (declarations_flaws (map declaration_of (take l.number l.self.gadgets.now)) (map declaration_of (drop l.number l.self.gadgets.now))) after
    → Finds l.fn.found.first (declarations_flaws [] (map declaration_of l.self.gadgets.now)) after
