-- Parts of a circuit from which a walk can go on: nothing in the part is out of range, each form in it is linear, and the marks begin with its own.
use Rattle.std.specs.Prelude.{List, false}
use Rattle.flp_syntax.specs.Tree.{Tree, Items, Trees, Argument, Arguments, Statement, Statements, Program}
use Rattle.flp_syntax.specs.Scope.{Scope}
use Rattle.flp_syntax.specs.Fits.{TreeFits, ItemsFit, FactorsFit, ArgumentFits, ArgumentsFit, StatementFits, StatementsFit}
use Rattle.flp_syntax.specs.Linear.{TreeIsLinear, ItemsAreLinear, FactorsAreLinear, ArgumentIsLinear, ArgumentsAreLinear, StatementIsLinear, StatementsAreLinear}
use Rattle.flp_emit.specs.declared.marks.Mark.{Mark}
use Rattle.flp_emit.specs.Marks.{BeginWith, marks_of, item_marks, factor_marks, marks_of_argument, argument_marks, marks_of_statement, statement_marks}

pub record HasCode {Part : Type 0} (Fits : Program → Scope → Part → Type 0) (IsLinearHere : Part → Type 0) (own_marks : Part → List Mark)
    (body : Program) (scope : Scope) (ahead : List Mark) (part : Part) : Type 0 where
  pub fits : Fits body scope part
  pub linear : IsLinearHere part
  pub marks : BeginWith ahead (own_marks part)

abbrev pub TreeHasCode : Program → Scope → List Mark → Tree → Type 0
TreeHasCode = HasCode TreeFits (TreeIsLinear false) marks_of

abbrev pub ItemsHaveCode : Program → Scope → List Mark → Items → Type 0
ItemsHaveCode = HasCode ItemsFit (ItemsAreLinear false false) item_marks

abbrev pub FactorsHaveCode : Program → Scope → List Mark → Trees → Type 0
FactorsHaveCode = HasCode FactorsFit (FactorsAreLinear false false) factor_marks

abbrev pub ArgumentHasCode : Program → Scope → List Mark → Argument → Type 0
ArgumentHasCode = HasCode ArgumentFits (ArgumentIsLinear false) marks_of_argument

abbrev pub ArgumentsHaveCode : Program → Scope → List Mark → Arguments → Type 0
ArgumentsHaveCode = HasCode ArgumentsFit (ArgumentsAreLinear false) argument_marks

abbrev pub StatementHasCode : Program → Scope → List Mark → Statement → Type 0
StatementHasCode = HasCode StatementFits StatementIsLinear marks_of_statement

abbrev pub StatementsHaveCode : Program → Scope → List Mark → Statements → Type 0
StatementsHaveCode = HasCode StatementsFit StatementsAreLinear statement_marks
