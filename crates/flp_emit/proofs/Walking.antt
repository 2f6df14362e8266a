-- The first part of a list from which a walk can go on, and the parts behind it.
use Rattle.std.proofs.Common.{◌≡◌, ◌++◌, Bool, List}
use Rattle.flp_syntax.specs.Tree.{Tree, Items, item_on, Argument, Arguments, arg_on, Statement, Statements, stmt_on, Program}
use Rattle.flp_syntax.specs.Scope.{Scope}
use Rattle.flp_emit.specs.declared.marks.Mark.{Mark}
use Rattle.flp_emit.specs.Marks.{marked, BeginWith}
use Rattle.flp_emit.specs.Walking.{TreeHasCode, ItemsHaveCode, ArgumentHasCode, ArgumentsHaveCode, StatementHasCode, StatementsHaveCode}
use Rattle.flp_emit.proofs.Marking.{first_item, first_argument, first_statement, behind_item, behind_argument, behind_statement}

-- ---- the first part

pub item_has_code : {body : Program} {scope : Scope} {marks : List Mark} {all more : Items} {minus : Bool} {expr : Tree}
    → all ≡ item_on minus expr more → ItemsHaveCode body scope marks all → TreeHasCode body scope marks expr
item_has_code e code = record { fits = (rw e at code.fits).0; linear = (rw e at code.linear).1; marks = first_item e code.marks }

pub argument_has_code : {body : Program} {scope : Scope} {marks : List Mark} {all more : Arguments} {arg : Argument}
    → all ≡ arg_on arg more → ArgumentsHaveCode body scope marks all → ArgumentHasCode body scope marks arg
argument_has_code e code = record { fits = (rw e at code.fits).0; linear = (rw e at code.linear).0; marks = first_argument e code.marks }

pub statement_has_code : {body : Program} {scope : Scope} {marks : List Mark} {all more : Statements} {stmt : Statement}
    → all ≡ stmt_on stmt more → StatementsHaveCode body scope marks all → StatementHasCode body scope marks stmt
statement_has_code e code = record { fits = (rw e at code.fits).0; linear = (rw e at code.linear).0; marks = first_statement e code.marks }

-- ---- the parts behind it, by what is said of the marks behind the first part

abbrev pub MarksBehind : (marks left : List Mark) → Type 0
MarksBehind marks left = (shared : Bool) (inner more : List Mark) → BeginWith marks (marked shared inner ++ more) → BeginWith left more

pub items_behind : {body : Program} {scope : Scope} {marks left : List Mark} {all more : Items} {minus : Bool} {expr : Tree}
    → all ≡ item_on minus expr more → MarksBehind marks left → ItemsHaveCode body scope marks all → ItemsHaveCode body scope left more
items_behind e law code = record { fits = (rw e at code.fits).1; linear = (rw e at code.linear).2; marks = behind_item e law code.marks }

pub arguments_behind : {body : Program} {scope : Scope} {marks left : List Mark} {all more : Arguments} {arg : Argument}
    → all ≡ arg_on arg more → MarksBehind marks left → ArgumentsHaveCode body scope marks all → ArgumentsHaveCode body scope left more
arguments_behind e law code = record { fits = (rw e at code.fits).1; linear = (rw e at code.linear).1; marks = behind_argument e law code.marks }

pub statements_behind : {body : Program} {scope : Scope} {marks left : List Mark} {all more : Statements} {stmt : Statement}
    → all ≡ stmt_on stmt more → MarksBehind marks left → StatementsHaveCode body scope marks all → StatementsHaveCode body scope left more
statements_behind e law code = record { fits = (rw e at code.fits).1; linear = (rw e at code.linear).1; marks = behind_statement e law code.marks }
