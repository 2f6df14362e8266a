-- Marks of parts, as they are read and made.
use Rattle.std.proofs.Common.{◌≡◌, ℕ, ◌+◌, Bool, true, List, [], ◌∷◌, ◌++◌, length, get_or, sym, subst, ap, ◌∙◌, ◌-◌, set, arith, append_assoc, length-append}
use Rattle.std.proofs.lemmas.List.{append-nil}
use Rattle.std.proofs.Math.Seq.{set-append_seam, get_or-append_seam}
use Rattle.flp_syntax.specs.Tree.{Tree, Items, item_on, Trees, tree_on, Argument, one, each_arg, Arguments, arg_on, Statement, check, out, each, Statements, stmt_on}
use Rattle.flp_syntax.specs.Sorts.{is_shared}
use Rattle.flp_emit.specs.declared.marks.Mark.{Mark}
use Rattle.flp_emit.specs.Marks.{marked, marks_inside, item_marks, factor_marks, marks_of_argument, argument_marks, marks_of, marks_of_statement, statement_marks, BeginWith}

-- ---- marks that are read

pub begins_first : {marks : List Mark} (part more : List Mark) → BeginWith marks (part ++ more) → BeginWith marks part
begins_first part more (rest, e) = (more ++ rest, e ∙ append_assoc part more rest)

pub begins_all : {marks : List Mark} (part : List Mark) → marks ≡ part → BeginWith marks part
begins_all part e = ([], e ∙ sym (append-nil part))

-- what is said of the first of any marks, at those of an expression
pub first_sort : {marks : List Mark} {result : Bool} (tree : Tree)
    → ((shared : Bool) (inner : List Mark) → BeginWith marks (marked shared inner) → result ≡ shared)
    → BeginWith marks (marks_of tree) → is_shared tree ≡ result
first_sort tree law begins = sym (law (is_shared tree) (marks_inside tree) begins)

pub inside_tree : {marks within : List Mark} (tree : Tree)
    → ((shared : Bool) (inner : List Mark) → BeginWith marks (marked shared inner) → BeginWith within inner)
    → BeginWith marks (marks_of tree) → BeginWith within (marks_inside tree)
inside_tree tree law begins = law (is_shared tree) (marks_inside tree) begins

-- the marks of a list begin with those of its first part, and behind these stand the marks of the others
pub first_item : {marks : List Mark} {all : Items} {minus : Bool} {expr : Tree} {more : Items} → all ≡ item_on minus expr more → BeginWith marks (item_marks all) → BeginWith marks (marks_of expr)
first_item {marks} {all} {minus} {expr} {more} e begins = begins_first (marks_of expr) (item_marks more) (subst (λ (parts : Items). BeginWith marks (item_marks parts)) e begins)

pub first_factor : {marks : List Mark} {all : Trees} {expr : Tree} {more : Trees} → all ≡ tree_on expr more → BeginWith marks (factor_marks all) → BeginWith marks (marks_of expr)
first_factor {marks} {all} {expr} {more} e begins = begins_first (marks_of expr) (factor_marks more) (subst (λ (parts : Trees). BeginWith marks (factor_marks parts)) e begins)

pub first_argument : {marks : List Mark} {all : Arguments} {arg : Argument} {more : Arguments} → all ≡ arg_on arg more → BeginWith marks (argument_marks all) → BeginWith marks (marks_of_argument arg)
first_argument {marks} {all} {arg} {more} e begins = begins_first (marks_of_argument arg) (argument_marks more) (subst (λ (parts : Arguments). BeginWith marks (argument_marks parts)) e begins)

pub first_statement : {marks : List Mark} {all : Statements} {stmt : Statement} {more : Statements} → all ≡ stmt_on stmt more → BeginWith marks (statement_marks all) → BeginWith marks (marks_of_statement stmt)
first_statement {marks} {all} {stmt} {more} e begins = begins_first (marks_of_statement stmt) (statement_marks more) (subst (λ (parts : Statements). BeginWith marks (statement_marks parts)) e begins)

pub behind_item : {marks left : List Mark} {all : Items} {minus : Bool} {expr : Tree} {more : Items} → all ≡ item_on minus expr more
    → ((shared : Bool) (inner more : List Mark) → BeginWith marks (marked shared inner ++ more) → BeginWith left more)
    → BeginWith marks (item_marks all) → BeginWith left (item_marks more)
behind_item {marks} {left} {all} {minus} {expr} {more} e law begins =
    law (is_shared expr) (marks_inside expr) (item_marks more) (subst (λ (parts : Items). BeginWith marks (item_marks parts)) e begins)

pub behind_factor : {marks left : List Mark} {all : Trees} {expr : Tree} {more : Trees} → all ≡ tree_on expr more
    → ((shared : Bool) (inner more : List Mark) → BeginWith marks (marked shared inner ++ more) → BeginWith left more)
    → BeginWith marks (factor_marks all) → BeginWith left (factor_marks more)
behind_factor {marks} {left} {all} {expr} {more} e law begins =
    law (is_shared expr) (marks_inside expr) (factor_marks more) (subst (λ (parts : Trees). BeginWith marks (factor_marks parts)) e begins)

pub behind_argument : {marks left : List Mark} {all : Arguments} {arg : Argument} {more : Arguments} → all ≡ arg_on arg more
    → ((shared : Bool) (inner more : List Mark) → BeginWith marks (marked shared inner ++ more) → BeginWith left more)
    → BeginWith marks (argument_marks all) → BeginWith left (argument_marks more)
behind_argument {marks} {left} {all} {arg = one expr} {more} e law begins =
    law (is_shared expr) (marks_inside expr) (argument_marks more) (subst (λ (parts : Arguments). BeginWith marks (argument_marks parts)) e begins)
behind_argument {marks} {left} {all} {arg = each_arg at name from to inner} {more} e law begins =
    law true (argument_marks inner) (argument_marks more) (subst (λ (parts : Arguments). BeginWith marks (argument_marks parts)) e begins)

pub behind_statement : {marks left : List Mark} {all : Statements} {stmt : Statement} {more : Statements} → all ≡ stmt_on stmt more
    → ((shared : Bool) (inner more : List Mark) → BeginWith marks (marked shared inner ++ more) → BeginWith left more)
    → BeginWith marks (statement_marks all) → BeginWith left (statement_marks more)
behind_statement {marks} {left} {all} {stmt = check at expr} {more} e law begins =
    law (is_shared expr) (marks_inside expr) (statement_marks more) (subst (λ (parts : Statements). BeginWith marks (statement_marks parts)) e begins)
behind_statement {marks} {left} {all} {stmt = out at expr} {more} e law begins =
    law (is_shared expr) (marks_inside expr) (statement_marks more) (subst (λ (parts : Statements). BeginWith marks (statement_marks parts)) e begins)
behind_statement {marks} {left} {all} {stmt = each at name from to inner} {more} e law begins =
    law true (statement_marks inner) (statement_marks more) (subst (λ (parts : Statements). BeginWith marks (statement_marks parts)) e begins)

-- ---- marks that are made

pub marks_next : {new all : List Mark} (old part more : List Mark) → new ≡ old ++ part → old ++ (part ++ more) ≡ all → new ++ more ≡ all
marks_next old part more e h = ap (λ (xs : List Mark). xs ++ more) e ∙ append_assoc old part more ∙ h

-- a part's mark, the marks inside it, and then the part's end
pub part_made : {one two three : List Mark} {place : ℕ} (old : List Mark) (first : Mark) (inner : List Mark)
    → (place ≡ length old) × (one ≡ old ++ first ∷ []) → two ≡ one ++ inner
    → ((front inner : List Mark) (first : Mark) → two ≡ front ++ first ∷ inner → place ≡ length front → three ≡ front ++ marked first.shared inner)
    → three ≡ old ++ marked first.shared inner
part_made old first inner (p, e) f law =
    law old inner first (f ∙ ap (λ (xs : List Mark). xs ++ inner) e ∙ append_assoc old (first ∷ []) inner) p

length_behind : (front inner : List Mark) (first : Mark) → length (front ++ first ∷ inner) - length front ≡ length inner + 1
length_behind front inner first = rw (length-append front (first ∷ inner)) (omega arith)

pub part_ended : (front inner : List Mark) (first : Mark) {place : ℕ} {marks : List Mark} → marks ≡ front ++ first ∷ inner → place ≡ length front
    → set marks place (record { shared = first.shared; size = length marks - place }) ≡ front ++ marked first.shared inner
part_ended front inner first {place} {marks} e p =
    rw (e, p) (set-append_seam front first inner _ ∙ ap (λ (n : ℕ). front ++ (record { shared = first.shared; size = n } ∷ inner)) (length_behind front inner first))

pub first_read : (front inner : List Mark) (first : Mark) {place : ℕ} {marks : List Mark} (read : Mark)
    → marks ≡ front ++ first ∷ inner → place ≡ length front → read ≡ get_or marks place read → read ≡ first
first_read front inner first {place} {marks} read e p h = h ∙ rw (e, p) (get_or-append_seam front first inner read)
