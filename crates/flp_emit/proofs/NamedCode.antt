-- The code of a circuit is that of the circuit with its loops named by their depth. From statements up to the circuit.
use Rattle.std.proofs.Common.{ℕ, ◌≡◌, List, [], ◌++◌, map, sym, ap, subst, ◌∙◌, length}
use Rattle.flp_syntax.specs.Tree.{Statements, statements, Program}
use Rattle.flp_syntax.specs.Fits.{StatementsFit}
use Rattle.flp_syntax.specs.Linear.{StatementsAreLinear}
use Rattle.flp_syntax.specs.declared.syntax.Stmt.{Stmt}
use Rattle.flp_syntax.specs.View.{statement_of}
use Rattle.flp_rename.specs.Renamed.{renamed_statements}
use Rattle.flp_meaning.specs.Meaning.{Run, all_results, join_results, statements_of}
use Rattle.flp_meaning.specs.Terms.{terms_of_statements}
use Rattle.flp_forms.specs.LinearForms.{Share}
use Rattle.flp_forms.specs.PublicValues.{publics}
use Rattle.flp_emit.specs.declared.marks.Mark.{Mark}
use Rattle.flp_emit.specs.declared.made.Made.{Made}
use Rattle.flp_emit.specs.declared.made.Done.{Done}
use Rattle.flp_emit.specs.Fitting.{ProgramFits}
use Rattle.flp_emit.specs.Marks.{BeginWith, statement_marks}
use Rattle.flp_emit.specs.Walking.{StatementsHaveCode}
use Rattle.flp_emit.specs.Code.{read_by, call_by}
use Rattle.flp_emit.specs.Emitting.{Adds, Performed, DoneFits, done_words}
use Rattle.flp_emit.proofs.NamedFits.{stmts_fit, stmts_linear}
use Rattle.flp_emit.proofs.NamedMeaning as meant
use Rattle.flp_emit.proofs.NamedTerms as counted

-- the statements that are walked are those of the copy
pub walked_are : (own lent copy walked : List Stmt) → lent ≡ own
    → statements (map statement_of copy) ≡ renamed_statements [] (statements (map statement_of lent)) → walked ≡ copy
    → statements (map statement_of walked) ≡ renamed_statements [] (statements (map statement_of own))
walked_are own lent copy walked same copied read =
    ap (λ (l : List Stmt). statements (map statement_of l)) read
    ∙ copied
    ∙ ap (λ (l : List Stmt). renamed_statements [] (statements (map statement_of l))) same

pub named_code : (body : Program) (marks : List Mark) (stmts : Statements) → ProgramFits body → stmts ≡ renamed_statements [] body.stmts
    → BeginWith marks (statement_marks stmts) → StatementsHaveCode body [] marks stmts
named_code body marks stmts fits same begins = record {
  fits = subst (λ (s : Statements). StatementsFit body [] s) (sym same) (stmts_fit body [] body.stmts fits.fits);
  linear = subst StatementsAreLinear (sym same) (stmts_linear [] body.stmts fits.linear);
  marks = begins;
}

-- what adds a run adds one that is the same
adds_same : {A B C : Type 0} (meas : ℕ) (holds : (publics meas answers : ℕ) → C → Type 0) (read : List ℕ → Share → C → B) (join : List ℕ → B → A → B)
    (old new : Made) (before after : C) (run other : List ℕ → Share → Run A) → ((joint : List ℕ) (share : Share) → run joint share ≡ other joint share)
    → Adds meas holds read join old new before after run → Adds meas holds read join old new before after other
adds_same {A} {B} {C} meas holds read join old new before after run other same h = record {
  extends = h.extends;
  value =
      λ joint share size line inputs on.
      h.value joint share size line inputs on
      ∙ ap (λ (r : Run A). join (publics line.steps joint) (read (publics line.steps joint) share before) (r (length old.calls.items)).value) (same joint share);
  calls =
      λ joint share size line inputs on.
      h.calls joint share size line inputs on
      ∙ ap (λ (r : Run A). map (call_by (publics line.steps joint) share inputs) old.calls.items ++ (r (length old.calls.items)).calls) (same joint share);
  sound = h.sound;
  fits = h.fits;
}

pub named_performed : (body : Program) (old new : Made) (before after : Done) (stmts : Statements) → stmts ≡ renamed_statements [] body.stmts
    → Performed body.meas old new before after (λ joint share. all_results (statements_of body.gadgets (read_by joint share) [] stmts))
    → Performed body.meas old new before after (λ joint share. all_results (statements_of body.gadgets (read_by joint share) [] body.stmts))
named_performed body old new before after stmts same =
    adds_same body.meas DoneFits done_words (λ values so_far results. join_results so_far results) old new before after
    (λ joint share. all_results (statements_of body.gadgets (read_by joint share) [] stmts))
    (λ joint share. all_results (statements_of body.gadgets (read_by joint share) [] body.stmts))
    (λ joint share.
    ap (λ (s : Statements). all_results (statements_of body.gadgets (read_by joint share) [] s)) same
    ∙ ap all_results (meant.statements_named body.gadgets (read_by joint share) [] body.stmts))

pub named_count : (body : Program) (stmts : Statements) → stmts ≡ renamed_statements [] body.stmts
    → terms_of_statements body.meas [] stmts ≡ terms_of_statements body.meas [] body.stmts
named_count body stmts same =
    ap (λ (s : Statements). terms_of_statements body.meas [] s) same ∙ counted.statements_named body.meas [] body.stmts
