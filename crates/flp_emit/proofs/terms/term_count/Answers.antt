use Rattle.std.proofs.Common.{ℕ, map, ap, ◌∙◌}
use Rattle.flp_syntax.specs.Tree.{statements}
use Rattle.flp_syntax.specs.View.{program_of, statement_of}
use Rattle.flp_emit.specs.Counts.{capped}
use Rattle.flp_emit.proofs.NamedCode.{walked_are, named_code, named_count}
use Rattle.flp_emit.proofs.terms.term_count.Goals as goal

pub terms_of_statements-requires : goal.terms_of_statements-requires
terms_of_statements-requires c =
    named_code (program_of c.args.body.now) c.deref.result.now (statements (map statement_of c.as_slice-stmts.result.now)) c.requires
    (walked_are c.args.body.now.stmts c.as_slice.result.now c.in_ok-copy.copy c.as_slice-stmts.result.now c.as_slice.ensures c.in_ok-copy.ensures c.as_slice-stmts.ensures)
    (rw c.deref.ensures.value c.in_ok-marks.ensures)

pub returns : goal.returns
returns c =
    c.in_ok-count.ensures
    ∙ ap (λ (n : ℕ). capped n)
    (named_count (program_of c.args.body.now) _
    (walked_are c.args.body.now.stmts c.as_slice.result.now c.in_ok-copy.copy c.as_slice-stmts.result.now c.as_slice.ensures c.in_ok-copy.ensures c.as_slice-stmts.ensures))
