use Rattle.std.proofs.Common.{map}
use Rattle.flp_syntax.specs.Tree.{statements}
use Rattle.flp_syntax.specs.View.{program_of, statement_of}
use Rattle.flp_emit.proofs.Listing.{tied}
use Rattle.flp_emit.proofs.NamedCode.{walked_are, named_code, named_performed}
use Rattle.flp_emit.proofs.body.emit.Goals as goal

pub perform-requires-clause-code : goal.perform-requires-clause-code
perform-requires-clause-code c =
    named_code (program_of c.args.body.now) c.deref.result.now (statements (map statement_of c.as_slice-stmts.result.now)) c.requires
    (walked_are c.args.body.now.stmts c.as_slice.result.now c.in_ok-copy.copy c.as_slice-stmts.result.now c.as_slice.ensures c.in_ok-copy.ensures c.as_slice-stmts.ensures)
    (rw c.deref.ensures.value c.in_ok-marks.ensures)

pub returns : goal.returns
returns c =
    rw (c.from_vec.ensures, c.finish.ensures)
    (tied (program_of c.args.body.now) _ c.perform.new.made c.perform.new.done c.new-2.ensures.items c.in_ok-new.ensures.joint
    (named_performed (program_of c.args.body.now) _ c.perform.new.made _ c.perform.new.done _
    (walked_are c.args.body.now.stmts c.as_slice.result.now c.in_ok-copy.copy c.as_slice-stmts.result.now c.as_slice.ensures c.in_ok-copy.ensures c.as_slice-stmts.ensures)
    (rw (c.new-4.ensures, c.new-5.ensures) at c.in_ok-perform.ensures)))
