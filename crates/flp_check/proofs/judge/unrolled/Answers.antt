use Rattle.std.proofs.Common.{map, refl}
use Rattle.flp_syntax.specs.Tree.{statements}
use Rattle.flp_syntax.specs.View.{statement_of, program_of}
use Rattle.flp_check.proofs.Renaming.{walked_body}
use Rattle.flp_check.proofs.judge.unrolled.Goals as goal

pub returns : goal.returns
returns c = walked_body (program_of c.args.body.now) (statements (map statement_of c.as_slice-2.result.now)) c.walked.result c.walked.ensures (rw (c.as_slice-2.ensures, c.in_ok-copy.ensures, c.as_slice.ensures) refl)
