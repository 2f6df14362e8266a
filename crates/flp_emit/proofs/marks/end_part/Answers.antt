use Rattle.std.proofs.Common.{◌≡◌, length, rules}
use Rattle.flp_emit.proofs.Marking.{part_ended, first_read}
use Rattle.flp_emit.proofs.marks.end_part.Goals as goal

pub returns : goal.returns
returns c = λ front inner first e p.
    let size : c.len.result ≡ length c.args.marks.now.items = search rules in
    rw (first_read front inner first c.index.result.now e p c.index.ensures, size) (part_ended front inner first e p)
