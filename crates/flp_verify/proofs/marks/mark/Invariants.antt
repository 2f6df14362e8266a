use Rattle.std.proofs.Common.{◌≡◌, map, take}
use Rattle.flp_report.specs.Record.{nonce_in}
use Rattle.flp_report.specs.Segment.{records_in}
use Rattle.flp_known.specs.Order.{with_nonces}
use Rattle.flp_known.specs.Known.{known_in}
use Rattle.flp_verify.specs.Marks.{marks_behind}
use Rattle.flp_verify.proofs.marks.mark.Given as goal

abbrev pub invariant-loop-index : goal.invariant-loop-index
invariant-loop-index l =
    (take l.index l.marks ≡ marks_behind (known_in l.initial.known) (take l.index (records_in l.segment)))
    × (known_in l.known ≡ with_nonces (known_in l.initial.known) (map nonce_in (take l.index (records_in l.segment))))
