use Rattle.std.proofs.Common.{◌≡◌, ◌<◌}
use Rattle.flp_report.specs.Pieces.{pieces, fall_in}
use Rattle.flp_report.proofs.PiecesLemmas.{fall_from}
use Rattle.flp_report.proofs.nonces.first_fall.Given as goal

abbrev pub invariant-loop-index : goal.invariant-loop-index
invariant-loop-index l = 0 < l.count → fall_in (pieces 16 l.count l.bytes) ≡ fall_from l.index l.count l.bytes
