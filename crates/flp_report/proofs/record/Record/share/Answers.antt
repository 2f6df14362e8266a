use Rattle.std.proofs.Common.{◌≡◌, ◌+◌, ◌*◌, length, arith}
use Rattle.flp_report.specs.Shape.{words_start}
use Rattle.flp_report.proofs.PlacesLemmas.{share_fits}
use Rattle.flp_report.proofs.record.Record.share.Goals as goal

pub slice_bounds-result-end : goal.slice_bounds-result-end
slice_bounds-result-end c =
    let s = c.args.self.now.shape in
    let rest = s.proofs * (s.joint + s.query) in
    let whole : length c.args.self.now.bytes.now ≡ words_start s + 8 * (s.shares * c.part.result + rest) = rw c.part.ensures.words c.args.self.now.whole in
    let fits = share_fits (words_start s) c.args.share s.shares c.part.result rest c.requires in
    omega (arith, fits, whole)
