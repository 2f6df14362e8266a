use Rattle.std.proofs.Common.{rules, ◌≡◌, ℕ, List, Some, sym, ap, ◌∙◌}
use Rattle.flp_report.specs.Record.{record_of}
use Rattle.flp_report.specs.Segment.{record_in}
use Rattle.flp_report.proofs.SegmentLemmas.{records_in-at}
use Rattle.flp_report.proofs.segment.Segment.record_at.Goals as goal

pub returns-clause-numbered : goal.returns-clause-numbered
returns-clause-numbered c =
    let bytes : record_of c.new.result ≡ record_in c.args.self.now c.args.index = search rules in
    records_in-at c.args.self.now c.args.index c.requires ∙ ap (λ (b : List ℕ). Some b) (sym bytes)
