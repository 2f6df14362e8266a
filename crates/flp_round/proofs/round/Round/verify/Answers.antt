use Rattle.flp_report.specs.Record.{record_of}
use Rattle.flp_round.proofs.RoundLemmas.{new_verdict, new_row, replayed_verdict, replayed_row, has_bucket}
use Rattle.flp_round.proofs.round.Round.verify.Goals as goal

pub returns-then-is_replayed-clause-verdict : goal.returns-then-is_replayed-clause-verdict
returns-then-is_replayed-clause-verdict c = replayed_verdict c.args.self.now c.args.place c.requires.place c.is_replayed.result c.is_replayed.ensures c.if-is_replayed.true

pub returns-then-is_replayed-clause-row : goal.returns-then-is_replayed-clause-row
returns-then-is_replayed-clause-row c = replayed_row c.args.self.now c.args.place c.requires.place c.is_replayed.result c.is_replayed.ensures c.if-is_replayed.true

pub verify-requires-clause-bucket : goal.verify-requires-clause-bucket
verify-requires-clause-bucket c = has_bucket c.args.self.now c.args.place c.requires.place (record_of c.record_at.result) c.record_at.ensures.numbered

pub returns-clause-verdict : goal.returns-clause-verdict
returns-clause-verdict c = new_verdict c.args.self.now c.args.place c.requires.place c.is_replayed.result c.is_replayed.ensures (record_of c.record_at.result) c.record_at.ensures.numbered
    c.verify.result c.if-is_replayed.false c.verify.ensures.verdict

pub returns-clause-row : goal.returns-clause-row
returns-clause-row c = new_row c.args.self.now c.args.place c.requires.place c.is_replayed.result c.is_replayed.ensures (record_of c.record_at.result) c.record_at.ensures.numbered
    c.verify.result c.verify.new.self.row.items c.if-is_replayed.false c.verify.ensures.verdict c.verify.ensures.row
