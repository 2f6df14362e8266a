use Rattle.std.proofs.Common.{◌≡◌, ◌*◌, List, ℕ, length, ap, sym, ◌∙◌, arith}
use Rattle.flp_report.specs.Record.{record_of}
use Rattle.flp_round.proofs.FindingsLemmas.{accepted_is}
use Rattle.flp_round.proofs.OutsLemmas.{length-outs_in}
use Rattle.flp_round.proofs.verifier.Verifier.verify.Goals as goal

pub write_row-requires-clause-room : goal.write_row-requires-clause-room
write_row-requires-clause-room c =
    let accepted = accepted_is c.verify_record-verdict.result (sym c.is_accepted.ensures ∙ c.if-is_accepted.true) in
    let row = c.row.ensures ∙ c.verify_record-verdict.ensures.row accepted in
    let many : length c.row.result.now ≡ c.args.shape.now.outs = ap (λ (l : List ℕ). length l) row ∙ (length-outs_in c.args.plan.now.circuit c.args.shape.now (record_of c.args.given.now) ∙ sym c.requires.outs) in
    let wide = c.requires.made.row in let len = c.deref_mut.ensures.len in
    let room : length c.deref_mut.result.now ≡ c.args.shape.now.buckets * c.args.shape.now.outs = omega arith in
    room ∙ ap (λ k. c.args.shape.now.buckets * k) (sym many)
