use Rattle.std.proofs.Common.{None, sym, subst}
use Rattle.std.specs.Io.KnownBytes.{Keeps}
use Rattle.std.proofs.KnownBytes.{Keeps-refl}
use Rattle.flp_batch.specs.File.{IsFault, TakesFew}
use Rattle.flp_batch.specs.Format.{batches}
use Rattle.flp_verify.proofs.ReleasedLemmas.{released, stopped, no-input, no-front, ends-with}
use Rattle.flp_verify.proofs.command.verify.Goals as goal

pub returns-clause-done : goal.returns-clause-done
returns-clause-done g c =
    let ends = c.finish-finished.ensures in
    rw c.end_with.ensures (released c.ending_is_released.ensures _ _ _ c.args.claims c.in-Ok.counted _ _ _ _ _ c.in-Ok.ensures.done c.finish-finished.result ends.written ends.sums)

pub returns-clause-settled : goal.returns-clause-settled
returns-clause-settled g c = rw c.end_with.ensures (no-input _ c.in-Ok.counted.end c.finish-finished.result c.finish-finished.ensures.faults)

pub returns-clause-kept : goal.returns-clause-kept
returns-clause-kept g c = rw c.end_with.ensures (no-front _ c.in-Ok.counted.end c.finish-finished.result c.finish-finished.ensures.faults)

pub returns-clause-ends : goal.returns-clause-ends
returns-clause-ends g c =
    let before = c.in-Ok.ensures.ends in
    let ends = c.finish-finished.ensures in
    rw c.end_with.ensures (ends-with (IsFault (batches None)) (TakesFew (batches None)) _ _ _ _ _ _ _ c.in-Ok.counted.end c.finish-finished.result before.few before.later_in before.later_out ends.uses.later ends.uses.cause ends.faults)

pub returns-clause-stopped : goal.returns-clause-stopped
returns-clause-stopped g c =
    let ends = c.finish-finished.ensures in
    rw c.end_with.ensures (stopped c.ending_is_released.ensures _ _ _ c.args.claims c.in-Ok.counted _ _ _ _ _ c.in-Ok.ensures.done c.finish-finished.result ends.front ends.sums
    (λ memory. subst (λ o. Keeps (g.K.Sink.taken c.verify_batch.new.output) (g.K.Sink.taken o)) (sym (ends.kept memory)) (Keeps-refl (g.K.Sink.taken c.verify_batch.new.output))) ends.faults)
