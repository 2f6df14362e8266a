use Rattle.std.proofs.Common.{◌≡◌, ℕ, Option, Err, inl, refl, ap, subst, arith}
use Rattle.std.specs.Prelude.{IfSome}
use Rattle.std.specs.Io.KnownBytes.{Appends}
use Rattle.std.proofs.KnownBytes.{Keeps-refl}
use Rattle.std.proofs.lemmas.Result.{on_ok_weaker, on_err_weaker, IfErr-weaker}
use Rattle.flp_report.specs.Reads.{ConsumesWithin}
use Rattle.flp_report.proofs.ReadsLemmas.{ConsumesWithin-some}
use Rattle.flp_report.specs.Reader.{source_of}
use Rattle.flp_batch.specs.declared.fault.EngineFault.TheVariants.{Read, Write}
use Rattle.flp_batch.specs.Fault.{IfFile}
use Rattle.flp_batch.specs.Format.{batches, front_size}
use Rattle.flp_batch.specs.File.{IsFault}
use Rattle.flp_batch.specs.Lines.{lines_of}
use Rattle.flp_batch.specs.Opened.{Opens}
use Rattle.flp_batch.proofs.BatchLemmas.{WritesOf-behind, stops-behind, early-lines, SettlesEarly-behind, StopsEarly-front, Ends-behind}
use Rattle.flp_batch.proofs.command.perform_on.Goals as goal

pub answer-requires-clause-readable : goal.answer-requires-clause-readable
answer-requires-clause-readable g c = c.in-Ok.ensures.source.uses.again refl

pub returns-in-Ok-clause-done : goal.returns-in-Ok-clause-done
returns-in-Ok-clause-done g c =
    let left = g.S.Source.left (source_of c.args.reader.now) in
    let mid = g.S.Source.left (source_of c.open.new.reader) in
    let opens = subst (λ (p : Option ℕ). Opens p left mid c.in-Ok.opened) c.party.ensures c.in-Ok.ensures.opens in
    on_ok_weaker c.answer.result (λ all. WritesOf-behind Appends (g.T.Task.asked c.args.task.now) c.in-Ok.opened (λ by. (g.T.Task.words c.args.task.now by).text) left mid (g.S.Source.left (source_of c.answer.new.reader)) (g.K.Sink.taken c.args.output.now) (g.K.Sink.taken c.answer.new.output) opens all) c.answer.ensures.done

pub returns-in-Ok-clause-stopped : goal.returns-in-Ok-clause-stopped
returns-in-Ok-clause-stopped g c =
    let left = g.S.Source.left (source_of c.args.reader.now) in
    let mid = g.S.Source.left (source_of c.open.new.reader) in
    let opens = subst (λ (p : Option ℕ). Opens p left mid c.in-Ok.opened) c.party.ensures c.in-Ok.ensures.opens in
    on_err_weaker c.answer.result (λ stop. stops-behind (g.T.Task.asked c.args.task.now) c.in-Ok.opened (g.T.Task.words c.args.task.now) left mid (g.S.Source.left (source_of c.answer.new.reader)) (g.K.Sink.taken c.args.output.now) (g.K.Sink.taken c.answer.new.output) c.answer.result opens stop) c.answer.ensures.stopped

pub returns-in-Ok-clause-lines : goal.returns-in-Ok-clause-lines
returns-in-Ok-clause-lines g c = λ same.
    let party = g.T.Task.asked c.args.task.now in
    let words = g.T.Task.words c.args.task.now in
    let left = g.S.Source.left (source_of c.args.reader.now) in
    let mid = g.S.Source.left (source_of c.open.new.reader) in
    let opens = subst (λ (p : Option ℕ). Opens p left mid c.in-Ok.opened) c.party.ensures c.in-Ok.ensures.opens in
    on_err_weaker c.answer.result
    (λ stop. early-lines party words (c.answer.result ≡ Err Write) left (g.S.Source.left (source_of c.answer.new.reader)) (g.K.Sink.taken c.args.output.now) (g.K.Sink.taken c.answer.new.output) same (stops-behind party c.in-Ok.opened words left mid (g.S.Source.left (source_of c.answer.new.reader)) (g.K.Sink.taken c.args.output.now) (g.K.Sink.taken c.answer.new.output) c.answer.result opens stop)) c.answer.ensures.stopped

pub returns-in-Ok-clause-settled : goal.returns-in-Ok-clause-settled
returns-in-Ok-clause-settled g c =
    let party = g.T.Task.asked c.args.task.now in
    let left = g.S.Source.left (source_of c.args.reader.now) in
    let mid = g.S.Source.left (source_of c.open.new.reader) in
    let opens = subst (λ (p : Option ℕ). Opens p left mid c.in-Ok.opened) c.party.ensures c.in-Ok.ensures.opens in
    IfErr-weaker c.answer.result _ _
    (λ fault settles input. SettlesEarly-behind party c.in-Ok.opened (g.T.Task.words c.args.task.now) left mid (g.S.Source.left (source_of c.answer.new.reader)) (g.K.Sink.taken c.args.output.now) (g.K.Sink.taken c.answer.new.output) opens (settles input)) c.answer.ensures.settled

pub returns-in-Ok-clause-kept : goal.returns-in-Ok-clause-kept
returns-in-Ok-clause-kept g c = IfErr-weaker c.answer.result _ _ (λ fault none front. absurd (none front)) c.answer.ensures.behind

pub returns-in-Ok-clause-ends : goal.returns-in-Ok-clause-ends
returns-in-Ok-clause-ends g c =
    let left = g.S.Source.left (source_of c.args.reader.now) in
    let mid = g.S.Source.left (source_of c.open.new.reader) in
    let opens = subst (λ (p : Option ℕ). Opens p left mid c.in-Ok.opened) c.party.ensures c.in-Ok.ensures.opens in
    Ends-behind (g.T.Task.asked c.args.task.now) c.in-Ok.opened left mid (g.S.Source.left (source_of c.answer.new.reader)) _ _ _ _ _ c.answer.result opens c.open.ensures.source.uses.later c.answer.ensures.ends

pub returns-in-Err-clause-stopped : goal.returns-in-Err-clause-stopped
returns-in-Err-clause-stopped g c =
    inl (StopsEarly-front _ (λ by. lines_of (g.T.Task.words c.args.task.now by).line) _ _ _ _ (ConsumesWithin-some _ _ _ c.open.ensures.source.bytes) (Keeps-refl (g.K.Sink.taken c.args.output.now)))

pub returns-in-Err-clause-lines : goal.returns-in-Err-clause-lines
returns-in-Err-clause-lines g c = λ same.
    StopsEarly-front _ (λ by. lines_of (g.T.Task.words c.args.task.now by).line) _ _ _ _ (ConsumesWithin-some _ _ _ c.open.ensures.source.bytes) (Keeps-refl (g.K.Sink.taken c.args.output.now))

pub returns-in-Err-clause-settled : goal.returns-in-Err-clause-settled
returns-in-Err-clause-settled g c = λ input.
    let left = g.S.Source.left (source_of c.args.reader.now) in
    let few = subst (λ (p : Option ℕ). ConsumesWithin (front_size (batches p)) left (g.S.Source.left (source_of c.open.new.reader))) c.party.ensures c.open.ensures.source.bytes in
    inl (Keeps-refl (g.K.Sink.taken c.args.output.now), few)

pub returns-in-Err-clause-kept : goal.returns-in-Err-clause-kept
returns-in-Err-clause-kept g c = λ front. Keeps-refl (g.K.Sink.taken c.args.output.now)

pub returns-in-Err-clause-ends : goal.returns-in-Err-clause-ends
returns-in-Err-clause-ends g c =
    let left = g.S.Source.left (source_of c.args.reader.now) in
    record {
      fault =
          subst (λ (p : Option ℕ). IfFile c.in-Err.fault (λ f. IfSome left (λ bytes. IsFault (batches p) bytes f))) c.party.ensures c.in-Err.ensures.fault;
      few = inl (subst (λ (p : Option ℕ). ConsumesWithin (front_size (batches p)) left (g.S.Source.left (source_of c.open.new.reader))) c.party.ensures c.open.ensures.source.bytes);
      read = λ is. let same : c.in-Err.fault ≡ Read = cc in c.in-Err.ensures.source.uses.cause (ap Err same);
      write = λ is. let same : c.in-Err.fault ≡ Write = cc in absurd (c.in-Err.ensures.no_write (ap Err same));
      later_in = c.open.ensures.source.uses.later;
      later_out = omega arith;
    }
