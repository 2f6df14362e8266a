use Rattle.std.proofs.Common.{◌≡◌, Err, inl, refl, ap, ap₂, arith}
use Rattle.std.proofs.KnownBytes.{Keeps-refl}
use Rattle.std.proofs.lemmas.Result.{on_ok_weaker, on_err_weaker, IfErr-weaker}
use Rattle.flp_report.proofs.ReadsLemmas.{ConsumesWithin-some}
use Rattle.flp_report.specs.Reader.{source_of}
use Rattle.flp_batch.specs.declared.fault.EngineFault.TheVariants.{Read, Write}
use Rattle.flp_batch.proofs.BatchLemmas.{Ends-behind}
use Rattle.flp_party.specs.Dealing.{words_dealt}
use Rattle.flp_party.proofs.DealLemmas.{writes-behind, stops-behind, stops-front, stops-none, settles-behind, ends-behind}
use Rattle.flp_party.proofs.command.deal_read.Goals as goal

-- ---- the batch was not opened

pub returns-in-Err-clause-stopped : goal.returns-in-Err-clause-stopped
returns-in-Err-clause-stopped g c = stops-none c.args.party _ _ _ (ConsumesWithin-some _ _ _ c.open.ensures.source.bytes)

pub returns-in-Err-clause-settled : goal.returns-in-Err-clause-settled
returns-in-Err-clause-settled g c = λ input. inl (Keeps-refl (g.K.Sink.taken c.args.output.now), c.open.ensures.source.bytes)

pub returns-in-Err-clause-kept : goal.returns-in-Err-clause-kept
returns-in-Err-clause-kept g c = λ front. Keeps-refl (g.K.Sink.taken c.args.output.now)

pub returns-in-Err-clause-ends : goal.returns-in-Err-clause-ends
returns-in-Err-clause-ends g c = record {
  fault = c.in-Err.ensures.fault;
  few = inl c.open.ensures.source.bytes;
  read = λ is. let same : c.in-Err.fault ≡ Read = cc in c.in-Err.ensures.source.uses.cause (ap Err same);
  write = λ is. let same : c.in-Err.fault ≡ Write = cc in absurd (c.in-Err.ensures.no_write (ap Err same));
  later_in = c.open.ensures.source.uses.later;
  later_out = omega arith;
}

-- ---- the front was not written

pub new-dealing-requires : goal.new-dealing-requires
new-dealing-requires g c =
    let is = c.in-Ok.ensures.opens.is in
    omega (arith, is.limits.own_share, is.shape.shares)

pub returns-in-Err-put_front-clause-stopped : goal.returns-in-Err-put_front-clause-stopped
returns-in-Err-put_front-clause-stopped g c =
    stops-front c.args.party c.in-Ok.opened _ _ _ _ c.in-Ok.ensures.opens c.put_front.ensures.front

pub returns-in-Err-put_front-clause-ends : goal.returns-in-Err-put_front-clause-ends
returns-in-Err-put_front-clause-ends g c = record {
  fault = tt;
  few = inl c.open.ensures.source.bytes;
  read = λ is. cc;
  write = λ is. c.in-Err-put_front.ensures.uses.cause refl;
  later_in = c.open.ensures.source.uses.later;
  later_out = c.put_front.ensures.uses.later;
}

-- ---- the walk

pub walk-requires-clause-readable : goal.walk-requires-clause-readable
walk-requires-clause-readable g c = c.in-Ok.ensures.source.uses.again refl

pub walk-requires-clause-new : goal.walk-requires-clause-new
walk-requires-clause-new g c = record { shape_is = c.new-dealing.ensures.shape; fresh = tt; none = refl }

pub returns-clause-done : goal.returns-clause-done
returns-clause-done g c =
    on_ok_weaker c.walk.result
    (λ all. writes-behind c.args.party c.in-Ok.opened _ _ _ _ _ _ c.in-Ok.ensures.opens c.in-Ok-put_front.ensures.whole all)
    (c.walk.ensures.done (words_dealt c.args.party c.in-Ok.opened.shape) (ap₂ words_dealt c.new-dealing.ensures.party c.new-dealing.ensures.shape))

pub returns-clause-stopped : goal.returns-clause-stopped
returns-clause-stopped g c =
    on_err_weaker c.walk.result
    (λ stop. stops-behind c.args.party c.in-Ok.opened _ _ _ _ _ _ c.walk.result c.in-Ok.ensures.opens c.in-Ok-put_front.ensures.whole stop)
    (c.walk.ensures.stopped (words_dealt c.args.party c.in-Ok.opened.shape) (ap₂ words_dealt c.new-dealing.ensures.party c.new-dealing.ensures.shape))

pub returns-clause-settled : goal.returns-clause-settled
returns-clause-settled g c =
    IfErr-weaker c.walk.result _ _
    (λ fault settles input. settles-behind c.args.party c.in-Ok.opened _ _ _ _ _ _ c.in-Ok.ensures.opens c.in-Ok-put_front.ensures.whole (settles input))
    (c.walk.ensures.settled (words_dealt c.args.party c.in-Ok.opened.shape) (ap₂ words_dealt c.new-dealing.ensures.party c.new-dealing.ensures.shape))

pub returns-clause-kept : goal.returns-clause-kept
returns-clause-kept g c = IfErr-weaker c.walk.result _ _ (λ fault none front. absurd (none front)) c.walk.ensures.behind

pub returns-clause-ends : goal.returns-clause-ends
returns-clause-ends g c =
    ends-behind _ _ _ _ _ _ _ _ _ c.walk.result c.put_front.ensures.uses.later
    (Ends-behind _ c.in-Ok.opened _ _ _ _ _ _ _ _ c.walk.result c.in-Ok.ensures.opens c.open.ensures.source.uses.later c.walk.ensures.ends)
