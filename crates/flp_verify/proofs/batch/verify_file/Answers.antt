use Rattle.std.proofs.Common.{None}
use Rattle.std.proofs.lemmas.Result.{IfOk-weaker, IfErr-weaker}
use Rattle.flp_report.specs.Reader.{source_of}
use Rattle.flp_batch.proofs.BatchLemmas.{Ends-behind}
use Rattle.flp_verify.proofs.WholeLemmas.{Counts-behind, stops-early, settles-early}
use Rattle.flp_verify.proofs.batch.verify_file.Goals as goal

pub returns-in-Ok-clause-done : goal.returns-in-Ok-clause-done
returns-in-Ok-clause-done g c =
    IfOk-weaker c.verify_opened.result _ _ (λ counted all. Counts-behind c.in-Ok.opened c.args.least _ _ counted (g.S.Source.left (source_of c.args.reader.now)) (g.S.Source.left (source_of c.open.new.reader)) _ _ _ c.in-Ok.ensures.opens all) c.verify_opened.ensures.done

pub returns-in-Ok-clause-stopped : goal.returns-in-Ok-clause-stopped
returns-in-Ok-clause-stopped g c =
    IfErr-weaker c.verify_opened.result _ _ (λ fault breaks. stops-early c.in-Ok.opened (g.S.Source.left (source_of c.args.reader.now)) (g.S.Source.left (source_of c.open.new.reader)) _ _ _ c.in-Ok.ensures.opens breaks.stops) c.verify_opened.ensures.breaks

pub returns-in-Ok-clause-settled : goal.returns-in-Ok-clause-settled
returns-in-Ok-clause-settled g c =
    IfErr-weaker c.verify_opened.result _ _ (λ fault breaks input. settles-early c.in-Ok.opened (g.S.Source.left (source_of c.args.reader.now)) (g.S.Source.left (source_of c.open.new.reader)) _ _ _ c.in-Ok.ensures.opens (breaks.settles input)) c.verify_opened.ensures.breaks

pub returns-in-Ok-clause-kept : goal.returns-in-Ok-clause-kept
returns-in-Ok-clause-kept g c = IfErr-weaker c.verify_opened.result _ _ (λ fault breaks front. absurd (breaks.behind front)) c.verify_opened.ensures.breaks

pub returns-in-Ok-clause-ends : goal.returns-in-Ok-clause-ends
returns-in-Ok-clause-ends g c =
    Ends-behind None c.in-Ok.opened (g.S.Source.left (source_of c.args.reader.now)) (g.S.Source.left (source_of c.open.new.reader)) (g.S.Source.left (source_of c.verify_opened.new.reader)) _ _ _ _ _ c.verify_opened.result c.in-Ok.ensures.opens c.open.ensures.source.uses.later c.verify_opened.ensures.ends
