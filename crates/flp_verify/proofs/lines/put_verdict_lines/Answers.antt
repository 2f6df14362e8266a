use Rattle.std.proofs.Common.{◌≡◌, ◌≤◌, length, refl, sym, arith, Some}
use Rattle.std.specs.Prelude.{slice_get}
use Rattle.std.proofs.lemmas.Option.{get_or_from_slice_get, slice_get_within}
use Rattle.flp_report.specs.Segment.{records_in}
use Rattle.flp_report.specs.Record.{record_of}
use Rattle.flp_round.specs.Crew.{verdicts_of}
use Rattle.flp_verdict.specs.Verdicts.{Judged}
use Rattle.flp_verdict.specs.Text.{line_of}
use Rattle.flp_verify.specs.Told.{beside}
use Rattle.flp_verify.proofs.LineLemmas.{beside-at, length-beside}
use Rattle.flp_known.proofs.PutsLemmas.{Puts-none, Puts-more, Puts-stop, Puts-all}
use Rattle.flp_verify.proofs.lines.put_verdict_lines.Goals as goal

pub loop-index-init : goal.loop-index-init
loop-index-init g c = Puts-none c.args.sink.now c.args.block.now tt c.requires.ready

pub loop-index-preserved : goal.loop-index-preserved
loop-index-preserved g c =
    let js = beside (records_in c.args.segment.now) (verdicts_of c.args.crew.now) in
    let j : Judged = record { report = record_of c.record_at-given.result; verdict = c.verdict.result } in
    let is : slice_get js c.loop-index.index ≡ Some j =
    beside-at (records_in c.args.segment.now) (verdicts_of c.args.crew.now) c.loop-index.index j.report j.verdict c.record_at-given.ensures.numbered c.verdict.ensures in
    Puts-more line_of js c.loop-index.index j j (slice_get_within js c.loop-index.index j is) (sym (get_or_from_slice_get js c.loop-index.index j j is))
    c.loop-index.invariant refl c.in_ok-put_verdict_line.ensures

pub returns-in_err-put_verdict_line : goal.returns-in_err-put_verdict_line
returns-in_err-put_verdict_line g c =
    let js = beside (records_in c.args.segment.now) (verdicts_of c.args.crew.now) in
    let j : Judged = record { report = record_of c.record_at-given.result; verdict = c.verdict.result } in
    let is : slice_get js c.loop-index.index ≡ Some j =
    beside-at (records_in c.args.segment.now) (verdicts_of c.args.crew.now) c.loop-index.index j.report j.verdict c.record_at-given.ensures.numbered c.verdict.ensures in
    Puts-stop line_of js c.loop-index.index j j (slice_get_within js c.loop-index.index j is) (sym (get_or_from_slice_get js c.loop-index.index j j is))
    c.loop-index.invariant refl c.in_err-put_verdict_line.ensures refl c.from_residual.ensures.0

pub returns : goal.returns
returns g c =
    let js = beside (records_in c.args.segment.now) (verdicts_of c.args.crew.now) in
    let most = length-beside (records_in c.args.segment.now) (verdicts_of c.args.crew.now) in
    let all : length js ≤ c.loop-index.index = omega (arith, most, c.requires.verdicts, c.loop-index-test.false) in
    Puts-all line_of js c.loop-index.index all c.loop-index.invariant
