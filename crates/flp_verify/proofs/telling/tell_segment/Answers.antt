use Rattle.std.proofs.Common.{arith}
use Rattle.flp_round.specs.Crew.{verdicts_of}
use Rattle.flp_verify.proofs.TellingLemmas.{counted-more, told-more, told-all}
use Rattle.flp_verify.proofs.telling.tell_segment.Goals as goal

pub loop-index-preserved : goal.loop-index-preserved
loop-index-preserved g c =
    let verdicts = verdicts_of c.args.crew.now in
    let v = c.verdict-verdict.result in
    let is = c.verdict-verdict.ensures in
    let so = c.loop-index.invariant in (
      λ seen old. counted-more verdicts c.loop-index.index v seen _ _ is (so.0 seen old) c.count.ensures.counted,
      omega (arith, so.1, c.count.ensures.one),
      told-more verdicts c.loop-index.index v is so.2 c.tell.ensures.counted,
      told-more verdicts c.loop-index.index v is so.3 c.tell_all.ensures,
    )

pub returns-clause-floor : goal.returns-clause-floor
returns-clause-floor g c = told-all (verdicts_of c.args.crew.now) c.loop-index.index (omega arith) c.loop-index.invariant.2

pub returns-clause-policies : goal.returns-clause-policies
returns-clause-policies g c = told-all (verdicts_of c.args.crew.now) c.loop-index.index (omega arith) c.loop-index.invariant.3
