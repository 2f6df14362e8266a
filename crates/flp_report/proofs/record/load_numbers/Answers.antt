use Rattle.std.proofs.Common.{arith, length, ◌<◌, ◌∙◌, sym}
use Rattle.std.proofs.lemmas.List.{take_more_set}
use Rattle.flp_report.proofs.WordsLemmas.{words_more}
use Rattle.flp_report.proofs.record.load_numbers.Goals as goal

pub loop-index-preserved : goal.loop-index-preserved
loop-index-preserved c =
    let inside : c.loop-index.index < length c.loop-index.out = omega arith in
    take_more_set c.loop-index.out c.loop-index.index c.number_at.result inside
    ∙ rw (c.loop-index.invariant, c.number_at.ensures) (sym (words_more c.loop-index.index c.args.bytes.now))
