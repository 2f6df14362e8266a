use Rattle.std.proofs.Common.{◌≡◌, arith, length, ◌<◌, ◌∙◌, sym, subst}
use Rattle.std.proofs.lemmas.List.{take_more_set}
use Rattle.flp_field.specs.Word.{IsWord}
use Rattle.flp_report.proofs.WordsLemmas.{words_more, IsWord-words}
use Rattle.flp_report.proofs.record.load.Goals as goal

pub unwrap-requires : goal.unwrap-requires
unwrap-requires c =
    let inside : c.loop-index.index < length c.args.out.now = omega arith in
    c.new.ensures.below.1 (subst IsWord (sym c.number_at.ensures) (IsWord-words _ _ c.args.bytes.now c.requires.below inside))

pub loop-index-preserved : goal.loop-index-preserved
loop-index-preserved c =
    let inside : c.loop-index.index < length c.loop-index.out = omega arith in
    let same : c.unwrap.result ≡ c.number_at.result = rw c.unwrap.ensures at c.new.ensures.same in
    take_more_set c.loop-index.out c.loop-index.index c.unwrap.result inside
    ∙ rw (c.loop-index.invariant, same, c.number_at.ensures) (sym (words_more c.loop-index.index c.args.bytes.now))
