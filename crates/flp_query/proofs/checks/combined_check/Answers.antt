use Rattle.std.proofs.Common.{ℕ, ◌≡◌, ◌∙◌, ◌+◌, ◌%◌, ap, arith}
use Rattle.std.proofs.lemmas.List.{get_or_read}
use Rattle.flp_field.specs.Word.{modulus}
use Rattle.flp_meaning.specs.Meaning.{Reading}
use Rattle.flp_meaning.specs.Circuit.{checks_of, with_answers}
use Rattle.flp_meaning.specs.Gadgets.{check_count}
use Rattle.flp_meaning.specs.Lengths.{check_words}
use Rattle.flp_meaning.proofs.Fixed.{checks_are_fixed}
use Rattle.flp_query.proofs.CheckLemmas.{combined-more, combined-all, words-several}
use Rattle.flp_query.proofs.checks.combined_check.Goals as goal

pub loop-index-preserved : goal.loop-index-preserved
loop-index-preserved c joint same =
    let reading : Reading = with_answers c.args.reading.now.x.now joint c.args.reading.now.unit c.args.reading.now.answers.now in
    let several : check_words c.args.plan.now.circuit ≡ check_count c.args.plan.now.circuit =
    words-several c.args.plan.now.circuit (omega (arith, c.is_within_limits.ensures.some_checks)) in
    c.add-sum.ensures
    ∙ ap (λ (n : ℕ). (c.loop-index.sum + n) % modulus) c.mul.ensures
    ∙ combined-more (checks_of c.args.plan.now.circuit reading) c.args.words.now c.loop-index.index c.loop-index.sum c.index-words-index.result c.check-value.result
    (c.loop-index.invariant joint same)
    (get_or_read c.args.words.now c.loop-index.index c.index-words-index.result (omega arith) c.index-words-index.is 0)
    (c.check-value.ensures joint same)

pub returns : goal.returns
returns c joint same =
    let reading : Reading = with_answers c.args.reading.now.x.now joint c.args.reading.now.unit c.args.reading.now.answers.now in
    combined-all c.args.plan.now.circuit (checks_of c.args.plan.now.circuit reading) c.args.words.now c.loop-index.index c.loop-index.sum
    (omega (arith, c.is_within_limits.ensures.some_checks)) (checks_are_fixed c.args.plan.now.circuit reading) (omega arith)
    (c.loop-index.invariant joint same)
