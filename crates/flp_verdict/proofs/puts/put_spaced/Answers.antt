use Rattle.std.proofs.Common.{◌<◌, ◌++◌, ◌∙◌, ℕ, length, refl, arith, codes, decimal}
use Rattle.std.proofs.lemmas.List.{get_or_read}
use Rattle.flp_known.proofs.PutsLemmas.{Puts-more, Puts-stop}
use Rattle.flp_verdict.proofs.puts.put_spaced.Goals as goal

pub returns-in_err-put_spaced_number : goal.returns-in_err-put_spaced_number
returns-in_err-put_spaced_number g c =
    let numbers = c.args.numbers.now in
    let below : c.loop-number.number-index < length numbers = omega arith in
    let is = get_or_read numbers c.loop-number.number-index c.number-item.result below c.number-item.is 0 in
    Puts-stop (λ (n : ℕ). codes " " ++ decimal n) numbers c.loop-number.number-index 0 c.value.result below (c.value.ensures.same ∙ is)
    c.loop-number.invariant refl c.in_err-put_spaced_number.ensures refl c.from_residual.ensures.0

pub loop-number-preserved : goal.loop-number-preserved
loop-number-preserved g c =
    let numbers = c.args.numbers.now in
    let below : c.loop-number.number-index < length numbers = omega arith in
    let is = get_or_read numbers c.loop-number.number-index c.number-item.result below c.number-item.is 0 in
    Puts-more (λ (n : ℕ). codes " " ++ decimal n) numbers c.loop-number.number-index 0 c.value.result below (c.value.ensures.same ∙ is)
    c.loop-number.invariant refl c.in_ok-put_spaced_number.ensures
