use Rattle.std.proofs.Common.{◌≡◌, ◌∙◌, List, ℕ, length, ap, sym, subst, arith}
use Rattle.std.proofs.lemmas.List.{with_items_is}
use Rattle.flp_tally.specs.Rows.{AreSums}
use Rattle.flp_verify.proofs.TotalLemmas.{totals-listed}
use Rattle.flp_verify.proofs.closing.close_into.Goals as goal

pub returns-clause-totals : goal.returns-clause-totals
returns-clause-totals c =
    let long = ap length c.as_mut_slice.ensures.value in
    let whole : length c.close.new.totals ≡ c.args.totals.now.len = omega (arith, c.close.auto.totals, long, c.args.totals.now.ok.0) in
    let size : length c.close.new.totals ≡ c.args.tally.elements = omega (arith, c.close.auto.totals, long, c.requires.size) in
    with_items_is c.args.totals.now c.close.new.totals whole ∙ totals-listed c.args.tally.elements c.args.seat.view.added c.close.new.totals c.close.ensures.totals size

pub returns-clause-sums : goal.returns-clause-sums
returns-clause-sums c =
    let long = ap length c.as_mut_slice.ensures.value in
    let whole : length c.close.new.totals ≡ c.args.totals.now.len = omega (arith, c.close.auto.totals, long, c.args.totals.now.ok.0) in
    subst (λ (l : List ℕ). AreSums c.args.seat.view.added l) (sym (with_items_is c.args.totals.now c.close.new.totals whole)) c.close.ensures.sums
