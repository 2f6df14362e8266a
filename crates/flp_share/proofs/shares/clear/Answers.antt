use Rattle.std.proofs.Common.{ℕ, ◌≡◌, ◌%◌, ◌<◌, [], length, get_or, rules, refl, sym, ◌∙◌}
use Rattle.flp_field.specs.Word.{modulus}
use Rattle.flp_field.specs.Sums.{total_at}
use Rattle.flp_field.proofs.ListSums.{sum_of_lists_from}
use Rattle.flp_share.proofs.shares.clear.Goals as goal

pub returns : goal.returns
returns c =
    sum_of_lists_from (length c.args.sum.now) c.fill.new.self [] c.fill.ensures.len
    (λ (k : ℕ) (below : k < length c.args.sum.now).
    let zero : get_or c.fill.new.self k 0 ≡ 0 = search rules in
    let none : total_at [] k % modulus ≡ 0 = refl in
    zero ∙ sym none)
