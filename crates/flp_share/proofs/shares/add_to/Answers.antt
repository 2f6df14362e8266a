use Rattle.std.proofs.Common.{ℕ, ◌≡◌, ◌<◌, List, length, arith}
use Rattle.flp_field.specs.Sums.{sum_of_lists}
use Rattle.flp_field.proofs.ListSums.{sum_has_last}
use Rattle.flp_share.proofs.shares.add_to.Goals as goal

pub returns : goal.returns
returns c =
    λ (lists : List (List ℕ)) (is : c.args.sum.now ≡ sum_of_lists (length c.args.sum.now) lists).
    sum_has_last (length c.args.sum.now) lists c.args.words.now c.args.sum.now c.loop-k.sum is (omega arith)
    (λ (k : ℕ) (below : k < length c.args.sum.now). c.loop-k.invariant.done k (omega arith))
