use Rattle.std.proofs.Common.{ℕ, ◌+◌, ◌-◌, ◌%◌, ◌<◌, List, length, get_or, arith, ap, sym, ◌∙◌}
use Rattle.flp_field.specs.Word.{modulus}
use Rattle.flp_field.specs.Sums.{sum_of_parts}
use Rattle.flp_share.proofs.Sharings.{sum_with_first}
use Rattle.flp_share.proofs.shares.split.Goals as goal

pub returns-clause-sum : goal.returns-clause-sum
returns-clause-sum c =
    sum_with_first c.args.shares (c.args.shares - 1) c.args.x.now c.subtract_from.new.words c.copy_from_slice.new.self (omega arith)
    (omega arith)
    (λ (k : ℕ) (below : k < length c.args.x.now).
    ap
    (λ (words : List ℕ). (get_or c.subtract_from.new.words k 0 + get_or (sum_of_parts (c.args.shares - 1) (length c.args.x.now) words) k 0) % modulus)
    c.copy_from_slice.ensures.after
    ∙ ap
    (λ (n : ℕ). (get_or c.subtract_from.new.words k 0 + get_or (sum_of_parts (c.args.shares - 1) n c.args.words.now) k 0) % modulus)
    (sym c.split_at_mut-first.ensures.front_len)
    ∙ ap (λ (words : List ℕ). (get_or c.subtract_from.new.words k 0 + get_or words k 0) % modulus) (sym c.unshare.ensures)
    ∙ c.subtract_from.ensures.undone k below)
