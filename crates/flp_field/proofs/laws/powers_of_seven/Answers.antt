use Rattle.std.proofs.Common.{ℕ, ◌≡◌, ◌+◌, ◌<◌, ◌%◌, ◌^◌, ◌∙◌, sym, ap, arith}
use Rattle.flp_field.specs.Word.{modulus}
use Rattle.flp_field.proofs.Order.{group_size, group_size_is, size_of_group, powers_reach, fermat}
use Rattle.flp_field.proofs.laws.powers_of_seven.Goals as goal

pub returns-clause-all : goal.returns-clause-all
returns-clause-all c =
    λ (x : ℕ) (some : 0 < x) (below : x < modulus).
    let r : (k : ℕ) × (k < group_size) × (7 ^ k % modulus ≡ x) = powers_reach x some below in
    let size : group_size ≡ 18446744069414584320 = group_size_is in
    (r.0, omega arith, r.2)

pub returns-clause-full : goal.returns-clause-full
returns-clause-full c =
    λ (x n : ℕ) (e : n + 1 ≡ modulus) (some : 0 < x) (below : x < modulus).
    ap (λ (k : ℕ). x ^ k % modulus) (sym (size_of_group n e)) ∙ fermat x some below
