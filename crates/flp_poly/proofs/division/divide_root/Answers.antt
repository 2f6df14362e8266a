use Rattle.std.proofs.Common.{ℕ, ◌≡◌, ◌+◌, ◌*◌, ◌%◌, ◌<◌, ◌∙◌, ap, get_or, length, arith}
use Rattle.flp_field.specs.Word.{modulus}
use Rattle.flp_field.proofs.Congruence.{eq_from_same}
use Rattle.flp_poly.proofs.Quotients.{IsSynthetic, divided_from, remainder_is_value}
use Rattle.flp_poly.proofs.division.divide_root.Goals as goal

-- what the loop has written, once it has come to the lowest coefficient
synthetic : (c : goal.After-loop-left)
    → IsSynthetic c.args.poly.now c.loop-left.out c.args.root c.loop-left.rest
synthetic c =
    let done : c.loop-left.left ≡ 0 = omega arith in
    record {
      size = c.loop-left.invariant.size;
      lowest =
          c.loop-left.invariant.lowest
          ∙ ap (λ (n : ℕ). (get_or c.args.poly.now n 0 + c.args.root * get_or c.loop-left.out n 0) % modulus) done;
      others = λ (k : ℕ) (inside : k < length c.loop-left.out). c.loop-left.invariant.others k (omega arith) inside;
    }

pub returns-clause-divided : goal.returns-clause-divided
returns-clause-divided c =
    divided_from c.args.poly.now c.loop-left.out c.args.root c.loop-left.rest c.words.ensures (omega arith)
    (synthetic c)

pub returns-clause-remainder : goal.returns-clause-remainder
returns-clause-remainder c =
    eq_from_same c.loop-left.rest _ c.loop-left.invariant.below (omega arith)
    (remainder_is_value c.args.poly.now c.loop-left.out c.args.root c.loop-left.rest (synthetic c))
