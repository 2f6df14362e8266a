use Rattle.std.proofs.Common.{ℕ, ◌≡◌, ◌<◌, ◌^◌, ◌∙◌, length, arith, ap}
use Rattle.std.proofs.lemmas.Nat.{pow_pos}
use Rattle.flp_poly.specs.Polynomial.{values_on}
use Rattle.flp_ntt.proofs.FoldLemmas.{folded_values}
use Rattle.flp_ntt.proofs.folding.values_of.Goals as goal

pub fold-requires : goal.fold-requires
fold-requires c = let some : 0 < 2 ^ c.requires.0 = pow_pos c.requires.0 in
    let size : length c.args.out.now ≡ 2 ^ c.requires.0 = c.requires.2 in
    omega arith

pub forward-requires : goal.forward-requires
forward-requires c =
    let count : length c.fold.new.out ≡ length c.args.out.now = omega arith in
    (c.requires.0, c.requires.1, count ∙ c.requires.2)

pub returns : goal.returns
returns c =
    let count : length c.fold.new.out ≡ length c.args.out.now = omega arith in
    c.forward.ensures ∙ ap (λ (n : ℕ). values_on n c.fold.new.out) count
    ∙ folded_values c.requires.0 (length c.args.out.now) c.fold.new.out c.args.poly.now (omega arith) c.requires.2
    c.fold.ensures
