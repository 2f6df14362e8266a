use Rattle.std.proofs.Common.{ℕ, ◌<◌, subst}
use Rattle.flp_field.specs.Word.{modulus}
use Rattle.flp_ntt.proofs.WeightLevels.{inverse_root_from}
use Rattle.flp_ntt.proofs.transform.inverse_root.Goals as goal

pub returns : goal.returns
returns c =
    let P : ℕ → Type 0 = λ (n : ℕ). n < modulus in
    inverse_root_from c.args.log c.inverse_root-root.result c.requires
    (subst P c.value-word.ensures.same c.value-word.ensures.below) c.inverse_root-root.ensures
