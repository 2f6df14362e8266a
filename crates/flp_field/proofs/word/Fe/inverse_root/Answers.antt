use Rattle.std.proofs.Common.{ℕ, ◌≡◌, ◌*◌, ◌%◌, ◌^◌, arith, sym, subst}
use Rattle.flp_field.specs.Word.{modulus}
use Rattle.flp_field.specs.Domain.{alpha}
use Rattle.flp_field.proofs.TableLemmas.{inverse_root_word, inverse_root_at}
use Rattle.flp_field.proofs.word.Fe.inverse_root.Goals as goal

pub from_word-requires : goal.from_word-requires
from_word-requires c = inverse_root_word c.args.log 0 (omega arith)

pub returns : goal.returns
returns c =
    let P : ℕ → Type 0 = λ (x : ℕ). (x * alpha (2 ^ c.args.log)) % modulus ≡ 1 in
    subst P (sym c.from_word.ensures) (inverse_root_at c.args.log c.requires)
