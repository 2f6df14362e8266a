use Rattle.std.proofs.Common.{ℕ, ◌≡◌, ◌-◌, ◌*◌, ◌%◌, arith, sym, subst}
use Rattle.flp_field.specs.Word.{modulus}
use Rattle.flp_field.proofs.TableLemmas.{inverse_count_word, inverse_count_at}
use Rattle.flp_field.proofs.word.Fe.inverse_of.Goals as goal

pub from_word-requires : goal.from_word-requires
from_word-requires c = inverse_count_word (c.args.count - 1) 0 (omega arith)

pub returns : goal.returns
returns c =
    let P : ℕ → Type 0 = λ (x : ℕ). (x * c.args.count) % modulus ≡ 1 in
    subst P (sym c.from_word.ensures) (inverse_count_at c.args.count c.requires.some c.requires.few)
