use Rattle.std.proofs.Common.{◌∙◌, arith}
use Rattle.flp_field.proofs.TableLemmas.{root_word, root_at}
use Rattle.flp_field.proofs.word.Fe.root.Goals as goal

pub from_word-requires : goal.from_word-requires
from_word-requires c = root_word c.args.log 0 (omega arith)

pub returns : goal.returns
returns c =
    c.from_word.ensures ∙ root_at c.args.log c.requires
