use Rattle.std.proofs.Common.{sym, ◌∙◌}
use Rattle.std.proofs.lemmas.Bool.{false≢true}
use Rattle.flp_joint.proofs.EncodingLemmas.{encoding-bits}
use Rattle.flp_joint.proofs.encoded.is_encoding.Goals as goal

pub returns-else-are_bits : goal.returns-else-are_bits
returns-else-are_bits c =
    (λ h. absurd (false≢true (sym c.if-are_bits.false ∙ h)), λ whole. c.are_bits.ensures.1 (encoding-bits c.args.params.now c.args.x.now whole))
