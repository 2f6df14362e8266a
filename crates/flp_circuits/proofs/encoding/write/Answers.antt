use Rattle.flp_syntax.specs.declared.syntax.Params.TheVariants.{Multihot}
use Rattle.flp_circuits.proofs.EncodingLemmas.{taken, multihot_light}
use Rattle.flp_circuits.proofs.encoding.write.Goals as goal

pub write_multihot-requires-clause-bits : goal.write_multihot-requires-clause-bits
write_multihot-requires-clause-bits c = (taken (Multihot c.in-Multihot.length c.in-Multihot.weight c.in-Multihot.chunk) c.args.input.now (rw c.in-Multihot.is at c.requires.judged)).in_range

pub write_multihot-requires-clause-within : goal.write_multihot-requires-clause-within
write_multihot-requires-clause-within c = multihot_light _ _ c.in-Multihot.chunk c.args.input.now (taken (Multihot c.in-Multihot.length c.in-Multihot.weight c.in-Multihot.chunk) c.args.input.now (rw c.in-Multihot.is at c.requires.judged))
