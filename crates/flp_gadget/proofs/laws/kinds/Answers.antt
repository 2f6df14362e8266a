use Rattle.flp_gadget.specs.KindProofs.{law_of_kind, limits_of_kind}
use Rattle.flp_gadget.proofs.laws.kinds.Goals as goal

pub returns : goal.returns
returns c = record {
  law = law_of_kind;
  limits = limits_of_kind;
}
