use Rattle.flp_gadget.proofs.laws.gadget.Goals as goal

pub returns : goal.returns
returns g c = record {
  law = g.met.G.Gadget.law c.args.gadget.now;
  limits = g.met.G.Gadget.limits c.args.gadget.now c.arity-arity.ensures.valid;
}
