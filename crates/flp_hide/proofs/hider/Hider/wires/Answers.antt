use Rattle.flp_hide.proofs.VerifierLemmas.{read-wires}
use Rattle.flp_hide.proofs.hider.Hider.wires.Goals as goal

pub returns-clause-wires : goal.returns-clause-wires
returns-clause-wires c =
    read-wires c.args.plan.now.circuit c.args.x.now c.args.joint.now c.args.seeds.now c.args.words.now c.make.new.self.verifier c.write_wires.new.out
    c.is_bounded.ensures (record { words = c.words.ensures; size = c.requires.seeds }) c.in_ok-make.ensures.honest c.write_wires.ensures
