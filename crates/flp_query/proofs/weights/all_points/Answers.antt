use Rattle.std.proofs.Common.{ℕ, ◌≡◌, ◌+◌, ◌∙◌, ap, length, arith}
use Rattle.flp_meaning.specs.Gadgets.{size_of}
use Rattle.flp_meaning.specs.Lengths.{start_of}
use Rattle.flp_meaning.proofs.StartLemmas.{start-more}
use Rattle.flp_query.proofs.weights.all_points.Goals as goal

pub loop-gadget-preserved : goal.loop-gadget-preserved
loop-gadget-preserved c =
    let more : start_of (size_of c.args.plan.now.circuit) (c.loop-gadget.gadget + 1) ≡ start_of (size_of c.args.plan.now.circuit) c.loop-gadget.gadget + size_of c.args.plan.now.circuit c.loop-gadget.gadget =
    start-more (size_of c.args.plan.now.circuit) c.loop-gadget.gadget in
    record { points = omega arith; low = omega arith }

pub returns-clause-points : goal.returns-clause-points
returns-clause-points c =
    let all : c.loop-gadget.gadget ≡ length c.args.plan.now.circuit.gadgets = omega arith in
    c.loop-gadget.invariant.points ∙ ap (λ (g : ℕ). start_of (size_of c.args.plan.now.circuit) g) all
