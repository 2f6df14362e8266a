use Rattle.std.proofs.Common.{ℕ, ◌≡◌, ◌+◌, ◌≤◌, ◌∙◌, ap, length, arith}
use Rattle.std.specs.List.{range_with_len, sum_by}
use Rattle.flp_meaning.specs.Gadgets.{size_of}
use Rattle.flp_meaning.specs.Lengths.{start_of}
use Rattle.flp_meaning.proofs.StartLemmas.{start-more, start-inside}
use Rattle.flp_query.proofs.weights.weights_start.Goals as goal

pub loop-earlier-preserved : goal.loop-earlier-preserved
loop-earlier-preserved c =
    let more : start_of (size_of c.args.plan.now.circuit) (c.loop-earlier.earlier + 1) ≡ start_of (size_of c.args.plan.now.circuit) c.loop-earlier.earlier + size_of c.args.plan.now.circuit c.loop-earlier.earlier =
    start-more (size_of c.args.plan.now.circuit) c.loop-earlier.earlier in
    record { start = omega arith; low = omega arith }

pub returns-clause-start : goal.returns-clause-start
returns-clause-start c =
    let all : c.loop-earlier.earlier ≡ c.args.gadget = omega arith in
    c.loop-earlier.invariant.start ∙ ap (λ (g : ℕ). start_of (size_of c.args.plan.now.circuit) g) all

pub returns-clause-inside : goal.returns-clause-inside
returns-clause-inside c =
    let all : c.loop-earlier.earlier ≡ c.args.gadget = omega arith in
    let start : c.loop-earlier.start ≡ start_of (size_of c.args.plan.now.circuit) c.args.gadget =
    c.loop-earlier.invariant.start ∙ ap (λ (g : ℕ). start_of (size_of c.args.plan.now.circuit) g) all in
    let inside : start_of (size_of c.args.plan.now.circuit) c.args.gadget + size_of c.args.plan.now.circuit c.args.gadget
    ≤ sum_by (size_of c.args.plan.now.circuit) (range_with_len 0 (length c.args.plan.now.circuit.gadgets)) =
    start-inside (size_of c.args.plan.now.circuit) c.args.gadget (length c.args.plan.now.circuit.gadgets) c.requires in
    omega arith
