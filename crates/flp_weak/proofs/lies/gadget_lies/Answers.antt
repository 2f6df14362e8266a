use Rattle.std.proofs.Common.{ℕ, List, length, ap, ◌∙◌}
use Rattle.std.proofs.lemmas.List.FromFn.{length-map-range_with_len}
use Rattle.flp_meaning.specs.Gadgets.{call_count}
use Rattle.flp_meaning.specs.Proof.{answer_in}
use Rattle.flp_weak.proofs.LieLemmas.{lies-found}
use Rattle.flp_weak.proofs.lies.gadget_lies.Goals as goal

pub formula_at_wires-requires-clause-answers : goal.formula_at_wires-requires-clause-answers
formula_at_wires-requires-clause-answers c =
    ap (λ (l : List ℕ). length l) c.requires.reading.answered
    ∙ length-map-range_with_len (answer_in c.args.plan.now.circuit c.args.proof.now) 0 (call_count c.args.plan.now.circuit)

pub returns-clause-lies : goal.returns-clause-lies
returns-clause-lies c joint same =
    lies-found c.args.plan.now.circuit c.args.reading.now.x.now joint c.args.proof.now c.args.reading.now.answers.now c.args.reading.now.unit c.args.gadget
    c.seeds-seeds.result.now c.polynomial.result.now c.formula_at_wires.new.coefficients c.ne.result
    c.requires.reading.answered c.requires.reading.whole c.seeds-seeds.ensures.seeds c.polynomial.ensures (c.formula_at_wires.ensures.formula joint same) c.ne.ensures
