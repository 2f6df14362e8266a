use Rattle.std.proofs.Common.{ℕ, ◌≡◌, ◌∙◌, List, length, take, map, sym, ap, ap₂, arith}
use Rattle.std.specs.List.{range_with_len}
use Rattle.std.proofs.lemmas.List.{length-take-le}
use Rattle.flp_poly.specs.Polynomial.{values_on}
use Rattle.flp_poly.specs.Interpolation.{interpolated}
use Rattle.flp_gadget.specs.KindTree.{KindTree, IsKind, value_of}
use Rattle.flp_gadget.specs.KindTree as tree
use Rattle.flp_meaning.specs.Meaning.{Call}
use Rattle.flp_meaning.specs.Circuit.{calls_of, with_answers, kind_of}
use Rattle.flp_meaning.specs.Gadgets.{arity_of, size_of}
use Rattle.flp_plan.specs.Rows.{column}
use Rattle.flp_prove.specs.Rows.{joined, across}
use Rattle.flp_prove.proofs.PolynomialLemmas.{formula, values-formula, formula-back}
use Rattle.flp_prove.proofs.formula.write_formula.Goals as goal

pub returns : goal.returns
returns c joint publics =
    let body = c.args.plan.now.circuit in
    let g : ℕ = c.args.gadget in
    let calls : List Call = calls_of body (with_answers c.args.reading.now.x.now joint c.args.reading.now.unit c.args.reading.now.answers.now) in
    let kind : IsKind (kind_of body g) = (c.is_within_limits.ensures.gadgets g c.requires.gadget).kind in
    let rows : List ℕ = c.rows.new.rows in
    let points : ℕ = c.points-points.result in
    let wires : c.write_wires.new.wires ≡ joined (map (λ input. values_on points (interpolated (column (size_of body g) (arity_of body g) rows input))) (range_with_len 0 (arity_of body g))) =
    c.write_wires.ensures
    ∙ ap₂ (λ (n s : ℕ). joined (map (λ input. values_on points (interpolated (column s n rows input))) (range_with_len 0 n))) c.arity-arity.ensures.inputs c.domain_size-size.ensures.points in
    let cut : length (take points c.args.values.now) ≡ points =
    length-take-le points c.args.values.now (omega (arith, c.points-points.ensures.few, c.requires.values)) in
    let room : length c.write_values.new.values ≡ points = omega (arith, cut, c.write_values.auto.values) in
    let values : c.write_values.new.values ≡ map (λ place. value_of (kind_of body g) (across (arity_of body g) points c.write_wires.new.wires place)) (range_with_len 0 points) =
    c.write_values.ensures
    ∙ ap₂ (λ (k : KindTree) (n : ℕ). map (λ place. value_of k (across (tree.kind_arity k) n c.write_wires.new.wires place)) (range_with_len 0 n))
    c.kind.ensures (sym c.write_values.auto.values ∙ room) in
    let evaluated : c.write_values.new.values ≡ values_on points (formula body calls c.args.seeds.now g points kind) =
    values-formula body calls c.args.seeds.now g points kind rows c.write_wires.new.wires c.write_values.new.values (c.rows.ensures joint publics) wires values in
    c.copy_from_slice.ensures.after
    ∙ ap (λ (n : ℕ). take n c.inverse.new.values) c.requires.coefficients
    ∙ formula-back body calls c.args.seeds.now g points kind c.write_values.new.values c.inverse.new.values c.points-points.ensures.coefficients evaluated c.inverse.ensures.undoes
