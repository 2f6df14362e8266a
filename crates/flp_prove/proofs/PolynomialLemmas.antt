-- The coefficients of a gadget at its wires, from the rows that these run through.
use Rattle.std.proofs.Common.{ℕ, ◌≡◌, ◌+◌, ◌*◌, ◌<◌, ◌≤◌, List, [], length, take, map, get_or, refl, ap, sym, ◌∙◌, arith}
use Rattle.std.specs.List.{range_with_len}
use Rattle.std.specs.Prelude.{slice_index}
use Rattle.std.proofs.lemmas.Nat.{pow_pos}
use Rattle.std.proofs.lemmas.List.{ext_get_or, length-map}
use Rattle.std.proofs.lemmas.List.Elements.{All-map}
use Rattle.std.proofs.lemmas.List.FromFn.{length-map-range_with_len, get_or-map-range_with_len}
use Rattle.flp_field.specs.Word.{word_power}
use Rattle.flp_field.specs.Domain.{alpha}
use Rattle.flp_poly.specs.Polynomial.{value_at, values_on}
use Rattle.flp_poly.specs.Interpolation.{Interpolates, interpolated}
use Rattle.flp_poly.proofs.Interpolation.{length-interpolated}
use Rattle.flp_poly.proofs.Vanishing.{length-values_on, get_or-values_on}
use Rattle.flp_gadget.specs.KindTree.{IsKind, value_of, formula_of}
use Rattle.flp_gadget.proofs.FormulaLemmas.{words-formula, length-formula}
use Rattle.flp_syntax.specs.Tree.{Program}
use Rattle.flp_meaning.specs.Meaning.{Call}
use Rattle.flp_meaning.specs.Circuit.{kind_of}
use Rattle.flp_meaning.specs.Gadgets.{arity_of, size_of, log_of}
use Rattle.flp_meaning.specs.Lengths.{coefficient_count}
use Rattle.flp_meaning.specs.Wires.{with_zeros, wire_values, wires_of}
use Rattle.flp_meaning.proofs.WireLemmas.{length-wire_values, length-wires, values-wires, formula_at_point}
use Rattle.flp_plan.specs.Rows.{column, HasRows}
use Rattle.flp_plan.proofs.RowLemmas.{column-wire}
use Rattle.flp_prove.specs.Rows.{joined, across, HaveLength}
use Rattle.flp_prove.proofs.JoinedLemmas.{joined-at}
use Rattle.flp_prove.proofs.TransformLemmas.{padded-interpolates, front-of_padded}

module _ (body : Program) (calls : List Call) (seeds : List ℕ) (gadget points : ℕ) (kind : IsKind (kind_of body gadget)) where
  arity : ℕ
  arity = arity_of body gadget

  wires : List (List ℕ)
  wires = wires_of body calls seeds gadget

  pub formula : List ℕ
  formula = formula_of (kind_of body gadget) wires

  -- across the wires at a point of the larger domain are their values there
  across-wires : (rows words : List ℕ) → HasRows body calls seeds gadget rows
      → words ≡ joined (map (λ input. values_on points (interpolated (column (size_of body gadget) (arity_of body gadget) rows input))) (range_with_len 0 (arity_of body gadget)))
      → (place : ℕ) → place < points
      → across (arity_of body gadget) points words place
      ≡ map (λ wire. value_at wire (word_power (alpha points) place)) (wires_of body calls seeds gadget)
  across-wires rows words has given place low =
      let n : ℕ = arity_of body gadget in
      let t : ℕ = word_power (alpha points) place in
      let f : ℕ → List ℕ = λ input. values_on points (interpolated (column (size_of body gadget) n rows input)) in
      let size : length (across n points words place) ≡ n = length-map-range_with_len (λ part. slice_index words (part * points + place)) 0 n in
      let parts : length (map f (range_with_len 0 n)) ≡ n = length-map-range_with_len f 0 n in
      let sizes : HaveLength points (map f (range_with_len 0 n)) =
      λ k below. ap (λ (l : List ℕ). length l) (get_or-map-range_with_len f 0 n k k [] (omega arith) (omega arith)) ∙ length-values_on points _ in
      ext_get_or 0 (across n points words place) (map (λ wire. value_at wire t) (wires_of body calls seeds gadget))
      (size ∙ sym (length-map (wires_of body calls seeds gadget) (λ wire. value_at wire t) ∙ length-wires body calls seeds gadget))
      (λ input below.
      let inside : input < n = omega arith in
      get_or-map-range_with_len (λ part. slice_index words (part * points + place)) 0 n input input 0 inside (omega arith)
      ∙ ap (λ (l : List ℕ). slice_index l (input * points + place)) given
      ∙ joined-at points (map f (range_with_len 0 n)) input place sizes low
      ∙ ap (λ (l : List ℕ). slice_index l place) (get_or-map-range_with_len f 0 n input input [] inside (omega arith))
      ∙ get_or-values_on points (interpolated (column (size_of body gadget) n rows input)) place low
      ∙ ap (λ (l : List ℕ). value_at (interpolated l) t) (column-wire body calls seeds gadget (size_of body gadget) n rows input refl refl has inside)
      ∙ sym (values-wires body calls seeds gadget t input inside))

  -- so the gadget's values across them are those of its formula at the wires
  pub values-formula : (rows words values : List ℕ) → HasRows body calls seeds gadget rows
      → words ≡ joined (map (λ input. values_on points (interpolated (column (size_of body gadget) (arity_of body gadget) rows input))) (range_with_len 0 (arity_of body gadget)))
      → values ≡ map (λ place. value_of (kind_of body gadget) (across (arity_of body gadget) points words place)) (range_with_len 0 points)
      → values ≡ values_on points formula
  unfolding formula wires
  values-formula rows words values has given own =
      let f : ℕ → ℕ = λ place. value_of (kind_of body gadget) (across (arity_of body gadget) points words place) in
      let size : length (map f (range_with_len 0 points)) ≡ points = length-map-range_with_len f 0 points in
      own
      ∙ ext_get_or 0 (map f (range_with_len 0 points)) (values_on points formula) (size ∙ sym (length-values_on points formula))
      (λ place below.
      let low : place < points = omega arith in
      get_or-map-range_with_len f 0 points place place 0 low (omega arith)
      ∙ ap (λ (xs : List ℕ). value_of (kind_of body gadget) xs) (across-wires rows words has given place low)
      ∙ sym (formula_at_point body calls seeds gadget (word_power (alpha points) place))
      ∙ sym (get_or-values_on points formula place low))

  pub length-formula_here : length formula ≡ coefficient_count body gadget
  unfolding formula wires
  length-formula_here =
      length-formula (kind_of body gadget) wires (size_of body gadget) kind (pow_pos (log_of body gadget))
      (length-wires body calls seeds gadget)
      (All-map (λ p. length p ≡ size_of body gadget) (λ input. interpolated (wire_values body calls seeds gadget input)) (range_with_len 0 (arity_of body gadget))
      (λ k d low.
      length-interpolated (wire_values body calls seeds gadget (get_or (range_with_len 0 (arity_of body gadget)) k d))
      ∙ length-wire_values body calls seeds gadget (get_or (range_with_len 0 (arity_of body gadget)) k d)))

  -- and a transform brings its coefficients back
  pub formula-back : (values coefficients : List ℕ) → coefficient_count body gadget ≤ points → values ≡ values_on points formula
      → ((cs : List ℕ) → Interpolates cs values → coefficients ≡ cs) → take (coefficient_count body gadget) coefficients ≡ formula_of (kind_of body gadget) (wires_of body calls seeds gadget)
  unfolding formula wires
  formula-back values coefficients fits same undoes =
      let size : length formula ≡ coefficient_count body gadget = length-formula_here in
      let short : length formula ≤ points = omega arith in
      ap (λ (l : List ℕ). take (coefficient_count body gadget) l)
      (undoes (with_zeros points formula) (padded-interpolates points formula values (words-formula (kind_of body gadget) wires kind) short same))
      ∙ front-of_padded points formula (coefficient_count body gadget) size fits
