-- Count at the query point 0, worked by hand: the encodings 1 and 0 of one word. A wire runs through its seed at 1 and through the word at -1, so its
-- value at 0 is half the sum of the two.
use Rattle.std.specs.Prelude.{◌≡◌, [], ◌∷◌}
use Rattle.flp_meaning.specs.Examples.{count_circuit}
use Rattle.flp_hide.specs.Wires.{all_wires_at, reseeded}
use Rattle.flp_hide.specs.Laws.{honest_verifier}

pub record CountExample : Type 0 where
  -- half of 3 + 1, and of 5 + 1
  pub wires_of_one : all_wires_at count_circuit (1 ∷ []) [] (3 ∷ 5 ∷ []) (0 ∷ []) ≡ 2 ∷ 3 ∷ []
  -- half of 4 + 0, and of 6 + 0
  pub wires_of_zero : all_wires_at count_circuit (0 ∷ []) [] (4 ∷ 6 ∷ []) (0 ∷ []) ≡ 2 ∷ 3 ∷ []
  pub reseeded_to_zero : reseeded count_circuit (1 ∷ []) (0 ∷ []) [] (0 ∷ []) (3 ∷ 5 ∷ []) ≡ 4 ∷ 6 ∷ []
  pub reseeded_to_one : reseeded count_circuit (0 ∷ []) (1 ∷ []) [] (0 ∷ []) (4 ∷ 6 ∷ []) ≡ 3 ∷ 5 ∷ []
  pub verifier_of_one : honest_verifier count_circuit (1 ∷ []) [] (3 ∷ 5 ∷ []) (0 ∷ []) ≡ 0 ∷ 2 ∷ 3 ∷ 6 ∷ []
  pub verifier_of_zero : honest_verifier count_circuit (0 ∷ []) [] (4 ∷ 6 ∷ []) (0 ∷ []) ≡ 0 ∷ 2 ∷ 3 ∷ 6 ∷ []
