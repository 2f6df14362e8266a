-- Worked examples, against which the definitions were read. Names of gadgets and loops are their bytes, and token numbers are left at 0.
use Rattle.std.specs.Prelude.{ℕ, ◌≡◌, true, false, List, [], ◌∷◌}
use Rattle.flp_syntax.specs.Tree.{Index, index_number, index_var, index_add, index_mul, index_items, indices, Tree, number, joint, meas, meas_or_zero, sum, call, add, mul, pow, items, trees, Argument, one, each_arg, arguments, check, out, each, statements, mul_kind, psum_kind, Kind, Statement, Program}
use Rattle.flp_meaning.specs.Circuit.{checks_of, outs_of, inputs_of_call, direct, with_answers}
use Rattle.flp_meaning.specs.Lengths.{lengths_of}
use Rattle.flp_meaning.specs.Terms.{term_count, wire_count}
use Rattle.flp_meaning.specs.Proof.{honest_proof}
use Rattle.flp_meaning.specs.Verifier.{query_of, verifier, accepts}

-- `g`, `c`, `j` and `i`
abbrev pub g : List ℕ
g = 103 ∷ []

abbrev pub c : List ℕ
c = 99 ∷ []

abbrev pub j : List ℕ
j = 106 ∷ []

abbrev pub i : List ℕ
i = 105 ∷ []

abbrev pub n : ℕ → Index
n value = index_number 0 value

abbrev pub word : Index → Tree
word index = meas 0 index

abbrev pub g_of : List Argument → Tree
g_of args = call 0 g (arguments args)

-- one gadget `g`, and the statements
abbrev pub circuit : (meas joint : ℕ) → Kind → List Statement → Program
circuit words joint_words kind stmts =
    record {
      meas = words;
      joint = joint_words;
      gadgets = record { at = 0; name = g; kind = kind } ∷ [];
      stmts = statements stmts;
    }

-- ---- Count: `check g(meas[0], meas[0]) - meas[0]; out meas[0];`

abbrev pub square : Tree
square = g_of (one (word (n 0)) ∷ one (word (n 0)) ∷ [])

abbrev pub count_circuit : Program
count_circuit =
    circuit 1 0 mul_kind
    (check 0 (add 0 (items ((false, square) ∷ (true, word (n 0)) ∷ []))) ∷ out 0 (word (n 0)) ∷ [])

pub record CountExample : Type 0 where
  pub lengths :
      lengths_of count_circuit
      ≡ record { meas = 1; joint = 0; prove = 2; query = 1; proof = 5; verifier = 4; outs = 1 }
  pub wires : wire_count count_circuit ≡ 4
  pub terms : term_count count_circuit ≡ 5
  pub checks : checks_of count_circuit (direct count_circuit (4 ∷ []) []) ≡ 12 ∷ []
  -- the wires are 2 + t and 3 + 2*t, and their product is 6 + 7*t + 2*t^2
  pub proof : honest_proof count_circuit (1 ∷ []) [] (3 ∷ 5 ∷ []) ≡ 3 ∷ 5 ∷ 6 ∷ 7 ∷ 2 ∷ []
  pub verifier_at_2 :
      query_of count_circuit (1 ∷ []) [] (3 ∷ 5 ∷ 6 ∷ 7 ∷ 2 ∷ []) (2 ∷ []) 1 ≡ verifier (0 ∷ 4 ∷ 7 ∷ 28 ∷ [])
  pub accepted : accepts count_circuit (1 ∷ []) [] (3 ∷ 5 ∷ 6 ∷ 7 ∷ 2 ∷ []) (2 ∷ []) ≡ true
  -- a share of ones, with half for the constant 1
  pub share :
      query_of count_circuit (1 ∷ []) [] (1 ∷ 1 ∷ 1 ∷ 1 ∷ 1 ∷ []) (2 ∷ []) 9223372034707292161
      ≡ verifier (0 ∷ 1 ∷ 1 ∷ 7 ∷ [])

-- ---- a call inside a call: `check g(g(meas[0], meas[0]), meas[0]) - meas[0]; out meas[0];`

abbrev pub cube_circuit : Program
cube_circuit =
    circuit 1 0 mul_kind
    (check 0 (add 0 (items ((false, g_of (one square ∷ one (word (n 0)) ∷ [])) ∷ (true, word (n 0)) ∷ [])))
    ∷ out 0 (word (n 0))
    ∷ [])

pub record CubeExample : Type 0 where
  pub lengths :
      lengths_of cube_circuit
      ≡ record { meas = 1; joint = 0; prove = 2; query = 1; proof = 9; verifier = 4; outs = 1 }
  -- the inner call comes first, and its answer is an input of the outer one
  pub inputs : inputs_of_call cube_circuit (with_answers (5 ∷ []) [] 1 (7 ∷ 0 ∷ [])) 1 ≡ 7 ∷ 5 ∷ []

-- ---- a public constant on half a share: `check g(meas[0], meas[0]) + 3; out meas[0];`

abbrev pub three_circuit : Program
three_circuit =
    circuit 1 0 mul_kind
    (check 0 (add 0 (items ((false, square) ∷ (false, number 0 3) ∷ []))) ∷ out 0 (word (n 0)) ∷ [])

abbrev pub HalfExample : Type 0
HalfExample =
    checks_of three_circuit (with_answers (0 ∷ []) [] 9223372034707292161 (4 ∷ [])) ≡ 9223372034707292166 ∷ []

-- ---- a histogram of four buckets in chunks of two:
-- check sum c in 0..2 ( g( each j in 0..2 ( joint[c]^(j + 1) * meas?[c * 2 + j], meas?[c * 2 + j] - 1 ) ) );
-- check sum i in 0..4 ( meas[i] ) - 1; each i in 0..4 ( out meas[i]; )

abbrev pub chunk_word : Tree
chunk_word =
    meas_or_zero 0
    (index_add 0
    (index_items
    ((false, index_mul 0 (indices (index_var 0 c ∷ n 2 ∷ []))) ∷ (false, index_var 0 j) ∷ [])))

abbrev pub chunk_power : Tree
chunk_power =
    pow 0 (joint 0 (index_var 0 c)) (index_add 0 (index_items ((false, index_var 0 j) ∷ (false, n 1) ∷ [])))

abbrev pub histogram_circuit : Program
histogram_circuit =
    circuit 4 2 (psum_kind 2 mul_kind)
    (check 0
    (sum 0 c (n 0) (n 2)
    (g_of
    (each_arg 0 j (n 0) (n 2)
    (arguments
    (one (mul 0 (trees (chunk_power ∷ chunk_word ∷ [])))
    ∷ one (add 0 (items ((false, chunk_word) ∷ (true, number 0 1) ∷ [])))
    ∷ []))
    ∷ [])))
    ∷ check 0 (add 0 (items ((false, sum 0 i (n 0) (n 4) (word (index_var 0 i))) ∷ (true, number 0 1) ∷ [])))
    ∷ each 0 i (n 0) (n 4) (statements (out 0 (word (index_var 0 i)) ∷ []))
    ∷ [])

pub record HistogramExample : Type 0 where
  pub lengths :
      lengths_of histogram_circuit
      ≡ record { meas = 4; joint = 2; prove = 4; query = 3; proof = 11; verifier = 6; outs = 4 }
  pub wires : wire_count histogram_circuit ≡ 16
  pub terms : term_count histogram_circuit ≡ 23
  -- two ones: only their sum is wrong
  pub two_ones :
      checks_of histogram_circuit (direct histogram_circuit (1 ∷ 1 ∷ 0 ∷ 0 ∷ []) (2 ∷ 3 ∷ [])) ≡ 0 ∷ 1 ∷ []
  -- 2 * 5 * 4 + 3^2 * 3 * 2, and 5 + 1 + 0 + 3 - 1
  pub other_words :
      checks_of histogram_circuit (direct histogram_circuit (5 ∷ 1 ∷ 0 ∷ 3 ∷ []) (2 ∷ 3 ∷ [])) ≡ 94 ∷ 8 ∷ []
  pub outs : outs_of histogram_circuit (5 ∷ 1 ∷ 0 ∷ 3 ∷ []) ≡ 5 ∷ 1 ∷ 0 ∷ 3 ∷ []
