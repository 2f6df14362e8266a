-- The standard circuits as syntax trees, from their parts up. The tokens of a circuit are numbered as `print` writes it, from 0; what stands
-- behind a part is numbered from the part's first token.
use Rattle.std.specs.Prelude.{ℕ, ◌+◌, ◌*◌, List, [], ◌∷◌, true, false, codes}
use Rattle.flp_syntax.specs.declared.syntax.Coef.{Coef}
use Rattle.flp_syntax.specs.declared.syntax.Params.{Params}
use Rattle.flp_syntax.specs.declared.syntax.Params.TheVariants.{Count, Sum, SumVec, Histogram, Multihot}
use Rattle.flp_syntax.specs.Tree.{Index, index_number, index_var, index_add, index_mul, index_items, indices, Tree, number, joint, meas, meas_or_zero, sum, call, add, mul, pow, items, trees, Argument, one, each_arg, arguments, Statement, check, out, each, statements, Kind, mul_kind, poly_kind, psum_kind, Declaration, Program}
use Rattle.flp_circuits.specs.Bits.{bit_length, headroom}
use Rattle.flp_circuits.specs.Sizes.{meas_len_of, quotient_up}

-- the names: i and j of loops, c of the loop over calls, g of the gadget
abbrev pub name_i : List ℕ
name_i = codes "i"

abbrev pub name_j : List ℕ
name_j = codes "j"

abbrev pub name_c : List ℕ
name_c = codes "c"

abbrev pub name_g : List ℕ
name_g = codes "g"

-- `n`, as an expression and as an index
abbrev pub num : ℕ → ℕ → Tree
num at n = number at n

abbrev pub idx : ℕ → ℕ → Index
idx at n = index_number at n

-- `first + second`, where `second` follows at its own place; `first * second` alike
abbrev pub index_sum_of : ℕ → Index → Index → Index
index_sum_of at first second = index_add at (index_items ((false, first) ∷ (false, second) ∷ []))

abbrev pub index_product_of : ℕ → Index → Index → Index
index_product_of at first second = index_mul at (indices (first ∷ second ∷ []))

-- `n + name`
abbrev pub shifted : ℕ → ℕ → List ℕ → Index
shifted at n name = index_sum_of at (idx at n) (index_var (at + 2) name)

-- `row * n + name`
abbrev pub in_row : ℕ → List ℕ → ℕ → List ℕ → Index
in_row at row n name = index_sum_of at (index_product_of at (index_var at row) (idx (at + 2) n)) (index_var (at + 4) name)

-- `sum name in 0..n ( inner )`; the inner part begins seven tokens on
abbrev pub sum_below : ℕ → List ℕ → ℕ → Tree → Tree
sum_below at name n inner = sum at name (idx (at + 3) 0) (idx (at + 5) n) inner

-- `sum name in 0..n ( 2^name * meas[place] )`; the place begins at token 13
abbrev pub bits_sum : ℕ → List ℕ → ℕ → Index → Tree
bits_sum at name n place =
    sum_below at name n (mul (at + 7) (trees (pow (at + 7) (num (at + 7) 2) (index_var (at + 9) name) ∷ meas (at + 11) place ∷ [])))

-- `sum name in 0..n ( meas[name] )`
abbrev pub words_sum : ℕ → List ℕ → ℕ → Tree
words_sum at name n = sum_below at name n (meas (at + 7) (index_var (at + 9) name))

-- `meas?[c * chunk + j]`
abbrev pub word_of_chunk : ℕ → ℕ → Tree
word_of_chunk at chunk = meas_or_zero at (in_row (at + 3) name_c chunk name_j)

-- `joint[c]^(j + 1)`
abbrev pub joint_power : ℕ → Tree
joint_power at = pow at (joint at (index_var (at + 2) name_c)) (index_sum_of (at + 6) (index_var (at + 6) name_j) (idx (at + 8) 1))

-- `joint[c]^(j + 1) * meas?[c * chunk + j], meas?[c * chunk + j] - 1`
abbrev pub chunk_args : ℕ → ℕ → List Argument
chunk_args at chunk =
    one (mul at (trees (joint_power at ∷ word_of_chunk (at + 11) chunk ∷ [])))
    ∷ one (add (at + 21) (items ((false, word_of_chunk (at + 21) chunk) ∷ (true, num (at + 31) 1) ∷ [])))
    ∷ []

-- `g( each j in 0..chunk ( .. ) )`
abbrev pub chunk_call : ℕ → ℕ → Tree
chunk_call at chunk =
    call at name_g (arguments (each_arg (at + 2) name_j (idx (at + 5) 0) (idx (at + 7) chunk) (arguments (chunk_args (at + 9) chunk)) ∷ []))

-- the range check `sum c in 0..calls ( g( each j in 0..chunk ( .. ) ) )`: 51 tokens
abbrev pub range_check : ℕ → ℕ → ℕ → Tree
range_check at calls chunk = sum_below at name_c calls (chunk_call (at + 7) chunk)

-- `each name in 0..n ( out inner; )`; the inner part begins eight tokens on
abbrev pub each_out : ℕ → List ℕ → ℕ → Tree → Statement
each_out at name n inner = each at name (idx (at + 3) 0) (idx (at + 5) n) (statements (out (at + 7) inner ∷ []))

-- `each i in 0..n ( out meas[i]; )`
abbrev pub each_word_out : ℕ → ℕ → Statement
each_word_out at n = each_out at name_i n (meas (at + 8) (index_var (at + 10) name_i))

-- `gadget g = kind;` behind `meas ..; joint ..;`
abbrev pub gadget_g : Kind → List Declaration
gadget_g kind = record { at = 6; name = name_g; kind = kind } ∷ []

-- `0 -1 1`
abbrev pub bit_coefs : List Coef
bit_coefs = record { minus = false; size = 0 } ∷ record { minus = true; size = 1 } ∷ record { minus = false; size = 1 } ∷ []

-- meas 1; joint 0; gadget g = mul;
-- check g(meas[0], meas[0]) - meas[0];
-- out meas[0];
abbrev pub count_program : Program
count_program = record {
  meas = 1;
  joint = 0;
  gadgets = gadget_g mul_kind;
  stmts = statements (
      check 11 (add 12 (items (
      (false, call 12 name_g (arguments (one (meas 14 (idx 16 0)) ∷ one (meas 19 (idx 21 0)) ∷ [])))
      ∷ (true, meas 25 (idx 27 0)) ∷ [])))
      ∷ out 30 (meas 31 (idx 33 0)) ∷ []);
}

-- with b the bit length of the greatest number and f its headroom:
-- meas 2 * b; joint 0; gadget g = poly 0 -1 1;
-- each i in 0..2 * b ( check g(meas[i]); )
-- check f + sum i in 0..b ( 2^i * meas[i] ) - sum i in 0..b ( 2^i * meas[b + i] );
-- out sum i in 0..b ( 2^i * meas[i] );
abbrev pub sum_program : ℕ → ℕ → Program
sum_program b f = record {
  meas = 2 * b;
  joint = 0;
  gadgets = gadget_g (poly_kind bit_coefs);
  stmts = statements (
      each 15 name_i (idx 18 0) (idx 20 (2 * b)) (statements (check 22 (call 23 name_g (arguments (one (meas 25 (index_var 27 name_i)) ∷ []))) ∷ []))
      ∷ check 32 (add 33 (items (
      (false, num 33 f)
      ∷ (false, bits_sum 35 name_i b (index_var 48 name_i))
      ∷ (true, bits_sum 52 name_i b (shifted 65 b name_i)) ∷ [])))
      ∷ out 71 (bits_sum 72 name_i b (index_var 85 name_i)) ∷ []);
}

-- meas words; joint calls; gadget g = psum chunk mul; check the range check; and then further statements, from token 66 on
abbrev pub chunked_program : ℕ → ℕ → List Statement → Program
chunked_program words chunk more = record {
  meas = words;
  joint = quotient_up words chunk;
  gadgets = gadget_g (psum_kind chunk mul_kind);
  stmts = statements (check 13 (range_check 14 (quotient_up words chunk) chunk) ∷ more);
}

-- each i in 0..length ( out sum j in 0..bits ( 2^j * meas[i * bits + j] ); )
abbrev pub each_number_out : ℕ → ℕ → Statement
each_number_out length bits = each_out 66 name_i length (bits_sum 74 name_j bits (in_row 87 name_i bits name_j))

abbrev pub sum_vec_statements : ℕ → ℕ → List Statement
sum_vec_statements length bits = each_number_out length bits ∷ []

-- check sum i in 0..length ( meas[i] ) - 1;
abbrev pub one_check : ℕ → Statement
one_check length = check 66 (add 67 (items ((false, words_sum 67 name_i length) ∷ (true, num 80 1) ∷ [])))

-- each i in 0..length ( out meas[i]; )
abbrev pub histogram_statements : ℕ → List Statement
histogram_statements length = one_check length ∷ each_word_out 82 length ∷ []

-- with b the bit length of the weight and f its headroom:
-- check f + sum i in 0..length ( meas[i] ) - sum i in 0..b ( 2^i * meas[length + i] );
abbrev pub weight_check : ℕ → ℕ → ℕ → Statement
weight_check length b f =
    check 66 (add 67 (items (
    (false, num 67 f)
    ∷ (false, words_sum 69 name_i length)
    ∷ (true, bits_sum 82 name_i b (shifted 95 length name_i)) ∷ [])))

-- each i in 0..length ( out meas[i]; )
abbrev pub multihot_statements : ℕ → ℕ → ℕ → List Statement
multihot_statements length b f = weight_check length b f ∷ each_word_out 101 length ∷ []

-- the circuit of the parameters
abbrev pub standard_program : Params → Program
standard_program Count = count_program
standard_program (Sum max) = sum_program (bit_length max) (headroom max)
standard_program (SumVec length bits chunk) = chunked_program (meas_len_of (SumVec length bits chunk)) chunk (sum_vec_statements length bits)
standard_program (Histogram length chunk) = chunked_program (meas_len_of (Histogram length chunk)) chunk (histogram_statements length)
standard_program (Multihot length weight chunk) = chunked_program (meas_len_of (Multihot length weight chunk)) chunk (multihot_statements length (bit_length weight) (headroom weight))
