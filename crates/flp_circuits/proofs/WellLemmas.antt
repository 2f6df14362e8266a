-- The standard circuits are well formed: names are names, no list is empty, and places are small.
use Rattle.std.proofs.Common.{ℕ, ◌+◌, ◌*◌, ◌<◌, lit<, true, false, List, [], ◌∷◌, refl, arith}
use Rattle.flp_syntax.specs.declared.syntax.Params.{Params}
use Rattle.flp_syntax.specs.declared.syntax.Params.TheVariants.{Count, Sum, SumVec, Histogram, Multihot}
use Rattle.flp_syntax.specs.Tree.{Index, Tree, Statement, statements, add, items, mul, trees, pow, meas, index_var}
use Rattle.flp_syntax.specs.WellFormed.{IsName, IsPlace, IndexIsWell, TreeIsWell, StatementIsWell, StatementsAreWell, ProgramIsWell}
use Rattle.flp_circuits.specs.Bits.{bit_length, headroom}
use Rattle.flp_circuits.specs.Sizes.{quotient_up}
use Rattle.flp_circuits.specs.Standard.{name_i, name_j, name_c, name_g, num, shifted, in_row, sum_below, bits_sum, words_sum, chunk_call, range_check, each_out, each_word_out, standard_program, sum_vec_statements, histogram_statements, multihot_statements, chunked_program, count_program, sum_program}

-- a place that is small
small : (at k : ℕ) → at < 1000 → k < 1000 → IsPlace (at + k)
small at k h l = omega arith

here : (at : ℕ) → at < 1000 → IsPlace at
here at h = omega arith

-- a name of one letter that is no reserved word
pub name_i-is : IsName name_i
name_i-is = (refl, refl, tt)

pub name_j-is : IsName name_j
name_j-is = (refl, refl, tt)

pub name_c-is : IsName name_c
name_c-is = (refl, refl, tt)

pub name_g-is : IsName name_g
name_g-is = (refl, refl, tt)

shifted-well : (at n : ℕ) (name : List ℕ) → at < 1000 → IsName name → IndexIsWell (shifted at n name)
shifted-well at n name h named = (here at h, tt, (here at h, ((small at 2 h (lit< tt), named), tt)))

in_row-well : (at n : ℕ) (row name : List ℕ) → at < 1000 → IsName row → IsName name → IndexIsWell (in_row at row n name)
in_row-well at n row name h rowed named =
    (here at h, tt, ((here at h, tt, ((here at h, rowed), (small at 2 h (lit< tt), tt))), ((small at 4 h (lit< tt), named), tt)))

sum_below-well : (at n : ℕ) (name : List ℕ) (inner : Tree) → at < 1000 → IsName name → TreeIsWell inner → TreeIsWell (sum_below at name n inner)
sum_below-well at n name inner h named well = (here at h, named, small at 3 h (lit< tt), small at 5 h (lit< tt), well)

bits_sum-well : (at n : ℕ) (name : List ℕ) (place : Index) → at < 1000 → IsName name → IndexIsWell place → TreeIsWell (bits_sum at name n place)
bits_sum-well at n name place h named well =
    sum_below-well at n name (mul (at + 7) (trees (pow (at + 7) (num (at + 7) 2) (index_var (at + 9) name) ∷ meas (at + 11) place ∷ []))) h named
    (small at 7 h (lit< tt), tt, ((small at 7 h (lit< tt), small at 7 h (lit< tt), (small at 9 h (lit< tt), named)), ((small at 11 h (lit< tt), well), tt)))

words_sum-well : (at n : ℕ) (name : List ℕ) → at < 1000 → IsName name → TreeIsWell (words_sum at name n)
words_sum-well at n name h named = sum_below-well at n name (meas (at + 7) (index_var (at + 9) name)) h named (small at 7 h (lit< tt), (small at 9 h (lit< tt), named))

balance-well : (at f : ℕ) (second third : Tree) → at < 1000 → TreeIsWell second → TreeIsWell third → TreeIsWell (add at (items ((false, num at f) ∷ (false, second) ∷ (true, third) ∷ [])))
balance-well at f second third h second_well third_well = (here at h, tt, (here at h, (second_well, (third_well, tt))))

each_out-well : (at n : ℕ) (name : List ℕ) (inner : Tree) → at < 1000 → IsName name → TreeIsWell inner → StatementIsWell (each_out at name n inner)
each_out-well at n name inner h named well = (here at h, named, small at 3 h (lit< tt), small at 5 h (lit< tt), tt, ((small at 7 h (lit< tt), well), tt))

each_word_out-well : (at n : ℕ) → at < 1000 → StatementIsWell (each_word_out at n)
each_word_out-well at n h = each_out-well at n name_i (meas (at + 8) (index_var (at + 10) name_i)) h name_i-is (small at 8 h (lit< tt), (small at 10 h (lit< tt), name_i-is))

range_check-well : (calls chunk : ℕ) → TreeIsWell (range_check 14 calls chunk)
range_check-well calls chunk =
    sum_below-well 14 calls name_c (chunk_call 21 chunk) (lit< tt) name_c-is
    (lit< tt, name_g-is, tt, ((lit< tt, name_j-is, lit< tt, lit< tt, tt, ((lit< tt, tt, ((lit< tt, (lit< tt, (lit< tt, name_c-is)), (lit< tt, tt, ((lit< tt, name_j-is), (lit< tt, tt)))), ((lit< tt, in_row-well 44 chunk name_c name_j (lit< tt) name_c-is name_j-is), tt))), ((lit< tt, tt, ((lit< tt, in_row-well 54 chunk name_c name_j (lit< tt) name_c-is name_j-is), (lit< tt, tt))), tt))), tt))

count-well : ProgramIsWell count_program
count-well =
    (tt, (lit< tt, name_g-is, tt, tt), tt, ((lit< tt, (lit< tt, tt, ((lit< tt, name_g-is, tt, ((lit< tt, lit< tt), ((lit< tt, lit< tt), tt))), ((lit< tt, lit< tt), tt)))), ((lit< tt, (lit< tt, lit< tt)), tt)))

sum-well : (b f : ℕ) → ProgramIsWell (sum_program b f)
sum-well b f = (
  tt,
  (lit< tt, name_g-is, tt, tt),
  tt,
  (
    (lit< tt, name_i-is, lit< tt, lit< tt, tt, ((lit< tt, (lit< tt, name_g-is, tt, ((lit< tt, (lit< tt, name_i-is)), tt))), tt)),
    (
      (lit< tt, balance-well 33 f (bits_sum 35 name_i b (index_var 48 name_i)) (bits_sum 52 name_i b (shifted 65 b name_i)) (lit< tt) (bits_sum-well 35 b name_i (index_var 48 name_i) (lit< tt) name_i-is (lit< tt, name_i-is)) (bits_sum-well 52 b name_i (shifted 65 b name_i) (lit< tt) name_i-is (shifted-well 65 b name_i (lit< tt) name_i-is))),
      ((lit< tt, bits_sum-well 72 b name_i (index_var 85 name_i) (lit< tt) name_i-is (lit< tt, name_i-is)), tt),
    ),
  ),
)

chunked-well : (words chunk : ℕ) (more : List Statement) → StatementsAreWell (statements more) → ProgramIsWell (chunked_program words chunk more)
chunked-well words chunk more well = (tt, (lit< tt, name_g-is, tt, tt), tt, ((lit< tt, range_check-well (quotient_up words chunk) chunk), well))

pub standard-well : (params : Params) → ProgramIsWell (standard_program params)
standard-well Count = count-well
standard-well (Sum max) = sum-well (bit_length max) (headroom max)
standard-well (SumVec length bits chunk) =
    chunked-well (length * bits) chunk (sum_vec_statements length bits) (each_out-well 66 length name_i (bits_sum 74 name_j bits (in_row 87 name_i bits name_j)) (lit< tt) name_i-is (bits_sum-well 74 bits name_j (in_row 87 name_i bits name_j) (lit< tt) name_j-is (in_row-well 87 bits name_i name_j (lit< tt) name_i-is name_j-is)), tt)
standard-well (Histogram length chunk) =
    chunked-well length chunk (histogram_statements length) ((lit< tt, (lit< tt, tt, (words_sum-well 67 length name_i (lit< tt) name_i-is, (lit< tt, tt)))), (each_word_out-well 82 length (lit< tt), tt))
standard-well (Multihot length weight chunk) =
    chunked-well (length + bit_length weight) chunk (multihot_statements length (bit_length weight) (headroom weight))
    ((lit< tt, balance-well 67 (headroom weight) (words_sum 69 name_i length) (bits_sum 82 name_i (bit_length weight) (shifted 95 length name_i)) (lit< tt) (words_sum-well 69 length name_i (lit< tt) name_i-is) (bits_sum-well 82 (bit_length weight) name_i (shifted 95 length name_i) (lit< tt) name_i-is (shifted-well 95 length name_i (lit< tt) name_i-is))), (each_word_out-well 101 length (lit< tt), tt))
