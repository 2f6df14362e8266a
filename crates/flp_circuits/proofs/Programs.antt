-- What the standard circuits mean: their checks are the formulas, and their outs.
use Rattle.std.proofs.Common.{ℕ, ◌+◌, ◌-◌, ◌*◌, ◌%◌, ◌^◌, ◌≡◌, true, false, List, [], ◌∷◌, ◌++◌, map, ap, ap₂, ◌∙◌, refl, arith}
use Rattle.std.proofs.Math.Nat.{pow-suc, pow-zero}
use Rattle.std.proofs.lemmas.List.{append-nil}
use Rattle.flp_field.specs.Word.{modulus, word_product}
use Rattle.flp_field.proofs.Congruence.{Same, same_add, same_mul, same_mod, same_eq}
use Rattle.flp_poly.specs.Polynomial.{value_at}
use Rattle.flp_syntax.specs.declared.syntax.Params.{Params}
use Rattle.flp_syntax.specs.declared.syntax.Params.TheVariants.{Count, Sum, SumVec, Histogram, Multihot}
use Rattle.flp_syntax.specs.Tree.{Statement, statements, psum_kind, mul_kind, poly_kind, check, out, add, items, index_var, call, one, arguments, meas, each, no_stmts}
use Rattle.flp_syntax.specs.Scope.{inside, numbers_from}
use Rattle.flp_meaning.specs.Meaning.{Results, no_results, join_results, all_results, statements_of}
use Rattle.flp_meaning.specs.Circuit.{direct, checks_of, outs_of}
use Rattle.flp_circuits.specs.Bits.{bit_length, headroom}
use Rattle.flp_circuits.specs.Sizes.{quotient_up}
use Rattle.flp_circuits.specs.Standard.{name_i, name_j, name_g, num, idx, bits_sum, words_sum, shifted, in_row, range_check, gadget_g, bit_coefs, each_out, each_word_out, count_program, sum_program, chunked_program, sum_vec_statements, histogram_statements, multihot_statements, standard_program}
use Rattle.flp_circuits.specs.Formulas.{word, minus, sum_below, bit_check, number_at, range_sum, formula_of}
use Rattle.flp_circuits.proofs.Gives.{Gives, gives_as, gives_plain, gives_nil, gives_checks, checks_only, outs_only}
use Rattle.flp_circuits.proofs.Directly.{gives_bits, gives_words, gives_difference, gives_balance, gives_check, gives_out, gives_stmt, gives_each_out, gives_range, range-formula}

-- ---- counts

-- the product of a word with itself, less the word
pub product_bit : (w : ℕ) → Same (word_product (w % modulus) (w % modulus) + ((modulus - 1) * w + 0)) (minus (w * w) w)
product_bit w =
    same_add (word_product (w % modulus) (w % modulus)) (w * w) ((modulus - 1) * w + 0) ((modulus - 1) * w)
    (same_mod (w % modulus * (w % modulus)) ∙ same_mul (w % modulus) w (w % modulus) w (same_mod w) (same_mod w))
    (let rest : (modulus - 1) * w + 0 ≡ (modulus - 1) * w = omega arith in same_eq _ _ rest)

pub count_results : List ℕ → Results
count_results x = record { checks = bit_check x 0 ∷ []; outs = word x 0 % modulus ∷ [] }

pub gives_count : (x joint : List ℕ) → Gives (all_results (statements_of count_program.gadgets (direct count_program x joint) [] count_program.stmts)) (count_results x)
unfolding count_results
gives_count x joint = record { at = λ made. ap (λ (v : ℕ). record { checks = v ∷ []; outs = word x 0 % modulus ∷ [] }) (product_bit (word x 0)) }

-- ---- sums

-- the polynomial 0 -1 1 at a word
pub poly_bit : (w : ℕ) → Same (value_at (0 ∷ (modulus - 1) ∷ 1 ∷ []) (w % modulus)) (minus (w * w) w)
poly_bit w =
    let t = w % modulus in
    let none : t ^ 0 ≡ 1 = pow-zero t in
    let first : t ^ 1 ≡ t ^ 0 * t = pow-suc t 0 in
    let second : t ^ 2 ≡ t ^ 1 * t = pow-suc t 1 in
    let linear : t ^ 1 ≡ t = first ∙ ap (λ (k : ℕ). k * t) none ∙ (let o : 1 * t ≡ t = omega arith in o) in
    let square : t ^ 2 ≡ t * t = second ∙ ap (λ (k : ℕ). k * t) linear in
    let sum_is : 0 * t ^ 0 + ((modulus - 1) * t ^ 1 + (1 * t ^ 2 + 0)) ≡ t * t + (modulus - 1) * t = ap₂ (λ (a b : ℕ). 0 * t ^ 0 + ((modulus - 1) * a + (1 * b + 0))) linear square ∙ (let o : 0 * t ^ 0 + ((modulus - 1) * t + (1 * (t * t) + 0)) ≡ t * t + (modulus - 1) * t = omega arith in o) in
    same_mod (0 * t ^ 0 + ((modulus - 1) * t ^ 1 + (1 * t ^ 2 + 0))) ∙ same_eq _ _ sum_is
    ∙ same_add (t * t) (w * w) ((modulus - 1) * t) ((modulus - 1) * w) (same_mul t w t w (same_mod w) (same_mod w)) (same_mul (modulus - 1) (modulus - 1) t w refl (same_mod w))

pub sum_results : ℕ → ℕ → List ℕ → Results
sum_results b f x =
    record {
      checks = map (bit_check x) (numbers_from 0 (2 * b)) ++ minus (f + number_at x 0 b) (number_at x b b) % modulus ∷ [];
      outs = number_at x 0 b % modulus ∷ [];
    }

pub gives_sum_circuit : (b f : ℕ) (x joint : List ℕ) → Gives (all_results (statements_of (sum_program b f).gadgets (direct (sum_program b f) x joint) [] (sum_program b f).stmts)) (sum_results b f x)
unfolding sum_results
gives_sum_circuit b f x joint =
    let kind = poly_kind bit_coefs in
    let body = sum_program b f in
    let G = gadget_g kind in
    let D = direct body x joint in
    let bits = each 15 name_i (idx 18 0) (idx 20 (2 * b)) (statements (check 22 (call 23 name_g (arguments (one (meas 25 (index_var 27 name_i)) ∷ []))) ∷ [])) in
    let low = bits_sum 35 name_i b (index_var 48 name_i) in
    let high = bits_sum 52 name_i b (shifted 65 b name_i) in
    let balance = add 33 (items ((false, num 33 f) ∷ (false, low) ∷ (true, high) ∷ [])) in
    let number = bits_sum 72 name_i b (index_var 85 name_i) in
    gives_stmt kind body x joint [] bits (statements (check 32 balance ∷ out 71 number ∷ [])) (checks_only (map (bit_check x) (numbers_from 0 (2 * b)))) (record { checks = minus (f + number_at x 0 b) (number_at x b b) % modulus ∷ []; outs = number_at x 0 b % modulus ∷ [] })
    (gives_checks (λ t. all_results (statements_of G D (inside [] name_i t) (statements (check 22 (call 23 name_g (arguments (one (meas 25 (index_var 27 name_i)) ∷ []))) ∷ [])))) (bit_check x) (2 * b) (λ t.
    record { at = λ made. ap (λ (v : ℕ). checks_only (v ∷ [])) (poly_bit (word x t)) }))
    (gives_stmt kind body x joint [] (check 32 balance) (statements (out 71 number ∷ [])) (checks_only (minus (f + number_at x 0 b) (number_at x b b) % modulus ∷ [])) (outs_only (number_at x 0 b % modulus ∷ []))
    (gives_check kind body x joint [] 32 balance (minus (f + number_at x 0 b) (number_at x b b))
    (gives_balance kind body x joint 33 (num 33 f) low high f (number_at x 0 b) (number_at x b b) (gives_plain f)
    (gives_bits kind body x joint [] 35 b name_i (index_var 48 name_i) (λ t. 0 + t) (λ t. refl) (λ t. omega arith))
    (gives_bits kind body x joint [] 52 b name_i (shifted 65 b name_i) (λ t. b + t) (λ t. refl) (λ t. omega arith))))
    (gives_stmt kind body x joint [] (out 71 number) no_stmts (outs_only (number_at x 0 b % modulus ∷ [])) no_results
    (gives_out kind body x joint [] 71 number (number_at x 0 b)
    (gives_bits kind body x joint [] 72 b name_i (index_var 85 name_i) (λ t. 0 + t) (λ t. refl) (λ t. omega arith)))
    (gives_nil join_results no_results)))

-- ---- circuits that take their words by chunks

-- the range check, and what the further statements give
pub gives_chunked : (words chunk : ℕ) (more : List Statement) (x joint : List ℕ) (rest : Results)
    → Gives (all_results (statements_of (gadget_g (psum_kind chunk mul_kind)) (direct (chunked_program words chunk more) x joint) [] (statements more))) rest
    → Gives (all_results (statements_of (gadget_g (psum_kind chunk mul_kind)) (direct (chunked_program words chunk more) x joint) [] (chunked_program words chunk more).stmts)) (join_results (checks_only (range_sum x joint (quotient_up words chunk) chunk % modulus ∷ [])) rest)
gives_chunked words chunk more x joint rest h =
    let kind = psum_kind chunk mul_kind in
    let body = chunked_program words chunk more in
    let calls = quotient_up words chunk in
    let range = range_check 14 calls chunk in
    gives_stmt kind body x joint [] (check 13 range) (statements more) (checks_only (range_sum x joint calls chunk % modulus ∷ [])) rest
    (gives_as _ _ _ (gives_check kind body x joint [] 13 range _ (gives_range kind body x joint 14 calls chunk)) (ap (λ (v : ℕ). checks_only (v ∷ [])) (range-formula kind body x joint calls chunk)))
    h

unfoldable pub sum_vec_outs : ℕ → ℕ → List ℕ → List ℕ
sum_vec_outs length bits x = map (λ i. sum_below bits (λ j. 2 ^ j * word x (i * bits + j)) % modulus) (numbers_from 0 length)

unfoldable pub word_outs : ℕ → List ℕ → List ℕ
word_outs length x = map (λ i. word x i % modulus) (numbers_from 0 length)

pub gives_sum_vec : (words length bits chunk : ℕ) (x joint : List ℕ) → Gives (all_results (statements_of (gadget_g (psum_kind chunk mul_kind)) (direct (chunked_program words chunk (sum_vec_statements length bits)) x joint) [] (statements (sum_vec_statements length bits)))) (outs_only (sum_vec_outs length bits x))
unfolding sum_vec_outs
gives_sum_vec words length bits chunk x joint =
    let kind = psum_kind chunk mul_kind in
    let body = chunked_program words chunk (sum_vec_statements length bits) in
    let number = bits_sum 74 name_j bits (in_row 87 name_i bits name_j) in
    gives_as _ _ _ (gives_stmt kind body x joint [] (each_out 66 name_i length number) no_stmts (outs_only (map (λ i. sum_below bits (λ j. 2 ^ j * word x (i * bits + j)) % modulus) (numbers_from 0 length))) no_results
    (gives_each_out kind body x joint 66 length name_i number (λ i. sum_below bits (λ j. 2 ^ j * word x (i * bits + j))) (λ i.
    gives_bits kind body x joint (inside [] name_i i) 74 bits name_j (in_row 87 name_i bits name_j) (λ j. i * bits + j) (λ j. refl) (λ j. omega arith)))
    (gives_nil join_results no_results)) (ap outs_only (append-nil _))

pub gives_word_outs : (words chunk : ℕ) (more : List Statement) (at length : ℕ) (x joint : List ℕ) → Gives (all_results (statements_of (gadget_g (psum_kind chunk mul_kind)) (direct (chunked_program words chunk more) x joint) [] (statements (each_word_out at length ∷ [])))) (outs_only (word_outs length x))
unfolding word_outs
gives_word_outs words chunk more at length x joint =
    let kind = psum_kind chunk mul_kind in
    let body = chunked_program words chunk more in
    gives_as _ _ _ (gives_stmt kind body x joint [] (each_word_out at length) no_stmts (outs_only (map (λ i. word x i % modulus) (numbers_from 0 length))) no_results
    (gives_each_out kind body x joint at length name_i (meas (at + 8) (index_var (at + 10) name_i)) (word x) (λ i. record { at = λ made. refl }))
    (gives_nil join_results no_results)) (ap outs_only (append-nil _))

pub gives_histogram : (length chunk : ℕ) (x joint : List ℕ) → Gives (all_results (statements_of (gadget_g (psum_kind chunk mul_kind)) (direct (chunked_program length chunk (histogram_statements length)) x joint) [] (statements (histogram_statements length)))) (record { checks = minus (sum_below length (word x)) 1 % modulus ∷ []; outs = word_outs length x })
gives_histogram length chunk x joint =
    let kind = psum_kind chunk mul_kind in
    let body = chunked_program length chunk (histogram_statements length) in
    let difference = add 67 (items ((false, words_sum 67 name_i length) ∷ (true, num 80 1) ∷ [])) in
    gives_stmt kind body x joint [] (check 66 difference) (statements (each_word_out 82 length ∷ [])) (checks_only (minus (sum_below length (word x)) 1 % modulus ∷ [])) (outs_only (word_outs length x))
    (gives_check kind body x joint [] 66 difference (minus (sum_below length (word x)) 1)
    (gives_difference kind body x joint 67 (words_sum 67 name_i length) (num 80 1) (sum_below length (word x)) 1 (gives_words kind body x joint 67 length) (gives_plain 1)))
    (gives_word_outs length chunk (histogram_statements length) 82 length x joint)

pub gives_multihot : (length b f chunk : ℕ) (x joint : List ℕ) → Gives (all_results (statements_of (gadget_g (psum_kind chunk mul_kind)) (direct (chunked_program (length + b) chunk (multihot_statements length b f)) x joint) [] (statements (multihot_statements length b f)))) (record { checks = minus (f + sum_below length (word x)) (number_at x length b) % modulus ∷ []; outs = word_outs length x })
gives_multihot length b f chunk x joint =
    let kind = psum_kind chunk mul_kind in
    let body = chunked_program (length + b) chunk (multihot_statements length b f) in
    let high = bits_sum 82 name_i b (shifted 95 length name_i) in
    let balance = add 67 (items ((false, num 67 f) ∷ (false, words_sum 69 name_i length) ∷ (true, high) ∷ [])) in
    gives_stmt kind body x joint [] (check 66 balance) (statements (each_word_out 101 length ∷ [])) (checks_only (minus (f + sum_below length (word x)) (number_at x length b) % modulus ∷ [])) (outs_only (word_outs length x))
    (gives_check kind body x joint [] 66 balance (minus (f + sum_below length (word x)) (number_at x length b))
    (gives_balance kind body x joint 67 (num 67 f) (words_sum 69 name_i length) high f (sum_below length (word x)) (number_at x length b) (gives_plain f) (gives_words kind body x joint 69 length)
    (gives_bits kind body x joint [] 82 b name_i (shifted 95 length name_i) (λ t. length + t) (λ t. refl) (λ t. omega arith))))
    (gives_word_outs (length + b) chunk (multihot_statements length b f) 101 length x joint)

-- ---- the checks, and the outs, of each circuit

pub checks_are : (params : Params) (x joint : List ℕ) → checks_of (standard_program params) (direct (standard_program params) x joint) ≡ formula_of params x joint
unfolding count_results sum_results
checks_are Count x joint = ap (λ (r : Results). r.checks) ((gives_count x joint).at 0)
checks_are (Sum max) x joint = ap (λ (r : Results). r.checks) ((gives_sum_circuit (bit_length max) (headroom max) x joint).at 0)
checks_are (SumVec length bits chunk) x joint =
    ap (λ (r : Results). r.checks) ((gives_chunked (length * bits) chunk (sum_vec_statements length bits) x joint _ (gives_sum_vec (length * bits) length bits chunk x joint)).at 0)
checks_are (Histogram length chunk) x joint =
    ap (λ (r : Results). r.checks) ((gives_chunked length chunk (histogram_statements length) x joint _ (gives_histogram length chunk x joint)).at 0)
checks_are (Multihot length weight chunk) x joint =
    ap (λ (r : Results). r.checks) ((gives_chunked (length + bit_length weight) chunk (multihot_statements length (bit_length weight) (headroom weight)) x joint _ (gives_multihot length (bit_length weight) (headroom weight) chunk x joint)).at 0)

unfoldable pub outs_formula : Params → List ℕ → List ℕ
outs_formula Count x = word x 0 % modulus ∷ []
outs_formula (Sum max) x = number_at x 0 (bit_length max) % modulus ∷ []
outs_formula (SumVec length bits chunk) x = sum_vec_outs length bits x
outs_formula (Histogram length chunk) x = word_outs length x
outs_formula (Multihot length weight chunk) x = word_outs length x

pub outs_are : (params : Params) (x : List ℕ) → outs_of (standard_program params) x ≡ outs_formula params x
unfolding count_results sum_results outs_formula
outs_are Count x = ap (λ (r : Results). r.outs) ((gives_count x []).at 0)
outs_are (Sum max) x = ap (λ (r : Results). r.outs) ((gives_sum_circuit (bit_length max) (headroom max) x []).at 0)
outs_are (SumVec length bits chunk) x =
    ap (λ (r : Results). r.outs) ((gives_chunked (length * bits) chunk (sum_vec_statements length bits) x [] _ (gives_sum_vec (length * bits) length bits chunk x [])).at 0)
outs_are (Histogram length chunk) x =
    ap (λ (r : Results). r.outs) ((gives_chunked length chunk (histogram_statements length) x [] _ (gives_histogram length chunk x [])).at 0)
outs_are (Multihot length weight chunk) x =
    ap (λ (r : Results). r.outs) ((gives_chunked (length + bit_length weight) chunk (multihot_statements length (bit_length weight) (headroom weight)) x [] _ (gives_multihot length (bit_length weight) (headroom weight) chunk x [])).at 0)
