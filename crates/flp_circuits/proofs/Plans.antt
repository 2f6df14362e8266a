-- Plans of the standard circuits are small.
use Rattle.std.proofs.Common.{ℕ, zero, suc, ◌+◌, ◌-◌, ◌*◌, ◌^◌, ◌<◌, ◌≤◌, ◌≡◌, Bool, true, false, cond, leb, ltb, List, [], ◌∷◌, Some, ap, refl, ⊎_elim, arith}
use Rattle.std.specs.Option.{unwrap_or}
use Rattle.std.specs.List.{sum_by}
use Rattle.std.proofs.Math.Nat.{add-le-add, mul-le-mul, mul-le-mul_left}
use Rattle.std.proofs.lemmas.Bool.{cases_lt, cond_both, leb-false}
use Rattle.std.proofs.lemmas.List.Sums.{sum_by-cons}
use Rattle.flp_syntax.specs.declared.syntax.Params.{Params}
use Rattle.flp_syntax.specs.declared.syntax.Params.TheVariants.{Count, Sum, SumVec, Histogram, Multihot}
use Rattle.flp_syntax.specs.Tree.{statements, check, arguments, Index, index_var}
use Rattle.flp_syntax.specs.Scope.{Scope, inside, turns, numbers_from}
use Rattle.flp_meaning.specs.Gadgets.{first_where, ceil_log, calls_made}
use Rattle.flp_meaning.specs.Terms.{wire_count, term_count, form_terms, input_terms, terms_of_arguments, terms_of_statements, statement_terms}
use Rattle.flp_circuits.specs.Bits.{bit_length, headroom}
use Rattle.flp_circuits.specs.Sizes.{Fits, quotient_up}
use Rattle.flp_circuits.specs.Standard.{name_i, name_j, name_c, bits_sum, words_sum, shifted, in_row, each_word_out, range_check, chunk_args, chunked_program, sum_program, sum_vec_statements, histogram_statements, multihot_statements, standard_program}
use Rattle.flp_circuits.proofs.BitLemmas.{two_pow, bit_length-below}
use Rattle.flp_circuits.proofs.Fitting.{fitting, bit_length-some, quotient-some, quotient-few}
use Rattle.flp_circuits.proofs.CallCounts.{made_sum, made_sum_vec, made_histogram, made_multihot}
use Rattle.flp_circuits.proofs.Gives.{turns-zero}

-- ---- wires

-- no power of two that is at least n has a smaller exponent
first_where-least : (n start count log : ℕ) → n ≤ 2 ^ log → start ≤ log → unwrap_or (first_where (λ l. leb n (2 ^ l)) start count) 0 ≤ log
first_where-least n start zero log h k = omega arith
first_where-least n start (suc count) log h k =
    cond_both (leb n (2 ^ start)) (Some start) (first_where (λ l. leb n (2 ^ l)) (suc start) count) (λ o. unwrap_or o 0 ≤ log) (λ yes. k) (λ no.
    let above : 2 ^ start < n = leb-false n (2 ^ start) no in
    ⊎_elim (λ (lt : start < log). first_where-least n (suc start) count log h lt) (λ (ge : log ≤ start).
    let same : log ≡ start = omega arith in
    let power : 2 ^ log ≡ 2 ^ start = ap (λ (e : ℕ). 2 ^ e) same in absurd (omega arith)) (cases_lt start log))

ceil_log-least : (n log : ℕ) → n ≤ 2 ^ log → ceil_log n ≤ log
unfolding ceil_log
ceil_log-least n log h = first_where-least n 0 (n + 1) log h (omega arith)

-- a domain for some calls and one more has at most twice as many points as there are calls
domain-small : (calls log : ℕ) → 1 ≤ calls → log ≡ ceil_log (calls + 1) → 2 ^ log ≤ 2 * calls
domain-small calls zero some e = omega arith
domain-small calls (suc log) some e =
    ⊎_elim (λ (lt : 2 ^ log < calls + 1). let doubled : 2 ^ suc log ≡ 2 * 2 ^ log = two_pow log in omega arith) (λ (ge : calls + 1 ≤ 2 ^ log).
    let least : ceil_log (calls + 1) ≤ log = ceil_log-least (calls + 1) log ge in absurd (omega arith)) (cases_lt (2 ^ log) (calls + 1))

-- the wires of a gadget with this arity and as many calls
wires-small : (made calls : ℕ) → made ≡ calls → 1 ≤ calls → 2 ^ ceil_log (made + 1) ≤ 2 * calls
wires-small made calls e some = ap-le (domain-small calls (ceil_log (calls + 1)) some refl)
  where
    ap-le : 2 ^ ceil_log (calls + 1) ≤ 2 * calls → 2 ^ ceil_log (made + 1) ≤ 2 * calls
    ap-le h = let same : 2 ^ ceil_log (made + 1) ≡ 2 ^ ceil_log (calls + 1) = ap (λ (k : ℕ). 2 ^ ceil_log (k + 1)) e in omega arith

-- ---- terms

bounded-numbers : (f : ℕ → ℕ) (m start count : ℕ) → ((i : ℕ) → f i ≤ m) → sum_by f (numbers_from start count) ≤ count * m
bounded-numbers f m start zero h = omega arith
bounded-numbers f m start (suc count) h =
    let first : f start ≤ m = h start in
    let rest : sum_by f (numbers_from (suc start) count) ≤ count * m = bounded-numbers f m (suc start) count h in
    let whole : sum_by f (numbers_from start (suc count)) ≡ f start + sum_by f (numbers_from (suc start) count) = sum_by-cons f start (numbers_from (suc start) count) in
    omega arith

-- the sum over a loop from 0
bounded : (f : ℕ → ℕ) (m n : ℕ) → ((i : ℕ) → f i ≤ m) → sum_by f (turns 0 n) ≤ n * m
bounded f m n h = let same : sum_by f (turns 0 n) ≡ sum_by f (numbers_from 0 n) = ap (sum_by f) (turns-zero n) in omega (arith, bounded-numbers f m 0 n h)

one_or_none : (b : Bool) → cond b 1 0 ≤ 1
one_or_none true = omega arith
one_or_none false = omega arith

chunk-terms : (words chunk c j : ℕ) → terms_of_arguments words (inside (inside [] name_c c) name_j j) (arguments (chunk_args 30 chunk)) ≤ 3
chunk-terms words chunk c j =
    let one : cond (ltb (0 + 1 * c * chunk + j) words) 1 0 ≤ 1 = one_or_none (ltb (0 + 1 * c * chunk + j) words) in
    omega arith

range-terms : (words calls chunk : ℕ) → statement_terms words [] (check 13 (range_check 14 calls chunk)) ≤ calls * 1 + calls * (chunk * 3)
range-terms words calls chunk =
    add-le-add (bounded (λ c. 1) 1 calls (λ c. omega arith))
    (bounded (λ c. sum_by (λ j. terms_of_arguments words (inside (inside [] name_c c) name_j j) (arguments (chunk_args 30 chunk))) (turns 0 chunk) + 0) (chunk * 3) calls (λ c.
    omega (arith, bounded (λ j. terms_of_arguments words (inside (inside [] name_c c) name_j j) (arguments (chunk_args 30 chunk))) 3 chunk (chunk-terms words chunk c))))

bits-form : (words n : ℕ) (scope : Scope) (at : ℕ) (name : List ℕ) (place : Index) → form_terms words scope (bits_sum at name n place) ≤ n * 1
bits-form words n scope at name place = bounded (λ i. 1) 1 n (λ i. omega arith)

bits-input : (words n : ℕ) (scope : Scope) (at : ℕ) (name : List ℕ) (place : Index) → input_terms words scope (bits_sum at name n place) ≤ n * 0
bits-input words n scope at name place = bounded (λ i. 0) 0 n (λ i. omega arith)

words-form : (words n : ℕ) (at : ℕ) → form_terms words [] (words_sum at name_i n) ≤ n * 1
words-form words n at = bounded (λ i. 1) 1 n (λ i. omega arith)

words-input : (words n : ℕ) (at : ℕ) → input_terms words [] (words_sum at name_i n) ≤ n * 0
words-input words n at = bounded (λ i. 0) 0 n (λ i. omega arith)

word_outs-terms : (words n at : ℕ) → terms_of_statements words [] (statements (each_word_out at n ∷ [])) ≤ n * 1 + 0
word_outs-terms words n at = add-le-add (bounded (λ i. 1) 1 n (λ i. omega arith)) (let none : 0 ≤ 0 = omega arith in none)

sum-terms : (b f : ℕ) → term_count (sum_program b f) ≤ 2 * b * 2 + (1 + b * 1 + b * 1 + b * 1 + b)
sum-terms b f =
    let bits : sum_by (λ (i : ℕ). 2) (turns 0 (2 * b)) ≤ 2 * b * 2 = bounded (λ i. 2) 2 (2 * b) (λ i. omega arith) in
    let low = bits-form (2 * b) b [] 35 name_i (index_var 48 name_i) in
    let low_input = bits-input (2 * b) b [] 35 name_i (index_var 48 name_i) in
    let high = bits-form (2 * b) b [] 52 name_i (shifted 65 b name_i) in
    let high_input = bits-input (2 * b) b [] 52 name_i (shifted 65 b name_i) in
    let number = bits-form (2 * b) b [] 72 name_i (index_var 85 name_i) in
    let number_input = bits-input (2 * b) b [] 72 name_i (index_var 85 name_i) in
    omega arith

sum_vec-terms : (words length bits chunk calls : ℕ) → terms_of_statements words [] (statements (sum_vec_statements length bits)) ≤ length * (bits * 1 + bits * 0) + 0
sum_vec-terms words length bits chunk calls =
    add-le-add (bounded (λ i. form_terms words (inside [] name_i i) (bits_sum 74 name_j bits (in_row 87 name_i bits name_j)) + input_terms words (inside [] name_i i) (bits_sum 74 name_j bits (in_row 87 name_i bits name_j)) + 0) (bits * 1 + bits * 0) length (λ i.
    omega (arith, bits-form words bits (inside [] name_i i) 74 name_j (in_row 87 name_i bits name_j), bits-input words bits (inside [] name_i i) 74 name_j (in_row 87 name_i bits name_j))))
    (let none : 0 ≤ 0 = omega arith in none)

histogram-terms : (words length : ℕ) → terms_of_statements words [] (statements (histogram_statements length)) ≤ length * 2 + 1
histogram-terms words length =
    let total = words-form words length 67 in
    let total_input = words-input words length 67 in
    let outs = word_outs-terms words length 82 in
    omega arith

multihot-terms : (words length b f : ℕ) → terms_of_statements words [] (statements (multihot_statements length b f)) ≤ length * 2 + b + 1
multihot-terms words length b f =
    let total = words-form words length 69 in
    let total_input = words-input words length 69 in
    let high = bits-form words b [] 82 name_i (shifted 95 length name_i) in
    let high_input = bits-input words b [] 82 name_i (shifted 95 length name_i) in
    let outs = word_outs-terms words length 101 in
    omega arith

-- ---- both

-- a gadget of so many products, called for each chunk
chunk-wires : (made calls chunk : ℕ) → made ≡ calls → 1 ≤ calls → chunk * 2 * 2 ^ ceil_log (made + 1) ≤ 4 * (calls * chunk)
chunk-wires made calls chunk e some =
    let points : 2 ^ ceil_log (made + 1) ≤ 2 * calls = wires-small made calls e some in
    let wide : chunk * 2 * 2 ^ ceil_log (made + 1) ≤ chunk * 2 * (2 * calls) = mul-le-mul_left (chunk * 2) points in
    let same : chunk * 2 * (2 * calls) ≡ 4 * (calls * chunk) = omega arith in
    omega arith

pub plans_are_small : (params : Params) → Fits params → (wire_count (standard_program params) ≤ 1048576) × (term_count (standard_program params) ≤ 1048576)
plans_are_small Count h =
    let made : calls_made (standard_program Count) 0 ≡ 1 = refl in
    let wires = wires-small (calls_made (standard_program Count) 0) 1 made (omega arith) in
    (omega arith, omega arith)
plans_are_small (Sum max) h =
    let fits = fitting (Sum max) h in
    let b = bit_length max in
    let few : b ≤ 63 = bit_length-below max 63 (omega (arith, fits.1.0)) in
    let some : 1 ≤ b = bit_length-some max fits.0.0 in
    let wires = wires-small (calls_made (sum_program b (headroom max)) 0) (2 * b) (made_sum b (headroom max)) (omega arith) in
    (omega arith, omega (arith, sum-terms b (headroom max)))
plans_are_small (SumVec length bits chunk) h =
    let fits = fitting (SumVec length bits chunk) h in
    let words = length * bits in
    let calls = quotient_up words chunk in
    let short : chunk ≤ 512 = fits.1.1.1.0 in
    let few : words ≤ 65536 = fits.1.1.1.1.0 in
    let rare : calls ≤ 4095 = fits.1.1.1.1.1.0 in
    let some_chunk : 0 < chunk = fits.0.1.1.0 in
    let some_word : 1 ≤ words = mul-le-mul {n₁ = 1} {m₁ = 1} {n₂ = length} {m₂ = bits} fits.0.0 fits.0.1.0 in
    let some_call : 1 ≤ calls = quotient-some words chunk some_word some_chunk in
    let area : calls * chunk ≤ words + (chunk - 1) = quotient-few words chunk some_chunk in
    let wires = chunk-wires (calls_made (chunked_program words chunk (sum_vec_statements length bits)) 0) calls chunk (made_sum_vec words length bits chunk) some_call in
    (omega arith, omega (arith, range-terms words calls chunk, sum_vec-terms words length bits chunk calls))
plans_are_small (Histogram length chunk) h =
    let fits = fitting (Histogram length chunk) h in
    let calls = quotient_up length chunk in
    let long : length ≤ 65536 = fits.1.0 in
    let short : chunk ≤ 512 = fits.1.1.0 in
    let rare : calls ≤ 4095 = fits.1.1.1.1.0 in
    let some_chunk : 0 < chunk = fits.0.1.0 in
    let some_call : 1 ≤ calls = quotient-some length chunk fits.0.0 some_chunk in
    let area : calls * chunk ≤ length + (chunk - 1) = quotient-few length chunk some_chunk in
    let wires = chunk-wires (calls_made (chunked_program length chunk (histogram_statements length)) 0) calls chunk (made_histogram length length chunk) some_call in
    (omega arith, omega (arith, range-terms length calls chunk, histogram-terms length length))
plans_are_small (Multihot length weight chunk) h =
    let fits = fitting (Multihot length weight chunk) h in
    let b = bit_length weight in
    let f = headroom weight in
    let words = length + b in
    let calls = quotient_up words chunk in
    let short : chunk ≤ 512 = fits.1.1.1.0 in
    let few : words ≤ 65536 = fits.1.1.1.1.0 in
    let rare : calls ≤ 4095 = fits.1.1.1.1.1.0 in
    let some_length : 0 < length = fits.0.0 in
    let some_chunk : 0 < chunk = fits.0.1.1.0 in
    let some_call : 1 ≤ calls = quotient-some words chunk (omega arith) some_chunk in
    let area : calls * chunk ≤ words + (chunk - 1) = quotient-few words chunk some_chunk in
    let wires = chunk-wires (calls_made (chunked_program words chunk (multihot_statements length b f)) 0) calls chunk (made_multihot words length b f chunk) some_call in
    (omega arith, omega (arith, range-terms words calls chunk, multihot-terms words length b f))
