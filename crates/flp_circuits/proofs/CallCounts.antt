-- How many calls the parts of the standard circuits take, under any reading.
use Rattle.std.proofs.Common.{ℕ, zero, suc, ◌+◌, ◌*◌, ◌≡◌, Bool, true, false, cond, List, [], ◌∷◌, ◌++◌, map, length, replicate, ap, ap₂, ◌∙◌, refl, arith}
use Rattle.flp_syntax.specs.Tree.{Kind, Tree, Items, item_on, Statement, Statements, no_stmts, stmt_on, Program, Index, check, out, each, trees, items, arguments, statements, mul, pow, meas, add, index_var, each_arg, one, call, psum_kind, mul_kind, poly_kind}
use Rattle.flp_syntax.specs.Sorts.{is_shared, has_shared_item}
use Rattle.flp_syntax.specs.Scope.{Scope, inside, turns, numbers_from}
use Rattle.flp_meaning.specs.Meaning.{Call, Run, plain, map_run, in_turn, total, concatenation, all_results, Reading, call_run, in_units, value_with_sign, no_results, join_results, one_check, one_out, meaning, items_of, arguments_of, argument_of, statement_of, statements_of}
use Rattle.flp_meaning.specs.Gadgets.{blank, times, calls_made}
use Rattle.flp_circuits.specs.Sizes.{quotient_up}
use Rattle.flp_circuits.specs.Standard.{name_i, name_j, name_c, name_g, num, idx, sum_below, bits_sum, words_sum, shifted, in_row, chunk_args, chunk_call, range_check, gadget_g, bit_coefs, each_out, each_word_out, one_check as one_check_stmt, weight_check, sum_program, chunked_program, sum_vec_statements, histogram_statements, multihot_statements}
use Rattle.flp_circuits.proofs.Gives.{turns-zero}

-- so many times gadget 0
abbrev pub zeros : ℕ → List ℕ
zeros n = replicate n 0

-- the run calls gadget 0 so many times, and no other
pub record Calls {A : Type 0} (part : Run A) (n : ℕ) : Type 0 where
  pub at : (made : ℕ) → map (λ (call : Call). call.gadget) (part made).calls ≡ zeros n

map-both : (xs ys : List Call) → map (λ (call : Call). call.gadget) (xs ++ ys) ≡ map (λ (call : Call). call.gadget) xs ++ map (λ (call : Call). call.gadget) ys
map-both [] ys = refl
map-both (x ∷ xs) ys = ap (λ (more : List ℕ). x.gadget ∷ more) (map-both xs ys)

replicate-both : (m n : ℕ) → zeros m ++ zeros n ≡ zeros (m + n)
replicate-both zero n = ap (λ (k : ℕ). zeros k) (let same : n ≡ 0 + n = omega arith in same)
replicate-both (suc m) n = ap (λ (more : List ℕ). 0 ∷ more) (replicate-both m n) ∙ ap (λ (k : ℕ). zeros k) (let same : suc (m + n) ≡ suc m + n = omega arith in same)

pub calls_as : {A : Type 0} (part : Run A) (m n : ℕ) → Calls part m → m ≡ n → Calls part n
calls_as part m n h e = record { at = λ made. h.at made ∙ ap (λ (k : ℕ). zeros k) e }

pub calls_none : {A : Type 0} (value : A) → Calls (plain value) 0
calls_none value = record { at = λ made. refl }

pub calls_changed : {A B : Type 0} (change : A → B) (part : Run A) (n : ℕ) → Calls part n → Calls (map_run change part) n
calls_changed change part n h = record { at = h.at }

pub calls_nil : {A B : Type 0} (join : A → B → B) (none : B) → Calls (in_turn join none []) 0
calls_nil join none = record { at = λ made. refl }

pub calls_cons : {A B : Type 0} (join : A → B → B) (none : B) (part : Run A) (more : List (Run A)) (m n : ℕ) → Calls part m → Calls (in_turn join none more) n → Calls (in_turn join none (part ∷ more)) (m + n)
calls_cons join none part more m n h k =
    record {
      at = λ made.
          map-both (part made).calls (in_turn join none more (made + length (part made).calls)).calls ∙ ap₂ (λ (xs ys : List ℕ). xs ++ ys) (h.at made) (k.at (made + length (part made).calls)) ∙ replicate-both m n;
    }

calls_numbers : {A B : Type 0} (join : A → B → B) (none : B) (part : ℕ → Run A) (n : ℕ) → ((turn : ℕ) → Calls (part turn) n) → (start count : ℕ) → Calls (in_turn join none (map part (numbers_from start count))) (count * n)
calls_numbers join none part n turn start zero = calls_as (in_turn join none []) 0 (0 * n) (calls_nil join none) (omega arith)
calls_numbers join none part n turn start (suc count) =
    calls_as (in_turn join none (part start ∷ map part (numbers_from (suc start) count))) (n + count * n) (suc count * n)
    (calls_cons join none (part start) (map part (numbers_from (suc start) count)) n (count * n) (turn start) (calls_numbers join none part n turn (suc start) count)) (omega arith)

pub calls_loop : {A B : Type 0} (join : A → B → B) (none : B) (part : ℕ → Run A) (n count : ℕ) → ((turn : ℕ) → Calls (part turn) n) → Calls (in_turn join none (map part (turns 0 count))) (count * n)
calls_loop join none part n count turn =
    record {
      at = λ made.
          ap (λ (list : List ℕ). map (λ (call : Call). call.gadget) (in_turn join none (map part list) made).calls) (turns-zero count) ∙ (calls_numbers join none part n turn 0 count).at made;
    }

pub calls_called : (reading : Reading) (args : Run (List ℕ)) (n : ℕ) → Calls args n → Calls (call_run reading 0 args) (n + 1)
calls_called reading args n h =
    record { at = λ made. map-both (args made).calls _ ∙ ap (λ (xs : List ℕ). xs ++ 0 ∷ []) (h.at made) ∙ replicate-both n 1 }

module _ (kind : Kind) (reading : Reading) where
  calls_counted : (shared : Bool) (part : Run ℕ) (n : ℕ) → Calls part n → Calls (in_units reading shared part) n
  calls_counted true part n h = h
  calls_counted false part n h = calls_changed (λ value. reading.unit * value) part n h

  calls_mixed : (mixed shared : Bool) (part : Run ℕ) (n : ℕ) → Calls part n → Calls (cond mixed (in_units reading shared part) part) n
  calls_mixed true shared part n h = calls_counted shared part n h
  calls_mixed false shared part n h = h

  -- sums of words and of bits take no call
  calls_flat : (scope : Scope) (at n : ℕ) (name : List ℕ) (inner : Tree) → ((t : ℕ) → Calls (meaning (gadget_g kind) reading (inside scope name t) inner) 0) → Calls (meaning (gadget_g kind) reading scope (sum_below at name n inner)) 0
  calls_flat scope at n name inner turn =
      calls_as (meaning (gadget_g kind) reading scope (sum_below at name n inner)) (n * 0) 0 (calls_loop (λ (a b : ℕ). a + b) 0 (λ t. meaning (gadget_g kind) reading (inside scope name t) inner) 0 n turn) (omega arith)

  pub calls_bits : (scope : Scope) (at n : ℕ) (name : List ℕ) (place : Index) → Calls (meaning (gadget_g kind) reading scope (bits_sum at name n place)) 0
  calls_bits scope at n name place = calls_flat scope at n name (mul (at + 7) (trees (pow (at + 7) (num (at + 7) 2) (index_var (at + 9) name) ∷ meas (at + 11) place ∷ []))) (λ t. record { at = λ made. refl })

  pub calls_words : (at n : ℕ) → Calls (meaning (gadget_g kind) reading [] (words_sum at name_i n)) 0
  calls_words at n = calls_flat [] at n name_i (meas (at + 7) (index_var (at + 9) name_i)) (λ t. record { at = λ made. refl })

  calls_item : (mixed is_minus : Bool) (expr : Tree) (more : Items) (m n : ℕ) → Calls (meaning (gadget_g kind) reading [] expr) m → Calls (total (items_of (gadget_g kind) reading [] mixed more)) n → Calls (total (items_of (gadget_g kind) reading [] mixed (item_on is_minus expr more))) (m + n)
  calls_item mixed is_minus expr more m n h k =
      let part = meaning (gadget_g kind) reading [] expr in
      calls_cons (λ (a b : ℕ). a + b) 0 (map_run (value_with_sign is_minus) (cond mixed (in_units reading (is_shared expr) part) part)) (items_of (gadget_g kind) reading [] mixed more) m n
      (calls_changed (value_with_sign is_minus) (cond mixed (in_units reading (is_shared expr) part) part) m (calls_mixed mixed (is_shared expr) part m h)) k

  pub calls_difference : (at : ℕ) (first second : Tree) → Calls (meaning (gadget_g kind) reading [] first) 0 → Calls (meaning (gadget_g kind) reading [] second) 0 → Calls (meaning (gadget_g kind) reading [] (add at (items ((false, first) ∷ (true, second) ∷ [])))) 0
  calls_difference at first second h k =
      let list = items ((false, first) ∷ (true, second) ∷ []) in
      let mixed = has_shared_item list in
      calls_item mixed false first (items ((true, second) ∷ [])) 0 0 h (calls_item mixed true second (items []) 0 0 k (calls_nil (λ (a b : ℕ). a + b) 0))

  pub calls_balance : (at : ℕ) (first second third : Tree) → Calls (meaning (gadget_g kind) reading [] first) 0 → Calls (meaning (gadget_g kind) reading [] second) 0 → Calls (meaning (gadget_g kind) reading [] third) 0 → Calls (meaning (gadget_g kind) reading [] (add at (items ((false, first) ∷ (false, second) ∷ (true, third) ∷ [])))) 0
  calls_balance at first second third h k l =
      let list = items ((false, first) ∷ (false, second) ∷ (true, third) ∷ []) in
      let mixed = has_shared_item list in
      calls_item mixed false first (items ((false, second) ∷ (true, third) ∷ [])) 0 0 h
      (calls_item mixed false second (items ((true, third) ∷ [])) 0 0 k (calls_item mixed true third (items []) 0 0 l (calls_nil (λ (a b : ℕ). a + b) 0)))

  pub calls_check : (scope : Scope) (at : ℕ) (expr : Tree) (n : ℕ) → Calls (meaning (gadget_g kind) reading scope expr) n → Calls (statement_of (gadget_g kind) reading scope (check at expr)) n
  calls_check scope at expr n h =
      let part = meaning (gadget_g kind) reading scope expr in
      calls_changed one_check (in_units reading (is_shared expr) part) n (calls_counted (is_shared expr) part n h)

  pub calls_out : (scope : Scope) (at : ℕ) (expr : Tree) (n : ℕ) → Calls (meaning (gadget_g kind) reading scope expr) n → Calls (statement_of (gadget_g kind) reading scope (out at expr)) n
  calls_out scope at expr n h = calls_changed one_out (meaning (gadget_g kind) reading scope expr) n h

  pub calls_stmt : (scope : Scope) (stmt : Statement) (more : Statements) (m n : ℕ) → Calls (statement_of (gadget_g kind) reading scope stmt) m → Calls (all_results (statements_of (gadget_g kind) reading scope more)) n → Calls (all_results (statements_of (gadget_g kind) reading scope (stmt_on stmt more))) (m + n)
  calls_stmt scope stmt more m n h k =
      calls_cons join_results no_results (statement_of (gadget_g kind) reading scope stmt) (statements_of (gadget_g kind) reading scope more) m n h k

  -- `each name in 0..n ( one statement )`
  pub calls_each : (at k l n : ℕ) (name : List ℕ) (inner : Statement) (m : ℕ) → ((t : ℕ) → Calls (statement_of (gadget_g kind) reading (inside [] name t) inner) m) → Calls (statement_of (gadget_g kind) reading [] (each at name (idx k 0) (idx l n) (statements (inner ∷ [])))) (n * (m + 0))
  calls_each at k l n name inner m turn =
      calls_loop join_results no_results (λ t. all_results (statements_of (gadget_g kind) reading (inside [] name t) (statements (inner ∷ [])))) (m + 0) n (λ t.
      calls_stmt (inside [] name t) inner no_stmts m 0 (turn t) (calls_nil join_results no_results))

  -- the range check takes a call for each chunk
  pub calls_range : (at calls chunk : ℕ) → Calls (meaning (gadget_g kind) reading [] (range_check at calls chunk)) calls
  calls_range at calls chunk =
      calls_as (meaning (gadget_g kind) reading [] (range_check at calls chunk)) (calls * (chunk * 0 + 0 + 1)) calls
      (calls_loop (λ (a b : ℕ). a + b) 0 (λ c. meaning (gadget_g kind) reading (inside [] name_c c) (chunk_call (at + 7) chunk)) (chunk * 0 + 0 + 1) calls (λ c.
      let there = inside [] name_c c in
      let inner = arguments (chunk_args (at + 7 + 9) chunk) in
      let each_one = each_arg (at + 7 + 2) name_j (idx (at + 7 + 5) 0) (idx (at + 7 + 7) chunk) inner in
      calls_called reading (concatenation (arguments_of (gadget_g kind) reading there (arguments (each_one ∷ [])))) (chunk * 0 + 0)
      (calls_cons (λ (a b : List ℕ). a ++ b) [] (argument_of (gadget_g kind) reading there each_one) [] (chunk * 0) 0
      (calls_loop (λ (a b : List ℕ). a ++ b) [] (λ j. concatenation (arguments_of (gadget_g kind) reading (inside there name_j j) inner)) 0 chunk (λ j. record { at = λ made. refl }))
      (calls_nil (λ (a b : List ℕ). a ++ b) []))))
      (omega arith)

-- ---- whole circuits

-- so many calls of gadget 0 are so many calls that are made
pub made-from : (body : Program) (n : ℕ) → Calls (all_results (statements_of body.gadgets blank [] body.stmts)) n → calls_made body 0 ≡ n
made-from body n h = ap (times 0) (h.at 0) ∙ all n
  where
    all : (n : ℕ) → times 0 (zeros n) ≡ n
    all zero = refl
    all (suc n) = ap suc (all n)

calls_sum : (b f : ℕ) → Calls (all_results (statements_of (sum_program b f).gadgets blank [] (sum_program b f).stmts)) (2 * b)
calls_sum b f =
    let kind = poly_kind bit_coefs in
    let bit = check 22 (call 23 name_g (arguments (one (meas 25 (index_var 27 name_i)) ∷ []))) in
    let low = bits_sum 35 name_i b (index_var 48 name_i) in
    let high = bits_sum 52 name_i b (shifted 65 b name_i) in
    let balance = add 33 (items ((false, num 33 f) ∷ (false, low) ∷ (true, high) ∷ [])) in
    let number = bits_sum 72 name_i b (index_var 85 name_i) in
    calls_as (all_results (statements_of (gadget_g kind) blank [] (sum_program b f).stmts)) (2 * b * (1 + 0) + (0 + (0 + 0))) (2 * b)
    (calls_stmt kind blank [] (each 15 name_i (idx 18 0) (idx 20 (2 * b)) (statements (bit ∷ []))) (statements (check 32 balance ∷ out 71 number ∷ [])) (2 * b * (1 + 0)) (0 + (0 + 0))
    (calls_each kind blank 15 18 20 (2 * b) name_i bit 1 (λ t. record { at = λ made. refl }))
    (calls_stmt kind blank [] (check 32 balance) (statements (out 71 number ∷ [])) 0 (0 + 0)
    (calls_check kind blank [] 32 balance 0 (calls_balance kind blank 33 (num 33 f) low high (calls_none f) (calls_bits kind blank [] 35 b name_i (index_var 48 name_i)) (calls_bits kind blank [] 52 b name_i (shifted 65 b name_i))))
    (calls_stmt kind blank [] (out 71 number) no_stmts 0 0 (calls_out kind blank [] 71 number 0 (calls_bits kind blank [] 72 b name_i (index_var 85 name_i))) (calls_nil join_results no_results))))
    (omega arith)

calls_chunked : (words chunk : ℕ) (more : List Statement) → Calls (all_results (statements_of (gadget_g (psum_kind chunk mul_kind)) blank [] (statements more))) 0 → Calls (all_results (statements_of (chunked_program words chunk more).gadgets blank [] (chunked_program words chunk more).stmts)) (quotient_up words chunk)
calls_chunked words chunk more h =
    let kind = psum_kind chunk mul_kind in
    let calls = quotient_up words chunk in
    calls_as (all_results (statements_of (gadget_g kind) blank [] (chunked_program words chunk more).stmts)) (calls + 0) calls
    (calls_stmt kind blank [] (check 13 (range_check 14 calls chunk)) (statements more) calls 0 (calls_check kind blank [] 13 (range_check 14 calls chunk) calls (calls_range kind blank 14 calls chunk)) h)
    (omega arith)

calls_each_out : (kind : Kind) (at n : ℕ) (inner : Tree) → ((t : ℕ) → Calls (meaning (gadget_g kind) blank (inside [] name_i t) inner) 0) → Calls (all_results (statements_of (gadget_g kind) blank [] (statements (each_out at name_i n inner ∷ [])))) 0
calls_each_out kind at n inner turn =
    calls_as (all_results (statements_of (gadget_g kind) blank [] (statements (each_out at name_i n inner ∷ [])))) (n * (0 + 0) + 0) 0
    (calls_stmt kind blank [] (each_out at name_i n inner) no_stmts (n * (0 + 0)) 0
    (calls_each kind blank at (at + 3) (at + 5) n name_i (out (at + 7) inner) 0 (λ t. calls_out kind blank (inside [] name_i t) (at + 7) inner 0 (turn t))) (calls_nil join_results no_results))
    (omega arith)

pub made_sum : (b f : ℕ) → calls_made (sum_program b f) 0 ≡ 2 * b
made_sum b f = made-from (sum_program b f) (2 * b) (calls_sum b f)

pub made_sum_vec : (words length bits chunk : ℕ) → calls_made (chunked_program words chunk (sum_vec_statements length bits)) 0 ≡ quotient_up words chunk
made_sum_vec words length bits chunk =
    let kind = psum_kind chunk mul_kind in
    made-from (chunked_program words chunk (sum_vec_statements length bits)) (quotient_up words chunk) (calls_chunked words chunk (sum_vec_statements length bits)
    (calls_each_out kind 66 length (bits_sum 74 name_j bits (in_row 87 name_i bits name_j)) (λ i. calls_bits kind blank (inside [] name_i i) 74 bits name_j (in_row 87 name_i bits name_j))))

calls_word_outs : (kind : Kind) (at n : ℕ) → Calls (all_results (statements_of (gadget_g kind) blank [] (statements (each_word_out at n ∷ [])))) 0
calls_word_outs kind at n = calls_each_out kind at n (meas (at + 8) (index_var (at + 10) name_i)) (λ i. record { at = λ made. refl })

pub made_histogram : (words length chunk : ℕ) → calls_made (chunked_program words chunk (histogram_statements length)) 0 ≡ quotient_up words chunk
made_histogram words length chunk =
    let kind = psum_kind chunk mul_kind in
    made-from (chunked_program words chunk (histogram_statements length)) (quotient_up words chunk) (calls_chunked words chunk (histogram_statements length)
    (calls_stmt kind blank [] (one_check_stmt length) (statements (each_word_out 82 length ∷ [])) 0 0
    (calls_check kind blank [] 66 (add 67 (items ((false, words_sum 67 name_i length) ∷ (true, num 80 1) ∷ []))) 0 (calls_difference kind blank 67 (words_sum 67 name_i length) (num 80 1) (calls_words kind blank 67 length) (calls_none 1)))
    (calls_word_outs kind 82 length)))

pub made_multihot : (words length b f chunk : ℕ) → calls_made (chunked_program words chunk (multihot_statements length b f)) 0 ≡ quotient_up words chunk
made_multihot words length b f chunk =
    let kind = psum_kind chunk mul_kind in
    made-from (chunked_program words chunk (multihot_statements length b f)) (quotient_up words chunk) (calls_chunked words chunk (multihot_statements length b f)
    (calls_stmt kind blank [] (weight_check length b f) (statements (each_word_out 101 length ∷ [])) 0 0
    (calls_check kind blank [] 66 (add 67 (items ((false, num 67 f) ∷ (false, words_sum 69 name_i length) ∷ (true, bits_sum 82 name_i b (shifted 95 length name_i)) ∷ []))) 0 (calls_balance kind blank 67 (num 67 f) (words_sum 69 name_i length) (bits_sum 82 name_i b (shifted 95 length name_i)) (calls_none f) (calls_words kind blank 69 length) (calls_bits kind blank [] 82 b name_i (shifted 95 length name_i))))
    (calls_word_outs kind 101 length)))
