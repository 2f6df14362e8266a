-- What unrolling the parts of the standard circuits meets.
use Rattle.std.proofs.Common.{ℕ, ◌+◌, ◌*◌, ◌<◌, ◌≤◌, ◌≡◌, Bool, true, false, cond, Some, List, [], ◌∷◌, ◌++◌, sym, ap, ◌∙◌, arith}
use Rattle.std.specs.List.{flat_map, sum_by}
use Rattle.std.proofs.Math.Nat.{mul-le-mul}
use Rattle.std.proofs.lemmas.Bool.{eq-eqb}
use Rattle.flp_syntax.specs.Tree.{Index, Tree, Statement, Program, index_var, joint, meas, add, mul, pow, each_arg, check, out, each, items, trees, arguments, statements}
use Rattle.flp_syntax.specs.Scope.{Scope, inside, bound_value, index_value, turns, args_count}
use Rattle.flp_check.specs.Events.{bad_arity, gadget_call, a_check, an_out, in_range, in_words, index_events, range_events, tree_events, arg_events, args_events, call_events, stmt_events, stmts_events}
use Rattle.flp_circuits.specs.Standard.{name_i, name_j, name_c, num, idx, index_sum_of, index_product_of, shifted, in_row, sum_below, bits_sum, words_sum, word_of_chunk, joint_power, chunk_args, chunk_call, range_check, chunked_program}
use Rattle.flp_circuits.proofs.Gives.{turns-zero}
use Rattle.flp_circuits.proofs.Meets.{Tally, tally, added, times, nodes, Meets, tally-same, meets_as, meets_same, meets_none, meets_append, meets_visit, meets_call, meets_check, meets_out, meets_node, meets_loop, meets_in_range, meets_in_words, sum_by-constant}

-- ---- indices

pub meets_number : (scope : Scope) (at value : ℕ) → value ≤ 4294967295 → Meets (index_events scope (idx at value)) (nodes 1)
meets_number scope at value h = meets_node (in_range at value) (nodes 0) (meets_in_range at value h)

pub meets_var : (scope : Scope) (at : ℕ) (name : List ℕ) → bound_value scope name ≤ 4294967295 → Meets (index_events scope (index_var at name)) (nodes 1)
meets_var scope at name h = meets_node (in_range at (bound_value scope name)) (nodes 0) (meets_in_range at (bound_value scope name) h)

pub meets_index_sum : (scope : Scope) (at : ℕ) (first second : Index) (m n : ℕ) → Meets (index_events scope first) (nodes m) → Meets (index_events scope second) (nodes n) → index_value scope first + index_value scope second ≤ 4294967295 → Meets (index_events scope (index_sum_of at first second)) (nodes (1 + m + n))
meets_index_sum scope at first second m n h k within =
    let v = index_value scope first in
    let w = index_value scope second in
    let tail = in_range at (0 + v + w) ++ [] in
    let tail_is : Meets tail (nodes (0 + 0)) = meets_append (in_range at (0 + v + w)) [] (nodes 0) (nodes 0) (meets_in_range at (0 + v + w) (omega arith)) meets_none in
    let back : Meets (index_events scope second ++ tail) (nodes (n + (0 + 0))) = meets_append (index_events scope second) tail (nodes n) (nodes (0 + 0)) k tail_is in
    let middle : Meets (in_range at (0 + v) ++ (index_events scope second ++ tail)) (nodes (0 + (n + (0 + 0)))) = meets_append (in_range at (0 + v)) (index_events scope second ++ tail) (nodes 0) (nodes (n + (0 + 0))) (meets_in_range at (0 + v) (omega arith)) back in
    let parts : Meets (index_events scope first ++ (in_range at (0 + v) ++ (index_events scope second ++ tail))) (nodes (m + (0 + (n + (0 + 0))))) = meets_append (index_events scope first) (in_range at (0 + v) ++ (index_events scope second ++ tail)) (nodes m) (nodes (0 + (n + (0 + 0)))) h middle in
    meets_as (index_events scope (index_sum_of at first second)) (nodes (1 + (m + (0 + (n + (0 + 0)))))) (nodes (1 + m + n))
    (meets_node (index_events scope first ++ (in_range at (0 + v) ++ (index_events scope second ++ tail))) (nodes (m + (0 + (n + (0 + 0))))) parts)
    (ap nodes (omega arith))

pub meets_index_product : (scope : Scope) (at : ℕ) (first second : Index) (m n : ℕ) → Meets (index_events scope first) (nodes m) → Meets (index_events scope second) (nodes n) → index_value scope first ≤ 4294967295 → index_value scope first * index_value scope second ≤ 4294967295 → Meets (index_events scope (index_product_of at first second)) (nodes (1 + m + n))
meets_index_product scope at first second m n h k front within =
    let v = index_value scope first in
    let w = index_value scope second in
    let tail = in_range at (1 * v * w) ++ [] in
    let same : 1 * v * w ≡ v * w = omega arith in
    let tail_is : Meets tail (nodes (0 + 0)) = meets_append (in_range at (1 * v * w)) [] (nodes 0) (nodes 0) (meets_in_range at (1 * v * w) (omega arith)) meets_none in
    let back : Meets (index_events scope second ++ tail) (nodes (n + (0 + 0))) = meets_append (index_events scope second) tail (nodes n) (nodes (0 + 0)) k tail_is in
    let middle : Meets (in_range at (1 * v) ++ (index_events scope second ++ tail)) (nodes (0 + (n + (0 + 0)))) = meets_append (in_range at (1 * v)) (index_events scope second ++ tail) (nodes 0) (nodes (n + (0 + 0))) (meets_in_range at (1 * v) (omega arith)) back in
    let parts : Meets (index_events scope first ++ (in_range at (1 * v) ++ (index_events scope second ++ tail))) (nodes (m + (0 + (n + (0 + 0))))) = meets_append (index_events scope first) (in_range at (1 * v) ++ (index_events scope second ++ tail)) (nodes m) (nodes (0 + (n + (0 + 0)))) h middle in
    meets_as (index_events scope (index_product_of at first second)) (nodes (1 + (m + (0 + (n + (0 + 0)))))) (nodes (1 + m + n))
    (meets_node (index_events scope first ++ (in_range at (1 * v) ++ (index_events scope second ++ tail))) (nodes (m + (0 + (n + (0 + 0))))) parts)
    (ap nodes (omega arith))

-- `n + name`
pub meets_shifted : (scope : Scope) (at n : ℕ) (name : List ℕ) → n + bound_value scope name ≤ 4294967295 → Meets (index_events scope (shifted at n name)) (nodes 3)
meets_shifted scope at n name h =
    meets_index_sum scope at (idx at n) (index_var (at + 2) name) 1 1 (meets_number scope at n (omega arith)) (meets_var scope (at + 2) name (omega arith)) h

-- `row * n + name`
pub meets_in_row : (scope : Scope) (at n : ℕ) (row name : List ℕ) → bound_value scope row ≤ 4294967295 → n ≤ 4294967295 → bound_value scope row * n + bound_value scope name ≤ 4294967295 → Meets (index_events scope (in_row at row n name)) (nodes 5)
meets_in_row scope at n row name low width h =
    let product = index_product_of at (index_var at row) (idx (at + 2) n) in
    let same : 1 * bound_value scope row * n ≡ bound_value scope row * n = omega arith in
    meets_index_sum scope at product (index_var (at + 4) name) 3 1
    (meets_index_product scope at (index_var at row) (idx (at + 2) n) 1 1 (meets_var scope at row low) (meets_number scope (at + 2) n width) low (omega arith))
    (meets_var scope (at + 4) name (omega arith)) (omega arith)

-- the bounds of a loop from 0
pub meets_bounds : (scope : Scope) (at k n : ℕ) → n ≤ 4294967295 → Meets (range_events scope (idx at 0) (idx k n)) (nodes (1 + 1))
meets_bounds scope at k n h =
    meets_append (index_events scope (idx at 0)) (index_events scope (idx k n)) (nodes 1) (nodes 1) (meets_number scope at 0 (omega arith)) (meets_number scope k n h)

module _ (body : Program) where
  -- ---- expressions

  -- `meas[place]`
  pub meets_meas : (scope : Scope) (at : ℕ) (place : Index) (m : ℕ) → Meets (index_events scope place) (nodes m) → index_value scope place < body.meas → Meets (tree_events body scope (meas at place)) (nodes (1 + (m + 0)))
  meets_meas scope at place m h within =
      meets_node (index_events scope place ++ in_words at (index_value scope place) body.meas) (nodes (m + 0))
      (meets_append (index_events scope place) (in_words at (index_value scope place) body.meas) (nodes m) (nodes 0) h (meets_in_words at (index_value scope place) body.meas within))

  -- `sum name in 0..n ( inner )`
  pub meets_sum : (scope : Scope) (at n : ℕ) (name : List ℕ) (inner : Tree) (t : Tally) → n ≤ 4294967295 → ((i : ℕ) → i < n → Meets (tree_events body (inside scope name i) inner) t) → Meets (tree_events body scope (sum_below at name n inner)) (added (nodes 1) (added (nodes (1 + 1)) (times n t)))
  meets_sum scope at n name inner t h turn_met =
      let loop = flat_map (λ value. tree_events body (inside scope name value) inner) (turns 0 n) in
      meets_node (range_events scope (idx (at + 3) 0) (idx (at + 5) n) ++ loop) (added (nodes (1 + 1)) (times n t))
      (meets_append (range_events scope (idx (at + 3) 0) (idx (at + 5) n)) loop (nodes (1 + 1)) (times n t) (meets_bounds scope (at + 3) (at + 5) n h) (meets_loop (λ value. tree_events body (inside scope name value) inner) t n turn_met))

  -- `sum name in 0..n ( 2^name * meas[place] )`
  pub meets_bits : (scope : Scope) (at n : ℕ) (name : List ℕ) (place : Index) (m : ℕ) → n ≤ 4294967295 → ((i : ℕ) → bound_value (inside scope name i) name ≡ i) → ((i : ℕ) → i < n → Meets (index_events (inside scope name i) place) (nodes m)) → ((i : ℕ) → i < n → index_value (inside scope name i) place < body.meas) → Meets (tree_events body scope (bits_sum at name n place)) (nodes (3 + n * (5 + m)))
  meets_bits scope at n name place m h named placed within =
      let two = pow (at + 7) (num (at + 7) 2) (index_var (at + 9) name) in
      let word = meas (at + 11) place in
      meets_as (tree_events body scope (bits_sum at name n place)) (added (nodes 1) (added (nodes (1 + 1)) (times n (nodes (1 + ((1 + (1 + 1)) + ((1 + (m + 0)) + 0))))))) (nodes (3 + n * (5 + m)))
      (meets_sum scope at n name (mul (at + 7) (trees (two ∷ word ∷ []))) (nodes (1 + ((1 + (1 + 1)) + ((1 + (m + 0)) + 0)))) h (λ i below.
      let there = inside scope name i in
      let small : bound_value there name ≤ 4294967295 = rw named (omega arith) in
      let power : Meets (tree_events body there two) (nodes (1 + (1 + 1))) =
      meets_node (tree_events body there (num (at + 7) 2) ++ index_events there (index_var (at + 9) name)) (nodes (1 + 1))
      (meets_append (tree_events body there (num (at + 7) 2)) (index_events there (index_var (at + 9) name)) (nodes 1) (nodes 1) meets_visit (meets_var there (at + 9) name small)) in
      let last : Meets (tree_events body there word ++ []) (nodes ((1 + (m + 0)) + 0)) = meets_append (tree_events body there word) [] (nodes (1 + (m + 0))) (nodes 0) (meets_meas there (at + 11) place m (placed i below) (within i below)) meets_none in
      meets_node (tree_events body there two ++ (tree_events body there word ++ [])) (nodes ((1 + (1 + 1)) + ((1 + (m + 0)) + 0)))
      (meets_append (tree_events body there two) (tree_events body there word ++ []) (nodes (1 + (1 + 1))) (nodes ((1 + (m + 0)) + 0)) power last)))
      (tally-same _ _ (omega arith) (omega arith) (omega arith) (omega arith))

  -- `sum i in 0..n ( meas[i] )`
  pub meets_words : (at n : ℕ) → n ≤ body.meas → n ≤ 4294967295 → Meets (tree_events body [] (words_sum at name_i n)) (nodes (3 + n * 2))
  meets_words at n h small =
      meets_as (tree_events body [] (words_sum at name_i n)) (added (nodes 1) (added (nodes (1 + 1)) (times n (nodes (1 + (1 + 0)))))) (nodes (3 + n * 2))
      (meets_sum [] at n name_i (meas (at + 7) (index_var (at + 9) name_i)) (nodes (1 + (1 + 0))) small (λ i below.
      meets_meas (inside [] name_i i) (at + 7) (index_var (at + 9) name_i) 1 (meets_var (inside [] name_i i) (at + 9) name_i (omega arith)) (omega arith)))
      (tally-same _ _ (omega arith) (omega arith) (omega arith) (omega arith))

  -- `meas?[c * chunk + j]` at call c
  pub meets_word_of_chunk : (at chunk c j : ℕ) → c ≤ 4294967295 → chunk ≤ 4294967295 → c * chunk + j ≤ 4294967295 → Meets (tree_events body (inside (inside [] name_c c) name_j j) (word_of_chunk at chunk)) (nodes (1 + 5))
  meets_word_of_chunk at chunk c j low width h =
      meets_node (index_events (inside (inside [] name_c c) name_j j) (in_row (at + 3) name_c chunk name_j)) (nodes 5) (meets_in_row (inside (inside [] name_c c) name_j j) (at + 3) chunk name_c name_j low width h)

  -- `joint[c]^(j + 1)` at call c
  pub meets_joint_power : (at c j : ℕ) → c < body.joint → c ≤ 4294967295 → j + 1 ≤ 4294967295 → Meets (tree_events body (inside (inside [] name_c c) name_j j) (joint_power at)) (nodes (1 + ((1 + (1 + 0)) + 3)))
  meets_joint_power at c j within low h =
      let there = inside (inside [] name_c c) name_j j in
      let base = joint at (index_var (at + 2) name_c) in
      let exponent = index_sum_of (at + 6) (index_var (at + 6) name_j) (idx (at + 8) 1) in
      meets_node (tree_events body there base ++ index_events there exponent) (nodes ((1 + (1 + 0)) + 3))
      (meets_append (tree_events body there base) (index_events there exponent) (nodes (1 + (1 + 0))) (nodes 3)
      (meets_node (index_events there (index_var (at + 2) name_c) ++ in_words at c body.joint) (nodes (1 + 0))
      (meets_append (index_events there (index_var (at + 2) name_c)) (in_words at c body.joint) (nodes 1) (nodes 0) (meets_var there (at + 2) name_c low) (meets_in_words at c body.joint within)))
      (meets_index_sum there (at + 6) (index_var (at + 6) name_j) (idx (at + 8) 1) 1 1 (meets_var there (at + 6) name_j (omega arith)) (meets_number there (at + 8) 1 (omega arith)) h))

  -- both arguments at one turn: 21 nodes
  pub meets_chunk_args : (at chunk c j : ℕ) → c < body.joint → c ≤ 4294967295 → chunk ≤ 4294967295 → j + 1 ≤ 4294967295 → c * chunk + j ≤ 4294967295 → Meets (args_events body (inside (inside [] name_c c) name_j j) (arguments (chunk_args at chunk))) (nodes 21)
  meets_chunk_args at chunk c j within low width short h =
      let there = inside (inside [] name_c c) name_j j in
      let power = joint_power at in
      let word = word_of_chunk (at + 11) chunk in
      let again = word_of_chunk (at + 21) chunk in
      let minus_one = num (at + 31) 1 in
      let weighted : Meets (tree_events body there (mul at (trees (power ∷ word ∷ [])))) (nodes (1 + ((1 + ((1 + (1 + 0)) + 3)) + ((1 + 5) + 0)))) =
      meets_node (tree_events body there power ++ (tree_events body there word ++ [])) (nodes ((1 + ((1 + (1 + 0)) + 3)) + ((1 + 5) + 0)))
      (meets_append (tree_events body there power) (tree_events body there word ++ []) (nodes (1 + ((1 + (1 + 0)) + 3))) (nodes ((1 + 5) + 0)) (meets_joint_power at c j within low short)
      (meets_append (tree_events body there word) [] (nodes (1 + 5)) (nodes 0) (meets_word_of_chunk (at + 11) chunk c j low width h) meets_none)) in
      let less_one : Meets (tree_events body there (add (at + 21) (items ((false, again) ∷ (true, minus_one) ∷ [])))) (nodes (1 + ((1 + 5) + (1 + 0)))) =
      meets_node (tree_events body there again ++ (tree_events body there minus_one ++ [])) (nodes ((1 + 5) + (1 + 0)))
      (meets_append (tree_events body there again) (tree_events body there minus_one ++ []) (nodes (1 + 5)) (nodes (1 + 0)) (meets_word_of_chunk (at + 21) chunk c j low width h)
      (meets_append (tree_events body there minus_one) [] (nodes 1) (nodes 0) meets_visit meets_none)) in
      meets_append (tree_events body there (mul at (trees (power ∷ word ∷ [])))) (tree_events body there (add (at + 21) (items ((false, again) ∷ (true, minus_one) ∷ []))) ++ []) (nodes 13) (nodes 8) weighted
      (meets_append (tree_events body there (add (at + 21) (items ((false, again) ∷ (true, minus_one) ∷ [])))) [] (nodes 8) (nodes 0) less_one meets_none)

  -- ---- statements

  pub meets_check_stmt : (scope : Scope) (at : ℕ) (expr : Tree) (t : Tally) → Meets (tree_events body scope expr) t → Meets (stmt_events body scope (check at expr)) (added (nodes 1) (added (tally 0 0 1 0) t))
  meets_check_stmt scope at expr t h =
      meets_node (a_check ∷ tree_events body scope expr) (added (tally 0 0 1 0) t) (meets_append (a_check ∷ []) (tree_events body scope expr) (tally 0 0 1 0) t meets_check h)

  pub meets_out_stmt : (scope : Scope) (at : ℕ) (expr : Tree) (t : Tally) → Meets (tree_events body scope expr) t → Meets (stmt_events body scope (out at expr)) (added (nodes 1) (added (tally 0 0 0 1) t))
  meets_out_stmt scope at expr t h =
      meets_node (an_out ∷ tree_events body scope expr) (added (tally 0 0 0 1) t) (meets_append (an_out ∷ []) (tree_events body scope expr) (tally 0 0 0 1) t meets_out h)

  -- `each name in 0..n ( one statement )`
  pub meets_each : (at k l n : ℕ) (name : List ℕ) (inner : Statement) (t : Tally) → n ≤ 4294967295 → ((i : ℕ) → i < n → Meets (stmt_events body (inside [] name i) inner) t) → Meets (stmt_events body [] (each at name (idx k 0) (idx l n) (statements (inner ∷ [])))) (added (nodes 1) (added (nodes (1 + 1)) (times n (added t (nodes 0)))))
  meets_each at k l n name inner t h turn_met =
      let loop = flat_map (λ value. stmts_events body (inside [] name value) (statements (inner ∷ []))) (turns 0 n) in
      meets_node (range_events [] (idx k 0) (idx l n) ++ loop) (added (nodes (1 + 1)) (times n (added t (nodes 0))))
      (meets_append (range_events [] (idx k 0) (idx l n)) loop (nodes (1 + 1)) (times n (added t (nodes 0))) (meets_bounds [] k l n h)
      (meets_loop (λ value. stmts_events body (inside [] name value) (statements (inner ∷ []))) (added t (nodes 0)) n (λ i below.
      meets_append (stmt_events body (inside [] name i) inner) [] t (nodes 0) (turn_met i below) meets_none)))

-- ---- the range check, in a body of its own kind

pub chunk_arity : (at chunk c : ℕ) → args_count (inside [] name_c c) (arguments (each_arg (at + 2) name_j (idx (at + 5) 0) (idx (at + 7) chunk) (arguments (chunk_args (at + 9) chunk)) ∷ [])) ≡ chunk * 2
chunk_arity at chunk c =
    let turns_are : sum_by (λ (j : ℕ). 1 + (1 + 0)) (turns 0 chunk) ≡ chunk * 2 = ap (sum_by (λ (j : ℕ). 2)) (turns-zero chunk) ∙ sum_by-constant 2 0 chunk in
    ap (λ (k : ℕ). k + 0) turns_are ∙ (let same : chunk * 2 + 0 ≡ chunk * 2 = omega arith in same)

pub meets_range : (words chunk : ℕ) (more : List Statement) (calls : ℕ) → calls ≤ 4095 → chunk ≤ 512 → calls ≤ (chunked_program words chunk more).joint → Meets (tree_events (chunked_program words chunk more) [] (range_check 14 calls chunk)) (tally (3 + calls * (4 + chunk * 21)) calls 0 0)
meets_range words chunk more calls few short within =
    let body = chunked_program words chunk more in
    meets_as (tree_events body [] (range_check 14 calls chunk)) (added (nodes 1) (added (nodes (1 + 1)) (times calls (added (nodes 1) (added (added (nodes (1 + ((1 + 1) + chunk * 21))) (nodes 0)) (tally 0 1 0 0)))))) (tally (3 + calls * (4 + chunk * 21)) calls 0 0)
    (meets_sum body [] 14 calls name_c (chunk_call (14 + 7) chunk) (added (nodes 1) (added (added (nodes (1 + ((1 + 1) + chunk * 21))) (nodes 0)) (tally 0 1 0 0))) (omega arith) (λ c below.
    let there = inside [] name_c c in
    let inner = arguments (chunk_args (14 + 7 + 9) chunk) in
    let each_one = each_arg (14 + 7 + 2) name_j (idx (14 + 7 + 5) 0) (idx (14 + 7 + 7) chunk) inner in
    let loop = flat_map (λ j. args_events body (inside there name_j j) inner) (turns 0 chunk) in
    let turns_met : Meets loop (times chunk (nodes 21)) = meets_loop (λ j. args_events body (inside there name_j j) inner) (nodes 21) chunk (λ j least.
    let width : c * chunk ≤ 4095 * 512 = mul-le-mul {n₁ = c} {m₁ = chunk} {n₂ = 4095} {m₂ = 512} (omega arith) short in
    meets_chunk_args body (14 + 7 + 9) chunk c j (omega arith) (omega arith) (omega arith) (omega arith) (omega arith)) in
    let loop_met : Meets loop (nodes (chunk * 21)) = meets_as loop (times chunk (nodes 21)) (nodes (chunk * 21)) turns_met (tally-same _ _ (omega arith) (omega arith) (omega arith) (omega arith)) in
    let arg_met : Meets (arg_events body there each_one) (nodes (1 + ((1 + 1) + chunk * 21))) =
    meets_node (range_events there (idx (14 + 7 + 5) 0) (idx (14 + 7 + 7) chunk) ++ loop) (nodes ((1 + 1) + chunk * 21))
    (meets_append (range_events there (idx (14 + 7 + 5) 0) (idx (14 + 7 + 7) chunk)) loop (nodes (1 + 1)) (nodes (chunk * 21)) (meets_bounds there (14 + 7 + 5) (14 + 7 + 7) chunk (omega arith)) loop_met) in
    let args_met : Meets (args_events body there (arguments (each_one ∷ []))) (added (nodes (1 + ((1 + 1) + chunk * 21))) (nodes 0)) = meets_append (arg_events body there each_one) [] (nodes (1 + ((1 + 1) + chunk * 21))) (nodes 0) arg_met meets_none in
    let fits : call_events body.gadgets (14 + 7) (Some 0) (args_count there (arguments (each_one ∷ []))) ≡ gadget_call 0 ∷ [] =
    ap (λ (b : Bool). cond b (gadget_call 0 ∷ []) (bad_arity (14 + 7) ∷ [])) (eq-eqb (chunk * 2) (args_count there (arguments (each_one ∷ []))) (sym (chunk_arity (14 + 7) chunk c))) in
    let called : Meets (call_events body.gadgets (14 + 7) (Some 0) (args_count there (arguments (each_one ∷ [])))) (tally 0 1 0 0) = meets_same (gadget_call 0 ∷ []) _ (tally 0 1 0 0) meets_call (sym fits) in
    meets_node (args_events body there (arguments (each_one ∷ [])) ++ call_events body.gadgets (14 + 7) (Some 0) (args_count there (arguments (each_one ∷ [])))) (added (added (nodes (1 + ((1 + 1) + chunk * 21))) (nodes 0)) (tally 0 1 0 0))
    (meets_append (args_events body there (arguments (each_one ∷ []))) (call_events body.gadgets (14 + 7) (Some 0) (args_count there (arguments (each_one ∷ [])))) (added (nodes (1 + ((1 + 1) + chunk * 21))) (nodes 0)) (tally 0 1 0 0) args_met called)))
    (tally-same _ _ (omega arith) (omega arith) (omega arith) (omega arith))
