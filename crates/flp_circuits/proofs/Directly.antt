-- What the parts of the standard circuits mean in the direct reading.
use Rattle.std.proofs.Common.{ℕ, zero, suc, ◌+◌, ◌-◌, ◌*◌, ◌%◌, ◌^◌, ◌≡◌, Bool, true, false, cond, List, [], ◌∷◌, ◌++◌, map, slice_index, sum, sym, ap, ap₂, ◌∙◌, refl, mul_assoc, arith}
use Rattle.std.specs.List.{sum_by, flat_map}
use Rattle.std.proofs.lemmas.List.{append-nil}
use Rattle.std.proofs.lemmas.List.Sums.{sum_by-cons}
use Rattle.flp_field.specs.Word.{modulus, word_product}
use Rattle.flp_field.specs.Sums.{parts_of}
use Rattle.flp_field.proofs.Congruence.{Same, same_add, same_mul, same_mod, same_eq}
use Rattle.flp_gadget.specs.KindTree.{value_of, Mul, Psum}
use Rattle.flp_gadget.specs.Formulas.{product_value}
use Rattle.flp_syntax.specs.Tree.{Kind, Tree, Items, item_on, Statement, Statements, no_stmts, stmt_on, add, statements, Program, Index, check, out, trees, items, arguments, mul, pow, meas, index_var, each_arg}
use Rattle.flp_syntax.specs.Sorts.{is_shared, has_shared_item}
use Rattle.flp_syntax.specs.Scope.{Scope, inside, bound_value, index_value, numbers_from}
use Rattle.flp_meaning.specs.Meaning.{Run, map_run, total, concatenation, all_results, Results, no_results, join_results, one_check, one_out, in_units, value_with_sign, meaning, items_of, arguments_of, argument_of, statement_of, statements_of}
use Rattle.flp_meaning.specs.Circuit.{direct, kind_of}
use Rattle.flp_circuits.specs.Standard.{name_i, name_j, name_c, idx, num, bits_sum, words_sum, chunk_args, chunk_call, range_check, gadget_g, each_out}
use Rattle.flp_circuits.specs.Formulas.{word, minus, sum_below, range_sum}
use Rattle.flp_circuits.proofs.Gives.{Gives, gives_as, gives_changed, gives_nil, gives_cons, gives_sum, gives_list, gives_outs, gives_called, checks_only, outs_only}

-- sums of terms that are the same words are the same word
pub sum_by-same : (f g : ℕ → ℕ) → ((t : ℕ) → Same (f t) (g t)) → (list : List ℕ) → Same (sum_by f list) (sum_by g list)
sum_by-same f g same [] = refl
sum_by-same f g same (t ∷ more) =
    same_eq _ _ (sum_by-cons f t more) ∙ same_add (f t) (g t) (sum_by f more) (sum_by g more) (same t) (sum_by-same f g same more) ∙ sym (same_eq _ _ (sum_by-cons g t more))

-- a word, or the first of two words, times the second
abbrev pub pair : (a b : ℕ → ℕ) → ℕ → List ℕ
pair a b j = a j % modulus ∷ b j % modulus ∷ []

pub parts-pairs : (a b : ℕ → ℕ) (start count : ℕ) → parts_of count 2 (flat_map (pair a b) (numbers_from start count)) ≡ map (pair a b) (numbers_from start count)
parts-pairs a b start zero = refl
parts-pairs a b start (suc count) = ap (λ (more : List (List ℕ)). pair a b start ∷ more) (parts-pairs a b (suc start) count)

-- the sum of the products of pairs
pub pairs-value : (a b : ℕ → ℕ) (list : List ℕ) → Same (sum (map product_value (map (pair a b) list))) (sum_by (λ j. a j * b j) list)
pairs-value a b [] = refl
pairs-value a b (j ∷ more) =
    let first : Same (word_product (a j % modulus) (b j % modulus)) (a j * b j) = same_mod (a j % modulus * (b j % modulus)) ∙ same_mul (a j % modulus) (a j) (b j % modulus) (b j) (same_mod (a j)) (same_mod (b j)) in
    same_eq _ _ (sum_by-cons (λ (n : ℕ). n) (product_value (pair a b j)) (map product_value (map (pair a b) more)))
    ∙ same_add (word_product (a j % modulus) (b j % modulus)) (a j * b j) (sum (map product_value (map (pair a b) more))) (sum_by (λ j. a j * b j) more) first (pairs-value a b more)
    ∙ sym (same_eq _ _ (sum_by-cons (λ (j : ℕ). a j * b j) j more))

-- the gadget of the range check at the pairs of a chunk
pub chunk-value : (a b : ℕ → ℕ) (chunk : ℕ) → Same (value_of (Psum Mul chunk) (flat_map (pair a b) (numbers_from 0 chunk) ++ [])) (sum_by (λ j. a j * b j) (numbers_from 0 chunk))
chunk-value a b chunk =
    let whole : flat_map (pair a b) (numbers_from 0 chunk) ++ [] ≡ flat_map (pair a b) (numbers_from 0 chunk) = append-nil (flat_map (pair a b) (numbers_from 0 chunk)) in
    same_eq _ _ (ap (value_of (Psum Mul chunk)) whole)
    ∙ same_mod (sum (map product_value (parts_of chunk 2 (flat_map (pair a b) (numbers_from 0 chunk)))))
    ∙ same_eq _ _ (ap (λ (list : List (List ℕ)). sum (map product_value list)) (parts-pairs a b 0 chunk))
    ∙ pairs-value a b (numbers_from 0 chunk)

module _ (kind : Kind) (body : Program) (x joint : List ℕ) where
  -- `sum name in 0..n ( 2^name * meas[place] )`
  pub gives_bits : (scope : Scope) (at n : ℕ) (name : List ℕ) (place : Index) (f : ℕ → ℕ) → ((t : ℕ) → bound_value (inside scope name t) name ≡ t) → ((t : ℕ) → index_value (inside scope name t) place ≡ f t) → Gives (meaning (gadget_g kind) (direct body x joint) scope (bits_sum at name n place)) (sum_below n (λ t. 2 ^ t * word x (f t)))
  gives_bits scope at n name place f named placed =
      gives_sum (λ t. meaning (gadget_g kind) (direct body x joint) (inside scope name t) (mul (at + 7) (trees (pow (at + 7) (num (at + 7) 2) (index_var (at + 9) name) ∷ meas (at + 11) place ∷ [])))) (λ t. 2 ^ t * word x (f t)) n (λ t.
      record { at = λ made. ap₂ (λ (k i : ℕ). 2 ^ k * (slice_index x i * 1)) (named t) (placed t) ∙ (let whole : 2 ^ t * (slice_index x (f t) * 1) ≡ 2 ^ t * slice_index x (f t) = omega arith in whole) })

  -- `sum i in 0..n ( meas[i] )`
  pub gives_words : (at n : ℕ) → Gives (meaning (gadget_g kind) (direct body x joint) [] (words_sum at name_i n)) (sum_below n (word x))
  gives_words at n =
      gives_sum (λ t. meaning (gadget_g kind) (direct body x joint) (inside [] name_i t) (meas (at + 7) (index_var (at + 9) name_i))) (word x) n (λ t. record { at = λ made. refl })

  -- what counts once, whether it is public or shared
  pub gives_counted : (shared : Bool) (part : Run ℕ) (v : ℕ) → Gives part v → Gives (in_units (direct body x joint) shared part) v
  gives_counted true part v h = h
  gives_counted false part v h = gives_as (map_run (λ value. 1 * value) part) (1 * v) v (gives_changed (λ value. 1 * value) part v h) (let same : 1 * v ≡ v = omega arith in same)

  pub gives_mixed : (mixed shared : Bool) (part : Run ℕ) (v : ℕ) → Gives part v → Gives (cond mixed (in_units (direct body x joint) shared part) part) v
  gives_mixed true shared part v h = gives_counted shared part v h
  gives_mixed false shared part v h = h

  -- an item of a sum
  pub gives_item : (mixed is_minus : Bool) (expr : Tree) (more : Items) (v w : ℕ) → Gives (meaning (gadget_g kind) (direct body x joint) [] expr) v → Gives (total (items_of (gadget_g kind) (direct body x joint) [] mixed more)) w → Gives (total (items_of (gadget_g kind) (direct body x joint) [] mixed (item_on is_minus expr more))) (value_with_sign is_minus v + w)
  gives_item mixed is_minus expr more v w h k =
      let part = meaning (gadget_g kind) (direct body x joint) [] expr in
      gives_cons (λ (a b : ℕ). a + b) 0 (map_run (value_with_sign is_minus) (cond mixed (in_units (direct body x joint) (is_shared expr) part) part)) (items_of (gadget_g kind) (direct body x joint) [] mixed more) (value_with_sign is_minus v) w
      (gives_changed (value_with_sign is_minus) (cond mixed (in_units (direct body x joint) (is_shared expr) part) part) v (gives_mixed mixed (is_shared expr) part v h)) k

  -- `first - second`
  pub gives_difference : (at : ℕ) (first second : Tree) (v w : ℕ) → Gives (meaning (gadget_g kind) (direct body x joint) [] first) v → Gives (meaning (gadget_g kind) (direct body x joint) [] second) w → Gives (meaning (gadget_g kind) (direct body x joint) [] (add at (items ((false, first) ∷ (true, second) ∷ [])))) (minus v w)
  gives_difference at first second v w h k =
      let list = items ((false, first) ∷ (true, second) ∷ []) in
      let mixed = has_shared_item list in
      gives_as (total (items_of (gadget_g kind) (direct body x joint) [] mixed list)) (v + ((modulus - 1) * w + 0)) (minus v w)
      (gives_item mixed false first (items ((true, second) ∷ [])) v ((modulus - 1) * w + 0) h
      (gives_item mixed true second (items []) w 0 k (gives_nil (λ (a b : ℕ). a + b) 0)))
      (let whole : v + ((modulus - 1) * w + 0) ≡ v + (modulus - 1) * w = omega arith in whole)

  -- `first + second - third`
  pub gives_balance : (at : ℕ) (first second third : Tree) (u v w : ℕ) → Gives (meaning (gadget_g kind) (direct body x joint) [] first) u → Gives (meaning (gadget_g kind) (direct body x joint) [] second) v → Gives (meaning (gadget_g kind) (direct body x joint) [] third) w → Gives (meaning (gadget_g kind) (direct body x joint) [] (add at (items ((false, first) ∷ (false, second) ∷ (true, third) ∷ [])))) (minus (u + v) w)
  gives_balance at first second third u v w h k l =
      let list = items ((false, first) ∷ (false, second) ∷ (true, third) ∷ []) in
      let mixed = has_shared_item list in
      gives_as (total (items_of (gadget_g kind) (direct body x joint) [] mixed list)) (u + (v + ((modulus - 1) * w + 0))) (minus (u + v) w)
      (gives_item mixed false first (items ((false, second) ∷ (true, third) ∷ [])) u (v + ((modulus - 1) * w + 0)) h
      (gives_item mixed false second (items ((true, third) ∷ [])) v ((modulus - 1) * w + 0) k
      (gives_item mixed true third (items []) w 0 l (gives_nil (λ (a b : ℕ). a + b) 0))))
      (let whole : u + (v + ((modulus - 1) * w + 0)) ≡ u + v + (modulus - 1) * w = omega arith in whole)

  -- statements
  pub gives_check : (scope : Scope) (at : ℕ) (expr : Tree) (v : ℕ) → Gives (meaning (gadget_g kind) (direct body x joint) scope expr) v → Gives (statement_of (gadget_g kind) (direct body x joint) scope (check at expr)) (checks_only (v % modulus ∷ []))
  gives_check scope at expr v h =
      let part = meaning (gadget_g kind) (direct body x joint) scope expr in
      gives_changed one_check (in_units (direct body x joint) (is_shared expr) part) v (gives_counted (is_shared expr) part v h)

  pub gives_out : (scope : Scope) (at : ℕ) (expr : Tree) (v : ℕ) → Gives (meaning (gadget_g kind) (direct body x joint) scope expr) v → Gives (statement_of (gadget_g kind) (direct body x joint) scope (out at expr)) (outs_only (v % modulus ∷ []))
  gives_out scope at expr v h = gives_changed one_out (meaning (gadget_g kind) (direct body x joint) scope expr) v h

  pub gives_stmt : (scope : Scope) (stmt : Statement) (more : Statements) (a b : Results) → Gives (statement_of (gadget_g kind) (direct body x joint) scope stmt) a → Gives (all_results (statements_of (gadget_g kind) (direct body x joint) scope more)) b → Gives (all_results (statements_of (gadget_g kind) (direct body x joint) scope (stmt_on stmt more))) (join_results a b)
  gives_stmt scope stmt more a b h k =
      gives_cons join_results no_results (statement_of (gadget_g kind) (direct body x joint) scope stmt) (statements_of (gadget_g kind) (direct body x joint) scope more) a b h k

  -- `each name in 0..n ( out inner; )`
  pub gives_each_out : (at n : ℕ) (name : List ℕ) (inner : Tree) (f : ℕ → ℕ) → ((t : ℕ) → Gives (meaning (gadget_g kind) (direct body x joint) (inside [] name t) inner) (f t)) → Gives (statement_of (gadget_g kind) (direct body x joint) [] (each_out at name n inner)) (outs_only (map (λ t. f t % modulus) (numbers_from 0 n)))
  gives_each_out at n name inner f h =
      gives_outs (λ t. all_results (statements_of (gadget_g kind) (direct body x joint) (inside [] name t) (statements (out (at + 7) inner ∷ [])))) (λ t. f t % modulus) n (λ t.
      gives_stmt (inside [] name t) (out (at + 7) inner) no_stmts (outs_only (f t % modulus ∷ [])) no_results (gives_out (inside [] name t) (at + 7) inner (f t) (h t)) (gives_nil join_results no_results))

  -- the arguments of the range check at call c
  abbrev pub weighted : ℕ → ℕ → ℕ → ℕ
  weighted chunk c j = word joint c ^ (j + 1) * word x (c * chunk + j)

  abbrev pub less_one : ℕ → ℕ → ℕ → ℕ
  less_one chunk c j = minus (word x (c * chunk + j)) 1

  pub gives_chunk_args : (at chunk c : ℕ) → Gives (concatenation (arguments_of (gadget_g kind) (direct body x joint) (inside [] name_c c) (arguments (each_arg (at + 2) name_j (idx (at + 5) 0) (idx (at + 7) chunk) (arguments (chunk_args (at + 9) chunk)) ∷ [])))) (flat_map (pair (weighted chunk c) (less_one chunk c)) (numbers_from 0 chunk) ++ [])
  gives_chunk_args at chunk c =
      let scope = inside [] name_c c in
      let each_one = each_arg (at + 2) name_j (idx (at + 5) 0) (idx (at + 7) chunk) (arguments (chunk_args (at + 9) chunk)) in
      gives_cons (λ (a b : List ℕ). a ++ b) [] (argument_of (gadget_g kind) (direct body x joint) scope each_one) [] (flat_map (pair (weighted chunk c) (less_one chunk c)) (numbers_from 0 chunk)) []
      (gives_list (λ j. concatenation (arguments_of (gadget_g kind) (direct body x joint) (inside scope name_j j) (arguments (chunk_args (at + 9) chunk)))) (pair (weighted chunk c) (less_one chunk c)) chunk (λ j.
      let power : 0 + j + 1 ≡ j + 1 = omega arith in
      let place : 0 + 1 * c * chunk + j ≡ c * chunk + j = omega arith in
      let first : slice_index joint c ^ (0 + j + 1) * (slice_index x (0 + 1 * c * chunk + j) * 1) ≡ weighted chunk c j =
      ap₂ (λ (k i : ℕ). slice_index joint c ^ k * (slice_index x i * 1)) power place ∙ (let e : slice_index joint c ^ (j + 1) * (slice_index x (c * chunk + j) * 1) ≡ weighted chunk c j = omega arith in e) in
      let second : slice_index x (0 + 1 * c * chunk + j) + ((modulus - 1) * (1 * 1) + 0) ≡ less_one chunk c j =
      ap (λ (i : ℕ). slice_index x i + ((modulus - 1) * (1 * 1) + 0)) place ∙ (let e : slice_index x (c * chunk + j) + ((modulus - 1) * (1 * 1) + 0) ≡ less_one chunk c j = omega arith in e) in
      record { at = λ made. ap₂ (λ (a b : ℕ). a % modulus ∷ b % modulus ∷ []) first second }))
      (gives_nil (λ (a b : List ℕ). a ++ b) [])

  -- the range check, before it is taken modulo p
  pub gives_range : (at calls chunk : ℕ) → Gives (meaning (gadget_g kind) (direct body x joint) [] (range_check at calls chunk)) (sum_below calls (λ c. value_of (kind_of body 0) (flat_map (pair (weighted chunk c) (less_one chunk c)) (numbers_from 0 chunk) ++ [])))
  gives_range at calls chunk =
      gives_sum (λ c. meaning (gadget_g kind) (direct body x joint) (inside [] name_c c) (chunk_call (at + 7) chunk)) (λ c. value_of (kind_of body 0) (flat_map (pair (weighted chunk c) (less_one chunk c)) (numbers_from 0 chunk) ++ [])) calls (λ c.
      gives_called (direct body x joint) 0 (concatenation (arguments_of (gadget_g kind) (direct body x joint) (inside [] name_c c) (arguments (each_arg (at + 7 + 2) name_j (idx (at + 7 + 5) 0) (idx (at + 7 + 7) chunk) (arguments (chunk_args (at + 7 + 9) chunk)) ∷ []))))
      (flat_map (pair (weighted chunk c) (less_one chunk c)) (numbers_from 0 chunk) ++ []) (λ call. value_of (kind_of body call.gadget) call.inputs) (λ number call. refl) (gives_chunk_args (at + 7) chunk c))

  -- and where the gadget is the sum of products over chunks, it is the formula
  pub range-formula : (calls chunk : ℕ) → Same (sum_below calls (λ c. value_of (Psum Mul chunk) (flat_map (pair (weighted chunk c) (less_one chunk c)) (numbers_from 0 chunk) ++ []))) (range_sum x joint calls chunk)
  range-formula calls chunk =
      sum_by-same (λ c. value_of (Psum Mul chunk) (flat_map (pair (weighted chunk c) (less_one chunk c)) (numbers_from 0 chunk) ++ [])) (λ c. sum_below chunk (λ j. word joint c ^ (j + 1) * (word x (c * chunk + j) * minus (word x (c * chunk + j)) 1))) (λ c.
      chunk-value (weighted chunk c) (less_one chunk c) chunk
      ∙ sum_by-same (λ j. weighted chunk c j * less_one chunk c j) (λ j. word joint c ^ (j + 1) * (word x (c * chunk + j) * minus (word x (c * chunk + j)) 1)) (λ j. same_eq _ _ (mul_assoc (word joint c ^ (j + 1)) (word x (c * chunk + j)) (less_one chunk c j))) (numbers_from 0 chunk))
      (numbers_from 0 calls)
