-- `check` finds no fault in the standard circuits.
use Rattle.std.proofs.Common.{ℕ, zero, suc, ◌+◌, ◌-◌, ◌*◌, ◌<◌, ◌≤◌, ◌≡◌, Bool, true, false, cond, ◌&&◌, List, [], ◌∷◌, ◌++◌, Some, Ok, ap, ap₂, ◌∙◌, refl, arith}
use Rattle.std.specs.Option.{option_map}
use Rattle.std.proofs.Math.Nat.{min-eq_left, mul-le-mul, mul-le-mul_right}
use Rattle.std.proofs.lemmas.Bool.{le-leb}
use Rattle.flp_syntax.specs.declared.syntax.Params.{Params}
use Rattle.flp_syntax.specs.declared.syntax.Params.TheVariants.{Count, Sum, SumVec, Histogram, Multihot}
use Rattle.flp_syntax.specs.declared.fault.LangFault.{LangFault}
use Rattle.flp_syntax.specs.declared.fault.LangFault.TheVariants.{Limit}
use Rattle.flp_syntax.specs.declared.fault.Counted.{Counted}
use Rattle.flp_syntax.specs.declared.fault.Counted.TheVariants as counted
use Rattle.flp_syntax.specs.Tree.{Kind, Program, Statement, statements, psum_kind, mul_kind, poly_kind, check, out, each, call, add, items, one, arguments, meas, index_var}
use Rattle.flp_syntax.specs.Scope.{inside, declared_arity, declared_degree}
use Rattle.flp_check.specs.Limits.{first, outside, named_count, gadget_faults, declared_faults, uncalled_faults, closing_faults}
use Rattle.flp_check.specs.Flaws.{text_flaws, first_flaw}
use Rattle.flp_check.specs.Events.{body_events, stmt_events, stmts_events, tree_events, call_events}
use Rattle.flp_check.specs.Counts.{Counts, walk, go_on}
use Rattle.flp_check.specs.Verdict.{unless, flaw_fault, no_counts, totals_of, closing_verdict, verdict}
use Rattle.flp_circuits.specs.Bits.{bit_length, headroom}
use Rattle.flp_circuits.specs.Sizes.{Fits, quotient_up}
use Rattle.flp_circuits.specs.Standard.{name_i, name_j, name_g, num, idx, bits_sum, words_sum, shifted, in_row, range_check, gadget_g, bit_coefs, each_word_out, each_number_out, one_check, weight_check, sum_program, chunked_program, sum_vec_statements, histogram_statements, multihot_statements, standard_program}
use Rattle.flp_circuits.specs.Laws as laws
use Rattle.flp_circuits.proofs.BitLemmas.{bit_length-below}
use Rattle.flp_circuits.proofs.Fitting.{fitting, bit_length-some, quotient-some, quotient-few}
use Rattle.flp_circuits.proofs.Meets.{Tally, tally, added, times, nodes, counts_at, HasRoom, Meets, tally-same, meets_as, meets_none, meets_append, meets_visit, meets_call, meets_node}
use Rattle.flp_circuits.proofs.Unrolled.{meets_var, meets_shifted, meets_in_row, meets_meas, meets_bits, meets_words, meets_check_stmt, meets_out_stmt, meets_each, meets_range}

-- ---- from the parts of the verdict to the whole

outside-none : (which : Counted) (low high count : ℕ) → low ≤ count → count ≤ high → outside which low high count ≡ []
outside-none which low high count h k =
    ap₂ (λ (a b : Bool). cond (a && b) [] (Limit which count ∷ [])) (le-leb low count h) (le-leb count high k)

named-small : (count : ℕ) → count ≤ 1024 → named_count count ≡ count
named-small count h = min-eq_left {n = count} {m = 18446744073709551615} (omega arith)

-- a body with one gadget within the limits
declared-none : (words calls : ℕ) (kind : Kind) (stmts : List Statement) → 1 ≤ words → words ≤ 65536 → calls ≤ 65536 → 1 ≤ declared_arity kind → declared_arity kind ≤ 1024 → 1 ≤ declared_degree kind → declared_degree kind ≤ 8 → declared_faults (record { meas = words; joint = calls; gadgets = gadget_g kind; stmts = statements stmts }) ≡ []
declared-none words calls kind stmts some few joint_few one_input inputs one_degree degree =
    let arity : outside counted.Arity 1 1024 (named_count (declared_arity kind)) ≡ [] = ap (outside counted.Arity 1 1024) (named-small (declared_arity kind) inputs) ∙ outside-none counted.Arity 1 1024 (declared_arity kind) one_input inputs in
    let power : outside counted.Degree 1 8 (named_count (declared_degree kind)) ≡ [] = ap (outside counted.Degree 1 8) (named-small (declared_degree kind) (omega arith)) ∙ outside-none counted.Degree 1 8 (declared_degree kind) one_degree degree in
    let gadget : gadget_faults (record { at = 6; name = name_g; kind = kind }) ++ [] ≡ [] = ap₂ (λ (a b : List LangFault). (a ++ b) ++ []) arity power in
    ap₂ (λ (a b : List LangFault). a ++ (b ++ ([] ++ (gadget_faults (record { at = 6; name = name_g; kind = kind }) ++ [])))) (outside-none counted.Meas 1 65536 words some few) (outside-none counted.Joint 0 65536 calls (omega arith) joint_few) ∙ gadget

uncalled-none : (calls : ℕ) → 1 ≤ calls → uncalled_faults 0 (calls ∷ []) ≡ []
uncalled-none zero h = absurd (omega arith)
uncalled-none (suc calls) h = refl

closed-ok : (t : Tally) → HasRoom t → 1 ≤ t.calls → 1 ≤ t.checks → 1 ≤ t.outs → closing_verdict (counts_at t) ≡ Ok (record { calls = t.calls ∷ []; checks = t.checks; outs = t.outs })
closed-ok t room called checked listed =
    let ends : closing_faults (t.calls ∷ []) t.checks t.outs ≡ [] =
    ap (λ (list : List LangFault). list ++ (outside counted.Checks 1 65536 t.checks ++ outside counted.Outs 1 65536 t.outs)) (uncalled-none t.calls called)
    ∙ ap₂ (λ (a b : List LangFault). a ++ b) (outside-none counted.Checks 1 65536 t.checks checked room.checks) (outside-none counted.Outs 1 65536 t.outs listed room.outs) in
    ap (λ (list : List LangFault). unless (first list) (Ok (totals_of (counts_at t)))) ends

passes : (body : Program) (t : Tally) → declared_faults body ≡ [] → text_flaws body ≡ [] → no_counts body ≡ counts_at (nodes 0) → Meets (body_events body) t → HasRoom t → 1 ≤ t.calls → 1 ≤ t.checks → 1 ≤ t.outs → verdict body ≡ Ok (record { calls = t.calls ∷ []; checks = t.checks; outs = t.outs })
passes body t declared flawless start met room called checked listed =
    let from_start : added (nodes 0) t ≡ t = tally-same (added (nodes 0) t) t (omega arith) (omega arith) (omega arith) (omega arith) in
    let room_there : HasRoom (added (nodes 0) t) = record { visits = omega (arith, room.visits); calls = omega (arith, room.calls); checks = omega (arith, room.checks); outs = omega (arith, room.outs) } in
    let walked : walk (no_counts body) (body_events body) ≡ Ok (counts_at t) =
    ap (λ (c : Counts). walk c (body_events body)) start ∙ met.at (nodes 0) room_there ∙ ap (λ (s : Tally). Ok (counts_at s)) from_start in
    ap (λ list. unless (first list) (unless (option_map flaw_fault (first_flaw (text_flaws body))) (go_on (walk (no_counts body) (body_events body)) closing_verdict))) declared
    ∙ ap (λ list. unless (option_map flaw_fault (first_flaw list)) (go_on (walk (no_counts body) (body_events body)) closing_verdict)) flawless
    ∙ ap (λ r. go_on r closing_verdict) walked ∙ closed-ok t room called checked listed

-- ---- sums

each_bit_met : (b f i : ℕ) → i < 2 * b → b ≤ 63 → Meets (stmt_events (sum_program b f) (inside [] name_i i) (check 22 (call 23 name_g (arguments (one (meas 25 (index_var 27 name_i)) ∷ []))))) (tally 4 1 1 0)
each_bit_met b f i below few =
    let body = sum_program b f in
    let there = inside [] name_i i in
    let word : Meets (tree_events body there (meas 25 (index_var 27 name_i))) (nodes (1 + (1 + 0))) = meets_meas body there 25 (index_var 27 name_i) 1 (meets_var there 27 name_i (omega arith)) below in
    let args : Meets (tree_events body there (meas 25 (index_var 27 name_i)) ++ []) (added (nodes 2) (nodes 0)) = meets_append (tree_events body there (meas 25 (index_var 27 name_i))) [] (nodes 2) (nodes 0) word meets_none in
    let called : Meets (tree_events body there (call 23 name_g (arguments (one (meas 25 (index_var 27 name_i)) ∷ [])))) (tally 3 1 0 0) =
    meets_node ((tree_events body there (meas 25 (index_var 27 name_i)) ++ []) ++ call_events body.gadgets 23 (Some 0) 1) (tally 2 1 0 0)
    (meets_append (tree_events body there (meas 25 (index_var 27 name_i)) ++ []) (call_events body.gadgets 23 (Some 0) 1) (added (nodes 2) (nodes 0)) (tally 0 1 0 0) args meets_call) in
    meets_check_stmt body there 22 (call 23 name_g (arguments (one (meas 25 (index_var 27 name_i)) ∷ []))) (tally 3 1 0 0) called

sum_tally : ℕ → Tally
sum_tally b = tally (16 + 28 * b) (2 * b) (2 * b + 1) 1

sum_met : (b f : ℕ) → b ≤ 63 → Meets (body_events (sum_program b f)) (sum_tally b)
unfolding sum_tally
sum_met b f few =
    let body = sum_program b f in
    let bits = each 15 name_i (idx 18 0) (idx 20 (2 * b)) (statements (check 22 (call 23 name_g (arguments (one (meas 25 (index_var 27 name_i)) ∷ []))) ∷ [])) in
    let low = bits_sum 35 name_i b (index_var 48 name_i) in
    let high = bits_sum 52 name_i b (shifted 65 b name_i) in
    let balance = add 33 (items ((false, num 33 f) ∷ (false, low) ∷ (true, high) ∷ [])) in
    let number = bits_sum 72 name_i b (index_var 85 name_i) in
    let bits_met : Meets (stmt_events body [] bits) (added (nodes 1) (added (nodes (1 + 1)) (times (2 * b) (added (tally 4 1 1 0) (nodes 0))))) =
    meets_each body 15 18 20 (2 * b) name_i (check 22 (call 23 name_g (arguments (one (meas 25 (index_var 27 name_i)) ∷ [])))) (tally 4 1 1 0) (omega arith) (λ i below. each_bit_met b f i below few) in
    let low_met : Meets (tree_events body [] low) (nodes (3 + b * (5 + 1))) =
    meets_bits body [] 35 b name_i (index_var 48 name_i) 1 (omega arith) (λ i. refl) (λ i below. meets_var (inside [] name_i i) 48 name_i (omega arith)) (λ i below. omega arith) in
    let high_met : Meets (tree_events body [] high) (nodes (3 + b * (5 + 3))) =
    meets_bits body [] 52 b name_i (shifted 65 b name_i) 3 (omega arith) (λ i. refl) (λ i below. meets_shifted (inside [] name_i i) 65 b name_i (omega arith)) (λ i below. omega arith) in
    let balance_met : Meets (tree_events body [] balance) (added (nodes 1) (added (nodes 1) (added (nodes (3 + b * (5 + 1))) (added (nodes (3 + b * (5 + 3))) (nodes 0))))) =
    meets_node (tree_events body [] (num 33 f) ++ (tree_events body [] low ++ (tree_events body [] high ++ []))) (added (nodes 1) (added (nodes (3 + b * (5 + 1))) (added (nodes (3 + b * (5 + 3))) (nodes 0))))
    (meets_append (tree_events body [] (num 33 f)) (tree_events body [] low ++ (tree_events body [] high ++ [])) (nodes 1) (added (nodes (3 + b * (5 + 1))) (added (nodes (3 + b * (5 + 3))) (nodes 0))) meets_visit
    (meets_append (tree_events body [] low) (tree_events body [] high ++ []) (nodes (3 + b * (5 + 1))) (added (nodes (3 + b * (5 + 3))) (nodes 0)) low_met
    (meets_append (tree_events body [] high) [] (nodes (3 + b * (5 + 3))) (nodes 0) high_met meets_none))) in
    let number_met : Meets (tree_events body [] number) (nodes (3 + b * (5 + 1))) =
    meets_bits body [] 72 b name_i (index_var 85 name_i) 1 (omega arith) (λ i. refl) (λ i below. meets_var (inside [] name_i i) 85 name_i (omega arith)) (λ i below. omega arith) in
    let check_met = meets_check_stmt body [] 32 balance _ balance_met in
    let out_met = meets_out_stmt body [] 71 number _ number_met in
    meets_as (body_events body) _ (sum_tally b)
    (meets_append (stmt_events body [] bits) (stmt_events body [] (check 32 balance) ++ (stmt_events body [] (out 71 number) ++ [])) _ _ bits_met
    (meets_append (stmt_events body [] (check 32 balance)) (stmt_events body [] (out 71 number) ++ []) _ _ check_met
    (meets_append (stmt_events body [] (out 71 number)) [] _ (nodes 0) out_met meets_none)))
    (tally-same _ _ (omega arith) (omega arith) (omega arith) (omega arith))

-- ---- circuits that take their words by chunks

abbrev chunk_tally : ℕ → ℕ → Tally → Tally
chunk_tally calls chunk rest = added (added (nodes 1) (added (tally 0 0 1 0) (tally (3 + calls * (4 + chunk * 21)) calls 0 0))) rest

chunked_met : (words chunk : ℕ) (more : List Statement) (t : Tally) → quotient_up words chunk ≤ 4095 → chunk ≤ 512 → Meets (stmts_events (chunked_program words chunk more) [] (statements more)) t → Meets (body_events (chunked_program words chunk more)) (chunk_tally (quotient_up words chunk) chunk t)
chunked_met words chunk more t few short h =
    let body = chunked_program words chunk more in
    let calls = quotient_up words chunk in
    meets_append (stmt_events body [] (check 13 (range_check 14 calls chunk))) (stmts_events body [] (statements more)) (added (nodes 1) (added (tally 0 0 1 0) (tally (3 + calls * (4 + chunk * 21)) calls 0 0))) t
    (meets_check_stmt body [] 13 (range_check 14 calls chunk) (tally (3 + calls * (4 + chunk * 21)) calls 0 0) (meets_range words chunk more calls few short (omega arith))) h

word_outs_met : (words chunk : ℕ) (more : List Statement) (at length : ℕ) → length ≤ words → length ≤ 65536 → Meets (stmts_events (chunked_program words chunk more) [] (statements (each_word_out at length ∷ []))) (tally (3 + length * 3) 0 0 length)
word_outs_met words chunk more at length within few =
    let body = chunked_program words chunk more in
    let word = meas (at + 8) (index_var (at + 10) name_i) in
    meets_as (stmt_events body [] (each_word_out at length) ++ []) (added (added (nodes 1) (added (nodes (1 + 1)) (times length (added (added (nodes 1) (added (tally 0 0 0 1) (nodes (1 + (1 + 0))))) (nodes 0))))) (nodes 0)) (tally (3 + length * 3) 0 0 length)
    (meets_append (stmt_events body [] (each_word_out at length)) [] (added (nodes 1) (added (nodes (1 + 1)) (times length (added (added (nodes 1) (added (tally 0 0 0 1) (nodes (1 + (1 + 0))))) (nodes 0))))) (nodes 0)
    (meets_each body at (at + 3) (at + 5) length name_i (out (at + 7) word) (added (nodes 1) (added (tally 0 0 0 1) (nodes (1 + (1 + 0))))) (omega arith) (λ i below.
    meets_out_stmt body (inside [] name_i i) (at + 7) word (nodes (1 + (1 + 0))) (meets_meas body (inside [] name_i i) (at + 8) (index_var (at + 10) name_i) 1 (meets_var (inside [] name_i i) (at + 10) name_i (omega arith)) (omega arith))))
    meets_none)
    (tally-same _ _ (omega arith) (omega arith) (omega arith) (omega arith))

-- a place in a row of a grid
grid : (length bits i j : ℕ) → i < length → j < bits → i * bits + j < length * bits
grid length bits i j h k = let rows : suc i * bits ≤ length * bits = mul-le-mul_right bits h in omega arith

sum_vec_met : (length bits chunk : ℕ) → length * bits ≤ 65536 → length ≤ 65536 → bits ≤ 63 → Meets (stmts_events (chunked_program (length * bits) chunk (sum_vec_statements length bits)) [] (statements (sum_vec_statements length bits))) (tally (3 + length * (4 + bits * 10)) 0 0 length)
sum_vec_met length bits chunk few long wide =
    let body = chunked_program (length * bits) chunk (sum_vec_statements length bits) in
    let number = bits_sum 74 name_j bits (in_row 87 name_i bits name_j) in
    meets_as (stmt_events body [] (each_number_out length bits) ++ []) (added (added (nodes 1) (added (nodes (1 + 1)) (times length (added (added (nodes 1) (added (tally 0 0 0 1) (nodes (3 + bits * (5 + 5))))) (nodes 0))))) (nodes 0)) (tally (3 + length * (4 + bits * 10)) 0 0 length)
    (meets_append (stmt_events body [] (each_number_out length bits)) [] (added (nodes 1) (added (nodes (1 + 1)) (times length (added (added (nodes 1) (added (tally 0 0 0 1) (nodes (3 + bits * (5 + 5))))) (nodes 0))))) (nodes 0)
    (meets_each body 66 69 71 length name_i (out 73 number) (added (nodes 1) (added (tally 0 0 0 1) (nodes (3 + bits * (5 + 5))))) (omega arith) (λ i below.
    meets_out_stmt body (inside [] name_i i) 73 number (nodes (3 + bits * (5 + 5)))
    (meets_bits body (inside [] name_i i) 74 bits name_j (in_row 87 name_i bits name_j) 5 (omega arith) (λ j. refl)
    (λ j least. meets_in_row (inside (inside [] name_i i) name_j j) 87 bits name_i name_j (omega arith) (omega arith) (omega (arith, grid length bits i j below least)))
    (λ j least. omega (arith, grid length bits i j below least)))))
    meets_none)
    (tally-same _ _ (omega arith) (omega arith) (omega arith) (omega arith))

histogram_met : (length chunk : ℕ) → length ≤ 65536 → Meets (stmts_events (chunked_program length chunk (histogram_statements length)) [] (statements (histogram_statements length))) (tally (9 + length * 5) 0 1 length)
histogram_met length chunk long =
    let body = chunked_program length chunk (histogram_statements length) in
    let total = words_sum 67 name_i length in
    let difference = add 67 (items ((false, total) ∷ (true, num 80 1) ∷ [])) in
    let difference_met : Meets (tree_events body [] difference) (added (nodes 1) (added (nodes (3 + length * 2)) (added (nodes 1) (nodes 0)))) =
    meets_node (tree_events body [] total ++ (tree_events body [] (num 80 1) ++ [])) (added (nodes (3 + length * 2)) (added (nodes 1) (nodes 0)))
    (meets_append (tree_events body [] total) (tree_events body [] (num 80 1) ++ []) (nodes (3 + length * 2)) (added (nodes 1) (nodes 0)) (meets_words body 67 length (omega arith) (omega arith))
    (meets_append (tree_events body [] (num 80 1)) [] (nodes 1) (nodes 0) meets_visit meets_none)) in
    meets_as (stmts_events body [] (statements (histogram_statements length))) _ (tally (9 + length * 5) 0 1 length)
    (meets_append (stmt_events body [] (one_check length)) (stmts_events body [] (statements (each_word_out 82 length ∷ []))) _ (tally (3 + length * 3) 0 0 length)
    (meets_check_stmt body [] 66 difference _ difference_met) (word_outs_met length chunk (histogram_statements length) 82 length (omega arith) long))
    (tally-same _ _ (omega arith) (omega arith) (omega arith) (omega arith))

multihot_met : (length b f chunk : ℕ) → length + b ≤ 65536 → Meets (stmts_events (chunked_program (length + b) chunk (multihot_statements length b f)) [] (statements (multihot_statements length b f))) (tally (12 + length * 5 + b * 8) 0 1 length)
multihot_met length b f chunk long =
    let body = chunked_program (length + b) chunk (multihot_statements length b f) in
    let total = words_sum 69 name_i length in
    let high = bits_sum 82 name_i b (shifted 95 length name_i) in
    let balance = add 67 (items ((false, num 67 f) ∷ (false, total) ∷ (true, high) ∷ [])) in
    let high_met : Meets (tree_events body [] high) (nodes (3 + b * (5 + 3))) =
    meets_bits body [] 82 b name_i (shifted 95 length name_i) 3 (omega arith) (λ i. refl) (λ i below. meets_shifted (inside [] name_i i) 95 length name_i (omega arith)) (λ i below. omega arith) in
    let balance_met : Meets (tree_events body [] balance) (added (nodes 1) (added (nodes 1) (added (nodes (3 + length * 2)) (added (nodes (3 + b * (5 + 3))) (nodes 0))))) =
    meets_node (tree_events body [] (num 67 f) ++ (tree_events body [] total ++ (tree_events body [] high ++ []))) (added (nodes 1) (added (nodes (3 + length * 2)) (added (nodes (3 + b * (5 + 3))) (nodes 0))))
    (meets_append (tree_events body [] (num 67 f)) (tree_events body [] total ++ (tree_events body [] high ++ [])) (nodes 1) (added (nodes (3 + length * 2)) (added (nodes (3 + b * (5 + 3))) (nodes 0))) meets_visit
    (meets_append (tree_events body [] total) (tree_events body [] high ++ []) (nodes (3 + length * 2)) (added (nodes (3 + b * (5 + 3))) (nodes 0)) (meets_words body 69 length (omega arith) (omega arith))
    (meets_append (tree_events body [] high) [] (nodes (3 + b * (5 + 3))) (nodes 0) high_met meets_none))) in
    meets_as (stmts_events body [] (statements (multihot_statements length b f))) _ (tally (12 + length * 5 + b * 8) 0 1 length)
    (meets_append (stmt_events body [] (weight_check length b f)) (stmts_events body [] (statements (each_word_out 101 length ∷ []))) _ (tally (3 + length * 3) 0 0 length)
    (meets_check_stmt body [] 66 balance _ balance_met) (word_outs_met (length + b) chunk (multihot_statements length b f) 101 length (omega arith) (omega arith)))
    (tally-same _ _ (omega arith) (omega arith) (omega arith) (omega arith))

-- ---- the verdicts

pub circuits_pass : (params : Params) → Fits params → verdict (standard_program params) ≡ Ok (laws.circuit_totals params)
unfolding sum_tally
circuits_pass Count h = refl
circuits_pass (Sum max) h =
    let fits = fitting (Sum max) h in
    let b = bit_length max in
    let f = headroom max in
    let few : b ≤ 63 = bit_length-below max 63 (omega (arith, fits.1.0)) in
    let some : 1 ≤ b = bit_length-some max fits.0.0 in
    passes (sum_program b f) (sum_tally b) (declared-none (2 * b) 0 (poly_kind bit_coefs) [] (omega arith) (omega arith) (omega arith) (omega arith) (omega arith) (omega arith) (omega arith)) refl refl (sum_met b f few)
    (record { visits = omega arith; calls = omega arith; checks = omega arith; outs = omega arith }) (omega arith) (omega arith) (omega arith)
circuits_pass (SumVec length bits chunk) h =
    let fits = fitting (SumVec length bits chunk) h in
    let words = length * bits in
    let calls = quotient_up words chunk in
    let long : length ≤ 65536 = fits.1.0 in
    let wide : bits ≤ 63 = fits.1.1.0 in
    let short : chunk ≤ 512 = fits.1.1.1.0 in
    let few : words ≤ 65536 = fits.1.1.1.1.0 in
    let rare : calls ≤ 4095 = fits.1.1.1.1.1.0 in
    let some_chunk : 0 < chunk = fits.0.1.1.0 in
    let some_length : 0 < length = fits.0.0 in
    let some_word : 1 ≤ words = mul-le-mul {n₁ = 1} {m₁ = 1} {n₂ = length} {m₂ = bits} some_length fits.0.1.0 in
    let some_call : 1 ≤ calls = quotient-some words chunk some_word some_chunk in
    let area : calls * chunk ≤ words + (chunk - 1) = quotient-few words chunk some_chunk in
    passes (chunked_program words chunk (sum_vec_statements length bits)) (chunk_tally calls chunk (tally (3 + length * (4 + bits * 10)) 0 0 length))
    (declared-none words calls (psum_kind chunk mul_kind) [] some_word few (omega arith) (omega arith) (omega arith) (omega arith) (omega arith)) refl refl
    (chunked_met words chunk (sum_vec_statements length bits) _ rare short (sum_vec_met length bits chunk few long wide))
    (record { visits = omega arith; calls = omega arith; checks = omega arith; outs = omega arith }) (omega arith) (omega arith) (omega arith)
    ∙ ap₂ (λ (k o : ℕ). Ok (record { calls = k ∷ []; checks = 1; outs = o })) (omega arith) (omega arith)
circuits_pass (Histogram length chunk) h =
    let fits = fitting (Histogram length chunk) h in
    let calls = quotient_up length chunk in
    let long : length ≤ 65536 = fits.1.0 in
    let short : chunk ≤ 512 = fits.1.1.0 in
    let rare : calls ≤ 4095 = fits.1.1.1.1.0 in
    let some_length : 0 < length = fits.0.0 in
    let some_chunk : 0 < chunk = fits.0.1.0 in
    let some_call : 1 ≤ calls = quotient-some length chunk some_length some_chunk in
    let area : calls * chunk ≤ length + (chunk - 1) = quotient-few length chunk some_chunk in
    passes (chunked_program length chunk (histogram_statements length)) (chunk_tally calls chunk (tally (9 + length * 5) 0 1 length))
    (declared-none length calls (psum_kind chunk mul_kind) [] (omega arith) long (omega arith) (omega arith) (omega arith) (omega arith) (omega arith)) refl refl
    (chunked_met length chunk (histogram_statements length) _ rare short (histogram_met length chunk long))
    (record { visits = omega arith; calls = omega arith; checks = omega arith; outs = omega arith }) (omega arith) (omega arith) (omega arith)
    ∙ ap₂ (λ (k o : ℕ). Ok (record { calls = k ∷ []; checks = 2; outs = o })) (omega arith) (omega arith)
circuits_pass (Multihot length weight chunk) h =
    let fits = fitting (Multihot length weight chunk) h in
    let b = bit_length weight in
    let f = headroom weight in
    let words = length + b in
    let calls = quotient_up words chunk in
    let short : chunk ≤ 512 = fits.1.1.1.0 in
    let few : words ≤ 65536 = fits.1.1.1.1.0 in
    let rare : calls ≤ 4095 = fits.1.1.1.1.1.0 in
    let some_length : 0 < length = fits.0.0 in
    let some_chunk : 0 < chunk = fits.0.1.1.0 in
    let some_call : 1 ≤ calls = quotient-some words chunk (omega arith) some_chunk in
    let area : calls * chunk ≤ words + (chunk - 1) = quotient-few words chunk some_chunk in
    passes (chunked_program words chunk (multihot_statements length b f)) (chunk_tally calls chunk (tally (12 + length * 5 + b * 8) 0 1 length))
    (declared-none words calls (psum_kind chunk mul_kind) [] (omega arith) few (omega arith) (omega arith) (omega arith) (omega arith) (omega arith)) refl refl
    (chunked_met words chunk (multihot_statements length b f) _ rare short (multihot_met length b f chunk few))
    (record { visits = omega arith; calls = omega arith; checks = omega arith; outs = omega arith }) (omega arith) (omega arith) (omega arith)
    ∙ ap₂ (λ (k o : ℕ). Ok (record { calls = k ∷ []; checks = 2; outs = o })) (omega arith) (omega arith)
