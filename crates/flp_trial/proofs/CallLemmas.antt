-- In the standard circuits no answer enters the inputs of a call.
use Rattle.std.proofs.Common.{ℕ, ◌+◌, ◌*◌, ◌≡◌, true, false, List, [], ◌∷◌, ◌++◌, length, map, ap, ap₂, ◌∙◌, refl}
use Rattle.flp_syntax.specs.declared.syntax.Params.{Params}
use Rattle.flp_syntax.specs.declared.syntax.Params.TheVariants.{Count, Sum, SumVec, Histogram, Multihot}
use Rattle.flp_syntax.specs.Tree.{Statement, statements, check, out, add, items, call, one, arguments, meas, index_var, psum_kind, mul_kind, poly_kind}
use Rattle.flp_syntax.specs.Scope.{inside, turns}
use Rattle.flp_meaning.specs.Meaning.{Call, Run, map_run, in_turn, total, Reading, Results, no_results, join_results, one_check, all_results, meaning, statements_of}
use Rattle.flp_meaning.specs.Circuit.{calls_of, direct, with_answers}
use Rattle.flp_circuits.specs.Bits.{bit_length, headroom}
use Rattle.flp_circuits.specs.Sizes.{meas_len_of, quotient_up}
use Rattle.flp_circuits.specs.Standard.{name_i, name_c, name_g, num, bits_sum, shifted, chunk_call, gadget_g, bit_coefs, standard_program, count_program, sum_program, chunked_program, sum_vec_statements, histogram_statements, multihot_statements}
use Rattle.flp_trial.specs.Places.{CallsStand}

-- ---- runs that make the same calls, wherever they begin

abbrev SameCalls : (A : Type 0) → Run A → Run A → Type 0
SameCalls A f g = (made : ℕ) → (f made).calls ≡ (g made).calls

-- in turn
same_cons : {A B : Type 0} (join : A → B → B) (none : B) (f g : Run A) (fs gs : List (Run A)) → SameCalls A f g → SameCalls B (in_turn join none fs) (in_turn join none gs)
    → SameCalls B (in_turn join none (f ∷ fs)) (in_turn join none (g ∷ gs))
same_cons join none f g fs gs first rest made =
    ap₂ (λ (before behind : List Call). before ++ behind) (first made)
    (rest (made + length (f made).calls) ∙ ap (λ (calls : List Call). (in_turn join none gs (made + length calls)).calls) (first made))

-- the turns of a loop
same_turns : {A B : Type 0} (join : A → B → B) (none : B) (f g : ℕ → Run A) (list : List ℕ) → ((turn : ℕ) → SameCalls A (f turn) (g turn))
    → SameCalls B (in_turn join none (map f list)) (in_turn join none (map g list))
same_turns join none f g [] each = λ made. refl
same_turns join none f g (turn ∷ more) each = same_cons join none (f turn) (g turn) (map f more) (map g more) (each turn) (same_turns join none f g more each)

-- ---- the circuits

count-stands : CallsStand count_program
count-stands x joint answers = refl

-- the statements of a sum: a check of each bit in turn, and what follows these
abbrev bit-run : Reading → (turn : ℕ) → Run Results
bit-run reading turn =
    all_results
    (statements_of (gadget_g (poly_kind bit_coefs)) reading (inside [] name_i turn)
    (statements (check 22 (call 23 name_g (arguments (one (meas 25 (index_var 27 name_i)) ∷ []))) ∷ [])))

abbrev behind-bits : ℕ → ℕ → Reading → List (Run Results)
behind-bits b f reading =
    statements_of (gadget_g (poly_kind bit_coefs)) reading []
    (statements
    (check 32 (add 33 (items (
    (false, num 33 f)
    ∷ (false, bits_sum 35 name_i b (index_var 48 name_i))
    ∷ (true, bits_sum 52 name_i b (shifted 65 b name_i)) ∷ [])))
    ∷ out 71 (bits_sum 72 name_i b (index_var 85 name_i)) ∷ []))

sum-stands : (b f : ℕ) → CallsStand (sum_program b f)
sum-stands b f x joint answers =
    let w : Reading = with_answers x joint 1 answers in
    let v : Reading = direct (sum_program b f) x joint in
    same_cons join_results no_results (all_results (map (bit-run w) (turns 0 (2 * b)))) (all_results (map (bit-run v) (turns 0 (2 * b)))) (behind-bits b f w) (behind-bits b f v)
    (same_turns join_results no_results (bit-run w) (bit-run v) (turns 0 (2 * b)) (λ turn made. refl)) (λ made. refl) 0

-- a chunk in turn, and what follows the check of all
abbrev chunk-run : (chunk : ℕ) → Reading → (turn : ℕ) → Run ℕ
chunk-run chunk reading turn = meaning (gadget_g (psum_kind chunk mul_kind)) reading (inside [] name_c turn) (chunk_call 21 chunk)

abbrev chunks-run : (words chunk : ℕ) → Reading → Run Results
chunks-run words chunk reading = map_run one_check (total (map (chunk-run chunk reading) (turns 0 (quotient_up words chunk))))

abbrev behind-chunks : (chunk : ℕ) → List Statement → Reading → List (Run Results)
behind-chunks chunk more reading = statements_of (gadget_g (psum_kind chunk mul_kind)) reading [] (statements more)

chunked-stands : (words chunk : ℕ) (more : List Statement) (x joint answers : List ℕ)
    → SameCalls Results (all_results (behind-chunks chunk more (with_answers x joint 1 answers))) (all_results (behind-chunks chunk more (direct (chunked_program words chunk more) x joint)))
    → calls_of (chunked_program words chunk more) (with_answers x joint 1 answers) ≡ calls_of (chunked_program words chunk more) (direct (chunked_program words chunk more) x joint)
chunked-stands words chunk more x joint answers rest =
    let w : Reading = with_answers x joint 1 answers in
    let v : Reading = direct (chunked_program words chunk more) x joint in
    same_cons join_results no_results (chunks-run words chunk w) (chunks-run words chunk v) (behind-chunks chunk more w) (behind-chunks chunk more v)
    (same_turns (λ (a b : ℕ). a + b) 0 (chunk-run chunk w) (chunk-run chunk v) (turns 0 (quotient_up words chunk)) (λ turn made. refl)) rest 0

pub standard_calls : (params : Params) → CallsStand (standard_program params)
standard_calls Count = count-stands
standard_calls (Sum max) = sum-stands (bit_length max) (headroom max)
standard_calls (SumVec length bits chunk) = λ x joint answers. chunked-stands (meas_len_of (SumVec length bits chunk)) chunk (sum_vec_statements length bits) x joint answers (λ made. refl)
standard_calls (Histogram length chunk) = λ x joint answers. chunked-stands (meas_len_of (Histogram length chunk)) chunk (histogram_statements length) x joint answers (λ made. refl)
standard_calls (Multihot length weight chunk) =
    λ x joint answers. chunked-stands (meas_len_of (Multihot length weight chunk)) chunk (multihot_statements length (bit_length weight) (headroom weight)) x joint answers (λ made. refl)
