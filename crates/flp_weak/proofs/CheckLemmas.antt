-- Checks that fail: where no gadget lies, a word that combines a failing check is accepted at one value, and a check that stands alone at none.
use Rattle.std.proofs.Common.{ℕ, zero, suc, ◌≡◌, ◌≢◌, ◌+◌, ◌*◌, ◌%◌, ◌<◌, ◌≤◌, Bool, true, false, cond, List, [], ◌∷◌, length, map, set, ap, sym, ◌∙◌, arith, ⊎_elim, ltb}
use Rattle.std.specs.Prelude.{slice_index}
use Rattle.std.proofs.lemmas.Bool.{cases_eq, ltb-false}
use Rattle.std.proofs.lemmas.List.Elements.{All-append, All-cons, All-nil}
use Rattle.flp_field.specs.Word.{modulus, IsWord, AreWords}
use Rattle.flp_field.proofs.Congruence.{same_cancel, mod_word, word_mod}
use Rattle.flp_field.proofs.ProductLemmas.{cancelled}
use Rattle.flp_syntax.specs.Tree.{Statement, check, out, each, Statements, no_stmts, stmt_on, Declaration, Program}
use Rattle.flp_syntax.specs.Sorts.{is_shared}
use Rattle.flp_syntax.specs.Scope.{Scope, inside, index_value, turns}
use Rattle.flp_meaning.specs.Meaning.{Run, Results, Reading, in_units, meaning, all_results, statement_of, statements_of}
use Rattle.flp_meaning.specs.Circuit.{checks_of, direct}
use Rattle.flp_meaning.specs.Gadgets.{check_count}
use Rattle.flp_meaning.specs.Lengths.{check_words}
use Rattle.flp_meaning.specs.Proof.{with_proof}
use Rattle.flp_meaning.specs.Verifier.{combination, check_of}
use Rattle.flp_weak.specs.AtMost.{AcceptsWith, Bounded}
use Rattle.flp_count.proofs.CountLemmas.{at_most_one, at_most_none}
use Rattle.flp_weak.proofs.LieLemmas.{accepted-holds}

-- ---- checks are words

HasWords : Run Results → Type 0
HasWords run = (made : ℕ) → AreWords (run made).value.checks

HaveWords : List (Run Results) → Type 0
HaveWords [] = Unit {0}
HaveWords (run ∷ more) = HasWords run × HaveWords more

performed-words : (runs : List (Run Results)) → HaveWords runs → HasWords (all_results runs)
unfolding HasWords HaveWords
performed-words [] h made = All-nil IsWord
performed-words (run ∷ more) h made =
    All-append IsWord (run made).value.checks (all_results more (made + length (run made).calls)).value.checks (h.0 made)
    (performed-words more h.1 (made + length (run made).calls))

turns-words : (run : ℕ → Run Results) (values : List ℕ) → ((turn : ℕ) → HasWords (run turn)) → HaveWords (map run values)
unfolding HaveWords
turns-words run [] h = tt
turns-words run (value ∷ more) h = (h value, turns-words run more h)

mutual
  unfolding HasWords HaveWords

  statement-words : (gadgets : List Declaration) (reading : Reading) (scope : Scope) (stmt : Statement) → HasWords (statement_of gadgets reading scope stmt)
  statement-words gadgets reading scope (check at expr) = λ made.
      All-cons IsWord ((in_units reading (is_shared expr) (meaning gadgets reading scope expr) made).value % modulus) []
      (mod_word (in_units reading (is_shared expr) (meaning gadgets reading scope expr) made).value) (All-nil IsWord)
  statement-words gadgets reading scope (out at expr) = λ made. All-nil IsWord
  statement-words gadgets reading scope (each at name from to inner) =
      performed-words
      (map (λ turn. all_results (statements_of gadgets reading (inside scope name turn) inner)) (turns (index_value scope from) (index_value scope to)))
      (turns-words
      (λ turn. all_results (statements_of gadgets reading (inside scope name turn) inner))
      (turns (index_value scope from) (index_value scope to))
      (λ turn.
      performed-words (statements_of gadgets reading (inside scope name turn) inner)
      (statements-words gadgets reading (inside scope name turn) inner)))

  statements-words : (gadgets : List Declaration) (reading : Reading) (scope : Scope) (stmts : Statements) → HaveWords (statements_of gadgets reading scope stmts)
  statements-words gadgets reading scope no_stmts = tt
  statements-words gadgets reading scope (stmt_on stmt more) =
      (statement-words gadgets reading scope stmt, statements-words gadgets reading scope more)

checks-words : (body : Program) (reading : Reading) → AreWords (checks_of body reading)
unfolding HasWords
checks-words body reading =
    performed-words (statements_of body.gadgets reading [] body.stmts) (statements-words body.gadgets reading [] body.stmts) 0

-- ---- the check of a query

-- the word of a check enters the combined checks by its product with the check
combined-set : (checks query : List ℕ) (k word : ℕ) → k < length query
    → combination checks (set query k word) ≡ word * slice_index checks k + combination checks (set query k 0)
combined-set [] query k word low = omega arith
combined-set (value ∷ more) [] k word low = absurd (omega arith)
combined-set (value ∷ more) (first ∷ query) zero word low = omega arith
combined-set (value ∷ more) (first ∷ query) (suc k) word low =
    let rest : combination more (set query k word) ≡ word * slice_index more k + combination more (set query k 0) =
    combined-set more query k word (omega arith) in
    omega arith

check-several : (body : Program) (checks query : List ℕ) → ltb 1 (check_count body) ≡ true → check_of body checks query ≡ combination checks query % modulus
check-several body checks query several = ap (λ b. cond b (combination checks query % modulus) (slice_index checks 0)) several

check-alone : (body : Program) (checks query : List ℕ) → ltb 1 (check_count body) ≡ false → check_of body checks query ≡ slice_index checks 0
check-alone body checks query alone = ap (λ b. cond b (combination checks query % modulus) (slice_index checks 0)) alone

pub words-several : (body : Program) → ltb 1 (check_count body) ≡ true → check_words body ≡ check_count body
words-several body several = ap (λ b. cond b (check_count body) 0) several

pub words-alone : (body : Program) → ltb 1 (check_count body) ≡ false → check_words body ≡ 0
words-alone body alone = ap (λ b. cond b (check_count body) 0) alone

-- a factor beside a word that is not 0, by which a sum is 0, is the only one
only_factor : (a b z rest : ℕ) → IsWord a → IsWord b → IsWord z → z ≢ 0 → (a * z + rest) % modulus ≡ 0 → (b * z + rest) % modulus ≡ 0 → a ≡ b
only_factor a b z rest a_word b_word z_word other first second =
    ⊎_elim
    (λ (same : a ≡ b). same)
    (λ (differ : a ≢ b).
    absurd
    (other
    (sym (word_mod z z_word)
    ∙ cancelled a b z a_word b_word differ (same_cancel (a * z) (b * z) rest (first ∙ sym second)))))
    (cases_eq a b)

-- ---- a check that fails

-- an accepted query, where the proof answers as the calls do, has a check of 0
accepted-zero : (body : Program) (x joint proof query : List ℕ) (number word : ℕ)
    → checks_of body (with_proof body x joint proof 1) ≡ checks_of body (direct body x joint)
    → AcceptsWith body x joint proof query number word → check_of body (checks_of body (direct body x joint)) (set query number word) ≡ 0
accepted-zero body x joint proof query number word same accepts =
    ap (λ (l : List ℕ). check_of body l (set query number word)) (sym same)
    ∙ (accepted-holds body x joint proof (set query number word) accepts.accepted).check

zero-product : (body : Program) (checks query : List ℕ) (number word : ℕ) → ltb 1 (check_count body) ≡ true → number < length query
    → check_of body checks (set query number word) ≡ 0
    → (word * slice_index checks number + combination checks (set query number 0)) % modulus ≡ 0
zero-product body checks query number word several low none =
    ap (λ (n : ℕ). n % modulus) (sym (combined-set checks query number word low))
    ∙ sym (check-several body checks (set query number word) several)
    ∙ none

pub check-bounded_by : (body : Program) (x joint proof : List ℕ) (number : ℕ) (several : Bool) → ltb 1 (check_count body) ≡ several
    → checks_of body (with_proof body x joint proof 1) ≡ checks_of body (direct body x joint)
    → number < check_count body → slice_index (checks_of body (direct body x joint)) number ≢ 0
    → length (checks_of body (direct body x joint)) ≡ check_count body
    → Bounded body x joint proof (cond several number 0) (cond several 1 0)
check-bounded_by body x joint proof number true several same inside fails count query size =
    let checks : List ℕ = checks_of body (direct body x joint) in
    let words : check_words body ≡ check_count body = words-several body several in
    let low : number < length query = omega arith in
    at_most_one (AcceptsWith body x joint proof query number)
    (λ a b first second.
    only_factor a b (slice_index checks number) (combination checks (set query number 0)) first.is_word second.is_word
    (checks-words body (direct body x joint) number 0 (omega arith)) fails
    (zero-product body checks query number a several low (accepted-zero body x joint proof query number a same first))
    (zero-product body checks query number b several low (accepted-zero body x joint proof query number b same second)))
check-bounded_by body x joint proof number false alone same inside fails count query size =
    let checks : List ℕ = checks_of body (direct body x joint) in
    let few : check_count body ≤ 1 = ltb-false 1 (check_count body) alone in
    let only : 0 ≡ number = omega arith in
    at_most_none (AcceptsWith body x joint proof query 0)
    (λ word accepts.
    fails
    (ap (λ k. slice_index checks k) (sym only)
    ∙ sym (check-alone body checks (set query 0 word) alone)
    ∙ accepted-zero body x joint proof query 0 word same accepts))
