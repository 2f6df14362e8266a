-- Checks, combined one after another.
use Rattle.std.proofs.Common.{ℕ, suc, ◌≡◌, ◌+◌, ◌*◌, ◌%◌, ◌<◌, ◌≤◌, true, List, [], ◌∷◌, ◌++◌, length, take, drop, Some, ap, ap₂, sym, ◌∙◌, arith, add-one}
use Rattle.std.specs.Prelude.{slice_index, nat_lt, if◌then◌else◌}
use Rattle.std.specs.List.{slice_get}
use Rattle.std.proofs.lemmas.Bool.{lt-ltb}
use Rattle.std.proofs.lemmas.List.{get_or-drop, length-take-le, take_all}
use Rattle.std.proofs.lemmas.Option.{slice_get_within, get_or_from_slice_get}
use Rattle.std.proofs.Math.Seq.{take-suc}
use Rattle.flp_field.specs.Word.{modulus}
use Rattle.flp_field.proofs.Congruence.{same_add, same_mod}
use Rattle.flp_syntax.specs.Tree.{Program}
use Rattle.flp_meaning.specs.Gadgets.{check_count}
use Rattle.flp_meaning.specs.Lengths.{check_words}
use Rattle.flp_meaning.specs.Verifier.{combination, check_of}

combined-push : (checks : List ℕ) (value : ℕ) (query : List ℕ)
    → combination (checks ++ value ∷ []) query ≡ combination checks query + slice_index query (length checks) * value
combined-push [] value query = omega arith
combined-push (first ∷ checks) value query =
    let rest : combination (checks ++ value ∷ []) (drop 1 query) ≡ combination checks (drop 1 query) + slice_index (drop 1 query) (length checks) * value =
    combined-push checks value (drop 1 query) in
    let at : slice_index (drop 1 query) (length checks) ≡ slice_index query (suc (length checks)) =
    get_or-drop 1 query (length checks) 0 ∙ (let e : 1 + length checks ≡ suc (length checks) = omega arith in ap (λ k. slice_index query k) e) in
    ap (λ n. slice_index query 0 * first + n) (rest ∙ ap (λ n. combination checks (drop 1 query) + n * value) at)
    ∙ omega arith

take-found : (xs : List ℕ) (i v : ℕ) → slice_get xs i ≡ Some v → take (i + 1) xs ≡ take i xs ++ v ∷ []
take-found xs i v found =
    let there : i < length xs = slice_get_within xs i v found in
    ap (λ k. take k xs) (add-one i)
    ∙ take-suc xs i 0 there
    ∙ ap (λ w. take i xs ++ w ∷ []) (get_or_from_slice_get xs i v 0 found)

-- one more check, times its word
pub combined-more : (checks query : List ℕ) (i sum word value : ℕ) → sum ≡ combination (take i checks) query % modulus
    → word ≡ slice_index query i → slice_get checks i ≡ Some value
    → (sum + word * value % modulus) % modulus ≡ combination (take (i + 1) checks) query % modulus
combined-more checks query i sum word value before own found =
    let there : i < length checks = slice_get_within checks i value found in
    let size : length (take i checks) ≡ i = length-take-le i checks (omega arith) in
    let front : ℕ = combination (take i checks) query in
    ap₂ (λ (s w : ℕ). (s + w * value % modulus) % modulus) before (own ∙ ap (λ k. slice_index query k) (sym size))
    ∙ same_add (front % modulus) front (slice_index query (length (take i checks)) * value % modulus) (slice_index query (length (take i checks)) * value)
    (same_mod front) (same_mod (slice_index query (length (take i checks)) * value))
    ∙ ap (λ (n : ℕ). n % modulus) (sym (combined-push (take i checks) value query))
    ∙ ap (λ l. combination l query % modulus) (sym (take-found checks i value found))

-- all checks, where there are several
pub combined-all : (body : Program) (checks query : List ℕ) (i sum : ℕ) → 1 < check_count body → length checks ≡ check_count body → check_count body ≤ i
    → sum ≡ combination (take i checks) query % modulus → sum ≡ check_of body checks query
combined-all body checks query i sum several size all before =
    let test : nat_lt 1 (check_count body) ≡ true = lt-ltb 1 (check_count body) several in
    before
    ∙ ap (λ l. combination l query % modulus) (take_all i checks (omega arith))
    ∙ sym (ap (λ b. if b then combination checks query % modulus else slice_index checks 0) test)

-- then each has its word
pub words-several : (body : Program) → 1 < check_count body → check_words body ≡ check_count body
words-several body several =
    let test : nat_lt 1 (check_count body) ≡ true = lt-ltb 1 (check_count body) several in
    ap (λ b. if b then check_count body else 0) test
