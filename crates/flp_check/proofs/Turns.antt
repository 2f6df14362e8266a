-- The turns of loops, their scopes, and the numbers of arguments.
use Rattle.std.proofs.Common.{◌≡◌, ℕ, zero, suc, ◌+◌, ◌<◌, ◌≤◌, ◌^◌, eqb, List, [], ◌∷◌, ◌++◌, length, map, take, get_or, refl, ap, ◌∙◌, arith}
use Rattle.std.specs.Prelude.{sum_by}
use Rattle.std.proofs.lemmas.List.{map-append}
use Rattle.std.proofs.lemmas.List.Sums.{sum_by-cons}
use Rattle.std.proofs.lemmas.Bool.Decides.{nat_tests}
use Rattle.flp_syntax.specs.Scope.{inside, turns, declared_arity}
use Rattle.flp_syntax.proofs.Turns.{turns_none, turns_next}
use Rattle.flp_syntax.specs.View.{kind_of, declaration_of}
use Rattle.flp_syntax.specs.declared.syntax.Decl.{Decl}
use Rattle.flp_syntax.specs.declared.scope.Bound.{Bound}
use Rattle.flp_check.specs.Limits.{named_count}
use Rattle.flp_syntax.specs.Scope.{arity_at}
use Rattle.flp_syntax.specs.View.{scope_of}

pub scope_inside : (xs : List Bound) (x : Bound) → scope_of (xs ++ x ∷ []) ≡ inside (scope_of xs) x.name.now x.value
scope_inside xs x = map-append (λ (bound : Bound). record { name = bound.name.now; value = bound.value }) xs (x ∷ [])

pub take_front : (xs : List Bound) (x : Bound) → take (length xs) (xs ++ x ∷ []) ≡ xs
take_front [] x = refl
take_front (y ∷ xs) x = ap (λ ys. y ∷ ys) (take_front xs x)

pub count_next : (f : ℕ → ℕ) (i to : ℕ) → i < to → sum_by f (turns i to) ≡ f i + sum_by f (turns (i + 1) to)
count_next f i to h = ap (sum_by f) (turns_next i to h) ∙ sum_by-cons f i (turns (i + 1) to)

pub count_end : (f : ℕ → ℕ) (i to : ℕ) → to ≤ i → sum_by f (turns i to) ≡ 0
count_end f i to h = ap (sum_by f) (turns_none i to h)

pub arity_at_get : (xs : List Decl) (i : ℕ) (d : Decl) → i < length xs → arity_at (map declaration_of xs) i ≡ declared_arity (kind_of (get_or xs i d).kind)
arity_at_get [] i d h = absurd (omega arith)
arity_at_get (x ∷ xs) zero d h = refl
arity_at_get (x ∷ xs) (suc i) d h = arity_at_get xs i d (omega arith)

pub named_is : (a n : ℕ) → n < 2 ^ 32 → eqb (named_count a) n ≡ eqb a n
named_is a n h = grind (arith, nat_tests)
