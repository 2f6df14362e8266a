-- The first flaw of a list is one of it, and none comes before it.
use Rattle.std.proofs.Common.{◌≡◌, ℕ, zero, suc, ◌<◌, ◌≤◌, Bool, true, false, cond, ltb, List, [], ◌∷◌, Option, None, Some, get_or, refl, sym, subst, arith}
use Rattle.std.specs.List.{All}
use Rattle.std.proofs.lemmas.Bool.{ltb-true, ltb-false}
use Rattle.flp_check.specs.declared.flaw.Flaw.{Flaw}
use Rattle.flp_check.specs.Flaws.{order_of, earlier_of, first_flaw, IsFirst}
use Rattle.flp_check.proofs.VerdictLemmas.{no_first_flaw}

-- of one flaw, and of one before others
alone : (x : Flaw) → IsFirst (x ∷ []) x
alone x = record {
  among = (0, (omega arith, refl));
  least = λ k d lt. first_alone x k d lt;
}
  where
    first_alone : (x : Flaw) (k : ℕ) (d : Flaw) → k < 1 → order_of x ≤ order_of (get_or (x ∷ []) k d)
    first_alone x zero d lt = omega arith
    first_alone x (suc k) d lt = absurd (omega arith)

least_on : (m x : Flaw) (xs : List Flaw) → order_of m ≤ order_of x → All (λ other. order_of m ≤ order_of other) xs → All (λ other. order_of m ≤ order_of other) (x ∷ xs)
least_on m x xs h all zero d lt = h
least_on m x xs h all (suc k) d lt = all k d (omega arith)

lower : (m y : Flaw) (xs : List Flaw) → order_of m ≤ order_of y → All (λ other. order_of y ≤ order_of other) xs → All (λ other. order_of m ≤ order_of other) xs
lower m y xs h all k d lt = omega (arith, all k d lt)

later_first : (x y : Flaw) (xs : List Flaw) → order_of y < order_of x → IsFirst xs y → IsFirst (x ∷ xs) y
later_first x y xs h first = record {
  among = (suc first.among.0, (omega (arith, first.among.1.0), first.among.1.1));
  least = least_on y x xs (omega arith) first.least;
}

now_first : (x y : Flaw) (xs : List Flaw) → order_of x ≤ order_of y → IsFirst xs y → IsFirst (x ∷ xs) x
now_first x y xs h first = record {
  among = (0, (omega arith, refl));
  least = least_on x x xs (omega arith) (lower x y xs h first.least);
}

some_same : (a b : Flaw) (o : Option Flaw) → o ≡ Some a → o ≡ Some b → a ≡ b
some_same a b o h k = cc

pick : (t : Bool) (x y m : Flaw) (xs : List Flaw) → ltb (order_of y) (order_of x) ≡ t → cond t (Some y) (Some x) ≡ Some m → IsFirst xs y → IsFirst (x ∷ xs) m
pick true x y m xs test h first = subst (IsFirst (x ∷ xs)) (some_same y m (Some y) refl h) (later_first x y xs (ltb-true (order_of y) (order_of x) test) first)
pick false x y m xs test h first = subst (IsFirst (x ∷ xs)) (some_same x m (Some x) refl h) (now_first x y xs (ltb-false (order_of y) (order_of x) test) first)

of_rest : (x : Flaw) (xs : List Flaw) (o : Option Flaw) → first_flaw xs ≡ o → ((y : Flaw) → first_flaw xs ≡ Some y → IsFirst xs y) → (m : Flaw) → earlier_of (Some x) o ≡ Some m → IsFirst (x ∷ xs) m
of_rest x xs None e rest m h = let P : List Flaw → Type 0 = λ ys. IsFirst (x ∷ ys) m in subst P (sym (no_first_flaw xs e)) (subst (IsFirst (x ∷ [])) (some_same x m (Some x) refl h) (alone x))
of_rest x xs (Some y) e rest m h = pick (ltb (order_of y) (order_of x)) x y m xs refl h (rest y e)

pub first_is_first : (xs : List Flaw) (m : Flaw) → first_flaw xs ≡ Some m → IsFirst xs m
first_is_first [] m h = cc
first_is_first (x ∷ xs) m h = of_rest x xs (first_flaw xs) refl (first_is_first xs) m h
