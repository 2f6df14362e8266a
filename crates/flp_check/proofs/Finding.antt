-- The first flaw of texts that stand behind one another.
use Rattle.std.proofs.Common.{◌≡◌, List, [], ◌∷◌, ◌++◌, Option, None, Some, refl, sym, ap, ◌∙◌, arith}
use Rattle.std.proofs.lemmas.Bool.Decides.{nat_tests}
use Rattle.flp_check.specs.declared.flaw.Flaw.{Flaw}
use Rattle.flp_check.specs.Flaws.{earlier_of, first_flaw, Finds}

pub earlier_of-none : (found : Option Flaw) → earlier_of found None ≡ found
earlier_of-none None = refl
earlier_of-none (Some flaw) = refl

pub earlier_of-earlier_of : (a b c : Option Flaw) → earlier_of (earlier_of a b) c ≡ earlier_of a (earlier_of b c)
earlier_of-earlier_of None b c = refl
earlier_of-earlier_of (Some x) None c = refl
earlier_of-earlier_of (Some x) (Some y) None = earlier_of-none (earlier_of (Some x) (Some y))
earlier_of-earlier_of (Some x) (Some y) (Some z) = grind (arith, nat_tests)

pub first_flaw-append : (xs ys : List Flaw) → first_flaw (xs ++ ys) ≡ earlier_of (first_flaw xs) (first_flaw ys)
first_flaw-append [] ys = refl
first_flaw-append (x ∷ xs) ys = ap (earlier_of (Some x)) (first_flaw-append xs ys) ∙ sym (earlier_of-earlier_of (Some x) (first_flaw xs) (first_flaw ys))

pub finds_none : (a : Option Flaw) → Finds a [] a
finds_none a = record { is = sym (earlier_of-none a) }

pub finds_more : {a b c : Option Flaw} {xs ys : List Flaw} → Finds a xs b → Finds b ys c → Finds a (xs ++ ys) c
finds_more {a} {b} {c} {xs} {ys} front back = record { is = back.is ∙ ap (λ v. earlier_of v (first_flaw ys)) front.is ∙ earlier_of-earlier_of a (first_flaw xs) (first_flaw ys) ∙ sym (ap (earlier_of a) (first_flaw-append xs ys)) }
