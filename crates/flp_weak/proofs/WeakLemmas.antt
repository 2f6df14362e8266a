-- Which word is weak, and that it is accepted at few values.
use Rattle.std.proofs.Common.{ℕ, ◌≡◌, ◌∙◌, ◌+◌, ◌-◌, ◌*◌, ◌<◌, ◌≤◌, Bool, true, false, cond, List, length, refl, ap, ap₂, sym, subst, arith, ltb}
use Rattle.std.specs.Prelude.{Option, None, Some, IfSome, ◌↔◌}
use Rattle.std.specs.Option.{unwrap_or}
use Rattle.std.proofs.lemmas.Option.{none-some}
use Rattle.flp_syntax.specs.Tree.{Program}
use Rattle.flp_meaning.specs.Meaning.{Meant, Results}
use Rattle.flp_meaning.specs.Circuit.{IsValid, checks_of, direct, failing_check}
use Rattle.flp_meaning.specs.Gadgets.{degree_of, size_of, check_count}
use Rattle.flp_meaning.specs.Lengths.{check_words}
use Rattle.flp_meaning.specs.Proof.{with_proof}
use Rattle.flp_meaning.specs.ProofLaws.{IsBounded, IsFirst}
use Rattle.flp_meaning.proofs.FailingLemmas.{failing-inside, failing-not_zero, none_fails-valid, valid-none_fails}
use Rattle.flp_meaning.proofs.Fixed.{checks_are_fixed}
use Rattle.flp_meaning.proofs.Honest.{true_proofs_are_direct}
use Rattle.flp_meaning.proofs.PowerLemmas.{first_is_found}
use Rattle.flp_weak.specs.AtMost.{Bounded}
use Rattle.flp_weak.specs.WeakWord.{gadget_lies, lying_gadget, weak_point, weak_check, weak_from, weak_of}
use Rattle.flp_weak.specs.Laws.{IsProof, ValidHasNone, WeakIsBounded, IsLow, BoundIsLow}
use Rattle.flp_weak.specs.declared.word.Weak.{Weak}
use Rattle.flp_weak.proofs.LieLemmas.{lying-bounded, true-same}
use Rattle.flp_weak.proofs.CheckLemmas.{check-bounded_by, words-several, words-alone}

-- ---- which gadget lies

first_gadget : (body : Program) (x joint proof : List ℕ) (found : Option ℕ) → lying_gadget body x joint proof ≡ found
    → IsFirst (gadget_lies body x joint proof) 0 (length body.gadgets) found
first_gadget body x joint proof found is =
    subst (IsFirst (gadget_lies body x joint proof) 0 (length body.gadgets)) is (first_is_found (gadget_lies body x joint proof) 0 (length body.gadgets))

inside_gadget : (body : Program) (x joint proof : List ℕ) (gadget : ℕ) → lying_gadget body x joint proof ≡ Some gadget → gadget < length body.gadgets
inside_gadget body x joint proof gadget is =
    let inside : gadget < 0 + length body.gadgets = (first_gadget body x joint proof (Some gadget) is).1 in
    omega arith

pub inside_lying : (body : Program) (x joint proof : List ℕ) (lying : Option ℕ) → lying ≡ lying_gadget body x joint proof → IfSome lying (λ gadget. gadget < length body.gadgets)
inside_lying body x joint proof None is = tt
inside_lying body x joint proof (Some gadget) is = inside_gadget body x joint proof gadget (sym is)

-- ---- validity

none_from : (body : Program) (number gadget : Option ℕ) → weak_from body number gadget ≡ None → number ≡ None
none_from body None gadget is = refl
none_from body (Some number) None is = absurd (none-some (weak_check body number) (sym is))
none_from body (Some number) (Some gadget) is = absurd (none-some (weak_point body gadget) (sym is))

pub valid_has_none : (body : Program) → ValidHasNone body
valid_has_none body x joint proof = (
  λ none. none_fails-valid body x joint (none_from body (failing_check body x joint) (lying_gadget body x joint proof) none),
  λ valid. ap (λ (found : Option ℕ). weak_from body found (lying_gadget body x joint proof)) (valid-none_fails body x joint (failing_check body x joint) refl valid),
)

-- ---- the bound

same_weak : (one other : Weak) → Some one ≡ Some other → one ≡ other
same_weak one other same = ap (λ (found : Option Weak). unwrap_or found one) same

abbrev made : (word bound : ℕ) → Weak
made word bound = record { word = word; bound = bound }

weak_check-several : (body : Program) (number : ℕ) → ltb 1 (check_count body) ≡ true → made number 1 ≡ weak_check body number
weak_check-several body number several =
    sym (ap (λ b. cond b (made number 1) (made 0 0)) several)

weak_check-alone : (body : Program) (number : ℕ) → ltb 1 (check_count body) ≡ false → made 0 0 ≡ weak_check body number
weak_check-alone body number alone =
    sym (ap (λ b. cond b (made number 1) (made 0 0)) alone)

-- where no gadget lies, the answered checks are the direct ones
none_lies-direct : (body : Program) (x joint proof : List ℕ) → IsBounded body → IsProof body proof → lying_gadget body x joint proof ≡ None
    → checks_of body (with_proof body x joint proof 1) ≡ checks_of body (direct body x joint)
none_lies-direct body x joint proof bounded good none =
    ap (λ (meant : Meant Results). meant.value.checks)
    (true_proofs_are_direct body x joint proof bounded good.words
    (λ gadget inside. true-same body x joint proof gadget (first_gadget body x joint proof None none gadget (omega arith) (omega arith))))

check_case : (body : Program) (x joint proof : List ℕ) (number : ℕ) (several : Bool) → ltb 1 (check_count body) ≡ several
    → Bounded body x joint proof (cond several number 0) (cond several 1 0)
    → Bounded body x joint proof (weak_check body number).word (weak_check body number).bound
check_case body x joint proof number true several by =
    subst (λ (w : Weak). Bounded body x joint proof w.word w.bound) (weak_check-several body number several) by
check_case body x joint proof number false alone by =
    subst (λ (w : Weak). Bounded body x joint proof w.word w.bound) (weak_check-alone body number alone) by

check-bounded : (body : Program) (x joint proof : List ℕ) (number : ℕ) (several : Bool) → ltb 1 (check_count body) ≡ several → IsBounded body → IsProof body proof
    → failing_check body x joint ≡ Some number → lying_gadget body x joint proof ≡ None
    → Bounded body x joint proof (weak_check body number).word (weak_check body number).bound
check-bounded body x joint proof number several is bounded good fails none =
    let by : Bounded body x joint proof (cond several number 0) (cond several 1 0) =
    check-bounded_by body x joint proof number several is (none_lies-direct body x joint proof bounded good none) (failing-inside body x joint number fails)
    (failing-not_zero body x joint number fails) (checks_are_fixed body (direct body x joint)) in
    check_case body x joint proof number several is by

bounded_cases : (body : Program) (x joint proof : List ℕ) (weak : Weak) (number gadget : Option ℕ) → IsBounded body → IsProof body proof
    → failing_check body x joint ≡ number → lying_gadget body x joint proof ≡ gadget → weak_from body number gadget ≡ Some weak
    → Bounded body x joint proof weak.word weak.bound
bounded_cases body x joint proof weak None gadget bounded good fails lies is = absurd (none-some weak is)
bounded_cases body x joint proof weak (Some number) None bounded good fails lies is =
    subst (λ (w : Weak). Bounded body x joint proof w.word w.bound) (same_weak (weak_check body number) weak is)
    (check-bounded body x joint proof number (ltb 1 (check_count body)) refl bounded good fails lies)
bounded_cases body x joint proof weak (Some number) (Some gadget) bounded good fails lies is =
    let first = first_gadget body x joint proof (Some gadget) lies in
    subst (λ (w : Weak). Bounded body x joint proof w.word w.bound) (same_weak (weak_point body gadget) weak is)
    (lying-bounded body x joint proof gadget bounded good (inside_gadget body x joint proof gadget lies) first.2)

pub weak_is_bounded : (body : Program) → IsBounded body → WeakIsBounded body
weak_is_bounded body bounded x joint proof weak good is =
    bounded_cases body x joint proof weak (failing_check body x joint) (lying_gadget body x joint proof) bounded good refl refl is

-- of the weak word, where there is one
pub bounded-answer : (body : Program) (x joint proof : List ℕ) (answer : Option Weak) → WeakIsBounded body → IsProof body proof
    → answer ≡ weak_of body x joint proof → IfSome answer (λ (weak : Weak). Bounded body x joint proof weak.word weak.bound)
bounded-answer body x joint proof None bounded good is = tt
bounded-answer body x joint proof (Some weak) bounded good is = bounded x joint proof weak good (sym is)

-- none exactly for a valid encoding
pub none-answer : (body : Program) (x joint proof : List ℕ) (answer : Option Weak) → ValidHasNone body → answer ≡ weak_of body x joint proof → (answer ≡ None) ↔ IsValid body x joint
none-answer body x joint proof answer law is = (λ none. (law x joint proof).0 (sym is ∙ none), λ valid. is ∙ (law x joint proof).1 valid)

-- the word where no check fails, and where one does
pub weak_of-none : (body : Program) (x joint proof : List ℕ) → None ≡ failing_check body x joint → None ≡ weak_of body x joint proof
weak_of-none body x joint proof none = ap (λ (f : Option ℕ). weak_from body f (lying_gadget body x joint proof)) none

pub weak_of-some : (body : Program) (x joint proof : List ℕ) (check : ℕ) (lying : Option ℕ) (weak : Weak) → Some check ≡ failing_check body x joint → lying ≡ lying_gadget body x joint proof
    → Some weak ≡ weak_from body (Some check) lying → Some weak ≡ weak_of body x joint proof
weak_of-some body x joint proof check lying weak fails lies is = is ∙ ap₂ (λ (f g : Option ℕ). weak_from body f g) fails lies

-- ---- how low the bound is

point-low : (body : Program) (gadget : ℕ) → gadget < length body.gadgets → IsLow body (weak_point body gadget)
point-low body gadget inside = record {
  inside = omega arith;
  of_check = λ low. absurd (omega arith);
  of_gadget = λ other same.
      let own : gadget ≡ other = omega arith in
      subst (λ g. degree_of body gadget * (size_of body gadget - 1) ≤ degree_of body g * (size_of body g - 1)) own (omega arith);
}

check-low : (body : Program) (number : ℕ) (several : Bool) → ltb 1 (check_count body) ≡ several → 1 ≤ length body.gadgets → number < check_count body
    → IsLow body (weak_check body number)
check-low body number true several some inside =
    let words : check_words body ≡ check_count body = words-several body several in
    subst (IsLow body) (weak_check-several body number several)
    (record {
      inside = omega arith;
      of_check = λ low. refl;
      of_gadget = λ gadget same. absurd (omega arith);
    })
check-low body number false alone some inside =
    let words : check_words body ≡ 0 = words-alone body alone in
    subst (IsLow body) (weak_check-alone body number alone)
    (record {
      inside = omega arith;
      of_check = λ low. absurd (omega arith);
      of_gadget = λ gadget same. omega arith;
    })

low_cases : (body : Program) (x joint proof : List ℕ) (weak : Weak) (number gadget : Option ℕ) → 1 ≤ length body.gadgets
    → failing_check body x joint ≡ number → lying_gadget body x joint proof ≡ gadget → weak_from body number gadget ≡ Some weak → IsLow body weak
low_cases body x joint proof weak None gadget some fails lies is = absurd (none-some weak is)
low_cases body x joint proof weak (Some number) None some fails lies is =
    subst (IsLow body) (same_weak (weak_check body number) weak is)
    (check-low body number (ltb 1 (check_count body)) refl some (failing-inside body x joint number fails))
low_cases body x joint proof weak (Some number) (Some gadget) some fails lies is =
    subst (IsLow body) (same_weak (weak_point body gadget) weak is) (point-low body gadget (inside_gadget body x joint proof gadget lies))

pub bound_is_low : (body : Program) → IsBounded body → BoundIsLow body
bound_is_low body bounded x joint proof weak is =
    low_cases body x joint proof weak (failing_check body x joint) (lying_gadget body x joint proof) bounded.some_gadget refl refl is
