-- Forms in one array of terms, when terms and a span are appended.
use Rattle.std.proofs.Common.{ℕ, ◌≡◌, ◌-◌, List, [], ◌∷◌, ◌++◌, length, map, refl, ap, ap₂, ◌∙◌, arith, length-append, take, drop}
use Rattle.std.specs.Prelude.{All}
use Rattle.std.proofs.lemmas.List.{map_push, drop-append-le, take-append-le, length-drop, drop_at, take_all}
use Rattle.std.proofs.lemmas.List.Elements.{All-head, All-tail}
use Rattle.flp_forms.specs.declared.term.Term.{Term}
use Rattle.flp_forms.specs.declared.forms.Span.{Span}
use Rattle.flp_forms.specs.Spans.{terms_in, IsWithin}

-- the terms of a span stay when others are appended
terms_in-append : (terms more : List Term) (span : Span) → IsWithin (length terms) span
    → terms_in (terms ++ more) span ≡ terms_in terms span
terms_in-append terms more span within =
    ap (λ (ts : List Term). take (span.end - span.start) ts)
    (drop-append-le span.start terms more (omega (arith, within.ordered, within.inside)))
    ∙ take-append-le (span.end - span.start) (drop span.start terms) more
    (omega (arith, length-drop span.start terms, within.ordered, within.inside))

-- and so do all forms
pub forms-append : (terms more : List Term) (spans : List Span) → All (IsWithin (length terms)) spans
    → map (terms_in (terms ++ more)) spans ≡ map (terms_in terms) spans
forms-append terms more [] within = refl
forms-append terms more (span ∷ spans) within =
    ap₂ (λ (t : List Term) (ts : List (List Term)). t ∷ ts)
    (terms_in-append terms more span (All-head (IsWithin (length terms)) span spans within))
    (forms-append terms more spans (All-tail (IsWithin (length terms)) span spans within))

-- a span round the appended terms is one form more
pub forms-push : (terms form : List Term) (spans : List Span) (span : Span) → All (IsWithin (length terms)) spans
    → span.start ≡ length terms → span.end ≡ length (terms ++ form)
    → map (terms_in (terms ++ form)) (spans ++ span ∷ []) ≡ map (terms_in terms) spans ++ form ∷ []
forms-push terms form spans span within start end =
    map_push (terms_in (terms ++ form)) spans span
    ∙ ap₂ (λ (ts : List (List Term)) (t : List Term). ts ++ t ∷ []) (forms-append terms form spans within)
    (ap (λ (ts : List Term). take (span.end - span.start) ts)
    (ap (λ (n : ℕ). drop n (terms ++ form)) start ∙ drop_at terms form (length terms) refl)
    ∙ take_all (span.end - span.start) form (omega (arith, length-append terms form)))
