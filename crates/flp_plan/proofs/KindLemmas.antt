-- The gadgets of a circuit within its limits are kinds. From one kind up to the gadgets of a circuit.
use Rattle.std.proofs.Common.{◌≡◌, ℕ, zero, suc, ◌-◌, ◌*◌, ◌<◌, ◌≤◌, List, [], ◌∷◌, ◌++◌, append_assoc, mul-le-mul, length, map, get_or, refl, sym, ◌∙◌, ap, arith}
use Rattle.std.proofs.lemmas.List.{get_or-map, length-map}
use Rattle.flp_gadget.specs.KindTree as tree
use Rattle.flp_gadget.specs.KindTree.{KindTree, Mul, Poly, Psum, HasParts, IsKind}
use Rattle.std.specs.Option.{option_map}
use Rattle.flp_gadget.specs.KindProofs.{some_input}
use Rattle.flp_gadget.specs.declared.kind_step.KindStep.{KindStep}
use Rattle.flp_gadget.specs.declared.kind_step.KindStep.TheVariants.{Psum as PsumStep}
use Rattle.flp_plan.specs.Kinds.{StepsFollow}
use Rattle.flp_syntax.specs.Tree.{Kind, mul_kind, poly_kind, psum_kind, Declaration}
use Rattle.flp_syntax.specs.Scope.{declared_arity, declared_degree, arity_at}
use Rattle.flp_meaning.specs.Circuit.{coefficient, kind_tree}

pub arity-kind_tree : (kind : Kind) → tree.kind_arity (kind_tree kind) ≡ declared_arity kind
arity-kind_tree mul_kind = refl
arity-kind_tree (poly_kind coefs) = refl
arity-kind_tree (psum_kind count inner) = ap (λ (n : ℕ). count * n) (arity-kind_tree inner)

pub degree-kind_tree : (kind : Kind) → tree.kind_degree (kind_tree kind) ≡ declared_degree kind
degree-kind_tree mul_kind = refl
degree-kind_tree (poly_kind coefs) = ap (λ (n : ℕ). n - 1) (length-map coefs coefficient)
degree-kind_tree (psum_kind count inner) = degree-kind_tree inner

-- a product of which something is left has two factors that are not 0
some_factors : (a b : ℕ) → 1 ≤ a * b → (1 ≤ a) × (1 ≤ b)
some_factors zero b h = let none : zero * b ≡ 0 = omega arith in absurd (omega arith)
some_factors (suc a) zero h = let none : suc a * zero ≡ 0 = omega arith in absurd (omega arith)
some_factors (suc a) (suc b) h = (omega arith, omega arith)

pub has_parts : (kind : Kind) → 1 ≤ declared_arity kind → 1 ≤ declared_degree kind → declared_degree kind ≤ 8 → HasParts (kind_tree kind)
has_parts mul_kind arity low high = tt
has_parts (poly_kind coefs) arity low high =
    let size : length (map coefficient coefs) ≡ length coefs = length-map coefs coefficient in (omega arith, omega arith)
has_parts (psum_kind count inner) arity low high =
    let both = some_factors count (declared_arity inner) arity in (both.0, has_parts inner both.1 low high)

pub kind_at : (declared : List Declaration) (gadget : ℕ) (d : Declaration) → gadget < length declared
    → get_or (map (λ (decl : Declaration). kind_tree decl.kind) declared) gadget Mul ≡ kind_tree (get_or declared gadget d).kind
kind_at declared gadget d below = get_or-map (λ (decl : Declaration). kind_tree decl.kind) declared gadget d Mul below

pub arity_at-decl : (declared : List Declaration) (gadget : ℕ) (d : Declaration) → gadget < length declared
    → arity_at declared gadget ≡ declared_arity (get_or declared gadget d).kind
arity_at-decl [] gadget d below = absurd (omega arith)
arity_at-decl (decl ∷ more) zero d below = refl
arity_at-decl (decl ∷ more) (suc gadget) d below = arity_at-decl more gadget d (omega arith)

pub arity_at-kind : (declared : List Declaration) (gadget : ℕ) → gadget < length declared
    → arity_at declared gadget ≡ tree.kind_arity (get_or (map (λ (decl : Declaration). kind_tree decl.kind) declared) gadget Mul)
arity_at-kind [] gadget below = absurd (omega arith)
arity_at-kind (decl ∷ more) gadget below =
    arity_at-decl (decl ∷ more) gadget decl below
    ∙ sym (ap tree.kind_arity (kind_at (decl ∷ more) gadget decl below) ∙ arity-kind_tree (get_or (decl ∷ more) gadget decl).kind)

-- ---- sums over groups

-- what is under a sum is a kind, and its count is small
pub kind_under : (sub : KindTree) (count : ℕ) → IsKind (Psum sub count) → (count ≤ 1024) × IsKind sub
kind_under sub count kind =
    let some : 1 ≤ tree.kind_arity sub = some_input sub kind.parts.1 in
    let least : count * 1 ≤ count * tree.kind_arity sub = mul-le-mul (omega arith) some in
    let most : 1 * tree.kind_arity sub ≤ count * tree.kind_arity sub = mul-le-mul kind.parts.0 (omega arith) in
    let few : count * tree.kind_arity sub ≤ 1024 = kind.few_inputs in
    (omega arith, record { parts = kind.parts.1; few_inputs = omega arith })

-- a sum's step and then the steps of what is under it
pub steps_under : (old pushed new : List KindStep) (sub : KindTree) (count : ℕ) → pushed ≡ old ++ PsumStep count ∷ []
    → StepsFollow pushed new sub → StepsFollow old new (Psum sub count)
steps_under old pushed new sub count push rest =
    let joined : (old ++ PsumStep count ∷ []) ++ rest.0 ≡ old ++ (PsumStep count ∷ rest.0) = simp append_assoc in (
      PsumStep count ∷ rest.0,
      rest.1 ∙ ap (λ (l : List KindStep). l ++ rest.0) push ∙ joined,
      ap (λ o. option_map (λ (under : KindTree). Psum under count) o) rest.2,
    )
