-- What a plan asks of working room: as many answers as the calls of all gadgets together, and enough words for each gadget.
use Rattle.std.proofs.Common.{ℕ, zero, suc, ◌≡◌, ◌+◌, ◌<◌, ◌≤◌, cond, max, List, [], ◌∷◌, length, map, get_or, refl, ap, ap₂, sym, subst, ◌∙◌, arith, eqb, ⊎_elim}
use Rattle.std.specs.List.{All, range_with_len, filter, sum_by}
use Rattle.std.proofs.lemmas.Bool.{cases_lt, eq-eqb, ne_eqb}
use Rattle.std.proofs.lemmas.List.Elements.{All-map, All-head, All-tail}
use Rattle.std.proofs.lemmas.List.FromFn.{length-range_with_len, get_or-range_with_len, length-map-range_with_len, get_or-map-range_with_len}
use Rattle.std.proofs.lemmas.List.Sums.{sum_by-cons}
use Rattle.std.proofs.lemmas.Grind.{get_or_default_zero}
use Rattle.flp_gadget.specs.KindTree.{KindTree}
use Rattle.flp_gadget.specs.KindTree as tree
use Rattle.flp_syntax.specs.Tree.{Program}
use Rattle.flp_meaning.specs.Gadgets.{gadgets_of, times, gadgets_called, call_count, call_gadget, check_count}
use Rattle.flp_plan.specs.Limits.{CircuitIsWithin}
use Rattle.flp_plan.specs.declared.sizes.GadgetSize.{GadgetSize}
use Rattle.flp_plan.specs.declared.lengths.Lengths.{Lengths}
use Rattle.flp_plan.specs.Counted.{counted_lengths}
use Rattle.flp_plan.specs.declared.sizes.Sizes.{Sizes}
use Rattle.flp_plan.specs.View.{Compiled}
use Rattle.flp_plan.specs.Sizes.{gadget_size, sizes_of, calls_in, AreEnough, AskAlike}

-- a sum over a mapped list
pub sum-map : {X : Type 0} (g : X → ℕ) (f : ℕ → X) (xs : List ℕ) → sum_by g (map f xs) ≡ sum_by (λ x. g (f x)) xs
sum-map g f [] = refl
sum-map g f (x ∷ xs) = sum_by-cons g (f x) (map f xs) ∙ ap (λ n. g (f x) + n) (sum-map g f xs) ∙ sym (sum_by-cons (λ y. g (f y)) x xs)

-- ---- each of some numbers is one of those from a on

sum-none : (a n : ℕ) → sum_by (λ g. times g []) (range_with_len a n) ≡ 0
sum-none a zero = refl
sum-none a (suc n) =
    let rest : sum_by (λ g. times g []) (range_with_len (a + 1) n) ≡ 0 = sum-none (a + 1) n in
    sum_by-cons (λ g. times g []) a (range_with_len (a + 1) n) ∙ ap (λ k. 0 + k) rest

times-same : (g first : ℕ) (more : List ℕ) → first ≡ g → times g (first ∷ more) ≡ suc (times g more)
times-same g first more same = ap (λ b. length (cond b (first ∷ filter (λ other. eqb other g) more) (filter (λ other. eqb other g) more))) (eq-eqb first g same)

times-other : (g first : ℕ) (more : List ℕ) → (first ≡ g → ⊥) → times g (first ∷ more) ≡ times g more
times-other g first more other = ap (λ b. length (cond b (first ∷ filter (λ other. eqb other g) more) (filter (λ other. eqb other g) more))) (ne_eqb first g other)

-- a number below them adds nothing, one among them adds one
sum-below : (first : ℕ) (more : List ℕ) (a n : ℕ) → first < a
    → sum_by (λ g. times g (first ∷ more)) (range_with_len a n) ≡ sum_by (λ g. times g more) (range_with_len a n)
sum-below first more a zero low = refl
sum-below first more a (suc n) low =
    sum_by-cons (λ g. times g (first ∷ more)) a (range_with_len (a + 1) n)
    ∙ ap₂ (λ (x y : ℕ). x + y) (times-other a first more (λ e. omega arith)) (sum-below first more (a + 1) n (omega arith))
    ∙ sym (sum_by-cons (λ g. times g more) a (range_with_len (a + 1) n))

sum-one : (first : ℕ) (more : List ℕ) (a n : ℕ) → a ≤ first → first < a + n
    → sum_by (λ g. times g (first ∷ more)) (range_with_len a n) ≡ suc (sum_by (λ g. times g more) (range_with_len a n))
sum-one first more a zero from below = absurd (omega arith)
sum-one first more a (suc n) from below =
    let rest : List ℕ = range_with_len (a + 1) n in
    let whole : sum_by (λ g. times g more) (range_with_len a (suc n)) ≡ times a more + sum_by (λ g. times g more) rest = sum_by-cons (λ g. times g more) a rest in
    sum_by-cons (λ g. times g (first ∷ more)) a rest
    ∙ ⊎_elim
    (λ (later : a < first).
    ap₂ (λ (x y : ℕ). x + y) (times-other a first more (λ e. omega arith)) (sum-one first more (a + 1) n (omega arith) (omega arith)) ∙ omega arith)
    (λ (here : first ≤ a).
    ap₂ (λ (x y : ℕ). x + y) (times-same a first more (omega arith)) (sum-below first more (a + 1) n (omega arith)) ∙ omega arith)
    (cases_lt a first)

sum-all : (called : List ℕ) (n : ℕ) → All (λ g. g < n) called → sum_by (λ g. times g called) (range_with_len 0 n) ≡ length called
sum-all [] n all = sum-none 0 n
sum-all (first ∷ more) n all =
    let low : first < n = All-head (λ g. g < n) first more all in
    sum-one first more 0 n (omega arith) (omega arith) ∙ ap suc (sum-all more n (All-tail (λ g. g < n) first more all))

pub calls-total : (body : Program) → CircuitIsWithin body
    → calls_in (map (gadget_size body) (gadgets_of body)) ≡ call_count body
calls-total body limits =
    sum-map (λ (gadget : GadgetSize). gadget.calls) (gadget_size body) (gadgets_of body)
    ∙ sum-all (gadgets_called body) (length body.gadgets)
    (λ k d low.
    let known : call_gadget body k < length body.gadgets = (limits.calls k low).gadget in
    subst (λ g. g < length body.gadgets) (sym (get_or_default_zero (gadgets_called body) k d low)) known)

-- ---- words that are enough for each gadget

pub enough-each : (plan : Compiled) (words : GadgetSize → ℕ) (most : ℕ)
    → ((g : ℕ) → g < length plan.circuit.gadgets → words (gadget_size plan.circuit g) ≤ most)
    → AreEnough words (sizes_of plan).gadgets most
enough-each plan words most enough =
    All-map (λ (gadget : GadgetSize). words gadget ≤ most) (gadget_size plan.circuit) (gadgets_of plan.circuit)
    (λ k d low.
    let size : length (gadgets_of plan.circuit) ≡ length plan.circuit.gadgets = length-range_with_len 0 (length plan.circuit.gadgets) in
    let below : k < length plan.circuit.gadgets = omega arith in
    let own : get_or (gadgets_of plan.circuit) k d ≡ k = get_or-range_with_len 0 (length plan.circuit.gadgets) k d below ∙ omega arith in
    subst (λ g. words (gadget_size plan.circuit g) ≤ most) (sym own) (enough k below))

pub enough-at : (plan : Compiled) (words : GadgetSize → ℕ) (sizes : Sizes) (most g : ℕ) → sizes ≡ sizes_of plan
    → AreEnough words sizes.gadgets most → g < length plan.circuit.gadgets → words (gadget_size plan.circuit g) ≤ most
enough-at plan words sizes most g same all below =
    let made : List GadgetSize = (sizes_of plan).gadgets in
    let those : AreEnough words made most = subst (λ (s : Sizes). AreEnough words s.gadgets most) same all in
    let d : GadgetSize = gadget_size plan.circuit 0 in
    let count : length made ≡ length plan.circuit.gadgets = length-map-range_with_len (gadget_size plan.circuit) 0 (length plan.circuit.gadgets) in
    let own : get_or made g d ≡ gadget_size plan.circuit g = get_or-map-range_with_len (gadget_size plan.circuit) 0 (length plan.circuit.gadgets) g g d below (omega arith) in
    subst (λ (gadget : GadgetSize). words gadget ≤ most) own (those g d (omega arith))

-- ---- the most so far, and one more

pub most_enough : (words : ℕ → ℕ) (k most new : ℕ) → ((g : ℕ) → g < k → words g ≤ most) → new ≡ max most (words k)
    → (g : ℕ) → g < k + 1 → words g ≤ new
most_enough words k most new enough next g below =
    ⊎_elim
    (λ (before : g < k). omega (arith, enough g before))
    (λ (last : k ≤ g). let here : g ≡ k = omega arith in let same : words g ≡ words k = ap words here in omega arith)
    (cases_lt g k)

pub most_own : (words : ℕ → ℕ) (k most new : ℕ) → (k ≡ 0 → most ≡ 0) → (0 < k → (g : ℕ) × (g < k) × (most ≡ words g))
    → new ≡ max most (words k) → (g : ℕ) × (g < k + 1) × (new ≡ words g)
most_own words k most new none own next =
    ⊎_elim
    (λ (some : 0 < k).
    ⊎_elim
    (λ (less : most < words k). (k, omega arith, omega arith))
    (λ (more : words k ≤ most). let held = own some in (held.0, omega (arith, held.1), omega (arith, held.2)))
    (cases_lt most (words k)))
    (λ (first : k ≤ 0). let zero_most : most ≡ 0 = none (omega arith) in (k, omega arith, omega arith))
    (cases_lt 0 k)

-- ---- plans that answer the same

-- two functions that agree on a range give the same list there
pub map-alike : {X : Type 0} (f g : ℕ → X) (a n : ℕ) → ((k : ℕ) → a ≤ k → k < a + n → f k ≡ g k)
    → map f (range_with_len a n) ≡ map g (range_with_len a n)
map-alike f g a zero same = refl
map-alike f g a (suc n) same =
    ap₂ (λ x xs. x ∷ xs) (same a (omega arith) (omega arith)) (map-alike f g (a + 1) n (λ k low high. same k (omega arith) (omega arith)))

-- the size of a gadget, by its kind and its calls
size-of : KindTree → ℕ → GadgetSize
size-of kind calls = record { arity = tree.kind_arity kind; degree = tree.kind_degree kind; calls = calls }

pub ask_alike : AskAlike
unfolding size-of
ask_alike one other alike =
    let each : (k : ℕ) → 0 ≤ k → k < 0 + length one.circuit.gadgets → gadget_size one.circuit k ≡ gadget_size other.circuit k =
    (λ k low high.
    let inside : k < length one.circuit.gadgets = omega arith in
    ap₂ size-of (alike.kinds k inside) (alike.calls k inside)) in
    let same : map (gadget_size one.circuit) (range_with_len 0 (length one.circuit.gadgets)) ≡ map (gadget_size other.circuit) (range_with_len 0 (length one.circuit.gadgets)) =
    map-alike (gadget_size one.circuit) (gadget_size other.circuit) 0 (length one.circuit.gadgets) each in
    let gadgets : map (gadget_size one.circuit) (gadgets_of one.circuit) ≡ map (gadget_size other.circuit) (gadgets_of other.circuit) =
    same ∙ ap (λ n. map (gadget_size other.circuit) (range_with_len 0 n)) alike.gadgets in
    ap₂ (λ (lengths : Lengths) (checks : ℕ). record { lengths = lengths; checks = checks; publics = length one.steps; gadgets = map (gadget_size one.circuit) (gadgets_of one.circuit) }) alike.lengths alike.checks
    ∙ ap₂ (λ (publics : ℕ) (gadgets : List GadgetSize). record { lengths = counted_lengths other.circuit; checks = check_count other.circuit; publics = publics; gadgets = gadgets }) alike.publics gadgets
