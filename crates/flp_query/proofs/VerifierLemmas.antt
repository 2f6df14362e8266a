-- Verifiers: the part of a gadget, and parts one after another.
use Rattle.std.proofs.Common.{ℕ, suc, ◌≡◌, ◌+◌, ◌-◌, ◌<◌, ◌≤◌, List, [], ◌∷◌, ◌++◌, length, map, take, drop, set, refl, ap, ap₂, sym, ◌∙◌, arith}
use borrow.Rule.Slice.PartMut.{put_mid}
use Rattle.std.specs.List.{range_with_len, flat_map, sum_by}
use Rattle.std.proofs.lemmas.Slice.{take-put_mid}
use Rattle.std.proofs.lemmas.List.{append-nil, length-drop, set_at, take_all}
use Rattle.flp_poly.specs.Polynomial.{value_at}
use Rattle.flp_syntax.specs.Tree.{Program}
use Rattle.flp_meaning.specs.Circuit.{calls_of, with_answers}
use Rattle.flp_meaning.specs.Gadgets.{gadgets_of, arity_of}
use Rattle.flp_meaning.specs.Lengths.{start_of, verifier_part, lengths_of}
use Rattle.flp_meaning.specs.Wires.{wires_of}
use Rattle.flp_meaning.specs.Proof.{seeds_in, polynomial_in, answers_in}
use Rattle.flp_meaning.specs.Verifier.{point_of, verifier_of}
use Rattle.flp_meaning.proofs.StartLemmas.{start-inside, flat-more}

-- the last word behind the others
set-last : (out rest : List ℕ) (n last : ℕ) → length out ≡ n → length rest ≡ 1 → set (out ++ rest) n last ≡ out ++ last ∷ []
set-last out [] n last size one = absurd (omega arith)
set-last out (x ∷ []) n last size one = set_at out x [] last n size
set-last out (x ∷ y ∷ rest) n last size one = absurd (omega arith)

pub part-is : (body : Program) (x joint proof query answers : List ℕ) (unit gadget t width last : ℕ) (out part seeds poly : List ℕ)
    → answers ≡ answers_in body proof → t ≡ point_of body query gadget → width ≡ arity_of body gadget → length part ≡ verifier_part body gadget
    → length out ≡ width → seeds ≡ seeds_in body proof gadget → poly ≡ polynomial_in body proof gadget
    → out ≡ map (λ wire. value_at wire (point_of body query gadget)) (wires_of body (calls_of body (with_answers x joint unit answers)) seeds gadget)
    → last ≡ value_at poly t
    → set (out ++ drop width part) width last ≡ verifier_of body x joint proof query unit gadget
part-is body x joint proof query answers unit gadget t width last out part seeds poly same_answers at wide long count own_seeds own_poly wires value =
    let point : ℕ = point_of body query gadget in
    let whole : List ℕ → List ℕ → List ℕ → ℕ → List ℕ = λ a s p q.
    map (λ wire. value_at wire point) (wires_of body (calls_of body (with_answers x joint unit a)) s gadget) ++ value_at p q ∷ [] in
    let rest : length (drop width part) ≡ length part - width = length-drop width part in
    set-last out (drop width part) width last count (omega arith)
    ∙ ap₂ (λ (l : List ℕ) (v : ℕ). l ++ v ∷ []) wires value
    ∙ ap₂ (λ (a s : List ℕ). whole a s poly t) same_answers own_seeds
    ∙ ap₂ (λ (p : List ℕ) (q : ℕ). whole (answers_in body proof) (seeds_in body proof gadget) p q) own_poly at

-- ---- parts one after another

-- the part of a gadget lies within all parts
pub parts-fit : (body : Program) (g start arity n : ℕ) → g < length body.gadgets → start ≡ start_of (verifier_part body) g → arity ≡ arity_of body g
    → n + 1 ≡ (lengths_of body).verifier → start + arity + 1 ≤ n
parts-fit body g start arity n inside begins inputs size =
    let fits : start_of (verifier_part body) g + verifier_part body g ≤ sum_by (verifier_part body) (range_with_len 0 (length body.gadgets)) =
    start-inside (verifier_part body) g (length body.gadgets) inside in
    omega arith

-- one part more
pub parts-more : (f : ℕ → List ℕ) (g start end k : ℕ) (parts part : List ℕ) → end ≡ start + length part → start ≤ length parts
    → take start parts ≡ flat_map f (range_with_len 0 g) → part ≡ f g
    → take end (put_mid start k parts part) ≡ flat_map f (range_with_len 0 (g + 1))
parts-more f g start end k parts part ends there before own =
    take-put_mid start k parts part end ends there
    ∙ ap₂ (λ (a b : List ℕ). a ++ b) before own
    ∙ sym (flat-more f 0 g ∙ (let here : 0 + g ≡ g = omega arith in ap (λ (k : ℕ). flat_map f (range_with_len 0 g) ++ f k) here))

-- all parts
pub parts-all : (body : Program) (f : ℕ → List ℕ) (g start : ℕ) (parts : List ℕ) → g ≡ length body.gadgets → start ≡ start_of (verifier_part body) g
    → length parts + 1 ≡ (lengths_of body).verifier → take start parts ≡ flat_map f (range_with_len 0 g) → parts ≡ flat_map f (gadgets_of body)
parts-all body f g start parts all begins size before =
    let whole : start_of (verifier_part body) g ≡ sum_by (verifier_part body) (gadgets_of body) = ap (λ n. sum_by (verifier_part body) (range_with_len 0 n)) all in
    sym (take_all start parts (omega arith)) ∙ before ∙ ap (λ n. flat_map f (range_with_len 0 n)) all

-- ---- the check in front of the parts

pub joined : (verifier parts : List ℕ) (check : ℕ) → 0 < length verifier
    → put_mid 1 (length (set verifier 0 check) - 1) (set verifier 0 check) parts ≡ check ∷ parts
joined [] parts check some = absurd (omega arith)
joined (x ∷ verifier) parts check some =
    let back : suc (length verifier) - 1 ≡ length verifier = omega arith in
    ap (λ l. check ∷ l) (ap (λ k. parts ++ drop k verifier) back ∙ ap (λ l. parts ++ l) (drop_whole verifier) ∙ append-nil parts)
  where
    drop_whole : (l : List ℕ) → drop (length l) l ≡ []
    drop_whole [] = refl
    drop_whole (y ∷ l) = drop_whole l
