-- The text of steps by which a kind is made, step by step.
use Rattle.std.proofs.Common.{ℕ, ◌≡◌, ◌+◌, ◌*◌, ◌<◌, ◌≤◌, List, [], ◌∷◌, ◌++◌, length, get_or, drop, Option, Some, None, arith, ap, refl, sym, subst, ◌∙◌, mul-le-mul}
use Rattle.std.specs.Option.{option_map, IsSomeAnd}
use Rattle.std.proofs.lemmas.List.{at_drop_more}
use Rattle.flp_gadget.specs.declared.kind_step.KindStep.{KindStep}
use Rattle.flp_gadget.specs.declared.kind_step.KindStep.TheVariants.{Psum as PsumStep}
use Rattle.flp_gadget.specs.KindTree.{KindTree, Psum, kind_arity, tree_over, HasParts, IsKind}
use Rattle.flp_gadget.specs.KindText.{tree_of}
use Rattle.flp_gadget.specs.KindProofs.{some_input}
use Rattle.flp_gadget.specs.FlatKind.{product_of}
use Rattle.flp_gadget.proofs.FlatLemmas.{arity-tree_over}

-- what the steps make that follow sums with these counts
abbrev pub under : List ℕ → Option KindTree → Option KindTree
under counts rest = option_map (tree_over counts) rest

pub tree_over-push : (counts : List ℕ) (count : ℕ) (leaf : KindTree)
    → tree_over (counts ++ count ∷ []) leaf ≡ tree_over counts (Psum leaf count)
tree_over-push [] count leaf = refl
tree_over-push (n ∷ counts) count leaf = ap (λ t. Psum t n) (tree_over-push counts count leaf)

pub product-push : (counts : List ℕ) (count : ℕ) → product_of (counts ++ count ∷ []) ≡ product_of counts * count
product-push [] count = omega arith
product-push (n ∷ counts) count = ap (λ k. n * k) (product-push counts count) ∙ (omega arith)

pub under-push : (counts : List ℕ) (count : ℕ) (rest : Option KindTree)
    → under counts (option_map (λ sub. Psum sub count) rest) ≡ under (counts ++ count ∷ []) rest
under-push counts count None = refl
under-push counts count (Some sub) = ap (λ t. Some t) (sym (tree_over-push counts count sub))

-- one sum more
pub made-push : (text : List KindStep) (i : ℕ) (step : KindStep) (count : ℕ) (counts : List ℕ) → i < length text
    → step ≡ get_or text i step → step ≡ PsumStep count → tree_of text ≡ under counts (tree_of (drop i text))
    → tree_of text ≡ under (counts ++ count ∷ []) (tree_of (drop (i + 1) text))
made-push text i step count counts inside read same made =
    made
    ∙ ap (under counts)
    (at_drop_more tree_of text i step inside ∙ ap (λ s. tree_of (s ∷ drop (i + 1) text)) (sym read ∙ same))
    ∙ under-push counts count (tree_of (drop (i + 1) text))

-- ---- the product of the counts is small

parts-leaf : (counts : List ℕ) (leaf : KindTree) → HasParts (tree_over counts leaf) → HasParts leaf
parts-leaf [] leaf parts = parts
parts-leaf (count ∷ counts) leaf parts = parts-leaf counts leaf parts.1

few_groups : (counts : List ℕ) (leaf : KindTree) → IsKind (tree_over counts leaf) → product_of counts ≤ 1024
few_groups counts leaf kind =
    let some : 1 ≤ kind_arity leaf = some_input leaf (parts-leaf counts leaf kind.parts) in
    let more : product_of counts * 1 ≤ product_of counts * kind_arity leaf = mul-le-mul (omega arith) some in
    let all : kind_arity (tree_over counts leaf) ≡ product_of counts * kind_arity leaf = arity-tree_over counts leaf in
    let few : kind_arity (tree_over counts leaf) ≤ 1024 = kind.few_inputs in
    omega arith

few_under : (counts : List ℕ) (rest : Option KindTree) → IsSomeAnd (under counts rest) IsKind → product_of counts ≤ 1024
few_under counts None none = absurd none
few_under counts (Some leaf) kind = few_groups counts leaf kind

-- the product of the counts so far, with the next one
pub product_small : (counts : List ℕ) (groups count : ℕ) (rest : Option KindTree) (whole : Option KindTree)
    → IsSomeAnd whole IsKind → whole ≡ under (counts ++ count ∷ []) rest → groups ≡ product_of counts
    → groups * count ≤ 1024
product_small counts groups count rest whole kind same product =
    let P : Option KindTree → Type 0 = λ o. IsSomeAnd o IsKind in
    let few : product_of (counts ++ count ∷ []) ≤ 1024 = few_under (counts ++ count ∷ []) rest (subst P same kind) in
    let all : product_of (counts ++ count ∷ []) ≡ product_of counts * count = product-push counts count in
    let here : groups * count ≡ product_of counts * count = ap (λ n. n * count) product in
    omega arith
