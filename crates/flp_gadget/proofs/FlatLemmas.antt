-- A kind is its leaf over as many groups as the product of its counts.
use Rattle.std.proofs.Common.{ℕ, ◌≡◌, ◌+◌, ◌*◌, ◌%◌, ◌<◌, List, [], ◌∷◌, length, take, arith, ap, sym, ◌∙◌, refl}
use Rattle.std.specs.List.{sum}
use Rattle.std.proofs.lemmas.List.{take_all}
use Rattle.flp_field.specs.Word.{modulus}
use Rattle.flp_field.proofs.Congruence.{mod_word, word_mod}
use Rattle.flp_gadget.specs.Formulas.{sum_over_groups}
use Rattle.flp_gadget.specs.LawProofs.{sum-more}
use Rattle.flp_gadget.specs.KindTree.{KindTree, Mul, Poly, Psum, kind_arity, kind_degree, value_of, tree_over}
use Rattle.flp_gadget.specs.FlatKind.{product_of, IsFlat}
use Rattle.flp_gadget.proofs.GroupLemmas.{sum_over_groups-nested}

-- three factors
grouped : (a b c : ℕ) → a * (b * c) ≡ a * b * c
grouped a b c = omega arith

pub arity-tree_over : (counts : List ℕ) (leaf : KindTree) → kind_arity (tree_over counts leaf) ≡ product_of counts * kind_arity leaf
arity-tree_over [] leaf = omega arith
arity-tree_over (count ∷ counts) leaf =
    ap (λ n. count * n) (arity-tree_over counts leaf) ∙ grouped count (product_of counts) (kind_arity leaf)

pub degree-tree_over : (counts : List ℕ) (leaf : KindTree) → kind_degree (tree_over counts leaf) ≡ kind_degree leaf
degree-tree_over [] leaf = refl
degree-tree_over (count ∷ counts) leaf = degree-tree_over counts leaf

-- the value is a word
pub value-word : (tree : KindTree) (xs : List ℕ) → value_of tree xs < modulus
value-word Mul xs = mod_word _
value-word (Poly coeffs) xs = mod_word _
value-word (Psum sub count) xs = mod_word _

single : (value : List ℕ → ℕ) (size : ℕ) (xs : List ℕ) → length xs ≡ size → value xs < modulus
    → value xs ≡ sum_over_groups value size 1 xs
single value size xs fits word =
    let alone : value xs + 0 ≡ value xs = omega arith in
    let none : value xs + sum [] % modulus ≡ value xs = alone in
    sym
    (sym (sum-more (value (take size xs)) [])
    ∙ ap (λ l. (value l + sum [] % modulus) % modulus) (take_all size xs (omega arith))
    ∙ ap (λ n. n % modulus) none ∙ word_mod (value xs) word)

pub value-tree_over : (counts : List ℕ) (leaf : KindTree) (xs : List ℕ) → length xs ≡ product_of counts * kind_arity leaf
    → value_of (tree_over counts leaf) xs ≡ sum_over_groups (value_of leaf) (kind_arity leaf) (product_of counts) xs
value-tree_over [] leaf xs fits =
    let one : length xs ≡ kind_arity leaf = omega arith in
    single (value_of leaf) (kind_arity leaf) xs one (value-word leaf xs)
value-tree_over (count ∷ counts) leaf xs fits =
    ap (λ size. sum_over_groups (value_of (tree_over counts leaf)) size count xs) (arity-tree_over counts leaf)
    ∙ sum_over_groups-nested (value_of leaf) (value_of (tree_over counts leaf)) (kind_arity leaf) (product_of counts)
    (λ ys size. value-tree_over counts leaf ys size) count xs
    (fits ∙ sym (grouped count (product_of counts) (kind_arity leaf)))

-- ---- what the flat form says of the tree

pub flat-arity : (counts : List ℕ) (groups : ℕ) (leaf tree : KindTree) → IsFlat counts groups leaf
    → tree_over counts leaf ≡ tree → groups * kind_arity leaf ≡ kind_arity tree
flat-arity counts groups leaf tree flat same =
    ap (λ n. n * kind_arity leaf) flat.product ∙ sym (arity-tree_over counts leaf) ∙ ap kind_arity same

pub flat-degree : (counts : List ℕ) (leaf tree : KindTree) → tree_over counts leaf ≡ tree → kind_degree leaf ≡ kind_degree tree
flat-degree counts leaf tree same = sym (degree-tree_over counts leaf) ∙ ap kind_degree same

pub flat-value : (counts : List ℕ) (groups : ℕ) (leaf tree : KindTree) (xs : List ℕ) → IsFlat counts groups leaf
    → tree_over counts leaf ≡ tree → length xs ≡ kind_arity tree
    → sum_over_groups (value_of leaf) (kind_arity leaf) groups xs ≡ value_of tree xs
flat-value counts groups leaf tree xs flat same fits =
    ap (λ n. sum_over_groups (value_of leaf) (kind_arity leaf) n xs) flat.product
    ∙ sym (value-tree_over counts leaf xs (fits ∙ ap kind_arity (sym same) ∙ arity-tree_over counts leaf))
    ∙ ap (λ t. value_of t xs) same
