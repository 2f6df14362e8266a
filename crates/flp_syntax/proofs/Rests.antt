-- What is left of a list, from its next element on.
use Rattle.std.proofs.Common.{◌≡◌, ℕ, zero, suc, ◌+◌, ◌<◌, List, [], ◌∷◌, ◌++◌, arith, length, map, take, drop, get_or, refl, sym, ap, ◌∙◌, add-one, drop-cons}
use Rattle.std.proofs.lemmas.List.{get_or_default, take_more, map-append}
use Rattle.flp_syntax.specs.Tree.{index_items, indices, index_item_on, index_on, items, trees, arguments, statements, item_on, tree_on, arg_on, stmt_on}
use Rattle.flp_syntax.specs.View.{index_of, index_item_of, index_item_of_roll, tree_of, item_of, item_of_roll, arg_of, statement_of}
use Rattle.flp_syntax.specs.declared.syntax.Item.{Item}
use Rattle.flp_syntax.specs.declared.syntax.IdxItem.{IdxItem}
use Rattle.flp_syntax.specs.declared.syntax.Expr.{Expr}
use Rattle.flp_syntax.specs.declared.syntax.Idx.{Idx}
use Rattle.flp_syntax.specs.declared.syntax.Arg.{Arg}
use Rattle.flp_syntax.specs.declared.syntax.Stmt.{Stmt}

pub rest_next : {A B : Type 0} (view : A → B) (xs : List A) (i : ℕ) (x : A) → i < length xs → x ≡ get_or xs i x
    → map view (drop i xs) ≡ view x ∷ map view (drop (i + 1) xs)
rest_next view xs i x h e = rw (add-one, drop-cons xs i x h, ← e) refl

-- an element that is read is the one that is there
pub same_read : {A : Type 0} (xs : List A) (i : ℕ) (x y : A) → i < length xs → x ≡ get_or xs i x → y ≡ get_or xs i y → x ≡ y
same_read xs i x y h e f = e ∙ get_or_default xs i x y h ∙ sym f

-- an element that is there
pub element : {A : Type 0} (xs : List A) (i : ℕ) → i < length xs → (x : A) × (x ≡ get_or xs i x)
element [] i h = absurd (omega arith)
element (x ∷ xs) zero h = (x, refl)
element (x ∷ xs) (suc i) h = element xs i (omega arith)

pub rest_items : (xs : List Item) (i : ℕ) (x : Item) → i < length xs → x ≡ get_or xs i x
    → items (map item_of (drop i xs)) ≡ item_on x.minus (tree_of x.expr) (items (map item_of (drop (i + 1) xs)))
rest_items xs i x h e =
    ap items (rest_next item_of xs i x h e)
    ∙ ap (λ v. item_on v.0 v.1 (items (map item_of (drop (i + 1) xs)))) (item_of_roll x.minus x.expr)

pub rest_trees : (xs : List Expr) (i : ℕ) (x : Expr) → i < length xs → x ≡ get_or xs i x
    → trees (map tree_of (drop i xs)) ≡ tree_on (tree_of x) (trees (map tree_of (drop (i + 1) xs)))
rest_trees xs i x h e = ap trees (rest_next tree_of xs i x h e)

pub rest_args : (xs : List Arg) (i : ℕ) (x : Arg) → i < length xs → x ≡ get_or xs i x
    → arguments (map arg_of (drop i xs)) ≡ arg_on (arg_of x) (arguments (map arg_of (drop (i + 1) xs)))
rest_args xs i x h e = ap arguments (rest_next arg_of xs i x h e)

pub rest_statements : (xs : List Stmt) (i : ℕ) (x : Stmt) → i < length xs → x ≡ get_or xs i x
    → statements (map statement_of (drop i xs)) ≡ stmt_on (statement_of x) (statements (map statement_of (drop (i + 1) xs)))
rest_statements xs i x h e = ap statements (rest_next statement_of xs i x h e)

pub rest_indices : (xs : List Idx) (i : ℕ) (x : Idx) → i < length xs → x ≡ get_or xs i x
    → indices (map index_of (drop i xs)) ≡ index_on (index_of x) (indices (map index_of (drop (i + 1) xs)))
rest_indices xs i x h e = ap indices (rest_next index_of xs i x h e)

pub rest_index_items : (xs : List IdxItem) (i : ℕ) (x : IdxItem) → i < length xs → x ≡ get_or xs i x
    → index_items (map index_item_of (drop i xs))
    ≡ index_item_on x.minus (index_of x.idx) (index_items (map index_item_of (drop (i + 1) xs)))
rest_index_items xs i x h e =
    ap index_items (rest_next index_item_of xs i x h e)
    ∙ ap (λ v. index_item_on v.0 v.1 (index_items (map index_item_of (drop (i + 1) xs)))) (index_item_of_roll x.minus x.idx)

-- the elements so far and the next one
pub front_next : {A B : Type 0} (f : A → B) (xs : List A) (i : ℕ) (x : A) → i < length xs → x ≡ get_or xs i x → map f (take (i + 1) xs) ≡ map f (take i xs) ++ f x ∷ []
front_next f xs i x h e = ap (map f) (take_more xs i x h ∙ ap (λ v. take i xs ++ v ∷ []) (sym e)) ∙ map-append f (take i xs) (x ∷ [])
