-- Lists of parts that are put in front of others, one by one.
use Rattle.std.proofs.Common.{◌≡◌, Bool, List, [], ◌∷◌, ◌++◌, map, refl, sym, ap, ◌∙◌}
use Rattle.std.proofs.lemmas.List.{map-append}
use Rattle.flp_syntax.specs.Tree.{Index, IndexItems, no_index_items, index_item_on, index_items, no_indices, index_on, indices, Tree, Items, no_items, item_on, items, no_trees, tree_on, trees, Argument, no_args, arg_on, arguments, Statement, no_stmts, stmt_on, statements}

-- a front of parts, and what stands behind it
abbrev pub before : {A B : Type 0} → (A → B → B) → List A → B → B
before on [] rest = rest
before on (x ∷ xs) rest = on x (before on xs rest)

abbrev pub on_index_item : Bool × Index → IndexItems → IndexItems
on_index_item item more = index_item_on item.0 item.1 more

abbrev pub on_item : Bool × Tree → Items → Items
on_item item more = item_on item.0 item.1 more

before_last : {A B : Type 0} (on : A → B → B) (xs : List A) (y : A) (rest : B) → before on (xs ++ y ∷ []) rest ≡ before on xs (on y rest)
before_last on [] y rest = refl
before_last on (x ∷ xs) y rest = ap (on x) (before_last on xs y rest)

-- the next part goes from what is left to the front
pub before_next : {X A B : Type 0} (on : A → B → B) (view : X → A) (xs ys : List X) (y : X) (part : A) (rest left all : B)
    → ys ≡ xs ++ y ∷ [] → view y ≡ part → left ≡ on part rest → before on (map view xs) left ≡ all → before on (map view ys) rest ≡ all
before_next on view xs ys y part rest left all e f g h =
    ap (λ zs. before on (map view zs) rest) e ∙ ap (λ zs. before on zs rest) (map-append view xs (y ∷ []))
    ∙ before_last on (map view xs) (view y) rest
    ∙ ap (λ p. before on (map view xs) (on p rest)) f ∙ ap (before on (map view xs)) (sym g) ∙ h

-- where no part is left, the front is all
pub before_all : {X A B : Type 0} (on : A → B → B) (view : X → A) (none : B) (join : List A → B) → ((xs : List A) → before on xs none ≡ join xs) → (xs ys : List X) (left all : B)
    → ys ≡ xs → left ≡ none → before on (map view xs) left ≡ all → join (map view ys) ≡ all
before_all on view none join joins xs ys left all e g h =
    ap (λ zs. join (map view zs)) e ∙ sym (joins (map view xs)) ∙ ap (before on (map view xs)) (sym g) ∙ h

pub before_index_items : (xs : List (Bool × Index)) → before on_index_item xs no_index_items ≡ index_items xs
before_index_items [] = refl
before_index_items (x ∷ xs) = ap (index_item_on x.0 x.1) (before_index_items xs)

pub before_indices : (xs : List Index) → before index_on xs no_indices ≡ indices xs
before_indices [] = refl
before_indices (x ∷ xs) = ap (index_on x) (before_indices xs)

pub before_items : (xs : List (Bool × Tree)) → before on_item xs no_items ≡ items xs
before_items [] = refl
before_items (x ∷ xs) = ap (item_on x.0 x.1) (before_items xs)

pub before_trees : (xs : List Tree) → before tree_on xs no_trees ≡ trees xs
before_trees [] = refl
before_trees (x ∷ xs) = ap (tree_on x) (before_trees xs)

pub before_arguments : (xs : List Argument) → before arg_on xs no_args ≡ arguments xs
before_arguments [] = refl
before_arguments (x ∷ xs) = ap (arg_on x) (before_arguments xs)

pub before_statements : (xs : List Statement) → before stmt_on xs no_stmts ≡ statements xs
before_statements [] = refl
before_statements (x ∷ xs) = ap (stmt_on x) (before_statements xs)
