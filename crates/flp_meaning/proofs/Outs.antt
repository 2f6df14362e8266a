-- The outs of a linear circuit: they depend on the encoding alone.
use Rattle.std.proofs.Common.{ℕ, ◌≡◌, ◌+◌, ◌*◌, ◌%◌, ◌^◌, Bool, true, false, not, List, [], ◌∷◌, ◌++◌, map, length, refl, ap, ap₂, sym}
use Rattle.std.proofs.lemmas.Bool.{false≢true}
use Rattle.std.specs.Prelude.{slice_index}
use Rattle.flp_field.specs.Word.{modulus}
use Rattle.flp_syntax.specs.Tree.{Tree, number, var, joint, meas, meas_or_zero, sum, call, add, mul, pow, Items, no_items, item_on, Trees, no_trees, tree_on, Statement, check, out, each, Statements, no_stmts, stmt_on, Declaration}
use Rattle.flp_syntax.specs.Sorts.{is_shared, has_shared_item}
use Rattle.flp_syntax.specs.Scope.{Scope, inside, index_value, turns}
use Rattle.flp_meaning.specs.Meaning.{Run, Reading, Results, in_units, value_with_sign, all_results, meaning, items_of, factors_of, statement_of, statements_of}
use Rattle.flp_syntax.specs.Linear.{TreeIsLinear, ItemsAreLinear, FactorsAreLinear, StatementIsLinear, StatementsAreLinear}
use Rattle.flp_meaning.specs.LinearLaws.{OutsReadWordsAlone}
use Rattle.flp_meaning.proofs.Public.{SameValue, EachValue, in_turn_value, each_turn_value}

shared_counted : (w v : Reading) (shared : Bool) (f g : Run ℕ) → shared ≡ true → SameValue f g → SameValue (in_units w shared f) (in_units v shared g)
shared_counted w v true f g is same = same
shared_counted w v false f g is same = absurd (false≢true is)

all_are_shared : (shared : Bool) → not shared ≡ false → shared ≡ true
all_are_shared true h = refl
all_are_shared false h = absurd (false≢true (sym h))

OutsSame : Run Results → Run Results → Type 0
OutsSame f g = (n m : ℕ) → (f n).value.outs ≡ (g m).value.outs

EachOuts : List (Run Results) → List (Run Results) → Type 0
EachOuts [] [] = Unit {0}
EachOuts (f ∷ fs) (g ∷ gs) = OutsSame f g × EachOuts fs gs
EachOuts _ _ = ⊥

outs_in_turn : (fs gs : List (Run Results)) → EachOuts fs gs → OutsSame (all_results fs) (all_results gs)
unfolding OutsSame EachOuts
outs_in_turn [] [] same n m = refl
outs_in_turn [] (g ∷ gs) same n m = elim same [ ]
outs_in_turn (f ∷ fs) [] same n m = elim same [ ]
outs_in_turn (f ∷ fs) (g ∷ gs) same n m =
    ap₂ (λ (xs ys : List ℕ). xs ++ ys) (same.0 n m)
    (outs_in_turn fs gs same.1 (n + length (f n).calls) (m + length (g m).calls))

outs_each_turn : (f g : ℕ → Run Results) (values : List ℕ) → ((turn : ℕ) → OutsSame (f turn) (g turn)) → EachOuts (map f values) (map g values)
unfolding EachOuts
outs_each_turn f g [] h = tt
outs_each_turn f g (value ∷ values) h = (h value, outs_each_turn f g values h)

module _ (w v : Reading) (one_encoding : w.meas ≡ v.meas) where
  mutual
    unfolding SameValue EachValue

    pub out_tree : (gadgets : List Declaration) (scope : Scope) (tree : Tree) → TreeIsLinear true tree → SameValue (meaning gadgets w scope tree) (meaning gadgets v scope tree)
    out_tree gadgets scope (number at value) linear = λ n m. (refl, refl)
    out_tree gadgets scope (var at name) linear = λ n m. (refl, refl)
    out_tree gadgets scope (joint at index) linear = absurd (false≢true (sym linear))
    out_tree gadgets scope (meas at index) linear = λ n m. (ap (λ words. slice_index words (index_value scope index)) one_encoding, refl)
    out_tree gadgets scope (meas_or_zero at index) linear = λ n m. (ap (λ words. slice_index words (index_value scope index)) one_encoding, refl)
    out_tree gadgets scope (sum at name from to inner) linear =
        in_turn_value (λ a b. a + b) 0 _ _
        (each_turn_value
        (λ turn. meaning gadgets w (inside scope name turn) inner)
        (λ turn. meaning gadgets v (inside scope name turn) inner)
        (turns (index_value scope from) (index_value scope to))
        (λ turn. out_tree gadgets (inside scope name turn) inner linear))
    out_tree gadgets scope (call at name args) linear = absurd (false≢true (sym linear.0))
    out_tree gadgets scope (add at items) linear =
        in_turn_value (λ a b. a + b) 0 _ _ (out_items gadgets scope (has_shared_item items) items linear)
    out_tree gadgets scope (mul at factors) linear =
        in_turn_value (λ a b. a * b) 1 _ _ (out_factors gadgets scope false factors linear)
    out_tree gadgets scope (pow at base exponent) linear =
        λ n m. let inner = out_tree gadgets scope base linear.1 n m in (ap (λ value. value ^ index_value scope exponent) inner.0, inner.1)

    out_items : (gadgets : List Declaration) (scope : Scope) (mixed : Bool) (items : Items) → ItemsAreLinear true mixed items → EachValue (items_of gadgets w scope mixed items) (items_of gadgets v scope mixed items)
    out_items gadgets scope mixed no_items linear = tt
    out_items gadgets scope true (item_on minus expr more) linear = (
      λ n m.
          let inner = shared_counted w v (is_shared expr) _ _ (all_are_shared (is_shared expr) linear.0) (out_tree gadgets scope expr linear.1) n m in
          (ap (value_with_sign minus) inner.0, inner.1),
      out_items gadgets scope true more linear.2,
    )
    out_items gadgets scope false (item_on minus expr more) linear = (
      λ n m. let inner = out_tree gadgets scope expr linear.1 n m in (ap (value_with_sign minus) inner.0, inner.1),
      out_items gadgets scope false more linear.2,
    )

    out_factors : (gadgets : List Declaration) (scope : Scope) (behind : Bool) (factors : Trees) → FactorsAreLinear true behind factors → EachValue (factors_of gadgets w scope factors) (factors_of gadgets v scope factors)
    out_factors gadgets scope behind no_trees linear = tt
    out_factors gadgets scope behind (tree_on expr more) linear =
        (out_tree gadgets scope expr linear.1, out_factors gadgets scope _ more linear.2)

  mutual
    unfolding OutsSame EachOuts SameValue

    out_statement : (gadgets : List Declaration) (scope : Scope) (stmt : Statement) → StatementIsLinear stmt → OutsSame (statement_of gadgets w scope stmt) (statement_of gadgets v scope stmt)
    out_statement gadgets scope (check at expr) linear = λ n m. refl
    out_statement gadgets scope (out at expr) linear =
        λ n m. ap (λ value. value % modulus ∷ []) (out_tree gadgets scope expr linear.1 n m).0
    out_statement gadgets scope (each at name from to inner) linear =
        outs_in_turn _ _
        (outs_each_turn
        (λ turn. all_results (statements_of gadgets w (inside scope name turn) inner))
        (λ turn. all_results (statements_of gadgets v (inside scope name turn) inner))
        (turns (index_value scope from) (index_value scope to))
        (λ turn. outs_in_turn _ _ (out_statements gadgets (inside scope name turn) inner linear)))

    out_statements : (gadgets : List Declaration) (scope : Scope) (stmts : Statements) → StatementsAreLinear stmts → EachOuts (statements_of gadgets w scope stmts) (statements_of gadgets v scope stmts)
    out_statements gadgets scope no_stmts linear = tt
    out_statements gadgets scope (stmt_on stmt more) linear =
        (out_statement gadgets scope stmt linear.0, out_statements gadgets scope more linear.1)

pub outs_read_words_alone : OutsReadWordsAlone
unfolding OutsSame
outs_read_words_alone body w v linear same =
    outs_in_turn _ _ (out_statements w v same body.gadgets [] body.stmts linear) 0 0
