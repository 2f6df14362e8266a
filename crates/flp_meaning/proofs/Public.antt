-- Public expressions: their values do not depend on encoding, answers or unit, and they make no call.
use Rattle.std.proofs.Common.{ℕ, ◌≡◌, ◌+◌, ◌*◌, ◌^◌, Bool, true, false, ◌||◌, List, [], ◌∷◌, ◌++◌, map, length, refl, ap, ap₂, sym}
use Rattle.std.proofs.lemmas.Bool.{false≢true}
use Rattle.std.specs.Prelude.{slice_index}
use Rattle.flp_syntax.specs.Tree.{Tree, number, var, joint, meas, meas_or_zero, sum, call, add, mul, pow, Items, no_items, item_on, Trees, no_trees, tree_on, Declaration}
use Rattle.flp_syntax.specs.Sorts.{is_shared, has_shared_item, has_shared}
use Rattle.flp_syntax.specs.Scope.{Scope, inside, index_value, turns}
use Rattle.flp_meaning.specs.Meaning.{Call, Run, Reading, in_turn, value_with_sign, meaning, items_of, factors_of}

-- neither of the two
pub neither : (a b : Bool) → (a || b) ≡ false → (a ≡ false) × (b ≡ false)
neither true b h = absurd (false≢true (sym h))
neither false b h = (refl, h)

-- one value, wherever they begin, and no call
unfoldable pub SameValue : Run ℕ → Run ℕ → Type 0
SameValue f g = (n m : ℕ) → ((f n).value ≡ (g m).value) × ((f n).calls ≡ [])

unfoldable pub EachValue : List (Run ℕ) → List (Run ℕ) → Type 0
EachValue [] [] = Unit {0}
EachValue (f ∷ fs) (g ∷ gs) = SameValue f g × EachValue fs gs
EachValue _ _ = ⊥

pub in_turn_value : (join : ℕ → ℕ → ℕ) (none : ℕ) (fs gs : List (Run ℕ)) → EachValue fs gs → SameValue (in_turn join none fs) (in_turn join none gs)
unfolding SameValue EachValue
in_turn_value join none [] [] same n m = (refl, refl)
in_turn_value join none [] (g ∷ gs) same n m = elim same [ ]
in_turn_value join none (f ∷ fs) [] same n m = elim same [ ]
in_turn_value join none (f ∷ fs) (g ∷ gs) same n m =
    let first = same.0 n m in
    let rest = in_turn_value join none fs gs same.1 (n + length (f n).calls) (m + length (g m).calls) in
    (ap₂ join first.0 rest.0, ap₂ (λ (xs ys : List Call). xs ++ ys) first.1 rest.1)

pub each_turn_value : (f g : ℕ → Run ℕ) (values : List ℕ) → ((turn : ℕ) → SameValue (f turn) (g turn)) → EachValue (map f values) (map g values)
unfolding EachValue
each_turn_value f g [] h = tt
each_turn_value f g (value ∷ values) h = (h value, each_turn_value f g values h)

module _ (w v : Reading) (one_joint : w.joint ≡ v.joint) where
  mutual
    unfolding SameValue EachValue

    pub public_tree : (gadgets : List Declaration) (scope : Scope) (tree : Tree) → is_shared tree ≡ false → SameValue (meaning gadgets w scope tree) (meaning gadgets v scope tree)
    public_tree gadgets scope (number at value) h = λ n m. (refl, refl)
    public_tree gadgets scope (var at name) h = λ n m. (refl, refl)
    public_tree gadgets scope (joint at index) h = λ n m. (ap (λ words. slice_index words (index_value scope index)) one_joint, refl)
    public_tree gadgets scope (meas at index) h = absurd (false≢true (sym h))
    public_tree gadgets scope (meas_or_zero at index) h = absurd (false≢true (sym h))
    public_tree gadgets scope (sum at name from to inner) h =
        in_turn_value (λ a b. a + b) 0 _ _
        (each_turn_value
        (λ turn. meaning gadgets w (inside scope name turn) inner)
        (λ turn. meaning gadgets v (inside scope name turn) inner)
        (turns (index_value scope from) (index_value scope to))
        (λ turn. public_tree gadgets (inside scope name turn) inner h))
    public_tree gadgets scope (call at name args) h = absurd (false≢true (sym h))
    public_tree gadgets scope (add at items) h =
        in_turn_value (λ a b. a + b) 0 _ _ (public_items gadgets scope (has_shared_item items) items h h)
    public_tree gadgets scope (mul at factors) h =
        in_turn_value (λ a b. a * b) 1 _ _ (public_factors gadgets scope factors h)
    public_tree gadgets scope (pow at base exponent) h =
        λ n m. let inner = public_tree gadgets scope base h n m in (ap (λ value. value ^ index_value scope exponent) inner.0, inner.1)

    pub public_items : (gadgets : List Declaration) (scope : Scope) (mixed : Bool) (items : Items) → mixed ≡ false → has_shared_item items ≡ false → EachValue (items_of gadgets w scope mixed items) (items_of gadgets v scope mixed items)
    public_items gadgets scope mixed no_items none h = tt
    public_items gadgets scope true (item_on minus expr more) none h = absurd (false≢true (sym none))
    public_items gadgets scope false (item_on minus expr more) none h =
        let parts = neither (is_shared expr) (has_shared_item more) h in (
          λ n m. let inner = public_tree gadgets scope expr parts.0 n m in (ap (value_with_sign minus) inner.0, inner.1),
          public_items gadgets scope false more none parts.1,
        )

    pub public_factors : (gadgets : List Declaration) (scope : Scope) (factors : Trees) → has_shared factors ≡ false → EachValue (factors_of gadgets w scope factors) (factors_of gadgets v scope factors)
    public_factors gadgets scope no_trees h = tt
    public_factors gadgets scope (tree_on expr more) h =
        let parts = neither (is_shared expr) (has_shared more) h in
        (public_tree gadgets scope expr parts.0, public_factors gadgets scope more parts.1)
