-- Runs of public expressions: they make no call, and their value does not depend on the calls before. So a product is its public factors times its one
-- shared factor. And the expressions of outs, which make no call either.
use Rattle.std.proofs.Common.{ℕ, ◌≡◌, ◌+◌, ◌*◌, Bool, true, false, List, [], ◌∷◌, ◌++◌, length, refl, sym, ap, ap₂, ◌∙◌, add-zero, arith, cond}
use Rattle.std.proofs.lemmas.List.{append-nil}
use Rattle.flp_syntax.specs.Tree.{Tree, Trees, no_trees, tree_on, Declaration, Program}
use Rattle.flp_syntax.specs.Sorts.{is_shared, has_shared}
use Rattle.flp_syntax.specs.Scope.{Scope}
use Rattle.flp_meaning.specs.Meaning.{Call, Run, Reading, plain, then_run, product, meaning, factors_of}
use Rattle.flp_syntax.specs.Fits.{TreeFits, FactorsFit}
use Rattle.flp_syntax.specs.Linear.{TreeIsLinear, FactorsAreLinear}
use Rattle.flp_meaning.proofs.Public.{SameValue, in_turn_value, public_tree, public_factors}
use Rattle.flp_meaning.proofs.Outs.{out_tree}
use Rattle.flp_emit.specs.Emitting.{public_part, public_parts, IsOneShared, first_one, later_one}
use Rattle.flp_syntax.proofs.Publics.{first_public, rest_public}

swapped : (a b : ℕ) → a * b ≡ (1 * b) * a
swapped a b = omega arith

grouped : (a b c : ℕ) → a * (b * c) ≡ (a * b) * c
grouped a b c = omega arith

-- ---- runs that make no call

-- no call, and one value
pub record IsPlain {A : Type 0} (run : Run A) : Type 0 where
  pub value : (n m : ℕ) → (run n).value ≡ (run m).value
  pub silent : (n : ℕ) → (run n).calls ≡ []

plain_is : {A : Type 0} (value : A) → IsPlain (plain value)
plain_is value = record { value = λ n m. refl; silent = λ n. refl }

then_is : {A B C : Type 0} (join : A → B → C) (f : Run A) (g : Run B) → IsPlain f → IsPlain g → IsPlain (then_run join f g)
then_is join f g p q = record {
  value = λ n m. ap₂ join (p.value n m) (q.value (n + length (f n).calls) (m + length (f m).calls));
  silent = λ n. ap₂ (λ a b. a ++ b) (p.silent n) (q.silent (n + length (f n).calls));
}

-- ---- public expressions, and those of outs

same_is : (run : Run ℕ) → SameValue run run → IsPlain run
unfolding SameValue
same_is run same = record { value = λ n m. (same n m).0; silent = λ n. (same n n).1 }

pub public_is : (gadgets : List Declaration) (reading : Reading) (scope : Scope) (tree : Tree) → is_shared tree ≡ false
    → IsPlain (meaning gadgets reading scope tree)
public_is gadgets reading scope tree public = same_is _ (public_tree reading reading refl gadgets scope tree public)

pub out_is : (gadgets : List Declaration) (reading : Reading) (scope : Scope) (tree : Tree) → TreeIsLinear true tree
    → IsPlain (meaning gadgets reading scope tree)
out_is gadgets reading scope tree linear = same_is _ (out_tree reading reading refl gadgets scope tree linear)

public_factors_are : (gadgets : List Declaration) (reading : Reading) (scope : Scope) (factors : Trees) → has_shared factors ≡ false
    → IsPlain (product (factors_of gadgets reading scope factors))
public_factors_are gadgets reading scope factors public =
    same_is _ (in_turn_value (λ a b. a * b) 1 _ _ (public_factors reading reading refl gadgets scope factors public))

-- the product of all public parts, where all are public
parts_are_all : (gadgets : List Declaration) (reading : Reading) (scope : Scope) (factors : Trees) → has_shared factors ≡ false
    → public_parts gadgets reading scope factors ≡ factors_of gadgets reading scope factors
parts_are_all gadgets reading scope no_trees h = refl
parts_are_all gadgets reading scope (tree_on expr more) h =
    ap₂ (λ (run : Run ℕ) (runs : List (Run ℕ)). run ∷ runs)
    (ap (λ shared. cond shared (plain 1) (meaning gadgets reading scope expr)) (first_public expr more h))
    (parts_are_all gadgets reading scope more (rest_public expr more h))

part_is : (gadgets : List Declaration) (reading : Reading) (scope : Scope) (expr : Tree) (shared : Bool) → is_shared expr ≡ shared
    → IsPlain (cond shared (plain 1) (meaning gadgets reading scope expr))
part_is gadgets reading scope expr true h = plain_is 1
part_is gadgets reading scope expr false h = public_is gadgets reading scope expr h

-- the public parts make no call
pub parts_are : (gadgets : List Declaration) (reading : Reading) (scope : Scope) (factors : Trees)
    → IsPlain (product (public_parts gadgets reading scope factors))
parts_are gadgets reading scope no_trees = plain_is 1
parts_are gadgets reading scope (tree_on expr more) =
    then_is (λ a b. a * b) (public_part gadgets reading scope expr) (product (public_parts gadgets reading scope more))
    (part_is gadgets reading scope expr (is_shared expr) refl) (parts_are gadgets reading scope more)

-- a shared run and then plain ones; a plain run and then one among which one is shared
first_shared : (f rest parts : Run ℕ) → IsPlain rest → ((n : ℕ) → (rest n).value ≡ (parts n).value) → (n : ℕ)
    → (then_run (λ a b. a * b) f rest n).value ≡ (then_run (λ a b. a * b) (plain 1) parts n).value * (f n).value
first_shared f rest parts p same n =
    ap (λ (k : ℕ). (f n).value * k) (p.value (n + length (f n).calls) (n + 0) ∙ same (n + 0))
    ∙ swapped (f n).value (parts (n + 0)).value

later_shared : (f rest parts g : Run ℕ) → IsPlain f → IsPlain parts → ((n : ℕ) → (rest n).value ≡ (parts n).value * (g n).value) → (n : ℕ)
    → (then_run (λ a b. a * b) f rest n).value ≡ (then_run (λ a b. a * b) f parts n).value * (g n).value
later_shared f rest parts g p q same n =
    ap (λ (k : ℕ). (f n).value * (rest k).value) (ap (λ calls. n + length calls) (p.silent n) ∙ add-zero n)
    ∙ ap (λ (k : ℕ). (f n).value * k) (same n)
    ∙ grouped (f n).value (parts n).value (g n).value
    ∙ ap (λ (k : ℕ). ((f n).value * k) * (g n).value) (q.value n (n + length (f n).calls))

-- the runs of a product with one shared factor: its value
pub one_shared_value : (gadgets : List Declaration) (reading : Reading) (scope : Scope) {expr : Tree} {factors : Trees} → IsOneShared expr factors
    → (n : ℕ) → (product (factors_of gadgets reading scope factors) n).value
    ≡ (product (public_parts gadgets reading scope factors) n).value * (meaning gadgets reading scope expr n).value
one_shared_value gadgets reading scope (first_one {expr = expr} {more = more} shared rest) n =
    first_shared (meaning gadgets reading scope expr) (product (factors_of gadgets reading scope more)) (product (public_parts gadgets reading scope more))
    (public_factors_are gadgets reading scope more rest)
    (λ k. ap (λ (runs : List (Run ℕ)). (product runs k).value) (sym (parts_are_all gadgets reading scope more rest))) n
    ∙ ap (λ (b : Bool). (then_run (λ a b. a * b) (cond b (plain 1) (meaning gadgets reading scope expr)) (product (public_parts gadgets reading scope more)) n).value
    * (meaning gadgets reading scope expr n).value) (sym shared)
one_shared_value gadgets reading scope (later_one {expr = expr} {first = first} {more = more} public rest) n =
    later_shared (meaning gadgets reading scope first) (product (factors_of gadgets reading scope more)) (product (public_parts gadgets reading scope more))
    (meaning gadgets reading scope expr) (public_is gadgets reading scope first public) (parts_are gadgets reading scope more)
    (one_shared_value gadgets reading scope rest) n
    ∙ ap (λ (b : Bool). (then_run (λ a b. a * b) (cond b (plain 1) (meaning gadgets reading scope first)) (product (public_parts gadgets reading scope more)) n).value
    * (meaning gadgets reading scope expr n).value) (sym public)

-- and its calls
pub one_shared_calls : (gadgets : List Declaration) (reading : Reading) (scope : Scope) {expr : Tree} {factors : Trees} → IsOneShared expr factors
    → (n : ℕ) → (product (factors_of gadgets reading scope factors) n).calls ≡ (meaning gadgets reading scope expr n).calls
one_shared_calls gadgets reading scope (first_one {expr = expr} {more = more} shared rest) n =
    ap (λ (calls : List Call). (meaning gadgets reading scope expr n).calls ++ calls)
    ((public_factors_are gadgets reading scope more rest).silent (n + length (meaning gadgets reading scope expr n).calls))
    ∙ append-nil (meaning gadgets reading scope expr n).calls
one_shared_calls gadgets reading scope (later_one {expr = expr} {first = first} {more = more} public rest) n =
    let silent = (public_is gadgets reading scope first public).silent n in
    ap (λ (calls : List Call). calls ++ (product (factors_of gadgets reading scope more) (n + length calls)).calls) silent
    ∙ ap (λ (k : ℕ). (product (factors_of gadgets reading scope more) k).calls) (add-zero n)
    ∙ one_shared_calls gadgets reading scope rest n

-- the one shared factor is shared, and fits where all factors do
pub one_shared_is : {expr : Tree} {factors : Trees} → IsOneShared expr factors → is_shared expr ≡ true
one_shared_is (first_one shared rest) = shared
one_shared_is (later_one public rest) = one_shared_is rest

pub one_shared_fits : (body : Program) (scope : Scope) {expr : Tree} {factors : Trees} → IsOneShared expr factors
    → FactorsFit body scope factors → TreeFits body scope expr
one_shared_fits body scope (first_one shared rest) h = h.0
one_shared_fits body scope (later_one public rest) h = one_shared_fits body scope rest h.1

pub one_shared_linear : (in_out behind : Bool) {expr : Tree} {factors : Trees} → IsOneShared expr factors
    → FactorsAreLinear in_out behind factors → TreeIsLinear in_out expr
one_shared_linear in_out behind (first_one shared rest) h = h.1
one_shared_linear in_out behind (later_one public rest) h = one_shared_linear in_out _ rest h.2
