-- Nodes that were met are not forgotten.
use Rattle.std.proofs.Common.{◌≡◌, ℕ, ◌+◌, ◌≤◌, Bool, true, false, cond, List, ◌∷◌, Ok, Err, subst, arith}
use Rattle.flp_syntax.specs.Tree.{Tree, number, var, joint, meas, meas_or_zero, sum, call, add, mul, pow, Program}
use Rattle.flp_syntax.specs.Scope.{Scope}
use Rattle.flp_syntax.specs.declared.fault.LangFault.{LangFault}
use Rattle.flp_check.specs.Events.{Event, visit, bad_index, bad_arity, gadget_call, a_check, an_out, tree_events}
use Rattle.flp_check.specs.Counts.{Counts, meet, walk, Reaches}
use Rattle.flp_check.proofs.Walking.{walk_keeps, go_on_ok}

-- where the answer of a test is the counts, they are these
pub passed : (t : Bool) (m b : Counts) (fault : LangFault) → cond t (Ok m) (Err fault) ≡ Ok b → m ≡ b
passed true m b fault h = cc
passed false m b fault h = cc

meet_visits : (n : ℕ) (a : Counts) (e : Event) (b : Counts) → n ≤ a.visits → meet a e ≡ Ok b → n ≤ b.visits
meet_visits n a visit b p h = let P : Counts → Type 0 = λ c. n ≤ c.visits in subst P (passed _ _ b _ h) (omega arith)
meet_visits n a (bad_index at) b p h = cc
meet_visits n a (bad_arity at) b p h = cc
meet_visits n a (gadget_call g) b p h = let P : Counts → Type 0 = λ c. n ≤ c.visits in subst P (passed _ _ b _ h) p
meet_visits n a a_check b p h = let P : Counts → Type 0 = λ c. n ≤ c.visits in subst P (passed _ _ b _ h) p
meet_visits n a an_out b p h = let P : Counts → Type 0 = λ c. n ≤ c.visits in subst P (passed _ _ b _ h) p

pub walk_visits : (n : ℕ) (es : List Event) (a b : Counts) → n ≤ a.visits → walk a es ≡ Ok b → n ≤ b.visits
walk_visits n = walk_keeps (λ c. n ≤ c.visits) (meet_visits n)

pub reaches_visits : {a b : Counts} {es : List Event} → Reaches a es b → a.visits ≤ b.visits
reaches_visits {a} {b} {es} h = walk_visits a.visits es a b (omega arith) h.is

-- a walk that begins with a node
pub visit_visits : {a b : Counts} (es : List Event) → Reaches a (visit ∷ es) b → 1 + a.visits ≤ b.visits
visit_visits {a} {b} es h =
    let m = go_on_ok (meet a visit) (λ c. walk c es) b h.is in
    let P : Counts → Type 0 = λ c. 1 + a.visits ≤ c.visits in
    walk_visits (1 + a.visits) es m.0 b (subst P (passed _ _ m.0 _ m.1) (omega arith)) m.2

pub tree_visits : (p : Program) (s : Scope) (x : Tree) {a b : Counts} → Reaches a (tree_events p s x) b → 1 + a.visits ≤ b.visits
tree_visits p s (number at value) h = visit_visits _ h
tree_visits p s (var at name) h = visit_visits _ h
tree_visits p s (joint at index) h = visit_visits _ h
tree_visits p s (meas at index) h = visit_visits _ h
tree_visits p s (meas_or_zero at index) h = visit_visits _ h
tree_visits p s (sum at name from to inner) h = visit_visits _ h
tree_visits p s (call at name args) h = visit_visits _ h
tree_visits p s (add at items) h = visit_visits _ h
tree_visits p s (mul at factors) h = visit_visits _ h
tree_visits p s (pow at base exponent) h = visit_visits _ h
