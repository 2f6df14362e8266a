-- Walks that meet so many nodes, calls of the one gadget, checks and outs, and no fault, where there is room for them.
use Rattle.std.proofs.Common.{ℕ, zero, suc, ◌+◌, ◌*◌, ◌<◌, ◌≤◌, ◌≡◌, Bool, cond, List, [], ◌∷◌, ◌++◌, Result, Ok, Err, sym, ap, subst, ◌∙◌, arith}
use Rattle.std.specs.List.{flat_map, sum_by}
use Rattle.std.proofs.lemmas.Bool.{lt-ltb, le-leb}
use Rattle.std.proofs.lemmas.List.Sums.{sum_by-cons}
use Rattle.flp_syntax.specs.declared.fault.LangFault.{LangFault}
use Rattle.flp_syntax.specs.declared.fault.LangFault.TheVariants.{Limit}
use Rattle.flp_syntax.specs.declared.fault.Counted.TheVariants as counted
use Rattle.flp_syntax.specs.Scope.{turns, numbers_from}
use Rattle.flp_check.specs.Events.{Event, visit, bad_index, gadget_call, a_check, an_out, in_range, in_words}
use Rattle.flp_check.specs.Counts.{Counts, go_on, walk}
use Rattle.flp_check.proofs.Walking.{walk-append}
use Rattle.flp_circuits.proofs.Gives.{turns-zero}

pub record Tally : Type 0 where
  pub visits : ℕ
  pub calls : ℕ
  pub checks : ℕ
  pub outs : ℕ

abbrev pub tally : ℕ → ℕ → ℕ → ℕ → Tally
tally v k c o = record { visits = v; calls = k; checks = c; outs = o }

abbrev pub added : Tally → Tally → Tally
added a b = tally (a.visits + b.visits) (a.calls + b.calls) (a.checks + b.checks) (a.outs + b.outs)

abbrev pub times : ℕ → Tally → Tally
times n a = tally (n * a.visits) (n * a.calls) (n * a.checks) (n * a.outs)

abbrev pub nodes : ℕ → Tally
nodes n = tally n 0 0 0

-- so much was counted, with one gadget
abbrev pub counts_at : Tally → Counts
counts_at a = record { visits = a.visits; calls = a.calls ∷ []; checks = a.checks; outs = a.outs }

pub record HasRoom (a : Tally) : Type 0 where
  pub visits : a.visits ≤ 4194304
  pub calls : a.calls ≤ 4095
  pub checks : a.checks ≤ 65536
  pub outs : a.outs ≤ 65536

pub record Meets (events : List Event) (t : Tally) : Type 0 where
  pub at : (a : Tally) → HasRoom (added a t) → walk (counts_at a) events ≡ Ok (counts_at (added a t))

pub tally-same : (a b : Tally) → a.visits ≡ b.visits → a.calls ≡ b.calls → a.checks ≡ b.checks → a.outs ≡ b.outs → a ≡ b
tally-same a b e f g h =
    ap (λ (v : ℕ). tally v a.calls a.checks a.outs) e ∙ ap (λ (k : ℕ). tally b.visits k a.checks a.outs) f
    ∙ ap (λ (c : ℕ). tally b.visits b.calls c a.outs) g ∙ ap (λ (o : ℕ). tally b.visits b.calls b.checks o) h

pub meets_as : (events : List Event) (t u : Tally) → Meets events t → t ≡ u → Meets events u
meets_as events t u h e = subst (Meets events) e h

pub meets_same : (xs ys : List Event) (t : Tally) → Meets xs t → xs ≡ ys → Meets ys t
meets_same xs ys t h e = let P : List Event → Type 0 = λ list. Meets list t in subst P e h

pub meets_none : Meets [] (nodes 0)
meets_none = record { at = λ a room. ap (λ (t : Tally). Ok (counts_at t)) (tally-same a (added a (nodes 0)) (omega arith) (omega arith) (omega arith) (omega arith)) }

pub meets_append : (xs ys : List Event) (t u : Tally) → Meets xs t → Meets ys u → Meets (xs ++ ys) (added t u)
meets_append xs ys t u h k =
    record {
      at = λ a room.
          let front : HasRoom (added a t) = record { visits = omega (arith, room.visits); calls = omega (arith, room.calls); checks = omega (arith, room.checks); outs = omega (arith, room.outs) } in
          let back : HasRoom (added (added a t) u) = record { visits = omega (arith, room.visits); calls = omega (arith, room.calls); checks = omega (arith, room.checks); outs = omega (arith, room.outs) } in
          walk-append xs ys (counts_at a) ∙ ap (λ (r : Result Counts LangFault). go_on r (λ b. walk b ys)) (h.at a front) ∙ k.at (added a t) back
          ∙ ap (λ (s : Tally). Ok (counts_at s)) (tally-same (added (added a t) u) (added a (added t u)) (omega arith) (omega arith) (omega arith) (omega arith));
    }

pub meets_visit : Meets (visit ∷ []) (nodes 1)
meets_visit =
    record {
      at = λ a room.
          let below : a.visits < 4194304 = omega (arith, room.visits) in
          ap (λ (b : Bool). go_on (cond b (Ok (record (counts_at a) { visits = suc a.visits })) (Err (Limit counted.Visits 4194305))) (λ after. walk after [])) (lt-ltb a.visits 4194304 below)
          ∙ ap (λ (s : Tally). Ok (counts_at s)) (tally-same (tally (suc a.visits) a.calls a.checks a.outs) (added a (nodes 1)) (omega arith) (omega arith) (omega arith) (omega arith));
    }

pub meets_call : Meets (gadget_call 0 ∷ []) (tally 0 1 0 0)
meets_call =
    record {
      at = λ a room.
          let below : a.calls < 4095 = omega (arith, room.calls) in
          ap (λ (b : Bool). go_on (cond b (Ok (record (counts_at a) { calls = suc a.calls ∷ [] })) (Err (Limit counted.Calls 4096))) (λ after. walk after [])) (lt-ltb a.calls 4095 below)
          ∙ ap (λ (s : Tally). Ok (counts_at s)) (tally-same (tally a.visits (suc a.calls) a.checks a.outs) (added a (tally 0 1 0 0)) (omega arith) (omega arith) (omega arith) (omega arith));
    }

pub meets_check : Meets (a_check ∷ []) (tally 0 0 1 0)
meets_check =
    record {
      at = λ a room.
          let below : a.checks < 65536 = omega (arith, room.checks) in
          ap (λ (b : Bool). go_on (cond b (Ok (record (counts_at a) { checks = suc a.checks })) (Err (Limit counted.Checks 65537))) (λ after. walk after [])) (lt-ltb a.checks 65536 below)
          ∙ ap (λ (s : Tally). Ok (counts_at s)) (tally-same (tally a.visits a.calls (suc a.checks) a.outs) (added a (tally 0 0 1 0)) (omega arith) (omega arith) (omega arith) (omega arith));
    }

pub meets_out : Meets (an_out ∷ []) (tally 0 0 0 1)
meets_out =
    record {
      at = λ a room.
          let below : a.outs < 65536 = omega (arith, room.outs) in
          ap (λ (b : Bool). go_on (cond b (Ok (record (counts_at a) { outs = suc a.outs })) (Err (Limit counted.Outs 65537))) (λ after. walk after [])) (lt-ltb a.outs 65536 below)
          ∙ ap (λ (s : Tally). Ok (counts_at s)) (tally-same (tally a.visits a.calls a.checks (suc a.outs)) (added a (tally 0 0 0 1)) (omega arith) (omega arith) (omega arith) (omega arith));
    }

-- a node before its parts
pub meets_node : (parts : List Event) (t : Tally) → Meets parts t → Meets (visit ∷ parts) (added (nodes 1) t)
meets_node parts t h = meets_append (visit ∷ []) parts (nodes 1) t meets_visit h

-- the turns of a loop, each of which meets as much
meets_numbers : (f : ℕ → List Event) (t : Tally) (start count : ℕ) → ((i : ℕ) → start ≤ i → i < start + count → Meets (f i) t) → Meets (flat_map f (numbers_from start count)) (times count t)
meets_numbers f t start zero each = meets_as [] (nodes 0) (times 0 t) meets_none (tally-same (nodes 0) (times 0 t) (omega arith) (omega arith) (omega arith) (omega arith))
meets_numbers f t start (suc count) each =
    meets_as (f start ++ flat_map f (numbers_from (suc start) count)) (added t (times count t)) (times (suc count) t)
    (meets_append (f start) (flat_map f (numbers_from (suc start) count)) t (times count t) (each start (omega arith) (omega arith)) (meets_numbers f t (suc start) count (λ i low high. each i (omega arith) (omega arith))))
    (tally-same (added t (times count t)) (times (suc count) t) (omega arith) (omega arith) (omega arith) (omega arith))

pub meets_loop : (f : ℕ → List Event) (t : Tally) (n : ℕ) → ((i : ℕ) → i < n → Meets (f i) t) → Meets (flat_map f (turns 0 n)) (times n t)
meets_loop f t n each =
    meets_same (flat_map f (numbers_from 0 n)) (flat_map f (turns 0 n)) (times n t) (meets_numbers f t 0 n (λ i low high. each i (omega arith))) (ap (flat_map f) (sym (turns-zero n)))

-- tests that hold meet nothing
pub meets_in_range : (at value : ℕ) → value ≤ 4294967295 → Meets (in_range at value) (nodes 0)
meets_in_range at value h = meets_same [] (in_range at value) (nodes 0) meets_none (sym (ap (λ (b : Bool). cond b [] (bad_index at ∷ [])) (le-leb value 4294967295 h)))

pub meets_in_words : (at value words : ℕ) → value < words → Meets (in_words at value words) (nodes 0)
meets_in_words at value words h = meets_same [] (in_words at value words) (nodes 0) meets_none (sym (ap (λ (b : Bool). cond b [] (bad_index at ∷ [])) (lt-ltb value words h)))

-- the same count at each turn
pub sum_by-constant : (n start count : ℕ) → sum_by (λ i. n) (numbers_from start count) ≡ count * n
sum_by-constant n start zero = (let none : 0 ≡ 0 * n = omega arith in none)
sum_by-constant n start (suc count) = sum_by-cons (λ (i : ℕ). n) start (numbers_from (suc start) count) ∙ ap (λ (k : ℕ). n + k) (sum_by-constant n (suc start) count) ∙ (let whole : n + count * n ≡ suc count * n = omega arith in whole)
