-- What no reading changes: the gadgets of the calls, and how many checks and outs there are.
use Rattle.std.proofs.Common.{ℕ, suc, ◌≡◌, ◌+◌, Bool, true, false, cond, List, [], ◌∷◌, ◌++◌, length, map, refl, ap, ap₂, sym, ◌∙◌, length-append, eqb}
use Rattle.std.specs.List.{filter}
use Rattle.std.proofs.lemmas.List.{map-append}
use Rattle.flp_syntax.specs.Tree.{Statement, check, out, each, Statements, no_stmts, stmt_on, Declaration, Program}
use Rattle.flp_syntax.specs.Scope.{Scope, inside, index_value, turns}
use Rattle.flp_meaning.specs.Meaning.{Call, Run, Reading, Results, all_results, statement_of, statements_of}
use Rattle.flp_meaning.specs.Circuit.{calls_of}
use Rattle.flp_meaning.specs.Gadgets.{blank}
use Rattle.flp_meaning.specs.MeaningLaws.{GadgetsAreFixed, CallsAreFixed, ChecksAreFixed, OutsAreFixed}
use Rattle.flp_meaning.proofs.PartByPart.{Passes, circuit_passes}

-- ---- gadgets

gadgets_in : List Call → List ℕ
gadgets_in calls = map (λ (call : Call). call.gadget) calls

SameGadgets : (A : Type 0) → Run A → Run A → Type 0
SameGadgets A f g = (n m : ℕ) → gadgets_in (f n).calls ≡ gadgets_in (g m).calls

same_gadgets : (w v : Reading) → Passes w v SameGadgets (λ gadget f g. Unit {0})
unfolding SameGadgets gadgets_in
same_gadgets w v = record {
  alike = λ A value n m. refl;
  joint_word = λ k n m. refl;
  meas_word = λ k n m. refl;
  after_change = λ A B change f g h n m. h n m;
  after_unit = λ f g h n m. h n m;
  in_order = λ A B C join f f' g g' hf hg n m.
      let n' : ℕ = n + length (f n).calls in
      let m' : ℕ = m + length (f' m).calls in
      map-append (λ (call : Call). call.gadget) (f n).calls (g n').calls
      ∙ ap₂ (λ (xs ys : List ℕ). xs ++ ys) (hf n m) (hg n' m')
      ∙ sym (map-append (λ (call : Call). call.gadget) (f' m).calls (g' m').calls);
  after_call = λ gadget f g known h n m.
      let last : Call = record { gadget = gadget; inputs = (f n).value } in
      let last' : Call = record { gadget = gadget; inputs = (g m).value } in
      map-append (λ (call : Call). call.gadget) (f n).calls (last ∷ [])
      ∙ ap (λ (xs : List ℕ). xs ++ gadget ∷ []) (h n m)
      ∙ sym (map-append (λ (call : Call). call.gadget) (g m).calls (last' ∷ []));
}

pub gadgets_are_fixed : GadgetsAreFixed
unfolding SameGadgets gadgets_in
gadgets_are_fixed body reading =
    circuit_passes body.gadgets reading blank SameGadgets (λ gadget f g. Unit {0}) (same_gadgets reading blank)
    (λ scope name args. tt) body.stmts 0 0

filter-gadgets : (gadget : ℕ) (calls : List Call)
    → length (filter (λ (call : Call). eqb call.gadget gadget) calls) ≡ length (filter (λ other. eqb other gadget) (gadgets_in calls))
unfolding gadgets_in
filter-gadgets gadget [] = refl
filter-gadgets gadget (call ∷ calls) = one_less (eqb call.gadget gadget) call call.gadget _ _ (filter-gadgets gadget calls)
  where
    one_less : (test : Bool) (call : Call) (n : ℕ) (xs : List Call) (ys : List ℕ) → length xs ≡ length ys
        → length (cond test (call ∷ xs) xs) ≡ length (cond test (n ∷ ys) ys)
    one_less true call n xs ys same = ap (λ k. suc k) same
    one_less false call n xs ys same = same

pub calls_are_fixed : CallsAreFixed
unfolding gadgets_in
calls_are_fixed body reading gadget =
    filter-gadgets gadget (calls_of body reading)
    ∙ ap (λ gadgets. length (filter (λ other. eqb other gadget) gadgets)) (gadgets_are_fixed body reading)

-- ---- checks and outs

SameCounts : Run Results → Run Results → Type 0
SameCounts f g =
    (n m : ℕ)
    → (length (f n).value.checks ≡ length (g m).value.checks) × (length (f n).value.outs ≡ length (g m).value.outs)

EachSame : List (Run Results) → List (Run Results) → Type 0
EachSame [] [] = Unit {0}
EachSame (f ∷ fs) (g ∷ gs) = SameCounts f g × EachSame fs gs
EachSame _ _ = ⊥

in_turn_same : (fs gs : List (Run Results)) → EachSame fs gs → SameCounts (all_results fs) (all_results gs)
unfolding SameCounts EachSame
in_turn_same [] [] same n m = (refl, refl)
in_turn_same [] (g ∷ gs) same n m = elim same [ ]
in_turn_same (f ∷ fs) [] same n m = elim same [ ]
in_turn_same (f ∷ fs) (g ∷ gs) same n m =
    let first = same.0 n m in
    let n' : ℕ = n + length (f n).calls in
    let m' : ℕ = m + length (g m).calls in
    let rest = in_turn_same fs gs same.1 n' m' in (
      length-append (f n).value.checks (all_results fs n').value.checks
          ∙ ap₂ (λ (a b : ℕ). a + b) first.0 rest.0
          ∙ sym (length-append (g m).value.checks (all_results gs m').value.checks),
      length-append (f n).value.outs (all_results fs n').value.outs
          ∙ ap₂ (λ (a b : ℕ). a + b) first.1 rest.1
          ∙ sym (length-append (g m).value.outs (all_results gs m').value.outs),
    )

each_turn_same : (f g : ℕ → Run Results) (values : List ℕ) → ((turn : ℕ) → SameCounts (f turn) (g turn)) → EachSame (map f values) (map g values)
unfolding EachSame
each_turn_same f g [] h = tt
each_turn_same f g (value ∷ values) h = (h value, each_turn_same f g values h)

module _ (w v : Reading) where
  mutual
    unfolding SameCounts EachSame

    statement_same : (gadgets : List Declaration) (scope : Scope) (stmt : Statement) → SameCounts (statement_of gadgets w scope stmt) (statement_of gadgets v scope stmt)
    statement_same gadgets scope (check at expr) = λ n m. (refl, refl)
    statement_same gadgets scope (out at expr) = λ n m. (refl, refl)
    statement_same gadgets scope (each at name from to inner) =
        in_turn_same _ _
        (each_turn_same
        (λ turn. all_results (statements_of gadgets w (inside scope name turn) inner))
        (λ turn. all_results (statements_of gadgets v (inside scope name turn) inner))
        (turns (index_value scope from) (index_value scope to))
        (λ turn. in_turn_same _ _ (statements_same gadgets (inside scope name turn) inner)))

    statements_same : (gadgets : List Declaration) (scope : Scope) (stmts : Statements) → EachSame (statements_of gadgets w scope stmts) (statements_of gadgets v scope stmts)
    statements_same gadgets scope no_stmts = tt
    statements_same gadgets scope (stmt_on stmt more) = (statement_same gadgets scope stmt, statements_same gadgets scope more)

counts_same : (w v : Reading) (body : Program) → SameCounts (all_results (statements_of body.gadgets w [] body.stmts)) (all_results (statements_of body.gadgets v [] body.stmts))
counts_same w v body = in_turn_same _ _ (statements_same w v body.gadgets [] body.stmts)

pub checks_are_fixed : ChecksAreFixed
unfolding SameCounts
checks_are_fixed body reading = (counts_same reading blank body 0 0).0

pub outs_are_fixed : OutsAreFixed
unfolding SameCounts
outs_are_fixed body reading = (counts_same reading blank body 0 0).1
