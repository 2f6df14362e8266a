-- Each call is of a gadget of the circuit and has words as inputs.
use Rattle.std.proofs.Common.{ℕ, zero, suc, ◌≡◌, ◌+◌, ◌-◌, ◌%◌, ◌<◌, ◌≤◌, Bool, true, false, cond, List, [], ◌∷◌, length, map, take, arith, get_or, refl, ap, sym, subst, ◌∙◌, eqb}
use Rattle.std.proofs.lemmas.Bool.{false≢true, eq-eqb}
use Rattle.std.proofs.lemmas.List.{length-map, get_or-map}
use Rattle.std.specs.List.{filter}
use Rattle.std.specs.Prelude.{slice_index}
use Rattle.std.specs.List.{All}
use Rattle.std.specs.Str.{bytes_eq}
use Rattle.std.specs.Option.{unwrap_or, option_map}
use Rattle.std.specs.Prelude.{Option, None, Some, if◌then◌else◌}
use Rattle.std.proofs.lemmas.List.Elements.{All-append, All-cons}
use Rattle.flp_field.specs.Word.{modulus, IsWord, AreWords}
use Rattle.flp_field.proofs.Congruence.{mod_word}
use Rattle.flp_syntax.specs.Tree.{Declaration, Program}
use Rattle.flp_syntax.specs.Scope.{gadget_number}
use Rattle.flp_meaning.specs.Meaning.{Call, Run, Reading}
use Rattle.flp_meaning.specs.Circuit.{calls_of}
use Rattle.flp_meaning.specs.Gadgets.{times, calls_to, calls_made, gadgets_called, call_count, call_gadget, call_number}
use Rattle.flp_meaning.proofs.Fixed.{gadgets_are_fixed, calls_are_fixed}
use Rattle.flp_meaning.proofs.PartByPart.{Passes, circuit_passes, HoldsOfInputs, inputs_hold}

-- each call is of a gadget of the circuit, if it has any, and its inputs are words
pub record IsCall (body : Program) (call : Call) : Type 0 where
  pub known : 1 ≤ length body.gadgets → call.gadget < length body.gadgets
  pub words : AreWords call.inputs

AreInputs : Run (List ℕ) → Run (List ℕ) → Type 0
AreInputs f g = (n : ℕ) → AreWords (f n).value

none_of : {X : Type 0} (P : X → Type 0) → All P []
none_of P = λ k d low. absurd (omega arith)

inputs_are_words : HoldsOfInputs AreInputs
unfolding AreInputs
inputs_are_words = record {
  no_input = λ n. none_of IsWord;
  one_input = λ f g n. All-cons IsWord ((f n).value % modulus) [] (mod_word (f n).value) (none_of IsWord);
  more_inputs = λ f f' g g' hf hg n. All-append IsWord (f n).value (g (n + length (f n).calls)).value (hf n) (hg (n + length (f n).calls));
}

InRange : ℕ → Option ℕ → Type 0
InRange n None = Unit {0}
InRange n (Some k) = k < n

next_in_range : (test : Bool) (found : Option ℕ) (n : ℕ) → InRange n found → InRange (suc n) (if test then Some 0 else option_map suc found)
unfolding InRange
next_in_range true found n h = omega arith
next_in_range false None n h = tt
next_in_range false (Some k) n h = omega arith

number_in_range : (gadgets : List Declaration) (name : List ℕ) → InRange (length gadgets) (gadget_number gadgets name)
unfolding InRange
number_in_range [] name = tt
number_in_range (decl ∷ more) name =
    next_in_range (bytes_eq decl.name name) (gadget_number more name) (length more) (number_in_range more name)

or_zero : (n : ℕ) (found : Option ℕ) → InRange n found → 1 ≤ n → unwrap_or found 0 < n
unfolding InRange
or_zero n None h some = some
or_zero n (Some k) h some = h

WellCalls : (body : Program) → (A : Type 0) → Run A → Run A → Type 0
WellCalls body A f g = (n : ℕ) → All (IsCall body) (f n).calls

WellCall : (body : Program) → ℕ → Run (List ℕ) → Run (List ℕ) → Type 0
WellCall body gadget f g = (n : ℕ) → IsCall body (record { gadget = gadget; inputs = (f n).value })

well_calls : (body : Program) (w : Reading) → Passes w w (WellCalls body) (WellCall body)
unfolding WellCalls WellCall
well_calls body w = record {
  alike = λ A value n. none_of (IsCall body);
  joint_word = λ k n. none_of (IsCall body);
  meas_word = λ k n. none_of (IsCall body);
  after_change = λ A B change f g h n. h n;
  after_unit = λ f g h n. h n;
  in_order = λ A B C join f f' g g' hf hg n. All-append (IsCall body) (f n).calls (g (n + length (f n).calls)).calls (hf n) (hg (n + length (f n).calls));
  after_call = λ gadget f g some h n.
      All-append (IsCall body) (f n).calls (record { gadget = gadget; inputs = (f n).value } ∷ []) (h n)
      (All-cons (IsCall body) (record { gadget = gadget; inputs = (f n).value }) [] (some n) (none_of (IsCall body)));
}

pub calls_are_well : (body : Program) (reading : Reading) → All (IsCall body) (calls_of body reading)
unfolding WellCalls WellCall AreInputs
calls_are_well body w =
    circuit_passes body.gadgets w w (WellCalls body) (WellCall body) (well_calls body w)
    (λ scope name args n.
    record {
      known = or_zero (length body.gadgets) (gadget_number body.gadgets name) (number_in_range body.gadgets name);
      words = inputs_hold body.gadgets w w AreInputs inputs_are_words scope args n;
    })
    body.stmts 0

-- ---- the numbers of the calls of one gadget

gadgets_in : List Call → List ℕ
gadgets_in calls = map (λ (call : Call). call.gadget) calls

-- where a call stands among those of its gadget, when so many of these were among the calls up to it
Stands : (found : ℕ) (calls : List Call) (none call : Call) → Type 0
Stands found calls none call = (1 ≤ found) × (found ≤ length calls) × (get_or calls (found - 1) none ≡ call)

stands_later : (test : Bool) (first none call : Call) (gadgets : List ℕ) (calls : List Call) → Stands (length gadgets) calls none call
    → Stands (length (cond test (first.gadget ∷ gadgets) gadgets)) (cond test (first ∷ calls) calls) none call
unfolding Stands
stands_later true first none call gadgets calls h =
    let back : suc (length gadgets) - 1 ≡ suc (length gadgets - 1) = omega arith in
    (omega arith, omega arith, ap (λ k. get_or (first ∷ calls) k none) back ∙ h.2)
stands_later false first none call gadgets calls h = h

stands_first : (test : Bool) (first none : Call) (calls : List Call) → test ≡ true
    → Stands (length (cond test (first.gadget ∷ []) [])) (cond test (first ∷ calls) calls) none first
unfolding Stands
stands_first true first none calls is = (omega arith, omega arith, refl)
stands_first false first none calls is = absurd (false≢true is)

stands : (gadget : ℕ) (calls : List Call) (n : ℕ) (none : Call) → n < length calls → (get_or calls n none).gadget ≡ gadget
    → Stands (times gadget (take (suc n) (gadgets_in calls))) (calls_to gadget calls) none (get_or calls n none)
unfolding gadgets_in
stands gadget [] n none low is = absurd (omega arith)
stands gadget (call ∷ calls) zero none low is =
    stands_first (eqb call.gadget gadget) call none (calls_to gadget calls)
    (subst (λ k. eqb call.gadget k ≡ true) is (eq-eqb call.gadget call.gadget refl))
stands gadget (call ∷ calls) (suc n) none low is =
    stands_later (eqb call.gadget gadget) call none (get_or calls n none)
    (filter (λ other. eqb other gadget) (take (suc n) (gadgets_in calls))) (calls_to gadget calls)
    (stands gadget calls n none (omega arith) is)

-- the call with this number among all is the call with its number among those of its gadget
pub record IsNumbered (body : Program) (reading : Reading) (place : ℕ) (none : Call) : Type 0 where
  pub from_one : 1 ≤ call_number body place
  pub up_to_all : call_number body place ≤ calls_made body (call_gadget body place)
  pub same_gadget : (get_or (calls_of body reading) place none).gadget ≡ call_gadget body place
  pub same_call :
      get_or (calls_to (call_gadget body place) (calls_of body reading)) (call_number body place - 1) none
      ≡ get_or (calls_of body reading) place none

pub calls_are_numbered : (body : Program) (reading : Reading) (place : ℕ) (none : Call) → place < call_count body
    → IsNumbered body reading place none
unfolding Stands gadgets_in
calls_are_numbered body reading place none low =
    let calls : List Call = calls_of body reading in
    let fixed : gadgets_in calls ≡ gadgets_called body = gadgets_are_fixed body reading in
    let size : length calls ≡ call_count body = sym (length-map calls (λ (call : Call). call.gadget)) ∙ ap (λ (l : List ℕ). length l) fixed in
    let below : place < length calls = omega arith in
    let own : (get_or calls place none).gadget ≡ call_gadget body place =
    sym (get_or-map (λ (call : Call). call.gadget) calls place none 0 below) ∙ ap (λ l. slice_index l place) fixed in
    let next : suc place ≡ place + 1 = omega arith in
    let h : Stands (call_number body place) (calls_to (call_gadget body place) calls) none (get_or calls place none) =
    subst (λ l. Stands (times (call_gadget body place) (take (place + 1) l)) (calls_to (call_gadget body place) calls) none (get_or calls place none)) fixed
    (subst (λ k. Stands (times (call_gadget body place) (take k (gadgets_in calls))) (calls_to (call_gadget body place) calls) none (get_or calls place none)) next
    (stands (call_gadget body place) calls place none below own)) in
    record {
      from_one = h.0;
      up_to_all = subst (λ k. call_number body place ≤ k) (calls_are_fixed body reading (call_gadget body place)) h.1;
      same_gadget = own;
      same_call = h.2;
    }
