-- What compiling finds out of a checked circuit. From its gadgets up to its plan.
use Rattle.std.proofs.Common.{◌≡◌, ℕ, zero, suc, ◌+◌, ◌<◌, ◌≤◌, Bool, true, false, List, [], ◌∷◌, ◌++◌, length, map, get_or, Option, Some, None, refl, sym, ◌∙◌, ap, subst, arith, nat_lt, if◌then◌else◌}
use Rattle.std.specs.List.{slice_get}
use Rattle.std.proofs.lemmas.List.{get_or-map}
use Rattle.std.proofs.lemmas.Bool.{lt-ltb, ltb-true}
use Rattle.std.proofs.lemmas.Option.{slice_get-get_or}
use Rattle.flp_gadget.specs.KindTree.{Mul, IsKind}
use Rattle.flp_syntax.specs.declared.syntax.Body.{Body}
use Rattle.flp_syntax.specs.declared.syntax.Decl.{Decl}
use Rattle.flp_syntax.specs.Tree.{Declaration, Program}
use Rattle.flp_syntax.specs.View as view
use Rattle.flp_syntax.specs.View.{program_of, declaration_of}
use Rattle.flp_check.specs.declared.passed.Checked.{Checked}
use Rattle.flp_check.specs.Verdict.{Totals}
use Rattle.flp_meaning.specs.Circuit.{kind_tree, kind_of}
use Rattle.flp_meaning.specs.Gadgets.{gadgets_called, call_count, call_gadget}
use Rattle.flp_meaning.specs.Terms.{wire_count, term_count}
use Rattle.flp_emit.specs.declared.code.CallForms.{CallForms}
use Rattle.flp_emit.specs.declared.code.Code.{Code}
use Rattle.flp_emit.specs.Code.{Tied}
use Rattle.flp_plan.specs.declared.gadgets.GadgetUse.{GadgetUse}
use Rattle.flp_plan.specs.declared.lengths.Lengths.{Lengths}
use Rattle.flp_plan.specs.declared.fault.PlanFault.{PlanFault}
use Rattle.flp_plan.specs.declared.fault.PlanFault.TheVariants.{Limit}
use Rattle.flp_plan.specs.declared.fault.PlanCounted.TheVariants.{Wires, Terms}
use Rattle.flp_plan.specs.Counted.{most, limit_fault, IsSmallCircuit, counted_lengths}
use Rattle.flp_plan.specs.Limits.{GadgetIsWithin}
use Rattle.flp_plan.specs.Numbers.{gadgets_in, AreNumbers}
use Rattle.flp_plan.specs.Plan.{IsPlanOf}
use Rattle.flp_plan.specs.Uses.{IsUse, AreUsesOf, UseIsSmall}
use Rattle.flp_plan.proofs.FormLemmas.{mapped_length}
use Rattle.flp_plan.proofs.PassedLemmas.{Passed, passed, passed_keeps, passed_limits, passed_gadget, passed_call}
use Rattle.flp_plan.proofs.TiedLemmas.{gadgets_called-code, call_count-code, call_gadget-code}

-- ---- a checked circuit

abbrev pub totals_in : Checked → Totals
totals_in checked = record { calls = checked.calls; checks = checked.checks; outs = checked.outs }

pub passed_in : (checked : Checked) → Passed (program_of checked.body) (totals_in checked)
passed_in checked = passed (program_of checked.body) (totals_in checked) checked.passed

-- the kind of a declared gadget
pub declared_kind_is : (body : Body) (slice : List Decl) (gadget : ℕ) (decl : Decl) → slice ≡ body.gadgets → gadget < length slice
    → decl ≡ get_or slice gadget decl → kind_of (program_of body) gadget ≡ kind_tree (view.kind_of decl.kind)
declared_kind_is body slice gadget decl same below is =
    let declared : List Declaration = map declaration_of slice in
    let size : length declared ≡ length slice = mapped_length declaration_of slice in
    ap (λ (decls : List Decl). get_or (map (λ (d : Declaration). kind_tree d.kind) (map declaration_of decls)) gadget Mul) (sym same)
    ∙ get_or-map (λ (d : Declaration). kind_tree d.kind) declared gadget (declaration_of decl) Mul (omega arith)
    ∙ ap (λ (d : Declaration). kind_tree d.kind) (get_or-map declaration_of slice gadget decl (declaration_of decl) below)
    ∙ ap (λ (d : Decl). kind_tree (view.kind_of d.kind)) (sym is)

pub declared_below : (body : Body) (slice : List Decl) (gadget : ℕ) → slice ≡ body.gadgets → gadget < length slice
    → gadget < length (program_of body).gadgets
declared_below body slice gadget same below =
    let size : length (map declaration_of body.gadgets) ≡ length body.gadgets = mapped_length declaration_of body.gadgets in
    let whole : length slice ≡ length body.gadgets = ap (λ (l : List Decl). length l) same in
    omega arith

-- ---- gadgets one after another

-- what holds of each element of a list and of one more behind it
pub each_pushed : {X : Type 0} (P : ℕ → X → Type 0) (xs : List X) (x : X) → ((k : ℕ) (y : X) → slice_get xs k ≡ Some y → P k y) → P (length xs) x
    → (k : ℕ) (y : X) → slice_get (xs ++ x ∷ []) k ≡ Some y → P k y
each_pushed P [] x all last zero y there = let same : x ≡ y = cc in subst (P 0) same last
each_pushed P [] x all last (suc k) y there = cc
each_pushed P (z ∷ xs) x all last zero y there = all zero y there
each_pushed P (z ∷ xs) x all last (suc k) y there = each_pushed (λ j. P (suc j)) xs x (λ j. all (suc j)) last k y there

pub pushed_length : {X : Type 0} (xs : List X) (x : X) → length (xs ++ x ∷ []) ≡ length xs + 1
pushed_length [] x = omega arith
pushed_length (y ∷ xs) x = let rest : length (xs ++ x ∷ []) ≡ length xs + 1 = pushed_length xs x in omega arith

pub are_small : (body : Program) (totals : Totals) (p : Passed body totals) (uses : List GadgetUse) → AreUsesOf body uses
    → (k : ℕ) (d : GadgetUse) → k < length uses → UseIsSmall (get_or uses k d)
are_small body totals p uses are k d below =
    let held : IsUse body k (get_or uses k d) = are.each k (get_or uses k d) (slice_get-get_or uses k d below) in
    let within : GadgetIsWithin body k = passed_gadget body totals p k (omega (arith, are.count)) in
    record { kind = subst IsKind (sym held.kind) within.kind; log = omega (arith, held.log, within.small_domain) }

-- ---- faults

wires_first : (test : Bool) (value : ℕ) (rest : Option PlanFault) → test ≡ true
    → (if test then Some (Limit Wires value) else rest) ≡ Some (Limit Wires value)
wires_first true value rest e = refl
wires_first false value rest e = cc

pub wires_fault : (body : Program) (value : ℕ) → value ≡ wire_count body → most < value → limit_fault body ≡ Some (Limit Wires value)
wires_fault body value same past =
    let more : most < wire_count body = omega arith in
    wires_first (nat_lt most (wire_count body)) (wire_count body) (if nat_lt most (term_count body) then Some (Limit Terms (term_count body)) else None) (lt-ltb most (wire_count body) more)
    ∙ ap (λ (n : ℕ). Some (Limit Wires n)) (sym same)

not_past : (limit n : ℕ) → n ≤ limit → nat_lt limit n ≡ false
not_past limit n few = by_test (nat_lt limit n) refl where
  by_test : (test : Bool) → nat_lt limit n ≡ test → test ≡ false
  by_test true told = let past : limit < n = ltb-true limit n told in absurd (omega arith)
  by_test false told = refl

else_taken : {A : Type 0} (test : Bool) (one two : A) → test ≡ false → (if test then one else two) ≡ two
else_taken true one two e = cc
else_taken false one two e = refl

then_taken : {A : Type 0} (test : Bool) (one two : A) → test ≡ true → (if test then one else two) ≡ one
then_taken true one two e = refl
then_taken false one two e = cc

pub terms_fault : (body : Program) (value : ℕ) → wire_count body ≤ most → value ≡ term_count body → most < value
    → limit_fault body ≡ Some (Limit Terms value)
terms_fault body value wires same past =
    let more : most < term_count body = omega arith in
    else_taken (nat_lt most (wire_count body)) (Some (Limit Wires (wire_count body)))
    (if nat_lt most (term_count body) then Some (Limit Terms (term_count body)) else None) (not_past most (wire_count body) wires)
    ∙ then_taken (nat_lt most (term_count body)) (Some (Limit Terms (term_count body))) None (lt-ltb most (term_count body) more)
    ∙ ap (λ (n : ℕ). Some (Limit Terms n)) (sym same)

pub no_fault : (body : Program) → IsSmallCircuit body → limit_fault body ≡ None
no_fault body small =
    else_taken (nat_lt most (wire_count body)) (Some (Limit Wires (wire_count body)))
    (if nat_lt most (term_count body) then Some (Limit Terms (term_count body)) else None) (not_past most (wire_count body) small.wires)
    ∙ else_taken (nat_lt most (term_count body)) (Some (Limit Terms (term_count body))) None (not_past most (term_count body) small.terms)

-- ---- the plan

pub calls_within : (checked : Checked) (code : Code) (slice : List CallForms) (gadgets : ℕ) → Tied (program_of checked.body) code
    → slice ≡ code.calls → gadgets ≡ length (program_of checked.body).gadgets
    → (k : ℕ) (d : CallForms) → k < length slice → (get_or slice k d).gadget < gadgets
calls_within checked code slice gadgets tied same count k d below =
    let body : Program = program_of checked.body in
    let calls : call_count body ≡ length code.calls = call_count-code body code tied in
    let whole : length slice ≡ length code.calls = ap (λ (l : List CallForms). length l) same in
    let there : k < call_count body = omega arith in
    let gadget : (get_or slice k d).gadget ≡ call_gadget body k =
    ap (λ (l : List CallForms). (get_or l k d).gadget) same ∙ call_gadget-code body code k d tied there in
    let within : call_gadget body k < length body.gadgets = (passed_call body (totals_in checked) (passed_in checked) k there).gadget in
    omega arith

pub calls_few : (checked : Checked) (code : Code) (slice : List CallForms) → Tied (program_of checked.body) code → slice ≡ code.calls
    → IsSmallCircuit (program_of checked.body) → 1 ≤ length (program_of checked.body).gadgets → length slice ≤ 32760
calls_few checked code slice tied same small some =
    let body : Program = program_of checked.body in
    let calls : call_count body ≡ length code.calls = call_count-code body code tied in
    let whole : length slice ≡ length code.calls = ap (λ (l : List CallForms). length l) same in
    let few : call_count body ≤ 32760 = (passed_limits body (totals_in checked) (passed_in checked) some small.wires small.terms).few_calls in
    omega arith

pub is_plan : (checked : Checked) (code : Code) (slice : List CallForms) (uses : List GadgetUse) (numbers : List ℕ) (lengths : Lengths)
    → Tied (program_of checked.body) code → slice ≡ code.calls → AreUsesOf (program_of checked.body) uses
    → AreNumbers (gadgets_in slice) numbers → lengths ≡ counted_lengths (program_of checked.body) → IsSmallCircuit (program_of checked.body)
    → 1 ≤ length (program_of checked.body).gadgets → IsPlanOf (program_of checked.body) code uses numbers lengths
is_plan checked code slice uses numbers lengths tied same are counted sizes small some =
    let body : Program = program_of checked.body in
    let called : gadgets_in slice ≡ gadgets_called body =
    ap gadgets_in same ∙ sym (gadgets_called-code body code tied) in
    let right : AreNumbers (gadgets_called body) numbers = subst (λ (l : List ℕ). AreNumbers l numbers) called counted in
    record {
      keeps = passed_keeps body (totals_in checked) (passed_in checked);
      limits = passed_limits body (totals_in checked) (passed_in checked) some small.wires small.terms;
      tied = tied;
      uses = are;
      number_count = right.count;
      numbers = right.each;
      lengths = sizes;
    }

-- a checked circuit has a gadget
pub some_gadget_in : (checked : Checked) → 1 ≤ length (program_of checked.body).gadgets
some_gadget_in checked =
    let size : length (map declaration_of checked.body.gadgets) ≡ length checked.body.gadgets = mapped_length declaration_of checked.body.gadgets in
    omega (arith, checked.some_gadget)
