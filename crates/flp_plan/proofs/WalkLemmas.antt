-- What a walk that ends without a fault says of the events on its way: each count is that of its events.
use Rattle.std.proofs.Common.{◌≡◌, ◌≢◌, ℕ, zero, suc, ◌+◌, ◌<◌, Bool, true, false, List, [], ◌∷◌, ◌++◌, length, Result, Ok, Err, get_or, set, ◌⊎◌, inl, inr, refl, sym, ◌∙◌, ap, arith, nat_lt, if◌then◌else◌, ◌==◌, subst}
use Rattle.flp_syntax.specs.declared.fault.LangFault.{LangFault}
use Rattle.flp_check.specs.Events.{Event, visit, bad_index, bad_arity, gadget_call, a_check, an_out}
use Rattle.std.proofs.lemmas.Bool.Decides.{eqb_tells}
use Rattle.flp_check.specs.Counts.{Counts, go_on, walk}

-- how many events are visits, calls of a gadget, checks and outs
abbrev pub visits_in : List Event → ℕ
visits_in [] = 0
visits_in (visit ∷ more) = suc (visits_in more)
visits_in (bad_index at ∷ more) = visits_in more
visits_in (bad_arity at ∷ more) = visits_in more
visits_in (gadget_call gadget ∷ more) = visits_in more
visits_in (a_check ∷ more) = visits_in more
visits_in (an_out ∷ more) = visits_in more

abbrev pub calls_in : ℕ → List Event → ℕ
calls_in g [] = 0
calls_in g (visit ∷ more) = calls_in g more
calls_in g (bad_index at ∷ more) = calls_in g more
calls_in g (bad_arity at ∷ more) = calls_in g more
calls_in g (gadget_call gadget ∷ more) = (if gadget == g then 1 else 0) + calls_in g more
calls_in g (a_check ∷ more) = calls_in g more
calls_in g (an_out ∷ more) = calls_in g more

abbrev pub checks_in : List Event → ℕ
checks_in [] = 0
checks_in (visit ∷ more) = checks_in more
checks_in (bad_index at ∷ more) = checks_in more
checks_in (bad_arity at ∷ more) = checks_in more
checks_in (gadget_call gadget ∷ more) = checks_in more
checks_in (a_check ∷ more) = suc (checks_in more)
checks_in (an_out ∷ more) = checks_in more

abbrev pub outs_in : List Event → ℕ
outs_in [] = 0
outs_in (visit ∷ more) = outs_in more
outs_in (bad_index at ∷ more) = outs_in more
outs_in (bad_arity at ∷ more) = outs_in more
outs_in (gadget_call gadget ∷ more) = outs_in more
outs_in (a_check ∷ more) = outs_in more
outs_in (an_out ∷ more) = suc (outs_in more)

-- ---- a walk

-- the events led from counts to counts
pub record Met (before after : Counts) (events : List Event) : Type 0 where
  pub gadgets : length after.calls ≡ length before.calls
  pub visits : after.visits ≡ before.visits + visits_in events
  pub calls : (g : ℕ) → g < length before.calls → get_or after.calls g 0 ≡ get_or before.calls g 0 + calls_in g events
  pub checks : after.checks ≡ before.checks + checks_in events
  pub outs : after.outs ≡ before.outs + outs_in events

-- where a walk goes on behind a test, the test held
passed_test : (test : Bool) (counts : Counts) (fault : LangFault) (next : Counts → Result Counts LangFault) (after : Counts)
    → go_on (if test then Ok counts else Err fault) next ≡ Ok after → (test ≡ true) × (next counts ≡ Ok after)
passed_test true counts fault next after e = (refl, e)
passed_test false counts fault next after e = cc

differ : (a b : ℕ) → (a < b) ⊎ (b < a) → (a == b) ≡ false
differ a b apart = elim (eqb_tells a b) [ inl same ↦ absurd (no apart same.1) | inr other ↦ other.0 ] where
  no : (a < b) ⊎ (b < a) → a ≡ b → ⊥
  no (inl less) same = omega arith
  no (inr less) same = omega arith

-- the test of two numbers is that of the next ones
eqb-suc : (a b : ℕ) → (suc a == suc b) ≡ (a == b)
eqb-suc a b = both (a == b) (suc a == suc b) (eqb_tells a b) (eqb_tells (suc a) (suc b)) where
  both : (one two : Bool) → ((one ≡ true) × (a ≡ b)) ⊎ ((one ≡ false) × (a ≢ b))
      → ((two ≡ true) × (suc a ≡ suc b)) ⊎ ((two ≡ false) × (suc a ≢ suc b)) → two ≡ one
  both one two (inl same) (inl after) = after.0 ∙ sym same.0
  both one two (inl same) (inr after) = absurd (after.1 (ap suc same.1))
  both one two (inr other) (inl after) = absurd (other.1 (omega (arith, after.1)))
  both one two (inr other) (inr after) = after.0 ∙ sym other.0

same_plus : (test : Bool) → test ≡ false → (x : ℕ) → x ≡ x + (if test then 1 else 0)
same_plus true e x = cc
same_plus false e x = omega arith

one_more : (calls : List ℕ) (gadget g : ℕ) → g < length calls
    → get_or (set calls gadget (suc (get_or calls gadget 0))) g 0 ≡ get_or calls g 0 + (if gadget == g then 1 else 0)
one_more [] gadget g h = absurd (omega arith)
one_more (c ∷ calls) zero zero h = omega arith
one_more (c ∷ calls) zero (suc g) h = same_plus (0 == suc g) (differ 0 (suc g) (inl (omega arith))) (get_or calls g 0)
one_more (c ∷ calls) (suc gadget) zero h = same_plus (suc gadget == 0) (differ (suc gadget) 0 (inr (omega arith))) c
one_more (c ∷ calls) (suc gadget) (suc g) h =
    one_more calls gadget g (omega arith)
    ∙ ap (λ (b : Bool). get_or calls g 0 + (if b then 1 else 0)) (sym (eqb-suc gadget g))

length_set : (calls : List ℕ) (gadget value : ℕ) → length (set calls gadget value) ≡ length calls
length_set [] gadget value = refl
length_set (c ∷ calls) zero value = refl
length_set (c ∷ calls) (suc gadget) value = ap suc (length_set calls gadget value)

pub met : (before : Counts) (events : List Event) (after : Counts) → walk before events ≡ Ok after → Met before after events
met before [] after e =
    let same : before ≡ after = cc in
    subst (λ (c : Counts). Met before c []) same (record {
      gadgets = refl;
      visits = omega arith;
      calls = λ g h. omega arith;
      checks = omega arith;
      outs = omega arith;
    })
met before (visit ∷ more) after e =
    let next : Counts = record before { visits = suc before.visits } in
    let test : (nat_lt before.visits 4194304 ≡ true) × (walk next more ≡ Ok after) = passed_test _ _ _ _ after e in
    let rest = met next more after test.1 in
    record { gadgets = rest.gadgets; visits = omega (arith, rest.visits); calls = rest.calls; checks = rest.checks; outs = rest.outs }
met before (bad_index at ∷ more) after e = cc
met before (bad_arity at ∷ more) after e = cc
met before (gadget_call gadget ∷ more) after e =
    let next : Counts = record before { calls = set before.calls gadget (suc (get_or before.calls gadget 0)) } in
    let test : (nat_lt (get_or before.calls gadget 0) 4095 ≡ true) × (walk next more ≡ Ok after) = passed_test _ _ _ _ after e in
    let rest = met next more after test.1 in
    record {
      gadgets = rest.gadgets ∙ length_set before.calls gadget _;
      visits = rest.visits;
      calls = λ g h.
          let there : g < length next.calls = omega (arith, length_set before.calls gadget (suc (get_or before.calls gadget 0))) in
          let step : get_or next.calls g 0 ≡ get_or before.calls g 0 + (if gadget == g then 1 else 0) = one_more before.calls gadget g h in
          let behind : get_or after.calls g 0 ≡ get_or next.calls g 0 + calls_in g more = rest.calls g there in
          omega arith;
      checks = rest.checks;
      outs = rest.outs;
    }
met before (a_check ∷ more) after e =
    let next : Counts = record before { checks = suc before.checks } in
    let test : (nat_lt before.checks 65536 ≡ true) × (walk next more ≡ Ok after) = passed_test _ _ _ _ after e in
    let rest = met next more after test.1 in
    record { gadgets = rest.gadgets; visits = rest.visits; calls = rest.calls; checks = omega (arith, rest.checks); outs = rest.outs }
met before (an_out ∷ more) after e =
    let next : Counts = record before { outs = suc before.outs } in
    let test : (nat_lt before.outs 65536 ≡ true) × (walk next more ≡ Ok after) = passed_test _ _ _ _ after e in
    let rest = met next more after test.1 in
    record { gadgets = rest.gadgets; visits = rest.visits; calls = rest.calls; checks = rest.checks; outs = omega (arith, rest.outs) }

-- ---- events that are no calls, no checks and no outs

abbrev pub IsSilent : List Event → Type 0
IsSilent [] = Unit {0}
IsSilent (visit ∷ more) = IsSilent more
IsSilent (bad_index at ∷ more) = IsSilent more
IsSilent (bad_arity at ∷ more) = IsSilent more
IsSilent (gadget_call gadget ∷ more) = ⊥
IsSilent (a_check ∷ more) = ⊥
IsSilent (an_out ∷ more) = ⊥

-- events that are no checks and no outs
abbrev pub IsQuiet : List Event → Type 0
IsQuiet [] = Unit {0}
IsQuiet (visit ∷ more) = IsQuiet more
IsQuiet (bad_index at ∷ more) = IsQuiet more
IsQuiet (bad_arity at ∷ more) = IsQuiet more
IsQuiet (gadget_call gadget ∷ more) = IsQuiet more
IsQuiet (a_check ∷ more) = ⊥
IsQuiet (an_out ∷ more) = ⊥

pub silent_joined : (xs ys : List Event) → IsSilent xs → IsSilent ys → IsSilent (xs ++ ys)
silent_joined [] ys a b = b
silent_joined (visit ∷ xs) ys a b = silent_joined xs ys a b
silent_joined (bad_index at ∷ xs) ys a b = silent_joined xs ys a b
silent_joined (bad_arity at ∷ xs) ys a b = silent_joined xs ys a b
silent_joined (gadget_call g ∷ xs) ys a b = absurd a
silent_joined (a_check ∷ xs) ys a b = absurd a
silent_joined (an_out ∷ xs) ys a b = absurd a

pub quiet_joined : (xs ys : List Event) → IsQuiet xs → IsQuiet ys → IsQuiet (xs ++ ys)
quiet_joined [] ys a b = b
quiet_joined (visit ∷ xs) ys a b = quiet_joined xs ys a b
quiet_joined (bad_index at ∷ xs) ys a b = quiet_joined xs ys a b
quiet_joined (bad_arity at ∷ xs) ys a b = quiet_joined xs ys a b
quiet_joined (gadget_call g ∷ xs) ys a b = quiet_joined xs ys a b
quiet_joined (a_check ∷ xs) ys a b = absurd a
quiet_joined (an_out ∷ xs) ys a b = absurd a

pub silent_quiet : (xs : List Event) → IsSilent xs → IsQuiet xs
silent_quiet [] a = tt
silent_quiet (visit ∷ xs) a = silent_quiet xs a
silent_quiet (bad_index at ∷ xs) a = silent_quiet xs a
silent_quiet (bad_arity at ∷ xs) a = silent_quiet xs a
silent_quiet (gadget_call g ∷ xs) a = absurd a
silent_quiet (a_check ∷ xs) a = absurd a
silent_quiet (an_out ∷ xs) a = absurd a

pub silent_calls : (xs : List Event) → IsSilent xs → (g : ℕ) → calls_in g xs ≡ 0
silent_calls [] a g = refl
silent_calls (visit ∷ xs) a g = silent_calls xs a g
silent_calls (bad_index at ∷ xs) a g = silent_calls xs a g
silent_calls (bad_arity at ∷ xs) a g = silent_calls xs a g
silent_calls (gadget_call gadget ∷ xs) a g = absurd a
silent_calls (a_check ∷ xs) a g = absurd a
silent_calls (an_out ∷ xs) a g = absurd a

pub quiet_checks : (xs : List Event) → IsQuiet xs → checks_in xs ≡ 0
quiet_checks [] a = refl
quiet_checks (visit ∷ xs) a = quiet_checks xs a
quiet_checks (bad_index at ∷ xs) a = quiet_checks xs a
quiet_checks (bad_arity at ∷ xs) a = quiet_checks xs a
quiet_checks (gadget_call g ∷ xs) a = quiet_checks xs a
quiet_checks (a_check ∷ xs) a = absurd a
quiet_checks (an_out ∷ xs) a = absurd a

pub quiet_outs : (xs : List Event) → IsQuiet xs → outs_in xs ≡ 0
quiet_outs [] a = refl
quiet_outs (visit ∷ xs) a = quiet_outs xs a
quiet_outs (bad_index at ∷ xs) a = quiet_outs xs a
quiet_outs (bad_arity at ∷ xs) a = quiet_outs xs a
quiet_outs (gadget_call g ∷ xs) a = quiet_outs xs a
quiet_outs (a_check ∷ xs) a = absurd a
quiet_outs (an_out ∷ xs) a = absurd a

-- ---- events one after another

pub visits_joined : (xs ys : List Event) → visits_in (xs ++ ys) ≡ visits_in xs + visits_in ys
visits_joined [] ys = omega arith
visits_joined (visit ∷ xs) ys = let more = visits_joined xs ys in omega arith
visits_joined (bad_index at ∷ xs) ys = visits_joined xs ys
visits_joined (bad_arity at ∷ xs) ys = visits_joined xs ys
visits_joined (gadget_call g ∷ xs) ys = visits_joined xs ys
visits_joined (a_check ∷ xs) ys = visits_joined xs ys
visits_joined (an_out ∷ xs) ys = visits_joined xs ys

pub calls_joined : (g : ℕ) (xs ys : List Event) → calls_in g (xs ++ ys) ≡ calls_in g xs + calls_in g ys
calls_joined g [] ys = omega arith
calls_joined g (visit ∷ xs) ys = calls_joined g xs ys
calls_joined g (bad_index at ∷ xs) ys = calls_joined g xs ys
calls_joined g (bad_arity at ∷ xs) ys = calls_joined g xs ys
calls_joined g (gadget_call gadget ∷ xs) ys = let more = calls_joined g xs ys in omega arith
calls_joined g (a_check ∷ xs) ys = calls_joined g xs ys
calls_joined g (an_out ∷ xs) ys = calls_joined g xs ys

pub checks_joined : (xs ys : List Event) → checks_in (xs ++ ys) ≡ checks_in xs + checks_in ys
checks_joined [] ys = omega arith
checks_joined (visit ∷ xs) ys = checks_joined xs ys
checks_joined (bad_index at ∷ xs) ys = checks_joined xs ys
checks_joined (bad_arity at ∷ xs) ys = checks_joined xs ys
checks_joined (gadget_call g ∷ xs) ys = checks_joined xs ys
checks_joined (a_check ∷ xs) ys = let more = checks_joined xs ys in omega arith
checks_joined (an_out ∷ xs) ys = checks_joined xs ys

pub outs_joined : (xs ys : List Event) → outs_in (xs ++ ys) ≡ outs_in xs + outs_in ys
outs_joined [] ys = omega arith
outs_joined (visit ∷ xs) ys = outs_joined xs ys
outs_joined (bad_index at ∷ xs) ys = outs_joined xs ys
outs_joined (bad_arity at ∷ xs) ys = outs_joined xs ys
outs_joined (gadget_call g ∷ xs) ys = outs_joined xs ys
outs_joined (a_check ∷ xs) ys = outs_joined xs ys
outs_joined (an_out ∷ xs) ys = let more = outs_joined xs ys in omega arith
