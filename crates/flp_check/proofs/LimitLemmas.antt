-- What is known where limits found no fault.
use Rattle.std.proofs.Common.{◌≡◌, ℕ, zero, suc, ◌≤◌, Bool, true, false, cond, ◌&&◌, leb, List, [], ◌∷◌, ◌++◌, None, Ok, Err, length, set, refl, subst, ◌∙◌, arith}
use Rattle.std.specs.List.{All, flat_map}
use Rattle.std.specs.Prelude.{replicate, slice_index}
use Rattle.std.proofs.Math.ListN.{length-set}
use Rattle.std.proofs.lemmas.Bool.{and_parts, leb-true, ltb-true}
use Rattle.std.proofs.lemmas.List.{length-replicate}
use Rattle.flp_syntax.specs.Tree.{Declaration, Program}
use Rattle.flp_syntax.specs.Scope.{declared_arity, declared_degree}
use Rattle.flp_syntax.specs.declared.fault.LangFault.{LangFault}
use Rattle.flp_syntax.specs.declared.fault.Counted.{Counted}
use Rattle.flp_syntax.specs.declared.fault.Counted.TheVariants as counted
use Rattle.flp_check.specs.Limits.{first, outside, named_count, gadget_faults, declared_faults, uncalled_faults, closing_faults}
use Rattle.flp_check.specs.Events.{Event, visit, bad_index, bad_arity, gadget_call, a_check, an_out}
use Rattle.flp_check.specs.Counts.{Counts, meet, walk, Reaches}
use Rattle.flp_check.specs.Verdict.{no_counts}
use Rattle.flp_check.specs.Within.{DeclarationIsWithin}
use Rattle.flp_check.proofs.Walking.{walk_keeps}
use Rattle.flp_check.proofs.Meeting.{passed}
use Rattle.flp_check.proofs.Clean.{append-none}

test_holds : (b : Bool) (fault : LangFault) → cond b [] (fault ∷ []) ≡ [] → b ≡ true
test_holds true fault h = refl
test_holds false fault h = cc

pub outside_within : (which : Counted) (low high count : ℕ) → outside which low high count ≡ [] → (low ≤ count) × (count ≤ high)
outside_within which low high count h = let both = and_parts (leb low count) (leb count high) (test_holds (leb low count && leb count high) _ h) in (leb-true low count both.0, leb-true count high both.1)

-- what a body declares, where nothing of it is outside its limits
pub record IsDeclared (body : Program) : Type 0 where
  pub meas : (1 ≤ body.meas) × (body.meas ≤ 65536)
  pub joint : (0 ≤ body.joint) × (body.joint ≤ 65536)
  pub gadgets : (0 ≤ length body.gadgets) × (length body.gadgets ≤ 8)
  pub kinds : flat_map gadget_faults body.gadgets ≡ []

pub is_declared : (body : Program) → declared_faults body ≡ [] → IsDeclared body
is_declared body h =
    let meas = append-none (outside counted.Meas 1 65536 body.meas) (outside counted.Joint 0 65536 body.joint ++ (outside counted.Gadgets 0 8 (length body.gadgets) ++ flat_map gadget_faults body.gadgets)) h in
    let joint = append-none (outside counted.Joint 0 65536 body.joint) (outside counted.Gadgets 0 8 (length body.gadgets) ++ flat_map gadget_faults body.gadgets) meas.1 in
    let gadgets = append-none (outside counted.Gadgets 0 8 (length body.gadgets)) (flat_map gadget_faults body.gadgets) joint.1 in
    record {
      meas = outside_within counted.Meas 1 65536 body.meas meas.0;
      joint = outside_within counted.Joint 0 65536 body.joint joint.0;
      gadgets = outside_within counted.Gadgets 0 8 (length body.gadgets) gadgets.0;
      kinds = gadgets.1;
    }

meet_length : (n : ℕ) (a : Counts) (e : Event) (b : Counts) → length a.calls ≡ n → meet a e ≡ Ok b → length b.calls ≡ n
meet_length n a visit b p h = let P : Counts → Type 0 = λ c. length c.calls ≡ n in subst P (passed _ _ b _ h) p
meet_length n a (bad_index at) b p h = cc
meet_length n a (bad_arity at) b p h = cc
meet_length n a (gadget_call g) b p h = let P : Counts → Type 0 = λ c. length c.calls ≡ n in subst P (passed _ _ b _ h) (length-set a.calls g (suc (slice_index a.calls g)) ∙ p)
meet_length n a a_check b p h = let P : Counts → Type 0 = λ c. length c.calls ≡ n in subst P (passed _ _ b _ h) p
meet_length n a an_out b p h = let P : Counts → Type 0 = λ c. length c.calls ≡ n in subst P (passed _ _ b _ h) p

-- calls are counted for each gadget
pub one_each : (p : Program) (es : List Event) (b : Counts) → Reaches (no_counts p) es b → length b.calls ≡ length p.gadgets
one_each p es b h = walk_keeps (λ c. length c.calls ≡ length p.gadgets) (meet_length (length p.gadgets)) es (no_counts p) b (length-replicate (length p.gadgets) 0) h.is

kind_within : (d : Declaration) → gadget_faults d ≡ [] → DeclarationIsWithin d
kind_within d h =
    let both = append-none (outside counted.Arity 1 1024 (named_count (declared_arity d.kind))) (outside counted.Degree 1 8 (named_count (declared_degree d.kind))) h in
    let arity = outside_within counted.Arity 1 1024 (named_count (declared_arity d.kind)) both.0 in
    let degree = outside_within counted.Degree 1 8 (named_count (declared_degree d.kind)) both.1 in
    record {
      some_input = omega arith;
      few_inputs = omega arith;
      some_degree = omega arith;
      low_degree = omega arith;
    }

pub kinds_within : (ds : List Declaration) → flat_map gadget_faults ds ≡ [] → All DeclarationIsWithin ds
kinds_within [] h k e lt = absurd (omega arith)
kinds_within (d ∷ ds) h zero e lt = kind_within d (append-none (gadget_faults d) (flat_map gadget_faults ds) h).0
kinds_within (d ∷ ds) h (suc k) e lt = kinds_within ds (append-none (gadget_faults d) (flat_map gadget_faults ds) h).1 k e (omega arith)

pub no_first : (faults : List LangFault) → first faults ≡ None → faults ≡ []
no_first [] h = refl
no_first (fault ∷ more) h = cc

pub few_gadgets : (body : Program) → first (declared_faults body) ≡ None → length body.gadgets ≤ 8
few_gadgets body h = (is_declared body (no_first (declared_faults body) h)).gadgets.1

-- each number of a list is at most this
abbrev pub AtMost : ℕ → List ℕ → Type 0
AtMost m xs = All (λ x. x ≤ m) xs

set_at_most : (cs : List ℕ) (g v m : ℕ) → v ≤ m → AtMost m cs → AtMost m (set cs g v)
set_at_most [] g v m hv h k d lt = h k d lt
set_at_most (c ∷ cs) zero v m hv h zero d lt = hv
set_at_most (c ∷ cs) zero v m hv h (suc k) d lt = h (suc k) d (omega arith)
set_at_most (c ∷ cs) (suc g) v m hv h zero d lt = h zero d (omega arith)
set_at_most (c ∷ cs) (suc g) v m hv h (suc k) d lt = set_at_most cs g v m hv (λ j e l. h (suc j) e (omega arith)) k d (omega arith)

zeros_at_most : (m n : ℕ) → AtMost m (replicate n 0)
zeros_at_most m zero k d lt = absurd (omega arith)
zeros_at_most m (suc n) zero d lt = omega arith
zeros_at_most m (suc n) (suc k) d lt = zeros_at_most m n k d (omega arith)

-- counts up to their limits
pub record IsCounted (c : Counts) : Type 0 where
  pub visits : c.visits ≤ 4194304
  pub calls : AtMost 4095 c.calls
  pub checks : c.checks ≤ 65536
  pub outs : c.outs ≤ 65536

tested : (t : Bool) (m b : Counts) (fault : LangFault) → cond t (Ok m) (Err fault) ≡ Ok b → t ≡ true
tested true m b fault h = refl
tested false m b fault h = cc

meet_counted : (a : Counts) (e : Event) (b : Counts) → IsCounted a → meet a e ≡ Ok b → IsCounted b
meet_counted a visit b p h = let less = ltb-true a.visits 4194304 (tested _ _ b _ h) in subst IsCounted (passed _ _ b _ h) (record { visits = omega arith; calls = p.calls; checks = p.checks; outs = p.outs })
meet_counted a (bad_index at) b p h = cc
meet_counted a (bad_arity at) b p h = cc
meet_counted a (gadget_call g) b p h = let less = ltb-true (slice_index a.calls g) 4095 (tested _ _ b _ h) in subst IsCounted (passed _ _ b _ h) (record { visits = p.visits; calls = set_at_most a.calls g (suc (slice_index a.calls g)) 4095 (omega arith) p.calls; checks = p.checks; outs = p.outs })
meet_counted a a_check b p h = let less = ltb-true a.checks 65536 (tested _ _ b _ h) in subst IsCounted (passed _ _ b _ h) (record { visits = p.visits; calls = p.calls; checks = omega arith; outs = p.outs })
meet_counted a an_out b p h = let less = ltb-true a.outs 65536 (tested _ _ b _ h) in subst IsCounted (passed _ _ b _ h) (record { visits = p.visits; calls = p.calls; checks = p.checks; outs = omega arith })

pub walk_counted : (p : Program) (es : List Event) (b : Counts) → walk (no_counts p) es ≡ Ok b → IsCounted b
walk_counted p es b h = walk_keeps IsCounted meet_counted es (no_counts p) b (record { visits = omega arith; calls = zeros_at_most 4095 (length p.gadgets); checks = omega arith; outs = omega arith }) h

all_called : (g : ℕ) (cs : List ℕ) → uncalled_faults g cs ≡ [] → All (λ c. 1 ≤ c) cs
all_called g [] h k d lt = absurd (omega arith)
all_called g (zero ∷ cs) h k d lt = cc
all_called g (suc c ∷ cs) h zero d lt = omega arith
all_called g (suc c ∷ cs) h (suc k) d lt = all_called (suc g) cs h k d (omega arith)

-- what was counted, where nothing is missing at the end
pub record IsClosed (calls : List ℕ) (checks outs : ℕ) : Type 0 where
  pub calls_made : All (λ c. 1 ≤ c) calls
  pub checks_made : (1 ≤ checks) × (checks ≤ 65536)
  pub outs_made : (1 ≤ outs) × (outs ≤ 65536)

pub is_closed : (calls : List ℕ) (checks outs : ℕ) → closing_faults calls checks outs ≡ [] → IsClosed calls checks outs
is_closed calls checks outs h =
    let all = append-none (uncalled_faults 0 calls) (outside counted.Checks 1 65536 checks ++ outside counted.Outs 1 65536 outs) h in
    let lines = append-none (outside counted.Checks 1 65536 checks) (outside counted.Outs 1 65536 outs) all.1 in
    record {
      calls_made = all_called 0 calls all.0;
      checks_made = outside_within counted.Checks 1 65536 checks lines.0;
      outs_made = outside_within counted.Outs 1 65536 outs lines.1;
    }
