-- No input has two replies of `trial`.
use Rattle.std.proofs.Common.{◌≡◌, ℕ, List, Option, Some, None, sym, ap, subst, ◌∙◌}
use Rattle.flp_syntax.specs.Tree.{Program}
use Rattle.flp_report.specs.declared.fault.BatchFault.{BatchFault}
use Rattle.flp_load.specs.Laws as load
use Rattle.flp_batch.specs.declared.fault.EngineFault.TheVariants.{Memory, Read, Write, Batch, Circuit}
use Rattle.flp_lengths.specs.Reading.{judged_text}
use Rattle.flp_trial.specs.Text.{trial_text}
use Rattle.flp_trial.specs.Reply.{size_fault, IsTooLarge}
use Rattle.flp_trial.specs.Laws.{OneTrial, OneFault, NeverBoth}

pub one_trial : load.OneCircuit → OneTrial
one_trial one seed reports bytes text other p q =
    let same = one (judged_text bytes) p.params q.params p.circuit q.circuit p.loaded q.loaded in
    p.made ∙ ((λ i. trial_text (same.0 i) (same.1 i) seed reports) ∙ sym q.made)

-- the size of a batch, with the circuit that its text is loaded as elsewhere
large_with : load.OneCircuit → (reports : ℕ) (bytes : List ℕ) (fault : BatchFault) (q : IsTooLarge reports bytes fault) (circuit : Program) → q.circuit ≡ circuit
    → size_fault circuit (judged_text bytes) reports ≡ Some fault
large_with one reports bytes fault q circuit same = subst (λ (c : Program). size_fault c (judged_text bytes) reports ≡ Some fault) same q.large

no-some : {A : Type 0} (a : A) → None ≡ Some a → ⊥
no-some a none = cc

same-some : {A : Type 0} (o : Option A) (a b : A) → o ≡ Some a → o ≡ Some b → a ≡ b
same-some o a b p q = let same : Some a ≡ Some b = sym p ∙ q in cc

pub one_fault : load.OneCircuit → load.OneFault → load.NeverBoth → OneFault
one_fault circuits faults never reports bytes (Circuit f) (Circuit g) p q = ap Circuit (faults (judged_text bytes) f g p q)
one_fault circuits faults never reports bytes (Circuit f) (Batch g) p q = absurd (never (judged_text bytes) q.params q.circuit f q.loaded p)
one_fault circuits faults never reports bytes (Circuit f) Memory p q = absurd q
one_fault circuits faults never reports bytes (Circuit f) Read p q = absurd q
one_fault circuits faults never reports bytes (Circuit f) Write p q = absurd q
one_fault circuits faults never reports bytes (Batch f) (Circuit g) p q = absurd (never (judged_text bytes) p.params p.circuit g p.loaded q)
one_fault circuits faults never reports bytes (Batch f) (Batch g) p q =
    let same = (circuits (judged_text bytes) q.params p.params q.circuit p.circuit q.loaded p.loaded).1 in
    ap Batch (same-some (size_fault p.circuit (judged_text bytes) reports) f g p.large (large_with circuits reports bytes g q p.circuit same))
one_fault circuits faults never reports bytes (Batch f) Memory p q = absurd q
one_fault circuits faults never reports bytes (Batch f) Read p q = absurd q
one_fault circuits faults never reports bytes (Batch f) Write p q = absurd q
one_fault circuits faults never reports bytes Memory other p q = absurd p
one_fault circuits faults never reports bytes Read other p q = absurd p
one_fault circuits faults never reports bytes Write other p q = absurd p

pub never_both : load.OneCircuit → load.NeverBoth → NeverBoth
never_both circuits never seed reports bytes text (Circuit f) p q = never (judged_text bytes) p.params p.circuit f p.loaded q
never_both circuits never seed reports bytes text (Batch f) p q =
    let same = (circuits (judged_text bytes) q.params p.params q.circuit p.circuit q.loaded p.loaded).1 in
    no-some f (sym p.fits ∙ large_with circuits reports bytes f q p.circuit same)
never_both circuits never seed reports bytes text Memory p q = q
never_both circuits never seed reports bytes text Read p q = q
never_both circuits never seed reports bytes text Write p q = q
