-- No file has two answers.
use Rattle.std.proofs.Common.{◌≡◌, List, ℕ, Option, Some, None, inl, inr, sym, ap, subst, ◌∙◌}
use Rattle.flp_syntax.specs.declared.syntax.Params.{Params}
use Rattle.flp_load.specs.declared.fault.CircuitFault.{CircuitFault}
use Rattle.flp_load.specs.Laws.{OneCircuit, OneFault, NeverBoth}
use Rattle.flp_report.specs.declared.fault.BatchFault.{BatchFault}
use Rattle.flp_report.specs.Batch.{header_of}
use Rattle.flp_report.specs.Job.{job_header_of}
use Rattle.flp_batch.specs.declared.fault.EngineFault.{EngineFault}
use Rattle.flp_batch.specs.declared.fault.EngineFault.TheVariants.{Memory, Read, Write, Batch, Circuit}
use Rattle.flp_batch.specs.Format.{Format, batches, job_files, fault_of_head, SettingOf, circuit_in, FitsSetting, layout_fault}
use Rattle.flp_batch.specs.File.{text_in, HasSetting, IsFile, IsTextFault, IsFaultBehind, IsFault}
use Rattle.flp_batch.proofs.ShapeLemmas.{one_shape, one_job_shape}

-- bytes and the circuit of their text give one setting
one_fit : (format : Format) (bytes : List ℕ) (params others : Option Params) (setting other : SettingOf format) → params ≡ others → circuit_in format setting ≡ circuit_in format other
    → FitsSetting format bytes params setting → FitsSetting format bytes others other → setting ≡ other
one_fit (batches party) bytes params others setting other same circuit p q =
    let shape = one_shape (header_of bytes) setting.circuit other.circuit setting.shape other.shape circuit p.shape q.shape in
    let names = p.params_are ∙ (same ∙ sym q.params_are) in
    let claims = sym p.claims ∙ q.claims in
    λ i. record { params = names i; circuit = circuit i; shape = shape i; claims = claims i }
one_fit (job_files writes) bytes params others setting other same circuit p q =
    let shape = one_job_shape writes (job_header_of bytes) params others setting.circuit other.circuit setting.shape other.shape same circuit p.shape q.shape in
    let names = p.params_are ∙ (same ∙ sym q.params_are) in
    λ i. record { params = names i; circuit = circuit i; shape = shape i }

-- a file has one setting
pub one_setting : OneCircuit → (format : Format) (bytes : List ℕ) (params others : Option Params) (setting other : SettingOf format)
    → HasSetting format bytes params setting → HasSetting format bytes others other → (params ≡ others) × (setting ≡ other)
one_setting one format bytes params others setting other p q =
    let text = one (text_in format bytes) params others (circuit_in format setting) (circuit_in format other) p.text q.text in
    (text.0, one_fit format bytes params others setting other text.0 text.1 p.fits q.fits)

no-some : {A : Type 0} (a : A) → None ≡ Some a → ⊥
no-some a none = cc

-- two faults of which one is found are one
same-some : {A : Type 0} (o : Option A) (a b : A) → o ≡ Some a → o ≡ Some b → a ≡ b
same-some o a b p q = let same : Some a ≡ Some b = sym p ∙ q in cc

-- a head with a fault has no setting
head-none : (format : Format) (bytes : List ℕ) (params : Option Params) (setting : SettingOf format) (b : BatchFault) → HasSetting format bytes params setting → fault_of_head format bytes ≡ Some b → ⊥
head-none format bytes params setting b has is = no-some b (sym has.head ∙ is)

-- the fault behind a text, with any setting of the file
fault-with : OneCircuit → (format : Format) (bytes : List ℕ) (params : Option Params) (setting : SettingOf format) (b : BatchFault)
    → HasSetting format bytes params setting → IsFaultBehind format bytes b → layout_fault format setting bytes ≡ Some b
fault-with one format bytes params setting b has f =
    let same = (one_setting one format bytes f.params params f.setting setting f.has has).1 in
    let P : SettingOf format → Type 0 = λ s. layout_fault format s bytes ≡ Some b in
    subst P same f.is

-- a text with a fault is no circuit's
text-apart : NeverBoth → (format : Format) (bytes : List ℕ) (params : Option Params) (setting : SettingOf format) (c : CircuitFault) → HasSetting format bytes params setting → IsTextFault format bytes c → ⊥
text-apart never format bytes params setting c has f = never (text_in format bytes) params (circuit_in format setting) c has.text f.text

pub never_both : OneCircuit → NeverBoth → (format : Format) (bytes : List ℕ) (params : Option Params) (setting : SettingOf format) (fault : EngineFault)
    → IsFile format bytes params setting → IsFault format bytes fault → ⊥
never_both one never format bytes params setting Memory p q = q
never_both one never format bytes params setting Read p q = q
never_both one never format bytes params setting Write p q = q
never_both one never format bytes params setting (Circuit fault) p q = text-apart never format bytes params setting fault p.has q
never_both one never format bytes params setting (Batch b) p (inl head) = head-none format bytes params setting b p.has head
never_both one never format bytes params setting (Batch b) p (inr f) = no-some b (sym p.no_fault ∙ fault-with one format bytes params setting b p.has f)

one_layout : OneCircuit → (format : Format) (bytes : List ℕ) (a b : BatchFault) → IsFault format bytes (Batch a) → IsFault format bytes (Batch b) → a ≡ b
one_layout one format bytes a b (inl p) (inl q) = same-some (fault_of_head format bytes) a b p q
one_layout one format bytes a b (inl p) (inr q) = absurd (head-none format bytes q.params q.setting a q.has p)
one_layout one format bytes a b (inr p) (inl q) = absurd (head-none format bytes p.params p.setting b p.has q)
one_layout one format bytes a b (inr p) (inr q) =
    same-some (layout_fault format p.setting bytes) a b p.is (fault-with one format bytes p.params p.setting b p.has q)

-- a fault of the layout is none of the text
apart : NeverBoth → (format : Format) (bytes : List ℕ) (a : BatchFault) (c : CircuitFault) → IsFault format bytes (Batch a) → IsTextFault format bytes c → ⊥
apart never format bytes a c (inl p) q = no-some a (sym q.head ∙ p)
apart never format bytes a c (inr f) q = text-apart never format bytes f.params f.setting c f.has q

pub one_fault : OneCircuit → OneFault → NeverBoth → (format : Format) (bytes : List ℕ) (fault other : EngineFault) → IsFault format bytes fault → IsFault format bytes other → fault ≡ other
one_fault one first never format bytes Memory other p q = absurd p
one_fault one first never format bytes Read other p q = absurd p
one_fault one first never format bytes Write other p q = absurd p
one_fault one first never format bytes (Batch a) Memory p q = absurd q
one_fault one first never format bytes (Batch a) Read p q = absurd q
one_fault one first never format bytes (Batch a) Write p q = absurd q
one_fault one first never format bytes (Batch a) (Batch b) p q = ap Batch (one_layout one format bytes a b p q)
one_fault one first never format bytes (Batch a) (Circuit c) p q = absurd (apart never format bytes a c p q)
one_fault one first never format bytes (Circuit c) Memory p q = absurd q
one_fault one first never format bytes (Circuit c) Read p q = absurd q
one_fault one first never format bytes (Circuit c) Write p q = absurd q
one_fault one first never format bytes (Circuit c) (Batch b) p q = absurd (apart never format bytes b c q p)
one_fault one first never format bytes (Circuit c) (Circuit d) p q = ap Circuit (first (text_in format bytes) c d p.text q.text)
