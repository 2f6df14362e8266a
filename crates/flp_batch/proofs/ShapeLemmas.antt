-- A file's header and its circuit give one shape.
use Rattle.std.proofs.Common.{◌≡◌, ℕ, ◌≤◌, Bool, Option, sym, ap, subst, ◌∙◌}
use Rattle.std.proofs.Math.Bridge.{le_prop}
use Rattle.flp_syntax.specs.declared.syntax.Params.{Params}
use Rattle.flp_syntax.specs.Tree.{Program}
use Rattle.flp_plan.specs.Counted.{counted_lengths}
use Rattle.flp_report.specs.declared.header.Header.{Header}
use Rattle.flp_report.specs.declared.header.JobHeader.{JobHeader}
use Rattle.flp_report.specs.declared.shape.Shape.{Shape}
use Rattle.flp_report.specs.declared.job_shape.JobShape.{JobShape}
use Rattle.flp_report.specs.Job.{record_shape, made_header}
use Rattle.flp_batch.specs.Setting.{IsShapeBehind}
use Rattle.flp_batch.specs.JobSetting.{IsJobShapeBehind}

-- a shape of these numbers
abbrev shape_with : (version shares proofs buckets meas joint query proof outs : ℕ) → shares ≤ 16 → proofs ≤ 16 → Shape
shape_with version shares proofs buckets meas joint query proof outs few_shares few_proofs =
    record { version = version; shares = shares; proofs = proofs; buckets = buckets; meas = meas; joint = joint; query = query; proof = proof; outs = outs; few_shares = few_shares; few_proofs = few_proofs }

-- it is one, whatever shows that the numbers are small
same-shares : (v n n' m u a b c d o : ℕ) (h : n ≤ 16) (h' : n' ≤ 16) (k : m ≤ 16) → n ≡ n' → shape_with v n m u a b c d o h k ≡ shape_with v n' m u a b c d o h' k
same-shares v n n' m u a b c d o h h' k e =
    let P : ℕ → Type 0 = λ x. (small : x ≤ 16) → shape_with v n m u a b c d o h k ≡ shape_with v x m u a b c d o small k in
    subst P e (λ small. ap (λ (z : n ≤ 16). shape_with v n m u a b c d o z k) (le_prop h small)) h'

same-proofs : (v n m m' u a b c d o : ℕ) (h : n ≤ 16) (k : m ≤ 16) (k' : m' ≤ 16) → m ≡ m' → shape_with v n m u a b c d o h k ≡ shape_with v n m' u a b c d o h k'
same-proofs v n m m' u a b c d o h k k' e =
    let P : ℕ → Type 0 = λ x. (small : x ≤ 16) → shape_with v n m u a b c d o h k ≡ shape_with v n x u a b c d o h small in
    subst P e (λ small. ap (λ (z : m ≤ 16). shape_with v n m u a b c d o h z) (le_prop k small)) k'

-- two shapes behind one header and one text are one
pub one_shape : (header : Header) (circuit other : Program) (s t : Shape) → circuit ≡ other → IsShapeBehind header circuit s → IsShapeBehind header other t → s ≡ t
one_shape header circuit other s t same p other_is =
    let q = subst (λ (c : Program). IsShapeBehind header c t) (sym same) other_is in
    let meas = p.meas ∙ sym q.meas in
    let joint = p.joint ∙ sym q.joint in
    let query = p.query ∙ sym q.query in
    let proof = p.proof ∙ sym q.proof in
    let version = p.version ∙ sym q.version in
    let buckets = p.buckets ∙ sym q.buckets in
    let outs = p.outs ∙ sym q.outs in
    same-shares s.version s.shares t.shares s.proofs s.buckets s.meas s.joint s.query s.proof s.outs s.few_shares t.few_shares s.few_proofs (p.shares ∙ sym q.shares)
    ∙ (same-proofs s.version t.shares s.proofs t.proofs s.buckets s.meas s.joint s.query s.proof s.outs t.few_shares s.few_proofs t.few_proofs (p.proofs ∙ sym q.proofs)
    ∙ (λ i. shape_with (version i) t.shares t.proofs (buckets i) (meas i) (joint i) (query i) (proof i) (outs i) t.few_shares t.few_proofs))

-- a shape of jobs, by that of their records
abbrev job_shape_with : Shape → (input prove : ℕ) → (checked written : Bool) → JobShape
job_shape_with s input prove checked written =
    record { shares = s.shares; proofs = s.proofs; input = input; meas = s.meas; joint = s.joint; prove = prove; query = s.query; proof = s.proof; checked = checked; written = written; few_shares = s.few_shares; few_proofs = s.few_proofs }

same-job_shape : (writes : Bool) (header : JobHeader) (params : Option Params) (circuit : Program) (s t : JobShape) → IsJobShapeBehind writes header params circuit s → IsJobShapeBehind writes header params circuit t → s ≡ t
same-job_shape writes header params circuit s t p q =
    let outs = (counted_lengths circuit).outs in
    let made = one_shape (made_header header) circuit circuit (record_shape s outs) (record_shape t outs) (λ i. circuit) p.of_record q.of_record in
    let input = p.input ∙ sym q.input in
    let prove = p.prove ∙ sym q.prove in
    let checked = p.checked ∙ sym q.checked in
    let written = p.written ∙ sym q.written in
    λ i. job_shape_with (made i) (input i) (prove i) (checked i) (written i)

-- so are two shapes of jobs
pub one_job_shape : (writes : Bool) (header : JobHeader) (params others : Option Params) (circuit other : Program) (s t : JobShape) → params ≡ others → circuit ≡ other
    → IsJobShapeBehind writes header params circuit s → IsJobShapeBehind writes header others other t → s ≡ t
one_job_shape writes header params others circuit other s t e f p q =
    let P : Option Params → Type 0 = λ o. IsJobShapeBehind writes header o other t in
    let Q : Program → Type 0 = λ c. IsJobShapeBehind writes header params c t in
    same-job_shape writes header params circuit s t p (subst Q (sym f) (subst P (sym e) q))
