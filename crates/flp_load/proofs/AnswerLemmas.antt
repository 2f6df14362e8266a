-- No text has two answers.
use Rattle.std.proofs.Common.{ℕ, ◌<◌, ◌≤◌, ◌≡◌, List, length, Option, None, Some, Result, Ok, Err, refl, sym, ap, ◌∙◌, inl, inr, arith}
use Rattle.std.specs.Prelude.{◌≢◌}
use Rattle.flp_syntax.specs.declared.syntax.Params.{Params}
use Rattle.flp_syntax.specs.declared.fault.LangFault.{LangFault}
use Rattle.flp_syntax.specs.declared.fault.LangFault.TheVariants as lang
use Rattle.flp_syntax.specs.Tree.{Text, Program, standard, program}
use Rattle.flp_syntax.specs.Tokens.{IsStuck}
use Rattle.flp_lang.specs.Verdict.{Verdict, good, bad, deep}
use Rattle.flp_lang.specs.Parsed.{HasVerdict, IsParsed, IsParseFault}
use Rattle.flp_lang.proofs.OneVerdict.{not_stuck, one_stuck, one_answer}
use Rattle.flp_circuits.specs.declared.fault.ParamFault.{ParamFault}
use Rattle.flp_circuits.specs.Sizes.{first_refusal, Fits}
use Rattle.flp_circuits.specs.Standard.{standard_program}
use Rattle.flp_circuits.proofs.Passing.{circuits_pass}
use Rattle.flp_circuits.proofs.Plans.{plans_are_small}
use Rattle.flp_circuits.specs.Laws.{circuit_totals}
use Rattle.flp_check.specs.Verdict.{verdict}
use Rattle.flp_plan.specs.declared.fault.PlanFault.{PlanFault}
use Rattle.flp_plan.specs.Counted.{limit_fault}
use Rattle.flp_plan.proofs.CompileLemmas.{no_fault}
use Rattle.flp_load.specs.declared.fault.CircuitFault.{CircuitFault}
use Rattle.flp_load.specs.declared.fault.CircuitFault.TheVariants.{Lang, Param, Plan}
use Rattle.flp_load.specs.Loaded.{IsRead, IsLoaded}
use Rattle.flp_load.specs.Fault.{IsRefused, IsPlanFault, IsCircuitFault}

-- ---- functions have one value

one_err : {A E : Type 0} (f : Program → Result A E) (c d : Program) (a b : E) → c ≡ d → f c ≡ Err a → f d ≡ Err b → a ≡ b
one_err f c d a b e p q =
    let r : f c ≡ f d = ap f e in
    cc

no_err : {A E : Type 0} (f : Program → Result A E) (c d : Program) (a : A) (b : E) → c ≡ d → f c ≡ Ok a → f d ≡ Err b → ⊥
no_err f c d a b e p q =
    let r : f c ≡ f d = ap f e in
    cc

one_some : {A B : Type 0} (f : A → Option B) (c d : A) (a b : B) → c ≡ d → f c ≡ Some a → f d ≡ Some b → a ≡ b
one_some f c d a b e p q =
    let r : f c ≡ f d = ap f e in
    cc

no_some : {A B : Type 0} (f : A → Option B) (c d : A) (b : B) → c ≡ d → f c ≡ None → f d ≡ Some b → ⊥
no_some f c d b e p q =
    let r : f c ≡ f d = ap f e in
    cc

-- ---- what a text is parsed to

pub same_text : (text : List ℕ) (a b : Text) → IsParsed text a → IsParsed text b → a ≡ b
same_text text a b p q =
    let e : good a ≡ good b = one_answer text (good a) (good b) p q in
    cc

-- a text that is read is parsed
pub read_parsed : (text : List ℕ) (params : Option Params) (circuit : Program) → IsRead text params circuit → (source : Text) × IsParsed text source
read_parsed text (Some params) circuit read = (standard params, read.0)
read_parsed text None circuit read = (program circuit, read)

-- a text is read as one circuit
pub one_read :
    (text : List ℕ) (params others : Option Params) (circuit other : Program) → IsRead text params circuit → IsRead text others other
    → (params ≡ others) × (circuit ≡ other)
one_read text (Some a) (Some b) c d (p, _, is) (q, _, same) =
    let e : standard a ≡ standard b = same_text text (standard a) (standard b) p q in
    let s : a ≡ b = cc in
    (ap Some s, is ∙ ap standard_program s ∙ sym same)
one_read text (Some a) None c d (p, _, is) q =
    let e : standard a ≡ program d = same_text text (standard a) (program d) p q in
    cc
one_read text None (Some b) c d p (q, _, same) =
    let e : program c ≡ standard b = same_text text (program c) (standard b) p q in
    cc
one_read text None None c d p q =
    let e : program c ≡ program d = same_text text (program c) (program d) p q in
    let s : c ≡ d = cc in
    (refl, s)

-- parameters that are refused are not read
pub read_not_refused : (text : List ℕ) (params : Option Params) (circuit : Program) (fault : ParamFault) → IsRead text params circuit → IsRefused text fault → ⊥
read_not_refused text (Some a) c fault (p, fits, _) (b, q, is) =
    let e : standard a ≡ standard b = same_text text (standard a) (standard b) p q in
    let s : a ≡ b = cc in
    no_some first_refusal a b fault s fits is
read_not_refused text None c fault p (b, q, _) =
    let e : program c ≡ standard b = same_text text (program c) (standard b) p q in
    cc

-- ---- the fault of a text that is not parsed

-- the fault of a verdict; that of a text that is good is nowhere asked for
abbrev fault_at : Verdict → LangFault
fault_at (good text) = lang.Memory
fault_at (bad k) = lang.Syntax k
fault_at (deep k) = lang.Depth k

-- a text is too long, or stuck at a byte, or judged by its tokens
data Reading (text : List ℕ) (fault : LangFault) : Type 0 where
  long : 65536 < length text → fault ≡ lang.TextLength (length text) → Reading text fault
  stuck : (at : ℕ) → length text ≤ 65536 → IsStuck text at → fault ≡ lang.Lex at → Reading text fault
  judged : (v : Verdict) → HasVerdict text v → fault ≡ fault_at v → Reading text fault

reading : (text : List ℕ) (fault : LangFault) → fault ≢ lang.Memory → IsParseFault text fault → Reading text fault
reading text lang.Memory other is = absurd (other refl)
reading text (lang.TextLength size) other (more, is) = long more (ap lang.TextLength is)
reading text (lang.Lex at) other (few, is) = stuck at few is refl
reading text (lang.Syntax k) other is = judged (bad k) is refl
reading text (lang.Depth k) other is = judged (deep k) is refl
reading text (lang.Name k) other is = absurd is
reading text (lang.Twice k) other is = absurd is
reading text (lang.NotLinear k) other is = absurd is
reading text (lang.Index k) other is = absurd is
reading text (lang.Arity k) other is = absurd is
reading text (lang.Uncalled k) other is = absurd is
reading text (lang.Limit which value) other is = absurd is

verdict_short : (text : List ℕ) (v : Verdict) → HasVerdict text v → length text ≤ 65536
verdict_short text v (tokens, (few, _), _) = few

verdict_free : (text : List ℕ) (v : Verdict) (at : ℕ) → HasVerdict text v → IsStuck text at → ⊥
verdict_free text v at (tokens, (_, are), _) is = not_stuck text tokens at are is

one_reading : (text : List ℕ) (a b : LangFault) → Reading text a → Reading text b → a ≡ b
one_reading text a b (long more e) (long _ f) = e ∙ sym f
one_reading text a b (long more e) (stuck at few _ f) = absurd (omega arith)
one_reading text a b (long more e) (judged v has f) = absurd (omega (arith, verdict_short text v has))
one_reading text a b (stuck at few is e) (long more f) = absurd (omega arith)
one_reading text a b (stuck at few is e) (stuck place _ there f) = e ∙ ap lang.Lex (one_stuck text at place is there) ∙ sym f
one_reading text a b (stuck at few is e) (judged v has f) = absurd (verdict_free text v at has is)
one_reading text a b (judged v has e) (long more f) = absurd (omega (arith, verdict_short text v has))
one_reading text a b (judged v has e) (stuck at few is f) = absurd (verdict_free text v at has is)
one_reading text a b (judged v has e) (judged w have f) = e ∙ ap fault_at (one_answer text v w has have) ∙ sym f

-- a text that is parsed has no such fault
pub parsed_free : (text : List ℕ) (source : Text) (fault : LangFault) → IsParsed text source → fault ≢ lang.Memory → IsParseFault text fault → ⊥
parsed_free text source fault is other faulty =
    other (one_reading text fault lang.Memory (reading text fault other faulty) (judged (good source) is refl))

read_free : (text : List ℕ) (params : Option Params) (circuit : Program) (fault : LangFault) → IsRead text params circuit → fault ≢ lang.Memory → IsParseFault text fault → ⊥
read_free text params circuit fault read other faulty =
    let parsed = read_parsed text params circuit read in
    parsed_free text parsed.0 fault parsed.1 other faulty

-- ---- the laws

pub one_circuit :
    (text : List ℕ) (params others : Option Params) (circuit other : Program) → IsLoaded text params circuit → IsLoaded text others other
    → (params ≡ others) × (circuit ≡ other)
one_circuit text params others circuit other p q = one_read text params others circuit other p.read q.read

lang_faults : (text : List ℕ) (a b : LangFault) → IsCircuitFault text (Lang a) → IsCircuitFault text (Lang b) → a ≡ b
lang_faults text a b (m, inl p) (n, inl q) = one_reading text a b (reading text a m p) (reading text b n q)
lang_faults text a b (m, inl p) (n, inr (params, circuit, read, _)) = absurd (read_free text params circuit a read m p)
lang_faults text a b (m, inr (params, circuit, read, _)) (n, inl q) = absurd (read_free text params circuit b read n q)
lang_faults text a b (m, inr (params, c, read, p)) (n, inr (others, d, again, q)) =
    one_err verdict c d a b (one_read text params others c d read again).1 p q

lang_not_param : (text : List ℕ) (a : LangFault) (b : ParamFault) → IsCircuitFault text (Lang a) → IsCircuitFault text (Param b) → ⊥
lang_not_param text a b (m, inl p) (_, (params, q, _)) = parsed_free text (standard params) a q m p
lang_not_param text a b (m, inr (params, c, read, _)) (_, q) = read_not_refused text params c b read q

lang_not_plan : (text : List ℕ) (a : LangFault) (b : PlanFault) → IsCircuitFault text (Lang a) → IsCircuitFault text (Plan b) → ⊥
lang_not_plan text a b (m, inl p) (_, (params, c, read, _, _)) = read_free text params c a read m p
lang_not_plan text a b (m, inr (params, c, read, p)) (_, (others, d, again, (totals, q), _)) =
    no_err verdict d c totals a (one_read text others params d c again read).1 q p

param_not_plan : (text : List ℕ) (a : ParamFault) (b : PlanFault) → IsCircuitFault text (Param a) → IsCircuitFault text (Plan b) → ⊥
param_not_plan text a b (_, p) (_, (params, c, read, _, _)) = read_not_refused text params c a read p

param_faults : (text : List ℕ) (a b : ParamFault) → IsRefused text a → IsRefused text b → a ≡ b
param_faults text a b (params, p, is) (others, q, same) =
    let e : standard params ≡ standard others = same_text text (standard params) (standard others) p q in
    let s : params ≡ others = cc in
    one_some first_refusal params others a b s is same

plan_faults : (text : List ℕ) (a b : PlanFault) → IsPlanFault text a → IsPlanFault text b → a ≡ b
plan_faults text a b (params, c, read, _, is) (others, d, again, _, same) =
    one_some limit_fault c d a b (one_read text params others c d read again).1 is same

pub one_fault : (text : List ℕ) (fault other : CircuitFault) → IsCircuitFault text fault → IsCircuitFault text other → fault ≡ other
one_fault text (Lang a) (Lang b) p q = ap Lang (lang_faults text a b p q)
one_fault text (Lang a) (Param b) p q = absurd (lang_not_param text a b p q)
one_fault text (Lang a) (Plan b) p q = absurd (lang_not_plan text a b p q)
one_fault text (Param a) (Lang b) p q = absurd (lang_not_param text b a q p)
one_fault text (Param a) (Param b) p q = ap Param (param_faults text a b p.1 q.1)
one_fault text (Param a) (Plan b) p q = absurd (param_not_plan text a b p q)
one_fault text (Plan a) (Lang b) p q = absurd (lang_not_plan text b a q p)
one_fault text (Plan a) (Param b) p q = absurd (param_not_plan text b a q p)
one_fault text (Plan a) (Plan b) p q = ap Plan (plan_faults text a b p.1 q.1)

pub never_both : (text : List ℕ) (params : Option Params) (circuit : Program) (fault : CircuitFault) → IsLoaded text params circuit → IsCircuitFault text fault → ⊥
never_both text params c (Lang a) p (m, inl q) = read_free text params c a p.read m q
never_both text params c (Lang a) p (m, inr (others, d, again, q)) =
    no_err verdict c d p.checked.0 a (one_read text params others c d p.read again).1 p.checked.1 q
never_both text params c (Param a) p (_, q) = read_not_refused text params c a p.read q
never_both text params c (Plan a) p (_, (others, d, again, _, q)) =
    no_some limit_fault c d a (one_read text params others c d p.read again).1 p.small q

pub fitting_is_loaded : (text : List ℕ) (params : Params) → IsParsed text (standard params) → Fits params → IsLoaded text (Some params) (standard_program params)
fitting_is_loaded text params is fits =
    let sizes = plans_are_small params fits in
    record {
      read = (is, fits, refl);
      checked = (circuit_totals params, circuits_pass params fits);
      small = no_fault (standard_program params) (record { wires = sizes.0; terms = sizes.1 });
    }
