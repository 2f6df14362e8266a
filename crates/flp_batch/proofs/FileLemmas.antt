-- From what the reader's calls gave to what all bytes of a file say.
use Rattle.std.proofs.Common.{◌≡◌, ℕ, ◌+◌, ◌*◌, List, [], ◌++◌, length, Option, Some, None, inr, refl, sym, ap, subst, ◌∙◌, arith, append_assoc, append-nil, length-append}
use Rattle.flp_syntax.specs.declared.syntax.Params.{Params}
use Rattle.flp_syntax.specs.Tree.{Program}
use Rattle.flp_load.specs.declared.fault.CircuitFault.{CircuitFault}
use Rattle.flp_load.specs.Loaded.{IsLoaded}
use Rattle.flp_load.specs.Fault.{IsCircuitFault}
use Rattle.flp_report.specs.declared.fault.BatchFault.{BatchFault}
use Rattle.flp_report.specs.declared.header.Header.{Header}
use Rattle.flp_report.specs.declared.shape.Shape.{Shape}
use Rattle.flp_report.specs.Shape.{bytes_of}
use Rattle.flp_report.specs.Head.{number_at}
use Rattle.flp_report.specs.Pieces.{pieces}
use Rattle.flp_report.specs.Batch.{batch_head_fault, header_of, claims_of, large_fault, claims_fault, records_fault, file_size, IsHead, IsFront}
use Rattle.flp_report.proofs.BatchHeadLemmas.{says, head_fault-more, header_of-more, length-head}
use Rattle.flp_report.proofs.LawLemmas.{fault_of-shape, fault_of-claims, fault_of-records}
use Rattle.flp_report.proofs.BackLemmas.{claims_of-more}
use Rattle.flp_batch.specs.declared.fault.EngineFault.TheVariants.{Batch, Circuit}
use Rattle.flp_batch.specs.declared.front.Opened.{Opened}
use Rattle.flp_batch.specs.Setting.{IsShapeBehind}
use Rattle.flp_batch.specs.Format.{batches, newest_read}
use Rattle.flp_batch.specs.File.{HasSetting, IsFault}
use Rattle.flp_batch.specs.Front.{claims_start}
use Rattle.flp_batch.specs.Opened.{setting_of, records_start, Opens}

-- ---- behind a head

-- the setting of a file that begins with a head whose text is loaded
setting-head : (party : Option ℕ) (front rest : List ℕ) (header : Header) (params : Option Params) (circuit : Program) (shape : Shape)
    → IsHead newest_read party front header → IsLoaded header.text params circuit → IsShapeBehind header circuit shape
    → HasSetting (batches party) (front ++ rest) params (record { params = params; circuit = circuit; shape = shape; claims = claims_of (front ++ rest) })
setting-head party front rest header params circuit shape head text fits =
    let P : Header → Type 0 = λ h. IsLoaded h.text params circuit in
    let Q : Header → Type 0 = λ h. IsShapeBehind h circuit shape in
    let same = sym (header_of-more newest_read party front rest header head) in
    record { head = head_fault-more newest_read party front rest header head; text = subst P same text; fits = record { params_are = refl; shape = subst Q same fits; claims = refl } }

-- the text's fault is one of the file
pub fault-text : (party : Option ℕ) (front rest : List ℕ) (header : Header) (fault : CircuitFault)
    → IsHead newest_read party front header → IsCircuitFault header.text fault → IsFault (batches party) (front ++ rest) (Circuit fault)
fault-text party front rest header fault head text =
    let P : Header → Type 0 = λ h. IsCircuitFault h.text fault in
    record { head = head_fault-more newest_read party front rest header head; text = subst P (sym (header_of-more newest_read party front rest header head)) text }

-- a size above its limit
pub fault-shape : (party : Option ℕ) (front rest : List ℕ) (header : Header) (params : Option Params) (circuit : Program) (shape : Shape) (fault : BatchFault)
    → IsHead newest_read party front header → IsLoaded header.text params circuit → IsShapeBehind header circuit shape
    → large_fault shape header.claims ≡ Some fault
    → IsFault (batches party) (front ++ rest) (Batch fault)
fault-shape party front rest header params circuit shape fault head text fits is =
    inr (record {
      params = params;
      setting = record { params = params; circuit = circuit; shape = shape; claims = claims_of (front ++ rest) };
      has = setting-head party front rest header params circuit shape head text fits;
      is = fault_of-shape newest_read party shape front rest header fault head is;
    })

-- a fault among the old claims
pub fault-claims : (party : Option ℕ) (front rest : List ℕ) (header : Header) (params : Option Params) (circuit : Program) (shape : Shape) (fault : BatchFault)
    → IsHead newest_read party front header → IsLoaded header.text params circuit → IsShapeBehind header circuit shape
    → large_fault shape header.claims ≡ None → claims_fault (length front) header.claims rest ≡ Some fault
    → IsFault (batches party) (front ++ rest) (Batch fault)
fault-claims party front rest header params circuit shape fault head text fits small is =
    inr (record {
      params = params;
      setting = record { params = params; circuit = circuit; shape = shape; claims = claims_of (front ++ rest) };
      has = setting-head party front rest header params circuit shape head text fits;
      is = fault_of-claims newest_read party shape front rest header fault head small is;
    })

-- ---- behind what was opened

-- a file is its head, its old claims, and the rest
split : (party : Option ℕ) (shape : Shape) (front rest : List ℕ) (header : Header) (f : IsFront newest_read party shape front header) → front ++ rest ≡ f.head ++ (f.claims ++ rest)
split party shape front rest header f = ap (λ (b : List ℕ). b ++ rest) f.is ∙ append_assoc f.head f.claims rest

header-front : (party : Option ℕ) (shape : Shape) (front rest : List ℕ) (header : Header) → IsFront newest_read party shape front header → header_of (front ++ rest) ≡ header
header-front party shape front rest header f = ap header_of (split party shape front rest header f) ∙ header_of-more newest_read party f.head (f.claims ++ rest) header f.says

-- the old claims do not depend on what follows them
claims-front : (party : Option ℕ) (shape : Shape) (front rest : List ℕ) (header : Header) (f : IsFront newest_read party shape front header) → claims_of (front ++ rest) ≡ pieces 16 header.claims f.claims
claims-front party shape front rest header f =
    ap claims_of (split party shape front rest header f) ∙ claims_of-more newest_read party f.head f.claims rest header f.says f.size

pub claims-more : (party : Option ℕ) (shape : Shape) (front rest : List ℕ) (header : Header) → IsFront newest_read party shape front header → claims_of (front ++ rest) ≡ claims_of front
claims-more party shape front rest header f =
    let bare : claims_of front ≡ claims_of (front ++ []) = ap claims_of (sym (append-nil front)) in
    claims-front party shape front rest header f ∙ sym (bare ∙ claims-front party shape front [] header f)

-- where the records begin
pub length-front : (party : Option ℕ) (shape : Shape) (front : List ℕ) (header : Header) → IsFront newest_read party shape front header → length front ≡ claims_start header + 16 * header.claims
length-front party shape front header f =
    let whole = ap length f.is ∙ length-append f.head f.claims in
    omega (arith, whole, length-head newest_read party f.head header f.says, f.size)

-- the size that the head gives
pub size-front : (party : Option ℕ) (shape : Shape) (front rest : List ℕ) (header : Header) → IsFront newest_read party shape front header
    → file_size shape (front ++ rest) ≡ length front + header.reports * bytes_of shape
size-front party shape front rest header f =
    let bytes = f.head ++ (f.claims ++ rest) in
    let s = says newest_read party f.head (f.claims ++ rest) header f.says in
    let long : length f.head + 16 * header.claims ≡ length front = sym (ap length f.is ∙ (length-append f.head f.claims ∙ ap (λ (n : ℕ). length f.head + n) f.size)) in
    ap (file_size shape) (split party shape front rest header f)
    ∙ (ap (λ (n : ℕ). n + 16 * number_at 24 bytes + number_at 28 bytes * bytes_of shape) s.text
    ∙ (ap (λ (n : ℕ). length f.head + 16 * n + number_at 28 bytes * bytes_of shape) s.claims
    ∙ (ap (λ (n : ℕ). length f.head + 16 * header.claims + n * bytes_of shape) s.reports
    ∙ ap (λ (n : ℕ). n + header.reports * bytes_of shape) long)))

-- a file that begins with what was opened has its setting
pub behind : (party : Option ℕ) (left mid : Option (List ℕ)) (o : Opened) (opens : Opens party left mid o) (rest : List ℕ) → HasSetting (batches party) (opens.front ++ rest) o.loaded.params (setting_of o)
behind party left mid o opens rest =
    let f = opens.begins in
    let circuit = o.loaded.plan.circuit in
    let P : Header → Type 0 = λ h. IsLoaded h.text o.loaded.params circuit in
    let Q : Header → Type 0 = λ h. IsShapeBehind h circuit o.shape in
    let same = sym (header-front party o.shape opens.front rest o.header f) in
    record {
      head = ap (batch_head_fault newest_read party) (split party o.shape opens.front rest o.header f) ∙ head_fault-more newest_read party f.head (f.claims ++ rest) o.header f.says;
      text = subst P same opens.is.text;
      fits = record { params_are = refl; shape = subst Q same opens.is.shape; claims = claims-more party o.shape opens.front rest o.header f ∙ opens.claims };
    }

-- a fault of the records
pub fault-records : (party : Option ℕ) (left mid : Option (List ℕ)) (o : Opened) (opens : Opens party left mid o) (rest : List ℕ) (fault : BatchFault)
    → records_fault o.shape (records_start o) o.header.reports rest ≡ Some fault → IsFault (batches party) (opens.front ++ rest) (Batch fault)
fault-records party left mid o opens rest fault is =
    let start : length opens.front ≡ records_start o = length-front party o.shape opens.front o.header opens.begins in
    inr (record {
      params = o.loaded.params;
      setting = setting_of o;
      has = behind party left mid o opens rest;
      is = fault_of-records newest_read party o.shape opens.front rest o.header opens.begins
          ∙ (ap (λ (n : ℕ). records_fault o.shape n o.header.reports rest) start ∙ is);
    })
