use Rattle.std.proofs.Common.{◌≡◌, ◌+◌, ◌*◌, ◌++◌, ℕ, List, take, sym, ap, subst, ◌∙◌, arith}
use Rattle.std.specs.List.{All}
use Rattle.std.proofs.lemmas.List.{take_at}
use Rattle.std.proofs.Math.Nat.{mul-le-mul_right}
use Rattle.flp_report.specs.Shape.{bytes_of}
use Rattle.flp_report.specs.Fault.{IfBatch}
use Rattle.flp_report.specs.Pieces.{pieces}
use Rattle.flp_report.specs.Buckets.{HasBucket, IsSegmentFault}
use Rattle.flp_report.specs.Reader.{reports_read, size_of_file}
use Rattle.flp_report.proofs.PiecesLemmas.{pieces-take}
use Rattle.flp_report.proofs.BucketLemmas.{all-placed}
use Rattle.flp_report.proofs.ClaimsLemmas.{file_moves}
use Rattle.flp_report.proofs.batch.Reader+S+BatchParts.segment.Goals as goal

pub returns-clause-size : goal.returns-clause-size
returns-clause-size g c =
    let r = c.args.self.now in
    rw (c.from-2.ensures, c.bytes-record.ensures) (file_moves r.place r.parts.claims r.left c.args.count (bytes_of r.parts.shape) c.requires.left)

pub returns-clause-shaped : goal.returns-clause-shaped
returns-clause-shaped g c =
    let r = c.args.self.now in
    let same = file_moves r.place r.parts.claims r.left c.args.count (bytes_of r.parts.shape) c.requires.left in
    record {
      small_record = c.requires.shaped.small_record;
      few_claims = c.requires.shaped.few_claims;
      small_file = rw (c.from-2.ensures, c.bytes-record.ensures) (rw same c.requires.shaped.small_file);
    }

pub returns-clause-buckets : goal.returns-clause-buckets
returns-clause-buckets g c =
    let shape = c.args.self.now.parts.shape in
    let room = c.read_records.new.room in
    let own = bytes_of c.args.room.now.shape in
    let right : All (HasBucket shape) (pieces (bytes_of shape) c.args.count room) = all-placed shape _ _ c.in-Ok.ensures.buckets in
    let same : pieces (bytes_of shape) c.args.count room ≡ pieces own c.args.count (take (c.args.count * own) room) =
    ap (λ (n : ℕ). pieces n c.args.count room) (sym c.requires.shape) ∙ sym (pieces-take own c.args.count room) in
    let held : take c.args.room.now.bytes.len (room ++ _) ≡ room = take_at room _ c.args.room.now.bytes.len (omega (arith, c.args.room.now.bytes.ok, c.as_mut_slice.ensures.len, c.read_records.auto.room)) in
    subst (All (HasBucket shape)) (same ∙ ap (λ (l : List ℕ). pieces own c.args.count (take (c.args.count * own) l)) (sym held)) right

pub read_records-requires-clause-room : goal.read_records-requires-clause-room
read_records-requires-clause-room g c =
    let size = bytes_of c.args.self.now.parts.shape in
    let room = c.args.room.now in
    let more = mul-le-mul_right size c.requires.room in
    let same : room.room * bytes_of room.shape ≡ room.room * size = ap (λ (n : ℕ). room.room * n) c.requires.shape in
    omega (arith, more, same, room.sized, room.bytes.ok, c.as_mut_slice.ensures.len)

pub read_records-requires-clause-fits : goal.read_records-requires-clause-fits
read_records-requires-clause-fits g c =
    let more = mul-le-mul_right (bytes_of c.args.self.now.parts.shape) c.requires.left in
    omega (arith, more, c.requires.shaped.small_file)

pub returns-in-Err-clause-kind : goal.returns-in-Err-clause-kind
returns-in-Err-clause-kind g c =
    let r = c.args.self.now in
    let first : c.saturating_sub-first.result ≡ reports_read r = omega arith in
    let whole : r.place + c.from.result * c.bytes-record.result ≡ r.place + r.left * bytes_of r.parts.shape = λ i. r.place + c.from.ensures i * c.bytes-record.ensures i in
    let file : r.place + c.from.result * c.bytes-record.result ≡ size_of_file r = omega (arith, whole, c.requires.claims) in
    let P : ℕ → ℕ → Type 0 = λ n m. IfBatch c.in-Err.fault (IsSegmentFault r.parts.shape n r.place c.args.count m) in
    subst (λ (m : ℕ). P (reports_read r) m) file (subst (λ (n : ℕ). P n (r.place + c.from.result * c.bytes-record.result)) first c.in-Err.ensures.kind)
